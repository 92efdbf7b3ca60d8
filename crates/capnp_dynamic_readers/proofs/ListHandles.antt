-- A list's reader stands on what was answered.
use Rattle.std.proofs.Common.{◌≡◌, ap, ◌∙◌}
use Rattle.capnp_wire.specs.Standing.{list_levels, list_of}
use Rattle.capnp_wire.specs.declared.list_reader.ListReader.{ListReader}
use Rattle.capnp_base.specs.declared.introspect.«Type».{«Type» as TypeHandle}
use Rattle.capnp_schema.specs.Schema.{Schemas}
use Rattle.capnp_schema.specs.Types.{seen_type}
use Rattle.capnp_records.specs.Facts.ListValues.{below_of}
use Rattle.capnp_records.specs.Reading.{elements_value}
use Rattle.capnp_records.specs.Record.{Left}
use Rattle.capnp_dynamic_readers.specs.Handles.{element_of, list_reader_of, list_set, type_of}
use Rattle.capnp_dynamic_readers.specs.Seen.{list_seen}
use Rattle.capnp_dynamic_readers.specs.declared.dynamic_list.Reader.{Reader as ListHandle}

pub handle_seen : (l : ListHandle) (set : Schemas) (r : ListReader) (t : TypeHandle) → list_set l ≡ set → list_reader_of l ≡ r → type_of l ≡ t →
    list_seen l ≡ elements_value set (list_of r) (below_of set (list_of r)) (Left (list_levels r)) (seen_type t)
handle_seen l set r t same reader type =
    ap (λ (z : Schemas). elements_value z (list_of (list_reader_of l)) (below_of z (list_of (list_reader_of l))) (Left (list_levels (list_reader_of l))) (element_of l)) same
    ∙ (ap (λ (z : ListReader). elements_value set (list_of z) (below_of set (list_of z)) (Left (list_levels z)) (element_of l)) reader
    ∙ ap (λ (z : TypeHandle). elements_value set (list_of r) (below_of set (list_of r)) (Left (list_levels r)) (seen_type z)) type)
