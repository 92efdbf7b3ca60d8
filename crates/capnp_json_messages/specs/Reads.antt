-- What a read leaves of a struct.
use Rattle.capnp_wire.specs.Tree.{StructTree}
use Rattle.capnp_schema.specs.FieldLists.{index_of, typed_of}
use Rattle.capnp_schema.specs.declared.schema.fields.Field.{Field}
use Rattle.capnp_records.specs.Part.{with_part}
use Rattle.capnp_records.specs.Reading.{reads}
use Rattle.capnp_records.specs.Record.{Value}
use Rattle.capnp_records.specs.Writes.Overlay.{Turns}
use Rattle.capnp_slots.specs.Fields.{field_brand, field_set}

-- a field has a value then, and else nothing is other than before
abbrev pub PutsInto : Field → StructTree → StructTree → Value → Type 0
PutsInto f s s' v = Turns (field_set f) (field_brand f) s s' (with_part (reads (field_set f) s (field_brand f)) (typed_of f).field (index_of f) v)
