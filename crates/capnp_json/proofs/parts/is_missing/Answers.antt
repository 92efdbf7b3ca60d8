-- An element of a type without null is always there. Another one is missing where its pointer's tree is null.
use Rattle.std.proofs.Common.{ap, sym, ◌∙◌}
use Rattle.capnp_wire.specs.Reading.{element_pointer, is_null_tree}
use Rattle.capnp_wire.specs.Standing.{list_levels, list_of}
use Rattle.capnp_wire.specs.declared.list_reader.ListReader.{ListReader}
use Rattle.capnp_base.specs.declared.introspect.«Type».{«Type» as TypeHandle}
use Rattle.capnp_schema.specs.Types.{seen_type}
use Rattle.capnp_dynamic_readers.specs.Handles.{element_of, list_reader_of, list_set}
use Rattle.capnp_json.specs.Steps.Shown.{has_null}
use Rattle.capnp_json.proofs.Missing.{always_there, pointer_there}
use Rattle.capnp_json.proofs.parts.is_missing.Goals as goal

pub returns-then-not-has_null : goal.returns-then-not-has_null
returns-then-not-has_null c =
    always_there (list_set c.args.list) (list_of (list_reader_of c.args.list)) (list_levels (list_reader_of c.args.list)) c.args.index (element_of c.args.list)
    (sym (c.has_null.ensures ∙ ap (λ (t : TypeHandle). has_null (seen_type t)) c.element_type.ensures) ∙ c.if-not-has_null.true)

pub returns : goal.returns
returns c =
    pointer_there (list_set c.args.list) (list_of (list_reader_of c.args.list)) (list_levels (list_reader_of c.args.list)) c.args.index (element_of c.args.list)
    (sym (c.has_null.ensures ∙ ap (λ (t : TypeHandle). has_null (seen_type t)) c.element_type.ensures) ∙ c.if-not-has_null.false) c.is_null.result
    (c.is_null.ensures
    ∙ (ap is_null_tree c.get_pointer_element.ensures.tree
    ∙ ap (λ (r : ListReader). is_null_tree (element_pointer (list_of r) c.args.index (list_levels r))) c.get_elements.ensures))
