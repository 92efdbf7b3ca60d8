-- A hidden field has nothing to refuse; a shown one, opened, is refused or not as its own check says.
use Rattle.std.proofs.Common.{sym, ◌∙◌}
use Rattle.capnp_schema.specs.FieldLists.{index_of}
use Rattle.capnp_schema.specs.StructHandles.{set_of}
use Rattle.capnp_dynamic_readers.specs.Handles.{schema_of}
use Rattle.capnp_check.proofs.PlacesFound.{field_said}
use Rattle.capnp_check.proofs.parts_below.find_in_field.Goals as goal

pub returns-in-Ok : goal.returns-in-Ok
returns-in-Ok c =
    field_said c.args.left c.args.reader (index_of c.args.field) c.open_field-value.result c.open_field-value.ensures.parts
    (c.in-Ok.ensures (set_of (schema_of c.args.reader)) c.open_field-value.ensures.of_set)

pub returns-in-Err : goal.returns-in-Err
returns-in-Err c = record {
  shown = sym c.is_field_shown.ensures ∙ c.if-not-is_field_shown.false;
  opened = c.open_field-value.ensures;
  kind = c.in-Err.field-0.kind;
  refused = sym (c.in-Err.ensures (set_of (schema_of c.args.reader)) c.open_field-value.ensures.of_set);
}
