-- The place behind a field, by its record.
use Rattle.std.proofs.Common.{◌∙◌, ap, arith, sym}
use Rattle.capnp_schema.specs.FieldLists.{index_of}
use Rattle.capnp_schema.specs.Schema.{is_member}
use Rattle.capnp_slots.specs.Fields.{field_brand, field_set}
use Rattle.capnp_slots.proofs.GroupWays.{behind_by}
use Rattle.capnp_slots.proofs.group.cleared_behind.Goals as goal

pub returns-then-is_member : goal.returns-then-is_member
returns-then-is_member c = sym (behind_by (field_set c.args.field) (field_brand c.args.field) (index_of c.args.field) _ (sym (ap is_member c.get_proto.ensures) ∙ (sym c.is_member.ensures ∙ c.if-is_member.true)))

pub returns-else-is_member : goal.returns-else-is_member
returns-else-is_member c =
    let place = behind_by (field_set c.args.field) (field_brand c.args.field) (index_of c.args.field) _ (sym (ap is_member c.get_proto.ensures) ∙ (sym c.is_member.ensures ∙ c.if-is_member.false)) in
    let index = c.get_index.ensures in
    omega (arith, place, index)
