-- The field at a place, by its record.
use Rattle.std.proofs.Common.{◌-◌, ◌∙◌, ap, arith, subst, sym}
use Rattle.capnp_schema.specs.FieldLists.{IsFieldOf}
use Rattle.capnp_schema.specs.declared.schema.structs.StructSchema.{StructSchema}
use Rattle.capnp_schema.specs.Schema.{is_member}
use Rattle.capnp_slots.proofs.GroupWays.{at_first, at_member, at_plain}
use Rattle.capnp_slots.proofs.group.cleared_at.Goals as goal

pub returns-then-next-eq0 : goal.returns-then-next-eq0
returns-then-next-eq0 c = at_first c.args.schema c.args.next c.in-Ok.member c.if-next-eq0.true c.in-Ok.ensures

pub overflow_cast-next : goal.overflow_cast-next
overflow_cast-next c = let small = c.requires.small in omega arith

pub returns-then-is_member : goal.returns-then-is_member
returns-then-is_member c = at_member c.args.schema c.args.next c.get-field.result c.if-next-eq0.false (subst (λ (z : StructSchema). IsFieldOf z (c.args.next - 1) c.get-field.result) c.in-Ok-get_fields.ensures c.get-field.ensures) (sym (ap is_member c.get_proto.ensures) ∙ (sym c.is_member.ensures ∙ c.if-is_member.true))

pub returns-else-is_member : goal.returns-else-is_member
returns-else-is_member c = at_plain c.args.schema c.args.next c.get-field.result c.if-next-eq0.false (subst (λ (z : StructSchema). IsFieldOf z (c.args.next - 1) c.get-field.result) c.in-Ok-get_fields.ensures c.get-field.ensures) (sym (ap is_member c.get_proto.ensures) ∙ (sym c.is_member.ensures ∙ c.if-is_member.false))
