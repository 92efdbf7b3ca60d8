-- The marks set are those of the members passed.
-- A member with a free mark sets it, other fields set none; without a free mark the values aren't each of one member.
use Rattle.std.proofs.Common.{sym, refl, ◌∙◌, map, arith}
use Rattle.capnp_schema.specs.Schema.{seen_field}
use Rattle.capnp_schema.proofs.Members.{field_seen, not_free, passed, marked}
use Rattle.capnp_schema.proofs.check.unions.mark_members.Goals as goal
use Rattle.capnp_schema.proofs.check.unions.mark_members.Goals.{else-is_member-via-then-is_member+else-not-mark, else-is_member-via-else-is_member}

pub returns-then-not-mark-clause-not_so : goal.returns-then-not-mark-clause-not_so
returns-then-not-mark-clause-not_so c = λ _ n same counted each. not_free (map seen_field c.args.fields.now) c.loop-field.marks c.loop-field.field-index (seen_field c.field-item.result)
    (field_seen c.args.fields.now c.loop-field.field-index c.field-item.result (omega arith) c.field-item.is) c.loop-field.invariant.so_far (sym c.if-is_member.ensures) (c.if-not-mark.ensures.taken refl) n same (counted ∙ sym c.loop-field.invariant.counted) each

pub loop-field-preserved : goal.loop-field-preserved
loop-field-preserved c = elim c.else-is_member.branch [
  | else-is_member-via-then-is_member+else-not-mark w ↦ record {
    counted = omega arith;
    so_far = marked (map seen_field c.args.fields.now) c.loop-field.marks c.loop-field.field-index (seen_field c.field-item.result)
        (field_seen c.args.fields.now c.loop-field.field-index c.field-item.result (omega arith) c.field-item.is) c.loop-field.invariant.so_far c.else-is_member.marks
        (sym w.if-is_member.ensures) (w.if-not-mark.ensures.free refl).0 (w.if-not-mark.ensures.free refl).1 (w.marks-is ∙ (w.if-not-mark.ensures.free refl).2);
  }
  | else-is_member-via-else-is_member w ↦ record {
    counted = omega arith;
    so_far = rw w.marks-is (passed (map seen_field c.args.fields.now) c.loop-field.marks c.loop-field.field-index (seen_field c.field-item.result)
        (field_seen c.args.fields.now c.loop-field.field-index c.field-item.result (omega arith) c.field-item.is) c.loop-field.invariant.so_far (sym w.if-is_member.ensures));
  }
]
