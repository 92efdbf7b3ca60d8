-- Footprints meet where their spans do.
-- Both walks keep that the fields before are apart: by their spans, as the same field, or as a union's member.
use Rattle.std.proofs.Common.{◌≤◌, length, refl, arith}
use Rattle.capnp_schema.specs.Entries.{lists_seen}
use Rattle.capnp_schema.proofs.Checking.SpanTables.{apart_from_spans, meet_from_spans, more_apart, apart_from_all, more_fields_apart, apart_from_same, apart_from_member}
use Rattle.capnp_schema.proofs.check.footprints.meeting_field.Goals as goal
use Rattle.capnp_schema.proofs.check.footprints.meeting_field.Goals.{else-i-j-via-then-i-j+else-spans_meet, else-i-j-via-else-i-j, then-is_outside_union+else-loop-j-test, else-is_outside_union}

pub returns-then-spans_meet : goal.returns-then-spans_meet
returns-then-spans_meet c =
    meet_from_spans (lists_seen c.args.lists.now) c.args.brand c.args.spans.now c.loop-i.i c.loop-j.j _ _ _ _ c.requires.spans c.requires.within
    (record { within = c.loop-i-test.true; vector = c.index-spans-i.is; spans = c.deref.ensures.value })
    (record { within = c.loop-j-test.true; vector = c.index-spans-j.is; spans = c.deref-then-i-j.ensures.value })
    (c.if-is_outside_union.ensures.0 refl) c.if-i-j.true (c.if-spans_meet.ensures.yes refl)

pub loop-j-preserved : goal.loop-j-preserved
loop-j-preserved c = more_apart (lists_seen c.args.lists.now) c.args.brand c.loop-i.i c.loop-j.j c.loop-j.invariant (elim c.else-i-j.branch [
  | else-i-j-via-then-i-j+else-spans_meet w ↦ λ p ne.
      apart_from_spans (lists_seen c.args.lists.now) c.args.brand c.args.spans.now c.loop-i.i c.loop-j.j _ _ _ _ c.requires.spans
      (record { within = c.loop-i-test.true; vector = w.index-spans-i.is; spans = w.deref.ensures.value })
      (record { within = c.loop-j-test.true; vector = w.index-spans-j.is; spans = w.deref-then-i-j.ensures.value })
      (w.if-spans_meet.ensures.not_met refl) p
  | else-i-j-via-else-i-j w ↦ apart_from_same (lists_seen c.args.lists.now) c.args.brand c.loop-i.i c.loop-j.j w.if-i-j.false
])

pub loop-i-preserved : goal.loop-i-preserved
loop-i-preserved c = more_fields_apart (lists_seen c.args.lists.now) c.args.brand c.loop-i.i c.loop-i.invariant (elim c.if-is_outside_union.branch [
  | then-is_outside_union+else-loop-j-test w ↦ apart_from_all (lists_seen c.args.lists.now) c.args.brand c.args.spans.now c.loop-i.i w.loop-j.j c.requires.spans (let h : length c.args.spans.now ≤ w.loop-j.j = omega arith in h) w.loop-j.invariant
  | else-is_outside_union w ↦ apart_from_member (lists_seen c.args.lists.now) c.args.brand c.loop-i.i (λ non_union. let e = w.if-is_outside_union.ensures.1 non_union in cc)
])
