use Rattle.std.proofs.Common.{ap, arith, map}
use Rattle.capnp_dynamic_readers.specs.Shown.{set_seen}
use Rattle.capnp_check.specs.Faults.{part_told, shown_within}
use Rattle.capnp_check.specs.Places.{root_parts}
use Rattle.capnp_check.proofs.FramesLeft.{open_none, visit_done}
use Rattle.capnp_check.proofs.VisitSteps.{below_limit, nil_from_length, one_shown, open_first, open_next, open_own, open_past, open_popped, visit_begun, visit_in, visit_out, visit_short}
use Rattle.capnp_check.proofs.place.find_refusals.Goals as goal

pub loop-frame-init : goal.loop-frame-init
loop-frame-init c = record {
  visit = visit_begun c.args.value c.open_root-root.result c.new-frames.result.items c.push.new.self.items (map part_told c.new-places.result.items) (map part_told c.tell_refused.new.places.items)
      c.open_root-root.ensures.parts c.new-frames.ensures.items (ap (map part_told) c.new-places.ensures.items)
      (c.in_ok-tell_refused.ensures.told (set_seen c.args.value) (open_none (set_seen c.args.value) c.new-frames.result.items c.new-frames.ensures.items)) c.in_ok-push.ensures.items;
  of_set = open_first (set_seen c.args.value) c.new-frames.result.items c.push.new.self.items c.open_root-root.result c.new-frames.ensures.items c.in_ok-push.ensures.items c.open_root-root.ensures.set;
  small = omega (arith, c.if-limit-eq0.false);
}

-- past the last part of the innermost value
pub loop-frame-preserved : goal.loop-frame-preserved
loop-frame-preserved c =
    let own = open_own (set_seen c.args.value) c.loop-frame.frames.items c.pop.new.self.items c.in-Some.frame c.in-Some.ensures.items c.loop-frame.invariant.of_set in
    record {
      visit = λ n le.
          visit_out (set_seen c.args.value) n c.loop-frame.visited (shown_within n c.args.value) (map part_told c.loop-frame.places.items) c.loop-frame.frames.items c.pop.new.self.items c.in-Some.frame c.in-Some.ensures.items
          (c.loop-frame.invariant.visit n le) (c.in_default-find_next_part.ensures (set_seen c.args.value) own);
      of_set = open_popped (set_seen c.args.value) c.loop-frame.frames.items c.pop.new.self.items c.in-Some.frame c.in-Some.ensures.items c.loop-frame.invariant.of_set;
      small = c.loop-frame.invariant.small;
    }

-- the next part
pub loop-frame-preserved-in-Continue-branch-5 : goal.loop-frame-preserved-in-Continue-branch-5
loop-frame-preserved-in-Continue-branch-5 c =
    let own = open_own (set_seen c.args.value) c.loop-frame.frames.items c.pop.new.self.items c.in-Some.frame c.in-Some.ensures.items c.loop-frame.invariant.of_set in
    let next = c.in-Some-find_next_part.ensures (set_seen c.args.value) own in
    record {
      visit = λ n le.
          visit_in (set_seen c.args.value) n c.loop-frame.visited (shown_within n c.args.value) (map part_told c.loop-frame.places.items) c.loop-frame.frames.items c.pop.new.self.items c.in-Some.frame c.in-Some.ensures.items
          (c.loop-frame.invariant.visit n le) c.in-Some-find_next_part.step c.in-Some-find_next_part.part c.push-in-Some-find_next_part.new.self.items c.push-in-Some-find_next_part-2.new.self.items (map part_told c.tell_refused-in-Some-find_next_part.new.places.items) next c.in_ok-push-2.ensures.items
          c.in_ok-push-3.ensures.items
          (c.in_ok-tell_refused-2.ensures.told (set_seen c.args.value)
          (open_past (set_seen c.args.value) c.loop-frame.frames.items c.pop.new.self.items c.in-Some.frame c.in-Some.ensures.items c.loop-frame.invariant.of_set c.in-Some-find_next_part.step c.push-in-Some-find_next_part.new.self.items c.in_ok-push-2.ensures.items));
      of_set =
          open_next (set_seen c.args.value) c.loop-frame.frames.items c.pop.new.self.items c.in-Some.frame c.in-Some.ensures.items c.loop-frame.invariant.of_set c.in-Some-find_next_part.step c.in-Some-find_next_part.part c.push-in-Some-find_next_part.new.self.items
          c.push-in-Some-find_next_part-2.new.self.items c.in_ok-push-2.ensures.items c.in_ok-push-3.ensures.items next.of_set;
      small = (let lt = below_limit c.loop-frame.visited c.args.limit c.loop-frame.invariant.small c.if-visited-limit.false in omega (arith, lt));
    }

-- one part more than the limit
pub returns-then-visited-limit-clause-too_large : goal.returns-then-visited-limit-clause-too_large
returns-then-visited-limit-clause-too_large c = λ is n le.
    let own = open_own (set_seen c.args.value) c.loop-frame.frames.items c.pop.new.self.items c.in-Some.frame c.in-Some.ensures.items c.loop-frame.invariant.of_set in
    let next = c.in-Some-find_next_part.ensures (set_seen c.args.value) own in
    let more = visit_short (set_seen c.args.value) n c.loop-frame.visited (shown_within n c.args.value) (map part_told c.loop-frame.places.items) c.loop-frame.frames.items c.pop.new.self.items c.in-Some.frame c.in-Some.ensures.items
    (c.loop-frame.invariant.visit n le) c.in-Some-find_next_part.step c.in-Some-find_next_part.part next in
    omega (arith, more, c.if-visited-limit.true)

pub returns-then-limit-eq0-clause-too_large : goal.returns-then-limit-eq0-clause-too_large
returns-then-limit-eq0-clause-too_large c = λ is n le. (let one = one_shown (set_seen c.args.value) n (root_parts c.args.value) in omega (arith, one, c.if-limit-eq0.true))

-- all were visited
pub returns-clause-places : goal.returns-clause-places
returns-clause-places c = λ n le.
    let size = c.loop-frame.frames.ok.0 in
    let none = c.in_default.ensures.cases.0 in
    (visit_done (set_seen c.args.value) n c.loop-frame.visited (shown_within n c.args.value) (map part_told c.loop-frame.places.items) c.loop-frame.frames.items (nil_from_length c.loop-frame.frames.items (omega (arith, size, none))) (c.loop-frame.invariant.visit n le)).0

pub returns-clause-within : goal.returns-clause-within
returns-clause-within c = λ n le.
    let size = c.loop-frame.frames.ok.0 in
    let none = c.in_default.ensures.cases.0 in
    let all = (visit_done (set_seen c.args.value) n c.loop-frame.visited (shown_within n c.args.value) (map part_told c.loop-frame.places.items) c.loop-frame.frames.items (nil_from_length c.loop-frame.frames.items (omega (arith, size, none))) (c.loop-frame.invariant.visit n le)).1 in
    omega (arith, all, c.loop-frame.invariant.small)
