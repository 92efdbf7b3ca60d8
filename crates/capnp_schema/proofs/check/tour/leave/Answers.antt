-- A level past all its fields is done, and marked so where its brand has a mark.
-- The tour stands at the level below, or rests where none is.
use Rattle.std.proofs.Common.{arith, rules}
use Rattle.std.proofs.lemmas.Bool.Decides.{nat_tests}
use Rattle.capnp_schema.specs.Entries.{lists_seen}
use Rattle.capnp_schema.proofs.Checking.TourGroups.{left_done, is_left, left_to_rest, left_to_level}
use Rattle.capnp_schema.proofs.check.tour.leave.Goals as goal
use Rattle.capnp_schema.proofs.check.tour.leave.Goals.{then-top-len, else-top-len}

pub returns-else-level : goal.returns-else-level
returns-else-level c = left_to_level (lists_seen c.args.lists.now) c.args.tour.now c.args.top c.requires.stands c.requires.past c.if-top-len.tour c.pop.new.self c.in-Some.level c.advanced.result _ (elim c.if-top-len.branch [
  | then-top-len w ↦ is_left (lists_seen c.args.lists.now) c.args.tour.now c.args.top c.requires.stands c.requires.past _ _ w.tour-is (left_done (lists_seen c.args.lists.now) c.args.tour.now c.args.top c.requires.stands c.requires.past)
  | else-top-len w ↦ is_left (lists_seen c.args.lists.now) c.args.tour.now c.args.top c.requires.stands c.requires.past _ _ w.tour-is c.requires.stands.done
]) (search rules) (λ e. let n = c.field_count.ensures in grind (arith, nat_tests)) (λ e. let n = c.field_count.ensures in grind (arith, nat_tests)) c.advanced.ensures

pub returns-in-None : goal.returns-in-None
returns-in-None c = left_to_rest (lists_seen c.args.lists.now) c.args.tour.now c.args.top c.requires.stands c.requires.past c.if-top-len.tour c.pop.new.self (elim c.if-top-len.branch [
  | then-top-len w ↦ is_left (lists_seen c.args.lists.now) c.args.tour.now c.args.top c.requires.stands c.requires.past _ _ w.tour-is (left_done (lists_seen c.args.lists.now) c.args.tour.now c.args.top c.requires.stands c.requires.past)
  | else-top-len w ↦ is_left (lists_seen c.args.lists.now) c.args.tour.now c.args.top c.requires.stands c.requires.past _ _ w.tour-is c.requires.stands.done
]) (search rules) (let n = c.in-None.ensures.cases.1 in omega arith)
