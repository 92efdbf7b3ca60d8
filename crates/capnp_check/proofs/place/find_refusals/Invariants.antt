use Rattle.std.proofs.Common.{ℕ, ◌+◌, ◌-◌, ◌*◌, ◌≤◌, length, map}
use Rattle.capnp_dynamic_readers.specs.Shown.{set_seen}
use Rattle.capnp_check.specs.Faults.{most_steps, part_told, shown_within}
use Rattle.capnp_check.specs.Steps.Frames.{AreOpenIn, IsVisit}
use Rattle.capnp_check.proofs.place.find_refusals.Given as goal

abbrev pub invariant-loop-frame : goal.invariant-loop-frame
invariant-loop-frame l = record {
  visit : (n : ℕ) → most_steps (set_seen l.fn.value) ≤ n → IsVisit (set_seen l.fn.value) n (shown_within n l.fn.value) l.visited (map part_told l.places.items) l.frames.items;
  of_set : AreOpenIn (set_seen l.fn.value) l.frames.items;
  small : l.visited ≤ l.fn.limit;
}

abbrev pub decreases-loop-frame : goal.decreases-loop-frame
decreases-loop-frame l = 2 * (l.fn.limit - l.visited) + length l.frames.items
