use Rattle.std.proofs.Common.{ℕ, ◌+◌, ◌-◌, ◌*◌, ◌≤◌, length}
use Rattle.capnp_dynamic_readers.specs.Shown.{set_seen}
use Rattle.capnp_check.specs.Faults.{most_steps, shown_within}
use Rattle.capnp_check.specs.Steps.Frames.{AreOpenIn}
use Rattle.capnp_check.proofs.FramesLeft.{IsCounted}
use Rattle.capnp_check.proofs.place.count_parts.Given as goal

abbrev pub invariant-loop-frame : goal.invariant-loop-frame
invariant-loop-frame l = record {
  counted : (n : ℕ) → most_steps (set_seen l.fn.value) ≤ n → IsCounted (set_seen l.fn.value) n (shown_within n l.fn.value) l.count l.frames.items;
  of_set : AreOpenIn (set_seen l.fn.value) l.frames.items;
  small : l.count ≤ l.fn.limit;
}

abbrev pub decreases-loop-frame : goal.decreases-loop-frame
decreases-loop-frame l = 2 * (l.fn.limit - l.count) + length l.frames.items
