use Rattle.std.proofs.Common.{◌≡◌, ◌*◌, ◌^◌}
use Rattle.capnp_floats.proofs.wide.Wide.raise.Given as goal

abbrev pub invariant-many : goal.invariant-many
invariant-many l = l.self * l.base ^ l.left ≡ l.fn.self * l.base ^ l.times

abbrev pub decreases-many : goal.decreases-many
decreases-many l = l.left

abbrev pub invariant-single : goal.invariant-single
invariant-single l = l.self * l.base ^ l.left ≡ l.fn.self * l.base ^ l.times

abbrev pub decreases-single : goal.decreases-single
decreases-single l = l.left
