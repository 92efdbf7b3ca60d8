-- The digits so far stand behind those that are left.
use Rattle.std.proofs.Common.{◌++◌, ◌≡◌, ◌≤◌, drop, length}
use Rattle.std.specs.Fmt.{decimal}
use Rattle.capnp_json.proofs.numbers.write_digits.Given as goal

abbrev pub invariant-loop-left : goal.invariant-loop-left
invariant-loop-left l = (length (decimal l.left) ≤ l.at) × (l.at ≤ 20) × (decimal l.left ++ drop l.at l.buffer ≡ decimal l.number)

abbrev pub decreases-loop-left : goal.decreases-loop-left
decreases-loop-left l = l.left
