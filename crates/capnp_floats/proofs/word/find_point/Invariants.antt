use Rattle.std.proofs.Common.{◌≡◌, ℕ, ◌<◌, get_or, false}
use Rattle.capnp_floats.specs.Words.{is_point}
use Rattle.capnp_floats.proofs.word.find_point.Given as goal

abbrev pub invariant-loop-index : goal.invariant-loop-index
invariant-loop-index l = (k : ℕ) → k < l.index → is_point (get_or l.word k 0) ≡ false
