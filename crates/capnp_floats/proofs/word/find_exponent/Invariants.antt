use Rattle.std.proofs.Common.{◌≡◌, ℕ, ◌<◌, get_or, false}
use Rattle.capnp_floats.specs.Words.{is_exponent_mark}
use Rattle.capnp_floats.proofs.word.find_exponent.Given as goal

abbrev pub invariant-loop-index : goal.invariant-loop-index
invariant-loop-index l = (k : ℕ) → k < l.index → is_exponent_mark (get_or l.word k 0) ≡ false
