use Rattle.std.proofs.Common.{◌≡◌, drop}
use Rattle.capnp_floats.specs.Words.{digits_among, digits_behind}
use Rattle.capnp_floats.proofs.digits.few_digits.Given as goal

abbrev pub invariant-loop-index : goal.invariant-loop-index
invariant-loop-index l = digits_behind l.number (drop l.index l.bytes) ≡ digits_among l.bytes
