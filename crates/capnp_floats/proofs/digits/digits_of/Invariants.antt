use Rattle.std.proofs.Common.{◌≡◌, ℕ, ◌≤◌, drop}
use Rattle.capnp_floats.specs.Words.{digits_among, digits_behind}
use Rattle.capnp_floats.specs.Steps.Digits.{AreDigits, HoldsDigits}
use Rattle.capnp_floats.proofs.digits.digits_of.Given as goal

-- what is left is read behind the number so far as all would be
abbrev pub invariant-loop-index : goal.invariant-loop-index
invariant-loop-index l = record {
  fits : AreDigits l.digits;
  few : l.digits.cut ≤ l.index;
  holds : (n : ℕ) × HoldsDigits l.digits n × (digits_behind n (drop l.index l.bytes) ≡ digits_among l.bytes);
}
