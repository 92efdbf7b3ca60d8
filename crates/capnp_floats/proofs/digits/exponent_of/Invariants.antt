use Rattle.std.proofs.Common.{◌≡◌, ℕ, ◌<◌, ◌^◌, drop}
use Rattle.capnp_floats.specs.Words.{digits_among, digits_behind}
use Rattle.capnp_floats.specs.Steps.Digits.{IsCapped}
use Rattle.capnp_floats.proofs.digits.exponent_of.Given as goal

abbrev pub invariant-loop-index : goal.invariant-loop-index
invariant-loop-index l = record {
  few : l.number < 2 ^ 124;
  value : (n : ℕ) × IsCapped (2 ^ 120) l.number n × (digits_behind n (drop l.index l.bytes) ≡ digits_among l.bytes);
}
