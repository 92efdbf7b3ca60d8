use Rattle.std.proofs.Common.{ℕ, ◌≡◌, ◌<◌, ◌^◌, drop}
use Rattle.capnp_json_text.specs.Decimals.{natural_from}
use Rattle.capnp_from_json.specs.Steps.Digits.{IsCapped}
use Rattle.capnp_from_json.proofs.integers.exponent_of.Given as goal

abbrev pub invariant-loop-index : goal.invariant-loop-index
invariant-loop-index l = record {
  few : l.number < 2 ^ 110;
  value : (n : ℕ) × IsCapped (2 ^ 100) l.number n × (natural_from n (drop l.index l.digits) ≡ natural_from 0 l.digits);
}
