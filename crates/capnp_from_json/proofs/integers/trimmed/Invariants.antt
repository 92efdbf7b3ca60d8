use Rattle.std.proofs.Common.{ℕ, ◌≡◌, ◌≤◌, ◌*◌, ◌-◌, ◌^◌, length, take}
use Rattle.capnp_json_text.specs.Decimals.{natural_from}
use Rattle.capnp_from_json.proofs.integers.trimmed.Given as goal

abbrev pub invariant-loop-count : goal.invariant-loop-count
invariant-loop-count l = record {
  inside : l.count ≤ length l.digits;
  value : (n : ℕ) → natural_from n l.digits ≡ natural_from n (take l.count l.digits) * 10 ^ (length l.digits - l.count);
}

abbrev pub decreases-loop-count : goal.decreases-loop-count
decreases-loop-count l = l.count
