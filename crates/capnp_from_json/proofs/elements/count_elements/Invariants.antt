use Rattle.std.proofs.Common.{ℕ, ◌≡◌, ◌+◌, ◌-◌, ◌≤◌, List, length, Some, suc}
use Rattle.capnp_json_text.specs.Values.{Json, elements_within}
use Rattle.capnp_from_json.specs.Records.{element_count}
use Rattle.capnp_from_json.proofs.elements.count_elements.Given as goal

abbrev pub invariant-elements : goal.invariant-elements
invariant-elements l = record {
  few : l.count ≤ length l.bytes;
  left : (json : List ℕ → Json) → l.count + element_count (elements_within json (suc (length l.bytes - l.count)) (Some l.rest)) ≡ element_count (elements_within json (suc (length l.bytes)) (Some l.bytes));
}

abbrev pub decreases-elements : goal.decreases-elements
decreases-elements l = length l.bytes - l.count
