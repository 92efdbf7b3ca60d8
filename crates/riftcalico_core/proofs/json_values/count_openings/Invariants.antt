-- How many of the bytes so far are brackets, and of the rest.
use Rattle.std.proofs.Common.{◌≡◌, ◌+◌, ◌≤◌, drop}
use Rattle.riftcalico_core.specs.JsonValues.{openings}
use Rattle.riftcalico_core.proofs.json_values.count_openings.Given as goal

abbrev pub invariant-loop-byte : goal.invariant-loop-byte
invariant-loop-byte l = (l.count + openings (drop l.byte-index l.text) ≡ openings l.text) × (l.count ≤ l.byte-index)
