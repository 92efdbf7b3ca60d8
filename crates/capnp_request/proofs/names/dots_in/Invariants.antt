-- The dots so far, and those that are left.
use Rattle.std.proofs.Common.{◌≡◌, ◌+◌, ◌≤◌, drop}
use Rattle.capnp_request.specs.Names.{occurrences_of}
use Rattle.capnp_request.proofs.names.dots_in.Given as goal

abbrev pub invariant-loop-byte : goal.invariant-loop-byte
invariant-loop-byte l = (l.dots ≤ l.byte-index) × (l.dots + occurrences_of 46 (drop l.byte-index l.name) ≡ occurrences_of 46 l.name)
