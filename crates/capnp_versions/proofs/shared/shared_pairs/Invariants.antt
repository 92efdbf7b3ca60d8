-- The pairs of the brands so far.
use Rattle.std.proofs.Common.{◌≡◌, All}
use Rattle.capnp_schema.specs.Entries.{lists_seen}
use Rattle.capnp_differences.specs.Differences.{IsBrandPair}
use Rattle.capnp_joined_sets.specs.Joined.{joined}
use Rattle.capnp_versions.specs.Shared.{shared_among}
use Rattle.capnp_versions.proofs.shared.shared_pairs.Given as goal

abbrev pub invariant-loop-i : goal.invariant-loop-i
invariant-loop-i l = (l.pairs.items ≡ shared_among (lists_seen l.older) (lists_seen l.newer) l.i) × All (IsBrandPair (joined (lists_seen l.older) (lists_seen l.newer))) l.pairs.items
