use Rattle.std.proofs.Common.{map}
use Rattle.capnp_schema.specs.Schema.{Node, seen_node}
use Rattle.capnp_schema.specs.Steps.EntryRanges.{EntryFits}
use Rattle.capnp_schema.proofs.EntryWalk.{StandBelow}
use Rattle.capnp_schema.proofs.ranges.nodes_fit.Given as goal

abbrev pub invariant-loop-i : goal.invariant-loop-i
invariant-loop-i l = StandBelow (map seen_node l.nodes) (λ (a : Node). EntryFits a) l.i
