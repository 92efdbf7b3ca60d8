use Rattle.capnp_differences.proofs.Edges.{Following}
use Rattle.capnp_differences.proofs.namers.mark_namers.Given as goal

abbrev pub invariant-loop-number : goal.invariant-loop-number
invariant-loop-number l = Following l.namers.edges.items l.fn.named l.initial.marked l.marked l.number

abbrev pub decreases-loop-number : goal.decreases-loop-number
decreases-loop-number l = l.number
