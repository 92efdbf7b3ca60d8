use Rattle.capnp_sets.proofs.ValuesTaken.{AreTaken}
use Rattle.capnp_sets.proofs.unfolded.left_of_all.Given as goal

abbrev pub invariant-loop-index : goal.invariant-loop-index
invariant-loop-index g l = AreTaken g.T.Unfolded.size g.T.Unfolded.seen l.left l.rest l.index l.parts
