-- The elements before the index are there.
use Rattle.capnp_splices.specs.Picks.{splice_seen}
use Rattle.capnp_splices.proofs.SoFar.{NumbersTo}
use Rattle.capnp_splices.proofs.rows.splice_numbers.Given as goal

abbrev pub invariant-loop-index : goal.invariant-loop-index
invariant-loop-index g l = NumbersTo l.arena g.T.PrimitiveElement.width (splice_seen l.splice) l.index
