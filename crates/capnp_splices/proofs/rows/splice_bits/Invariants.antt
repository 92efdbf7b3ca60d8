-- The elements before the index are there.
use Rattle.capnp_splices.specs.Picks.{splice_seen}
use Rattle.capnp_splices.proofs.SoFar.{BitsTo}
use Rattle.capnp_splices.proofs.rows.splice_bits.Given as goal

abbrev pub invariant-loop-index : goal.invariant-loop-index
invariant-loop-index l = BitsTo l.arena (splice_seen l.splice) l.index
