-- The elements before the index are there.
use Rattle.capnp_splices.specs.Picks.{splice_seen}
use Rattle.capnp_splices.proofs.SoFar.{StructsTo}
use Rattle.capnp_splices.proofs.rows.splice_structs.Given as goal

abbrev pub invariant-loop-index : goal.invariant-loop-index
invariant-loop-index l = StructsTo l.arena l.fn.size (splice_seen l.splice) l.index
