use Rattle.capnp_wire.proofs.SameTrees.{SameBits}
use Rattle.capnp_wire.proofs.equal.are_bits_same.Given as goal

abbrev pub invariant-loop-i : goal.invariant-loop-i
invariant-loop-i l = SameBits l.i l.one l.other
