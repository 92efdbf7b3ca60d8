use Rattle.std.proofs.Common.{◌≡◌, ◌++◌, length}
use Rattle.capnp_packed.specs.Unpacking.{unpacked_bytes}
use Rattle.capnp_packed.proofs.unpack.unpack.Given as goal

abbrev pub invariant-loop-piece : goal.invariant-loop-piece
invariant-loop-piece l = l.out.items ++ unpacked_bytes l.rest ≡ unpacked_bytes l.fn.packed

abbrev pub decreases-loop-piece : goal.decreases-loop-piece
decreases-loop-piece l = length l.rest
