use Rattle.std.proofs.Common.{◌≡◌, ◌+◌, length}
use Rattle.capnp_packed.specs.Unpacking.{unpacked_bytes}
use Rattle.capnp_packed.proofs.received.has_bytes.Given as goal

abbrev pub invariant-loop-at : goal.invariant-loop-at
invariant-loop-at l = l.at + length (unpacked_bytes l.left) ≡ length (unpacked_bytes l.fn.packed)

abbrev pub decreases-loop-at : goal.decreases-loop-at
decreases-loop-at l = length l.left
