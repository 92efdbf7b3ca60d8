-- The loop has spelled the bytes from i on.
use Rattle.std.proofs.Common.{◌≡◌, ◌≤◌, length, drop}
use Rattle.capnp_wire.specs.Slot.{little_endian}
use Rattle.capnp_wire.proofs.parts.bytes.spell.Given as goal

abbrev pub invariant-loop-i : goal.invariant-loop-i
invariant-loop-i l = record { spelled : l.number ≡ little_endian (drop l.i l.bytes); within : l.i ≤ length l.bytes }

abbrev pub decreases-loop-i : goal.decreases-loop-i
decreases-loop-i l = l.i
