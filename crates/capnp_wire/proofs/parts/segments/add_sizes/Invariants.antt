use Rattle.std.proofs.Common.{◌≡◌, ◌<◌, ◌≤◌, ◌*◌, ◌%◌, ◌^◌}
use Rattle.capnp_wire.specs.Stream.{total_words}
use Rattle.capnp_wire.proofs.parts.segments.add_sizes.Given as goal

abbrev pub invariant-loop-i : goal.invariant-loop-i
invariant-loop-i l = (l.words ≡ total_words l.i l.table % 2 ^ 32) × (l.largest < 2 ^ 22 → total_words l.i l.table ≤ 2 ^ 22 * l.i)
