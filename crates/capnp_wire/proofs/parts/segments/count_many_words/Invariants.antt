use Rattle.std.proofs.Common.{◌≡◌, ◌≤◌, ◌*◌, ◌^◌}
use Rattle.capnp_wire.specs.Stream.{total_words}
use Rattle.capnp_wire.proofs.parts.segments.count_many_words.Given as goal

abbrev pub invariant-loop-i : goal.invariant-loop-i
invariant-loop-i l = (l.words ≡ total_words l.i l.table) × (l.words ≤ 2 ^ 32 * l.i)
