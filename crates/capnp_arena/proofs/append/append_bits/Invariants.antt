use Rattle.std.proofs.Common.{◌≡◌, ◌*◌, ◌-◌, ◌++◌, drop}
use Rattle.capnp_wire.specs.Place.{bits_from}
use Rattle.capnp_wire.specs.Locate.{list_words}
use Rattle.capnp_wire.specs.Encoding.{packed_bits}
use Rattle.capnp_arena.proofs.append.append_bits.Given as goal

abbrev pub invariant-loop-k : goal.invariant-loop-k
invariant-loop-k l = l.out.items ++ packed_bits (l.size - l.k) (drop (8 * l.k) (bits_from l.bits 0 l.count)) ≡ l.fn.out.items ++ packed_bits (8 * list_words 1 l.count) (bits_from l.bits 0 l.count)
