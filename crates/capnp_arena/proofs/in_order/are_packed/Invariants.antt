use Rattle.std.proofs.Common.{ℕ, ◌*◌, ◌<◌, ◌≡◌, drop, get_or, take}
use Rattle.capnp_wire.specs.Encoding.{bits_number}
use Rattle.capnp_wire.specs.Place.{bits_from}
use Rattle.capnp_arena.proofs.in_order.are_packed.Given as goal

abbrev pub invariant-loop-k : goal.invariant-loop-k
invariant-loop-k l = (j : ℕ) → j < l.k → get_or l.bytes j 0 ≡ bits_number (take 8 (drop (8 * j) (bits_from l.bytes 0 l.count)))
