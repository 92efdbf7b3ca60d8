-- How a part of a message's bytes is lent: the message ends with these as they were left: steps of the code.
use Rattle.std.proofs.Common.{ℕ, List}
use Rattle.std.specs.Borrow.{Array, Fml, Lends, MutBor, u8}
use Rattle.capnp_arena.specs.declared.arena.Arena.{Arena}
use Rattle.capnp_arena.specs.contracts.arena.Arena.{the_row as arena_row}
use Rattle.capnp_arena.specs.Parts.{with_struct_part}

abbrev pub LendsPart : MutBor Arena → ℕ → MutBor (List ℕ) → Fml
LendsPart a start r = Lends arena_row (Array u8 0) a r (with_struct_part a.now start)
