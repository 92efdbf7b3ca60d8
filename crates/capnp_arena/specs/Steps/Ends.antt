-- What the arena ends as that is read for as long as it was lent: as it was.
use Rattle.std.specs.Prelude.{◌≡◌, ⊤}
use Rattle.std.specs.Borrow.{Fml, MutBor, follows_so}
use mathlib.Core.Option.{none}
use Rattle.capnp_arena.specs.Segment.{segment}
use Rattle.capnp_arena.specs.declared.arena.Arena.{Arena}
use Rattle.capnp_arena.specs.contracts.arena.Arena.{the_row as arena_row}

abbrev pub EndsUnchanged : MutBor Arena → Fml
EndsUnchanged arena = follows_so arena_row arena_row arena.ghost_name none (λ _ _. ⊤) (λ n. segment n ≡ segment arena.now)
