-- What the message ends as behind what is handed out of a pointer: as it is left there, and as it was where the call was
-- refused.
use Rattle.std.specs.Prelude.{◌≡◌, Result}
use Rattle.std.specs.Borrow.{Fml, MutBor, RestsIfErr}
use Rattle.capnp_arena.specs.Segment.{segment}
use Rattle.capnp_arena.specs.declared.arena.Arena.{Arena}
use Rattle.capnp_arena.specs.contracts.arena.Arena.{the_row as arena_row}

abbrev pub Rests : {T E : Type 0} → MutBor Arena → (T → MutBor Arena) → Result T E → Fml
Rests arena behind r = RestsIfErr arena_row arena (λ x. (behind x).ghost_name) r (λ n. segment n ≡ segment arena.now)
