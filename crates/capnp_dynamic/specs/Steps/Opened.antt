-- What a message ends as where a struct was not entered.
use Rattle.std.specs.Borrow.{Fml, MutBor, RestsIfErr}
use Rattle.std.specs.Prelude.{◌≡◌, Result}
use Rattle.capnp_arena.specs.Segment.{segment}
use Rattle.capnp_arena.specs.contracts.arena.Arena.{the_row as arena_row}
use Rattle.capnp_arena.specs.declared.arena.Arena.{Arena}
use Rattle.capnp_dynamic.specs.declared.dynamic_struct.build.Builder.{Builder as StructHandle}

abbrev pub BuilderStructRests : {E : Type 0} → MutBor Arena → Result StructHandle E → Fml
BuilderStructRests arena r = RestsIfErr arena_row arena (λ b. b.arena.ghost_name) r (λ n. segment n ≡ segment arena.now)
