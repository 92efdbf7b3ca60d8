-- What stands at a handle, and what the arena behind it ends as: as it is left behind the handle that is answered, and as it: steps of the code.
use Rattle.std.specs.Prelude.{[], ◌≡◌, Result}
use Rattle.std.specs.Borrow.{Fml, Lends, MutBor, RestsIfErr}
use mir.Syntax.{named}
use Rattle.capnp_arena.specs.Forest.{Forest}
use Rattle.capnp_arena.specs.Listed.{list_shape}
use Rattle.capnp_arena.specs.Segment.{segment}
use Rattle.capnp_arena.specs.Shape.{shape_at}
use Rattle.capnp_arena.specs.declared.arena.Arena.{Arena}
use Rattle.capnp_arena.specs.contracts.arena.Arena.{the_row as arena_row}
use Rattle.capnp_arena.specs.declared.pointer_builder.PointerBuilder.{PointerBuilder}
use Rattle.capnp_arena.specs.declared.struct_builder.StructBuilder.{StructBuilder}
use Rattle.capnp_arena.specs.declared.list_builder.ListBuilder.{ListBuilder}
use Rattle.capnp_arena.specs.contracts.pointer_builder.PointerBuilder.{the_row as pointer_row}
use Rattle.capnp_arena.specs.contracts.struct_builder.StructBuilder.{the_row as struct_row}
use Rattle.capnp_arena.specs.contracts.list_builder.ListBuilder.{the_row as list_row}

-- the list that the pointer leads to stands there
pub record IsListHere (b : ListBuilder) : Type 0 where
  pub forest : Forest (segment b.arena.now) b.at
  pub place : shape_at (segment b.arena.now) b.at ≡ list_shape b.list

-- ---- handles given for a handle ----

abbrev pub StructRests : {E : Type 0} → MutBor Arena → Result StructBuilder E → Fml
StructRests arena r = RestsIfErr arena_row arena (λ s. s.arena.ghost_name) r (λ n. segment n ≡ segment arena.now)

abbrev pub ListRests : {E : Type 0} → MutBor Arena → Result ListBuilder E → Fml
ListRests arena r = RestsIfErr arena_row arena (λ s. s.arena.ghost_name) r (λ n. segment n ≡ segment arena.now)

-- ---- handles lent by a handle, which ends as itself with the arena as it was left ----

abbrev pub built_pointer_with : PointerBuilder → Arena → PointerBuilder
built_pointer_with b a = record b { arena = record b.arena { now = a } }

abbrev pub struct_with : StructBuilder → Arena → StructBuilder
struct_with b a = record b { arena = record b.arena { now = a } }

abbrev pub list_with : ListBuilder → Arena → ListBuilder
list_with b a = record b { arena = record b.arena { now = a } }

abbrev pub LentByPointer : MutBor PointerBuilder → MutBor Arena → Fml
LentByPointer b a = Lends (pointer_row (record { mir = named 0; lft = [] })) arena_row b a (built_pointer_with b.now)

abbrev pub LentByStruct : MutBor StructBuilder → MutBor Arena → Fml
LentByStruct b a = Lends (struct_row (record { mir = named 0; lft = [] })) arena_row b a (struct_with b.now)

abbrev pub LentByList : MutBor ListBuilder → MutBor Arena → Fml
LentByList b a = Lends (list_row (record { mir = named 0; lft = [] })) arena_row b a (list_with b.now)
