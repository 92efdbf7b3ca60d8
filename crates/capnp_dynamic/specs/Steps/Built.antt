-- What builders of dynamic values stand on. Contracts cite these words; a builder's fields are public, so that it can be: steps of the code.
use Rattle.std.specs.Prelude.{[]}
use Rattle.std.specs.Borrow.{Fml, Lends, MutBor}
use mir.Syntax.{named}
use Rattle.capnp_arena.specs.contracts.arena.Arena.{the_row as arena_row}
use Rattle.capnp_arena.specs.declared.arena.Arena.{Arena}
use Rattle.capnp_dynamic.specs.contracts.dynamic_list.build.Builder.{the_row as list_handle_row}
use Rattle.capnp_dynamic.specs.contracts.dynamic_struct.build.Builder.{the_row as struct_handle_row}
use Rattle.capnp_dynamic.specs.declared.dynamic_list.build.Builder.{Builder as ListHandle}
use Rattle.capnp_dynamic.specs.declared.dynamic_struct.build.Builder.{Builder as StructHandle}
use Rattle.capnp_dynamic.specs.Built.{list_behind, struct_behind}

-- ---- what is lent for a shorter time ----

-- a builder with the message as it was left
abbrev pub with_message : StructHandle → Arena → StructHandle
with_message b a = record b { arena = record b.arena { now = a } }

abbrev pub with_list : ListHandle → Arena → ListHandle
with_list l a = record l { arena = record l.arena { now = a } }

-- a builder that is lent for a shorter time ends as itself, with the message as it was left
abbrev pub LendsStruct : MutBor StructHandle → StructHandle → Fml
LendsStruct b result = Lends (struct_handle_row (record { mir = named 0; lft = [] })) arena_row b (struct_behind result) (with_message b.now)

abbrev pub LendsList : MutBor ListHandle → ListHandle → Fml
LendsList l result = Lends (list_handle_row (record { mir = named 0; lft = [] })) arena_row l (list_behind result) (with_list l.now)
