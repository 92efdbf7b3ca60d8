-- What stands at a handle, and what the arena behind it ends as: as it is left behind the handle that is answered, and as it
-- was where the call was refused.
use Rattle.capnp_wire.specs.Tree.{StructTree, Tree}
use Rattle.capnp_arena.specs.Forest.{Forest, Planted, struct_from, tree}
use Rattle.capnp_arena.specs.Segment.{segment}
use Rattle.capnp_arena.specs.Shape.{Shape, StructIn}
use Rattle.capnp_arena.specs.declared.arena.Arena.{Arena}
use Rattle.capnp_arena.specs.declared.arena.Place.{Place}
use Rattle.capnp_arena.specs.declared.pointer_builder.PointerBuilder.{PointerBuilder}
use Rattle.capnp_arena.specs.declared.struct_builder.StructBuilder.{StructBuilder}
use Rattle.capnp_arena.specs.declared.list_builder.ListBuilder.{ListBuilder}

-- ---- what stands there ----

-- a tree stands at the pointer
abbrev pub IsBuiltPointer : PointerBuilder → Type 0
IsBuiltPointer b = Forest (segment b.arena.now) b.at

abbrev pub built_pointer_tree : PointerBuilder → Tree
built_pointer_tree b = tree (segment b.arena.now) b.at

-- the words of a struct
abbrev pub handle_words : Place → Shape
handle_words p = StructIn p.start p.data_words p.pointers

-- the struct at a place
abbrev pub struct_at_place : Arena → Place → StructTree
struct_at_place a p = struct_from (segment a) p.start p.data_words p.pointers

-- a struct stands there, apart from what it leads to
abbrev pub IsBuiltStruct : StructBuilder → Type 0
IsBuiltStruct b = Planted (segment b.arena.now) (handle_words b.place)

abbrev pub built_struct_tree : StructBuilder → StructTree
built_struct_tree b = struct_at_place b.arena.now b.place

abbrev pub built_list_tree : ListBuilder → Tree
built_list_tree b = tree (segment b.arena.now) b.at
