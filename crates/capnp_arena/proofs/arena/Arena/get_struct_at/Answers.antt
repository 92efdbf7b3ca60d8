-- Only a list of structs has a struct at an index, so other shapes cannot be; there, changes in the element are in the list.
use Rattle.std.proofs.Common.{sym}
use Rattle.capnp_arena.proofs.ElementPlaces.{list_struct, null_struct, place_leaves as leaves, struct_index, struct_struct}
use Rattle.capnp_arena.proofs.arena.Arena.get_struct_at.Goals as goal

pub unreachable-requires : goal.unreachable-requires
unreachable-requires c = null_struct _ _ c.requires.forest c.args.index c.requires.there (sym c.in-Null.ensures.shape)

pub unreachable-requires-in-Struct : goal.unreachable-requires-in-Struct
unreachable-requires-in-Struct c = struct_struct _ _ c.requires.forest c.args.index c.requires.there _ _ _ (sym c.in-Struct.ensures.shape)

pub unreachable-requires-in-List : goal.unreachable-requires-in-List
unreachable-requires-in-List c = list_struct _ _ c.requires.forest c.args.index c.requires.there _ _ _ (sym c.in-List.ensures.shape)

pub get_struct_element-requires-clause-inside : goal.get_struct_element-requires-clause-inside
get_struct_element-requires-clause-inside c = struct_index _ _ c.requires.forest c.args.index c.requires.there _ _ _ _ (sym c.in-Composite.ensures.shape)

pub returns-clause-leaves : goal.returns-clause-leaves
returns-clause-leaves c = leaves _ _ c.requires.forest c.args.index c.requires.there _ _ _ _ (sym c.in-Composite.ensures.shape) c.get_struct_element.result c.get_struct_element.ensures.place.0 c.get_struct_element.ensures.place.1 c.get_struct_element.ensures.place.2
