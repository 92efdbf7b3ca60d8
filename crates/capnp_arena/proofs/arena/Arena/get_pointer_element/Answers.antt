-- A null or a struct has no pointer elements. In a list the place is the element's word, in structs the element's first pointer.
use Rattle.std.proofs.Common.{sym}
use Rattle.capnp_arena.proofs.ElementPlaces.{first_forest, first_inside, first_leaves, first_tree, list_forest, list_inside, list_leaves, list_pointer, null_pointer, struct_pointer}
use Rattle.capnp_arena.proofs.arena.Arena.get_pointer_element.Goals as goal

pub unreachable-requires : goal.unreachable-requires
unreachable-requires c = null_pointer _ _ c.requires.forest c.args.index c.requires.pointer (sym c.in-Null.ensures.shape)

pub unreachable-requires-in-Struct : goal.unreachable-requires-in-Struct
unreachable-requires-in-Struct c = struct_pointer _ _ c.requires.forest c.args.index c.requires.pointer _ _ _ (sym c.in-Struct.ensures.shape)

pub returns-in-List-clause-inside : goal.returns-in-List-clause-inside
returns-in-List-clause-inside c = list_inside _ _ c.requires.forest c.args.index c.requires.pointer _ _ _ (sym c.in-List.ensures.shape)

pub returns-in-List-clause-forest : goal.returns-in-List-clause-forest
returns-in-List-clause-forest c = list_forest _ _ c.requires.forest c.args.index c.requires.pointer _ _ _ (sym c.in-List.ensures.shape)

pub returns-in-List-clause-tree : goal.returns-in-List-clause-tree
returns-in-List-clause-tree c = list_pointer _ _ c.requires.forest c.args.index c.requires.pointer _ _ _ (sym c.in-List.ensures.shape)

pub returns-in-List-clause-leaves : goal.returns-in-List-clause-leaves
returns-in-List-clause-leaves c = list_leaves _ _ c.requires.forest c.args.index c.requires.pointer _ _ _ (sym c.in-List.ensures.shape)

pub returns-in-Composite-clause-inside : goal.returns-in-Composite-clause-inside
returns-in-Composite-clause-inside c = first_inside _ _ c.requires.forest c.args.index c.requires.pointer _ _ _ _ (sym c.in-Composite.ensures.shape)

pub returns-in-Composite-clause-forest : goal.returns-in-Composite-clause-forest
returns-in-Composite-clause-forest c = first_forest _ _ c.requires.forest c.args.index c.requires.pointer _ _ _ _ (sym c.in-Composite.ensures.shape)

pub returns-in-Composite-clause-tree : goal.returns-in-Composite-clause-tree
returns-in-Composite-clause-tree c = first_tree _ _ c.requires.forest c.args.index c.requires.pointer _ _ _ _ (sym c.in-Composite.ensures.shape)

pub returns-in-Composite-clause-leaves : goal.returns-in-Composite-clause-leaves
returns-in-Composite-clause-leaves c = first_leaves _ _ c.requires.forest c.args.index c.requires.pointer _ _ _ _ (sym c.in-Composite.ensures.shape)
