-- The text changes a pointer of the element, that the element of the list, and that the message: one law of change in another.
use Rattle.std.proofs.Common.{[], List, rules, ℕ, arith, ◌++◌, ◌∷◌, ◌≡◌, ap, subst}
use Rattle.capnp_wire.specs.Edits.{with_pointer_tree, zero_structs}
use Rattle.capnp_wire.specs.Elements.{with_struct_element}
use Rattle.capnp_wire.specs.Reading.{element_struct}
use Rattle.capnp_wire.specs.Tree.{Numbers}
use Rattle.capnp_arena.specs.Forest.{Forest, PartChanges, tree}
use Rattle.capnp_arena.specs.Handles.{built_list_tree, handle_words}
use Rattle.capnp_arena.specs.Segment.{segment}
use Rattle.capnp_arena.proofs.BuiltParts.{list_message, list_tree_is, new_has, new_pointers}
use Rattle.capnp_arena.proofs.handle_callers.build_list.Goals as goal

pub get_struct_element-built-requires-clause-there : goal.get_struct_element-built-requires-clause-there
get_struct_element-built-requires-clause-there c = new_has c.args.size c.args.count c.args.element c.requires.element (built_list_tree c.in_ok-list.list) c.in_ok-list.ensures.tree

pub get_pointer_field-pointer-requires-clause-inside : goal.get_pointer_field-pointer-requires-clause-inside
get_pointer_field-pointer-requires-clause-inside c =
    let e = new_pointers c.args.size c.args.count c.args.element c.requires.element (built_list_tree c.in_ok-list.list) c.in_ok-list.ensures.tree _ _ _ _ c.get_struct_element-built.ensures.tree in
    omega (arith, c.requires.pointer, e)

pub returns-clause-message : goal.returns-clause-message
returns-clause-message c =
    let n : List ℕ = segment c.set_text.new.self.arena.now in
    let x = c.get_pointer_field-pointer.ensures.leaves n (search rules) (search rules) in
    let same : segment c.get_struct_element-built.result.arena.now ≡ segment c.in_ok-list.list.arena.now = ap segment c.get_struct_element-built.ensures.now in
    let l = c.get_struct_element-built.ensures.leaves n x.planted (subst (λ b. PartChanges (handle_words c.get_struct_element-built.result.place) b n) same x.changes) in
    subst (λ b. Forest b 0) (search rules) (list_message c.args.element x l (search rules))

pub returns-clause-tree : goal.returns-clause-tree
returns-clause-tree c =
    let n : List ℕ = segment c.set_text.new.self.arena.now in
    let t = Numbers 1 (c.args.text.now ++ 0 ∷ []) in
    let z = zero_structs c.args.size c.args.count in
    let x = c.get_pointer_field-pointer.ensures.leaves n (search rules) (search rules) in
    let same : segment c.get_struct_element-built.result.arena.now ≡ segment c.in_ok-list.list.arena.now = ap segment c.get_struct_element-built.ensures.now in
    let l = c.get_struct_element-built.ensures.leaves n x.planted (subst (λ b. PartChanges (handle_words c.get_struct_element-built.result.place) b n) same x.changes) in
    subst (λ b. tree b 0 ≡ with_struct_element c.args.element (with_pointer_tree (element_struct z c.args.element) c.args.index t) z) (search rules)
    (list_tree_is c.args.element x l z t c.in_ok-list.ensures.tree c.get_struct_element-built.ensures.tree (search rules) (search rules))
