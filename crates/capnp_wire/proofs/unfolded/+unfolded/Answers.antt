-- Each pointer or element has a smaller tree than what holds it.
-- The loops keep that what is allowed is what was taken and what is left; the first that is too much ends it.
use Rattle.std.proofs.Common.{rules, arith, ◌≡◌, ◌≤◌, ◌<◌, ◌+◌, ap, refl, sym}
use Rattle.capnp_wire.specs.Tree.{StructTree, nth_struct, nth_tree, struct_count, tree_count}
use Rattle.capnp_wire.specs.Found.{element_structs, found_tree, parts_tree, pointer_tree, pointer_trees}
use Rattle.capnp_wire.specs.Unfolded.{unfolded, unfolded_all}
use Rattle.capnp_wire.specs.Facts.Indexed.{length_bits_from}
use Rattle.capnp_wire.specs.Facts.TreeSizes.{nth_struct_smaller, nth_tree_smaller, tree_size, trees_size}
use Rattle.std.specs.Prelude.{length}
use Rattle.capnp_wire.proofs.Unfolding.{all_elements_taken, all_taken, element_taken, element_too_many, one_taken, one_too_many}
use Rattle.capnp_wire.proofs.unfolded.+unfolded.Goals as goal

pub left_of_pointers-left_of_pointer-requires : goal.left_of_pointers-left_of_pointer-requires
left_of_pointers-left_of_pointer-requires t c =
    let here : c.loop-i.i < tree_count (pointer_trees c.args.pointers) = omega arith in
    let below = nth_tree_smaller c.loop-i.i (pointer_trees c.args.pointers) here in
    let at : tree_size (pointer_tree c.get_pointer.result) ≡ tree_size (nth_tree (pointer_trees c.args.pointers) c.loop-i.i) = ap tree_size c.get_pointer.ensures in
    search (rules, arith, below, at)

pub left_of_pointers-returns-in-None : goal.left_of_pointers-returns-in-None
left_of_pointers-returns-in-None t c =
    let here : c.loop-i.i < tree_count (pointer_trees c.args.pointers) = omega arith in
    one_too_many _ _ _ _ _ c.loop-i.invariant here (sym c.get_pointer.ensures) c.in-None.ensures

pub left_of_pointers-loop-i-preserved : goal.left_of_pointers-loop-i-preserved
left_of_pointers-loop-i-preserved t c =
    let here : c.loop-i.i < tree_count (pointer_trees c.args.pointers) = omega arith in
    one_taken _ _ _ _ _ c.loop-i.invariant here (sym c.get_pointer.ensures) _ _ c.in-Some.ensures refl

pub left_of_pointers-returns : goal.left_of_pointers-returns
left_of_pointers-returns t c =
    let all : tree_count (pointer_trees c.args.pointers) ≤ c.loop-i.i = omega arith in
    all_taken _ _ _ _ c.loop-i.invariant all

pub left_of_elements-left_of_parts-requires : goal.left_of_elements-left_of_parts-requires
left_of_elements-left_of_parts-requires t c =
    let here : c.loop-i.i < struct_count (element_structs c.args.size.data_words c.args.size.pointers c.args.elements) = omega arith in
    let below = nth_struct_smaller c.loop-i.i (element_structs c.args.size.data_words c.args.size.pointers c.args.elements) here in
    let at : trees_size (parts_tree c.get_element.result).pointers ≡ trees_size (nth_struct (element_structs c.args.size.data_words c.args.size.pointers c.args.elements) c.loop-i.i).pointers = ap (λ (x : StructTree). trees_size x.pointers) c.get_element.ensures in
    search (rules, arith, below, at)

pub left_of_elements-returns-in-None : goal.left_of_elements-returns-in-None
left_of_elements-returns-in-None t c =
    let here : c.loop-i.i < struct_count (element_structs c.args.size.data_words c.args.size.pointers c.args.elements) = omega arith in
    let size : length (parts_tree c.get_element.result).bytes + 1 + unfolded_all (parts_tree c.get_element.result).pointers ≡ length (nth_struct (element_structs c.args.size.data_words c.args.size.pointers c.args.elements) c.loop-i.i).bytes + 1 + unfolded_all (nth_struct (element_structs c.args.size.data_words c.args.size.pointers c.args.elements) c.loop-i.i).pointers = ap (λ (x : StructTree). length x.bytes + 1 + unfolded_all x.pointers) c.get_element.ensures in
    element_too_many _ _ _ _ _ c.loop-i.invariant here refl (rw size at c.in-None.ensures)

pub left_of_elements-loop-i-preserved : goal.left_of_elements-loop-i-preserved
left_of_elements-loop-i-preserved t c =
    let here : c.loop-i.i < struct_count (element_structs c.args.size.data_words c.args.size.pointers c.args.elements) = omega arith in
    let size : length (parts_tree c.get_element.result).bytes + 1 + unfolded_all (parts_tree c.get_element.result).pointers ≡ length (nth_struct (element_structs c.args.size.data_words c.args.size.pointers c.args.elements) c.loop-i.i).bytes + 1 + unfolded_all (nth_struct (element_structs c.args.size.data_words c.args.size.pointers c.args.elements) c.loop-i.i).pointers = ap (λ (x : StructTree). length x.bytes + 1 + unfolded_all x.pointers) c.get_element.ensures in
    element_taken _ _ _ _ _ c.loop-i.invariant here refl _ _ (rw size at c.in-Some.ensures) refl

pub left_of_elements-returns : goal.left_of_elements-returns
left_of_elements-returns t c =
    let all : struct_count (element_structs c.args.size.data_words c.args.size.pointers c.args.elements) ≤ c.loop-i.i = omega arith in
    all_elements_taken _ _ _ _ c.loop-i.invariant all

pub left_of_found-returns-in-Bits : goal.left_of_found-returns-in-Bits
left_of_found-returns-in-Bits t c =
    let size : unfolded (found_tree c.args.found) ≡ c.in-Bits.count + 1 = rw (c.in-Bits.is, length_bits_from) (omega arith) in
    rw size c.left_of_count-in-Bits.ensures
