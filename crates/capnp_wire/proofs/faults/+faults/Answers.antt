-- Each pointer or element has a smaller tree than what holds it.
-- The walk keeps that all before it are without fault, so the first fault met is the answer.
use Rattle.std.proofs.Common.{rules, arith, ◌≡◌, ◌≤◌, ◌<◌, ◌+◌, ap, refl, sym}
use Rattle.capnp_wire.specs.Tree.{StructTree, nth_struct, nth_tree, struct_count, tree_count}
use Rattle.capnp_wire.specs.Found.{element_structs, parts_tree, pointer_tree, pointer_trees}
use Rattle.capnp_wire.proofs.FirstFaults.{element_fault_here, fault_here, no_element_fault, no_fault, one_more, one_more_element}
use Rattle.capnp_wire.specs.Facts.TreeSizes.{nth_struct_smaller, nth_tree_smaller, tree_size, trees_size}
use Rattle.capnp_wire.proofs.faults.+faults.Goals as goal

pub fault_of_pointers-fault_of_pointer-requires : goal.fault_of_pointers-fault_of_pointer-requires
fault_of_pointers-fault_of_pointer-requires t c =
    let here : c.loop-i.i < tree_count (pointer_trees c.args.pointers) = omega arith in
    let below = nth_tree_smaller c.loop-i.i (pointer_trees c.args.pointers) here in
    let at : tree_size (pointer_tree c.get_pointer.result) ≡ tree_size (nth_tree (pointer_trees c.args.pointers) c.loop-i.i) = ap tree_size c.get_pointer.ensures in
    search (rules, arith, below, at)

pub fault_of_pointers-returns-in-Some : goal.fault_of_pointers-returns-in-Some
fault_of_pointers-returns-in-Some t c =
    let here : c.loop-i.i < tree_count (pointer_trees c.args.pointers) = omega arith in
    fault_here _ _ _ c.loop-i.invariant here (sym c.get_pointer.ensures) _ c.in-Some.ensures

pub fault_of_pointers-loop-i-preserved : goal.fault_of_pointers-loop-i-preserved
fault_of_pointers-loop-i-preserved t c =
    let here : c.loop-i.i < tree_count (pointer_trees c.args.pointers) = omega arith in
    one_more _ _ _ c.loop-i.invariant here (sym c.get_pointer.ensures) _ c.in_default.ensures refl

pub fault_of_pointers-returns : goal.fault_of_pointers-returns
fault_of_pointers-returns t c =
    let all : tree_count (pointer_trees c.args.pointers) ≤ c.loop-i.i = omega arith in
    no_fault _ _ c.loop-i.invariant all

pub fault_of_elements-fault_of_pointers-requires :
    goal.fault_of_elements-fault_of_pointers-requires
fault_of_elements-fault_of_pointers-requires t c =
    let here : c.loop-i.i < struct_count (element_structs c.args.size.data_words c.args.size.pointers c.args.elements) = omega arith in
    let below = nth_struct_smaller c.loop-i.i (element_structs c.args.size.data_words c.args.size.pointers c.args.elements) here in
    let at : trees_size (parts_tree c.get_element.result).pointers ≡ trees_size (nth_struct (element_structs c.args.size.data_words c.args.size.pointers c.args.elements) c.loop-i.i).pointers = ap (λ (x : StructTree). trees_size x.pointers) c.get_element.ensures in
    search (rules, arith, below, at)

pub fault_of_elements-returns-in-Some : goal.fault_of_elements-returns-in-Some
fault_of_elements-returns-in-Some t c =
    let here : c.loop-i.i < struct_count (element_structs c.args.size.data_words c.args.size.pointers c.args.elements) = omega arith in
    element_fault_here _ _ _ c.loop-i.invariant here (sym c.get_element.ensures) _ c.in-Some.ensures

pub fault_of_elements-loop-i-preserved : goal.fault_of_elements-loop-i-preserved
fault_of_elements-loop-i-preserved t c =
    let here : c.loop-i.i < struct_count (element_structs c.args.size.data_words c.args.size.pointers c.args.elements) = omega arith in
    one_more_element _ _ _ c.loop-i.invariant here (sym c.get_element.ensures) (c.loop-i.i + 1) c.in_default.ensures refl

pub fault_of_elements-returns : goal.fault_of_elements-returns
fault_of_elements-returns t c =
    let all : struct_count (element_structs c.args.size.data_words c.args.size.pointers c.args.elements) ≤ c.loop-i.i = omega arith in
    no_element_fault _ _ c.loop-i.invariant all
