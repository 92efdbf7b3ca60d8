use Rattle.std.proofs.Common.{◌+◌, ◌*◌}
use Rattle.capnp_wire.specs.Found.{element_structs, found_tree, pointer_tree, pointer_trees}
use Rattle.capnp_wire.proofs.FirstFaults.{ElementsHaveNoFault, HaveNoFault}
use Rattle.capnp_wire.specs.Facts.TreeSizes.{structs_size, tree_size, trees_size}
use Rattle.capnp_wire.proofs.faults.+faults.Given as goal

abbrev pub decreases-fault_of_pointer : goal.decreases-fault_of_pointer
decreases-fault_of_pointer l = 3 * tree_size (pointer_tree l.pointer) + 2

abbrev pub decreases-fault_of_found : goal.decreases-fault_of_found
decreases-fault_of_found l = 3 * tree_size (found_tree l.found) + 1

abbrev pub decreases-fault_of_elements : goal.decreases-fault_of_elements
decreases-fault_of_elements l = 3 * structs_size (element_structs l.size.data_words l.size.pointers l.elements)

abbrev pub decreases-fault_of_pointers : goal.decreases-fault_of_pointers
decreases-fault_of_pointers l = 3 * trees_size (pointer_trees l.pointers)

abbrev pub invariant-fault_of_pointers-loop-i : goal.invariant-fault_of_pointers-loop-i
invariant-fault_of_pointers-loop-i l = HaveNoFault l.i (pointer_trees l.pointers)

abbrev pub invariant-fault_of_elements-loop-i : goal.invariant-fault_of_elements-loop-i
invariant-fault_of_elements-loop-i l = ElementsHaveNoFault l.i (element_structs l.size.data_words l.size.pointers l.elements)
