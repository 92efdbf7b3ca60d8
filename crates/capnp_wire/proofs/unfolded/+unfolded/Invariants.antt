use Rattle.std.proofs.Common.{◌+◌, ◌*◌}
use Rattle.capnp_wire.specs.Found.{element_structs, found_tree, pointer_tree, pointer_trees}
use Rattle.capnp_wire.proofs.Unfolding.{AreTaken, ElementsAreTaken}
use Rattle.capnp_wire.specs.Facts.TreeSizes.{structs_size, tree_size, trees_size}
use Rattle.capnp_wire.proofs.unfolded.+unfolded.Given as goal

abbrev pub decreases-left_of_pointer : goal.decreases-left_of_pointer
decreases-left_of_pointer l = 4 * tree_size (pointer_tree l.pointer) + 3

abbrev pub decreases-left_of_found : goal.decreases-left_of_found
decreases-left_of_found l = 4 * tree_size (found_tree l.found) + 2

abbrev pub decreases-left_of_parts : goal.decreases-left_of_parts
decreases-left_of_parts l = 4 * trees_size (pointer_trees l.parts.pointers) + 1

abbrev pub decreases-left_of_pointers : goal.decreases-left_of_pointers
decreases-left_of_pointers l = 4 * trees_size (pointer_trees l.pointers)

abbrev pub decreases-left_of_elements : goal.decreases-left_of_elements
decreases-left_of_elements l = 4 * structs_size (element_structs l.size.data_words l.size.pointers l.elements)

abbrev pub invariant-left_of_pointers-loop-i : goal.invariant-left_of_pointers-loop-i
invariant-left_of_pointers-loop-i l = AreTaken l.left l.rest l.i (pointer_trees l.pointers)

abbrev pub invariant-left_of_elements-loop-i : goal.invariant-left_of_elements-loop-i
invariant-left_of_elements-loop-i l = ElementsAreTaken l.left l.rest l.i (element_structs l.size.data_words l.size.pointers l.elements)
