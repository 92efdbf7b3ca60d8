use Rattle.std.proofs.Common.{◌+◌, ◌*◌}
use Rattle.capnp_wire.specs.Backing.{segment_list}
use Rattle.capnp_wire.specs.Place.{tree_below}
use Rattle.capnp_wire.specs.Found.{element_structs, found_tree, pointer_tree, pointer_trees}
use Rattle.capnp_wire.proofs.Sums.{AreSummed, ElementsAreSummed}
use Rattle.capnp_wire.specs.Facts.TreeSizes.{structs_size, tree_size, trees_size}
use Rattle.capnp_wire.proofs.total.+total.Given as goal

abbrev pub decreases-total_pointer : goal.decreases-total_pointer
decreases-total_pointer l = 7 * tree_size (pointer_tree l.pointer) + 6

abbrev pub decreases-total_word : goal.decreases-total_word
decreases-total_word l = 7 * tree_size (tree_below l.depth (segment_list l.segments) l.segment.now l.index) + 5

abbrev pub decreases-total_found : goal.decreases-total_found
decreases-total_found l = 7 * tree_size (found_tree l.found) + 4

abbrev pub decreases-total_parts : goal.decreases-total_parts
decreases-total_parts l = 7 * trees_size (pointer_trees l.parts.pointers) + 3

abbrev pub decreases-total_row : goal.decreases-total_row
decreases-total_row l = 7 * trees_size (pointer_trees l.pointers) + 2

abbrev pub decreases-total_pointers : goal.decreases-total_pointers
decreases-total_pointers l = 7 * trees_size (pointer_trees l.pointers) + 1

abbrev pub decreases-total_each : goal.decreases-total_each
decreases-total_each l = 7 * trees_size (pointer_trees l.pointers)

abbrev pub decreases-total_composite : goal.decreases-total_composite
decreases-total_composite l = 7 * structs_size (element_structs l.size.data_words l.size.pointers l.elements) + 2

abbrev pub decreases-total_elements : goal.decreases-total_elements
decreases-total_elements l = 7 * structs_size (element_structs l.size.data_words l.size.pointers l.elements) + 1

abbrev pub invariant-total_each-loop-i : goal.invariant-total_each-loop-i
invariant-total_each-loop-i l = AreSummed l.sum l.i (pointer_trees l.pointers)

abbrev pub invariant-total_elements-loop-i : goal.invariant-total_elements-loop-i
invariant-total_elements-loop-i l = ElementsAreSummed l.sum l.i (element_structs l.size.data_words l.size.pointers l.elements)
