-- A copy goes down the tree, and a loop over a row fills it one by one.
use Rattle.std.proofs.Common.{◌+◌, ◌*◌}
use Rattle.capnp_wire.specs.Found.{element_structs, found_tree, pointer_tree, pointer_trees}
use Rattle.capnp_arena.proofs.Copying.{AreStructsFilled, IsRowFilled}
use Rattle.capnp_wire.specs.Facts.TreeSizes.{structs_size, tree_size, trees_size}
use Rattle.capnp_arena.proofs.copy.+copy.Given as goal

abbrev pub decreases-fill_pointer : goal.decreases-fill_pointer
decreases-fill_pointer l = 8 * tree_size (pointer_tree l.pointer) + 7

abbrev pub decreases-append_found : goal.decreases-append_found
decreases-append_found l = 8 * tree_size (found_tree l.found) + 6

abbrev pub decreases-append_composite : goal.decreases-append_composite
decreases-append_composite l = 8 * structs_size (element_structs l.size.data_words l.size.pointers l.elements) + 5

abbrev pub decreases-fill_elements : goal.decreases-fill_elements
decreases-fill_elements l = 8 * structs_size (element_structs l.size.data_words l.size.pointers l.elements) + 4

abbrev pub decreases-append_struct : goal.decreases-append_struct
decreases-append_struct l = 8 * trees_size (pointer_trees l.parts.pointers) + 3

abbrev pub decreases-fill_element : goal.decreases-fill_element
decreases-fill_element l = 8 * trees_size (pointer_trees l.parts.pointers) + 3

abbrev pub decreases-append_row : goal.decreases-append_row
decreases-append_row l = 8 * trees_size (pointer_trees l.pointers) + 2

abbrev pub decreases-fill_row : goal.decreases-fill_row
decreases-fill_row l = 8 * trees_size (pointer_trees l.pointers) + 1

abbrev pub invariant-fill_row-loop-i : goal.invariant-fill_row-loop-i
invariant-fill_row-loop-i l = IsRowFilled l.at l.i (pointer_trees l.pointers) l.fn.arena.bytes.items l.arena.bytes.items

abbrev pub invariant-fill_elements-loop-i : goal.invariant-fill_elements-loop-i
invariant-fill_elements-loop-i l = AreStructsFilled l.at l.i l.size.data_words l.size.pointers (element_structs l.size.data_words l.size.pointers l.elements) l.fn.arena.bytes.items l.arena.bytes.items
