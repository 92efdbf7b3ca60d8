use Rattle.std.proofs.Common.{◌+◌, ◌*◌}
use Rattle.capnp_wire.specs.Found.{element_structs, found_tree, parts_tree, pointer_tree, pointer_trees}
use Rattle.capnp_wire.proofs.SameTrees.{SameStructs, SameTrees, element_heights, height, heights}
use Rattle.capnp_wire.proofs.equal.+equal.Given as goal

abbrev pub decreases-is_pointer_same : goal.decreases-is_pointer_same
decreases-is_pointer_same l = 8 * height (pointer_tree l.one) + 1

abbrev pub decreases-is_found : goal.decreases-is_found
decreases-is_found l = 8 * height (found_tree l.one)

abbrev pub decreases-is_struct : goal.decreases-is_struct
decreases-is_struct l = 8 * heights (parts_tree l.parts).pointers + 6

abbrev pub decreases-is_pointers : goal.decreases-is_pointers
decreases-is_pointers l = 8 * heights (pointer_trees l.pointers) + 6

abbrev pub decreases-is_composite : goal.decreases-is_composite
decreases-is_composite l = 8 * element_heights (element_structs l.size.data_words l.size.pointers l.elements) + 6

abbrev pub decreases-are_elements_same : goal.decreases-are_elements_same
decreases-are_elements_same l = 8 * element_heights (element_structs l.size.data_words l.size.pointers l.one) + 5

abbrev pub decreases-are_parts_same : goal.decreases-are_parts_same
decreases-are_parts_same l = 8 * heights (parts_tree l.one).pointers + 4

abbrev pub decreases-are_pointers_same : goal.decreases-are_pointers_same
decreases-are_pointers_same l = 8 * heights (pointer_trees l.one) + 3

abbrev pub invariant-are_pointers_same-loop-i : goal.invariant-are_pointers_same-loop-i
invariant-are_pointers_same-loop-i l = SameTrees l.i (pointer_trees l.one) (pointer_trees l.other)

abbrev pub invariant-are_elements_same-loop-i : goal.invariant-are_elements_same-loop-i
invariant-are_elements_same-loop-i l = SameStructs l.i (element_structs l.size.data_words l.size.pointers l.one) (element_structs l.size.data_words l.size.pointers l.other)
