-- A pointer leads to words after it; what is left of a row is what is still to be filled.
use Rattle.std.proofs.Common.{◌≡◌, ◌+◌, ◌-◌, ◌*◌, length}
use Rattle.capnp_wire.specs.Steps.Filling.{HasRoom, HaveRoom, with_encoded_elements, with_pointers}
use Rattle.capnp_wire.specs.Tree.{structs_from, trees_from}
use Rattle.capnp_arena.specs.Forest.{struct_from, tree}
use Rattle.capnp_arena.proofs.encode.+append.Given as goal

abbrev pub decreases-append_tree : goal.decreases-append_tree
decreases-append_tree l = 8 * (length l.bytes.now - l.w)

abbrev pub decreases-append_struct : goal.decreases-append_struct
decreases-append_struct l = 8 * (length l.bytes.now - l.start) + 7

abbrev pub decreases-append_row : goal.decreases-append_row
decreases-append_row l = 8 * (length l.bytes.now - l.first) + 2

abbrev pub decreases-append_composite : goal.decreases-append_composite
decreases-append_composite l = 8 * (length l.bytes.now - l.tag) + 5

abbrev pub decreases-fill_row : goal.decreases-fill_row
decreases-fill_row l = 8 * (length l.bytes.now - l.first) + 1

abbrev pub decreases-fill_elements : goal.decreases-fill_elements
decreases-fill_elements l = 8 * (length l.bytes.now - l.start) + 4

abbrev pub decreases-fill_element : goal.decreases-fill_element
decreases-fill_element l = 8 * (length l.bytes.now - l.start) + 3

abbrev pub invariant-fill_row-loop-i : goal.invariant-fill_row-loop-i
invariant-fill_row-loop-i l = record {
  room : HasRoom l.at (trees_from (tree l.bytes) (l.first + l.i) (l.count - l.i)) l.out.items;
  done : with_pointers l.at (trees_from (tree l.bytes) (l.first + l.i) (l.count - l.i)) l.out.items ≡ with_pointers l.fn.at (trees_from (tree l.bytes) l.first l.count) l.fn.out.items;
}

abbrev pub invariant-fill_elements-loop-i : goal.invariant-fill_elements-loop-i
invariant-fill_elements-loop-i l = record {
  room : HaveRoom l.data_words l.pointers l.at (structs_from (λ i. struct_from l.bytes (l.start + i * (l.data_words + l.pointers)) l.data_words l.pointers) l.i (l.count - l.i)) l.out.items;
  done : with_encoded_elements (l.data_words + l.pointers) l.at (structs_from (λ i. struct_from l.bytes (l.start + i * (l.data_words + l.pointers)) l.data_words l.pointers) l.i (l.count - l.i)) l.out.items ≡ with_encoded_elements (l.data_words + l.pointers) l.fn.at (structs_from (λ i. struct_from l.bytes (l.start + i * (l.data_words + l.pointers)) l.data_words l.pointers) 0 l.count) l.fn.out.items;
}
