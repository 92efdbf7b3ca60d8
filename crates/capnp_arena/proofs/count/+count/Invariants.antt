-- A pointer leads to words after it.
use Rattle.std.proofs.Common.{◌≡◌, ◌+◌, ◌-◌, ◌*◌, ◌<◌, ◌^◌, length}
use Rattle.capnp_wire.specs.Depth.{AreBelow, ElementsAreBelow}
use Rattle.capnp_wire.specs.Tree.{structs_from, trees_from}
use Rattle.capnp_wire.specs.Words.{words_below_all, words_of_all}
use Rattle.capnp_arena.specs.Forest.{struct_from, tree}
use Rattle.capnp_arena.proofs.count.+count.Given as goal

abbrev pub decreases-count_below : goal.decreases-count_below
decreases-count_below l = 4 * (length l.bytes.now - l.w)

abbrev pub decreases-count_row : goal.decreases-count_row
decreases-count_row l = 4 * (length l.bytes.now - l.first) + 1

abbrev pub decreases-count_elements : goal.decreases-count_elements
decreases-count_elements l = 4 * (length l.bytes.now - l.start) + 2

abbrev pub invariant-count_row-loop-i : goal.invariant-count_row-loop-i
invariant-count_row-loop-i l = record {
  above : AreBelow l.depth (trees_from (tree l.bytes) (l.first + l.i) (l.count - l.i)) → AreBelow l.depth (trees_from (tree l.bytes) l.first l.count);
  left : l.sum + words_of_all (trees_from (tree l.bytes) (l.first + l.i) (l.count - l.i)) ≡ words_of_all (trees_from (tree l.bytes) l.first l.count);
  small : l.sum < 2 ^ 29;
}

abbrev pub invariant-count_elements-loop-i : goal.invariant-count_elements-loop-i
invariant-count_elements-loop-i l = record {
  above : ElementsAreBelow l.depth (structs_from (λ i. struct_from l.bytes (l.start + i * (l.data_words + l.pointers)) l.data_words l.pointers) l.i (l.count - l.i)) → ElementsAreBelow l.depth (structs_from (λ i. struct_from l.bytes (l.start + i * (l.data_words + l.pointers)) l.data_words l.pointers) 0 l.count);
  left : l.sum + words_below_all (structs_from (λ i. struct_from l.bytes (l.start + i * (l.data_words + l.pointers)) l.data_words l.pointers) l.i (l.count - l.i)) ≡ words_below_all (structs_from (λ i. struct_from l.bytes (l.start + i * (l.data_words + l.pointers)) l.data_words l.pointers) 0 l.count);
  small : l.sum < 2 ^ 29;
}
