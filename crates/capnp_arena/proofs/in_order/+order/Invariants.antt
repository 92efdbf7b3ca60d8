-- A pointer leads to words after it; where what is left of a row lies in order, so does the row.
use Rattle.std.proofs.Common.{ℕ, ◌+◌, ◌-◌, ◌*◌, ◌≤◌, length}
use Rattle.capnp_arena.specs.Steps.InOrder.{AreLaid, IsRowLaid}
use Rattle.capnp_arena.specs.Shape.{word_count}
use Rattle.capnp_arena.proofs.in_order.+order.Given as goal

abbrev pub decreases-follow : goal.decreases-follow
decreases-follow l = 8 * (length l.bytes.now - l.w)

abbrev pub decreases-follow_at : goal.decreases-follow_at
decreases-follow_at l = 8 * (length l.bytes.now - l.w) + 1

abbrev pub decreases-follow_row : goal.decreases-follow_row
decreases-follow_row l = 8 * (length l.bytes.now - l.first) + 2

abbrev pub decreases-follow_elements : goal.decreases-follow_elements
decreases-follow_elements l = 8 * (length l.bytes.now - l.start) + 3

abbrev pub invariant-follow_row-loop-i : goal.invariant-follow_row-loop-i
invariant-follow_row-loop-i l = record {
  laid : (last : ℕ) → IsRowLaid l.bytes (l.first + l.i) (l.count - l.i) l.next last → IsRowLaid l.bytes l.first l.count l.end last;
  after : l.end ≤ l.next;
  inside : l.next ≤ word_count l.bytes;
}

abbrev pub invariant-follow_elements-loop-i : goal.invariant-follow_elements-loop-i
invariant-follow_elements-loop-i l = record {
  laid : (last : ℕ) → AreLaid l.bytes l.start l.data_words l.pointers l.i (l.count - l.i) l.next last → AreLaid l.bytes l.start l.data_words l.pointers 0 l.count l.end last;
  after : l.end ≤ l.next;
  inside : l.next ≤ word_count l.bytes;
}
