use Rattle.std.proofs.Common.{◌≡◌, ◌+◌, ◌-◌}
use Rattle.capnp_wire.specs.Edits.{extended_struct}
use Rattle.capnp_wire.specs.Steps.Filling.{HaveRoom, with_encoded_elements}
use Rattle.capnp_wire.specs.Tree.{structs_from}
use Rattle.capnp_arena.specs.Steps.Grown.{grown_part_at}
use Rattle.capnp_arena.proofs.grown.fill_all_grown.Given as goal

abbrev pub invariant-loop-i : goal.invariant-loop-i
invariant-loop-i l = record {
  room : HaveRoom l.size.data_words l.size.pointers l.at (structs_from (λ i. extended_struct l.size (grown_part_at l.bytes l.row i)) l.i (l.count - l.i)) l.out.items;
  done : with_encoded_elements (l.size.data_words + l.size.pointers) l.at (structs_from (λ i. extended_struct l.size (grown_part_at l.bytes l.row i)) l.i (l.count - l.i)) l.out.items ≡ with_encoded_elements (l.size.data_words + l.size.pointers) l.fn.at (structs_from (λ i. extended_struct l.size (grown_part_at l.bytes l.row i)) 0 l.count) l.fn.out.items;
}
