use Rattle.std.proofs.Common.{◌≡◌, ◌+◌, ◌-◌, ◌≤◌, length, drop}
use Rattle.capnp_words.specs.Words.{shared_length}
use Rattle.capnp_words.proofs.words.count_shared.Given as goal

abbrev pub invariant-loop-count : goal.invariant-loop-count
invariant-loop-count l = record {
  rest : l.count + shared_length (drop l.count l.word) (drop l.count l.bytes) ≡ shared_length l.word l.bytes;
  inside : l.count ≤ length l.bytes;
}

abbrev pub decreases-loop-count : goal.decreases-loop-count
decreases-loop-count l = length l.bytes - l.count
