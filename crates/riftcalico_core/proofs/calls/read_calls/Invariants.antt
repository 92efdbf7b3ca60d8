-- The words that were read, and those that are left, are as all are.
use Rattle.std.proofs.Common.{◌≡◌, drop, length, map}
use Rattle.capnp_words.specs.Calls.{call_at}
use Rattle.capnp_words.specs.Seen.{call_text_seen}
use Rattle.riftcalico_core.specs.Reads.{each_word_read}
use Rattle.riftcalico_core.proofs.Each.{behind}
use Rattle.riftcalico_core.proofs.calls.read_calls.Given as goal

abbrev pub invariant-loop-index : goal.invariant-loop-index
invariant-loop-index l = record {
  read : behind (map call_text_seen l.calls.items) (each_word_read call_at l.index (map (λ w. w.now) (drop l.index l.words))) ≡ each_word_read call_at 0 (map (λ w. w.now) l.words);
  count : length l.calls.items ≡ l.index;
}
