-- The words that were read, and those that are left, are as all are.
use Rattle.std.proofs.Common.{◌≡◌, drop, map}
use Rattle.riftcalico_core.specs.Queries.{query_at}
use Rattle.riftcalico_core.specs.QueriesSeen.{query_word_seen}
use Rattle.riftcalico_core.specs.Reads.{each_word_read}
use Rattle.riftcalico_core.proofs.Each.{behind}
use Rattle.riftcalico_core.proofs.queries.read_queries.Given as goal

abbrev pub invariant-loop-index : goal.invariant-loop-index
invariant-loop-index l = behind (map query_word_seen l.queries.items) (each_word_read query_at l.index (map (λ w. w.now) (drop l.index l.words))) ≡ each_word_read query_at 0 (map (λ w. w.now) l.words)
