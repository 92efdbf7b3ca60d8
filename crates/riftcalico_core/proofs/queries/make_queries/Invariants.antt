-- The queries so far, and those that are left, are those that were read.
use Rattle.std.proofs.Common.{◌≡◌, ◌++◌, drop, map}
use Rattle.riftcalico_core.specs.QueriesSeen.{asked_seen, query_word_seen}
use Rattle.riftcalico_core.proofs.queries.make_queries.Given as goal

abbrev pub invariant-loop-word : goal.invariant-loop-word
invariant-loop-word l = map asked_seen l.queries.items ++ map query_word_seen (drop l.word-index l.words) ≡ map query_word_seen l.words
