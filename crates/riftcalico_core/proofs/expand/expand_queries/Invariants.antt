-- With those of the queries that are left the queries so far are all, and what refuses one of these refuses all.
use Rattle.std.proofs.Common.{map}
use Rattle.riftcalico_core.specs.Expanded.{most_paths}
use Rattle.riftcalico_core.specs.QueriesSeen.{asked_seen}
use Rattle.riftcalico_core.proofs.LinesGot.{left_of}
use Rattle.riftcalico_core.proofs.ListingsAsked.{Denies, Gives}
use Rattle.riftcalico_core.proofs.expand.expand_queries.Given as goal

abbrev pub invariant-loop-index : goal.invariant-loop-index
invariant-loop-index l = record {
  gives : Gives l.schema l.message (most_paths l.limit) (map asked_seen l.asked) l.left (left_of l.asked l.index) (map asked_seen l.queries.items);
  denies : Denies l.schema l.message (most_paths l.limit) (map asked_seen l.asked) l.left (left_of l.asked l.index);
}
