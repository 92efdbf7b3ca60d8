-- The lines so far begin the lines of all, what refuses a query that is left refuses all, and what is left of the limit.
use Rattle.std.proofs.Common.{◌+◌, ◌≤◌, ◌≡◌, length, map}
use Rattle.riftcalico_core.specs.Gets.{IsLineRefused, IsQueryLine}
use Rattle.riftcalico_core.specs.QueriesSeen.{asked_seen}
use Rattle.riftcalico_core.proofs.LinesGot.{Begins, Refuses, left_of}
use Rattle.riftcalico_core.proofs.get.get_lines.Given as goal

abbrev pub invariant-loop-index : goal.invariant-loop-index
invariant-loop-index l = record {
  begins : Begins (IsQueryLine l.job l.message) (map asked_seen l.queries) (left_of l.queries l.index) l.lines.items;
  refuses : Refuses (IsQueryLine l.job l.message) (map asked_seen l.queries) (λ f n q. IsLineRefused n l.job l.message q f) l.job.limit l.left (left_of l.queries l.index);
  few : length l.lines.items + l.left ≡ l.job.limit + l.index;
  inside : l.index ≤ length l.queries;
}
