-- The lines so far begin the lines of all, what a query that is left is without, all are without, and what is left of the limit.
use Rattle.std.proofs.Common.{◌+◌, ◌≤◌, ◌≡◌, length, map}
use Rattle.riftcalico_core.specs.Json.{IsQueryJson, IsUnfit, IsWithoutJson}
use Rattle.riftcalico_core.specs.QueriesSeen.{asked_seen}
use Rattle.riftcalico_core.proofs.LinesGot.{Begins, Refuses, left_of}
use Rattle.riftcalico_core.proofs.json.get_json_lines.Given as goal

abbrev pub invariant-loop-index : goal.invariant-loop-index
invariant-loop-index l = record {
  begins : Begins (IsQueryJson l.job l.message) (map asked_seen l.queries) (left_of l.queries l.index) l.lines.items;
  refuses : Refuses (IsQueryJson l.job l.message) (map asked_seen l.queries) (λ f n q. IsWithoutJson q.counts n l.job l.message q.path f) l.job.limit l.left (left_of l.queries l.index);
  unfit : Refuses (IsQueryJson l.job l.message) (map asked_seen l.queries) (λ e n q. IsUnfit q.counts l.job l.message q.path e) l.job.limit l.left (left_of l.queries l.index);
  few : length l.lines.items + l.left ≡ l.job.limit + l.index;
  inside : l.index ≤ length l.queries;
}
