-- The lines so far begin the lines of all, what refuses a change that is left refuses all, and what is left of the limit.
use Rattle.std.proofs.Common.{◌+◌, ◌≤◌, ◌≡◌, drop, length}
use Rattle.riftcalico_core.specs.Diffs.{IsLine}
use Rattle.riftcalico_core.proofs.ChangesLined.{Begins, Refuses}
use Rattle.riftcalico_core.proofs.ChangesTold.{lineless, untold}
use Rattle.riftcalico_core.proofs.diff.get_change_lines.Given as goal

abbrev pub invariant-loop-index : goal.invariant-loop-index
invariant-loop-index l = record {
  begins : Begins (IsLine l.fn.schema) l.changes (drop l.index l.changes) l.lines.items;
  refuses : Refuses (IsLine l.fn.schema) l.changes (lineless l.fn.schema) l.fn.limit l.left (drop l.index l.changes);
  untold : Refuses (IsLine l.fn.schema) l.changes (untold l.fn.schema) l.fn.limit l.left (drop l.index l.changes);
  few : length l.lines.items + l.left ≡ l.fn.limit + l.index;
  inside : l.index ≤ length l.changes;
}
