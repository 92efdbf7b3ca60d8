-- One line more, or the first change that has none; and at the end the lines of all.
use Rattle.std.proofs.Common.{ℕ, ◌+◌, ◌-◌, List, [], ◌∷◌, ◌++◌, ◌≡◌, ap, arith, drop, length, subst, sym}
use Rattle.std.proofs.lemmas.List.{length-append}
use Rattle.riftcalico_core.specs.Diffs.{IsLine}
use Rattle.riftcalico_core.proofs.ChangesLined.{Begins, Refuses, all_lines, begins_more, refuses_more}
use Rattle.riftcalico_core.proofs.ChangesTold.{first_without, lineless, untold}
use Rattle.riftcalico_core.proofs.diff.get_change_lines.Goals as goal

pub loop-index-preserved : goal.loop-index-preserved
loop-index-preserved c =
    let l = c.loop-index in
    let s = c.args.schema in
    let all = c.args.changes.now in
    let long : c.len.result ≡ length c.in-Ok.line.items = omega (arith, c.len.ensures) in
    record {
      begins = subst (λ (xs : List ℕ). Begins (IsLine s) all (drop (l.index + 1) all) xs) (sym c.in-Ok-add_line.ensures.added)
          (begins_more (IsLine s) all all l.index c.index-changes-index.result l.lines.items c.in-Ok.line.items c.loop-index-test.true c.index-changes-index.is l.invariant.begins c.in-Ok.ensures.line);
      refuses = subst (λ (n : ℕ). Refuses (IsLine s) all (lineless s) c.args.limit (l.left - n) (drop (l.index + 1) all)) (sym long)
          (refuses_more (IsLine s) all (lineless s) c.args.limit l.left all l.index c.index-changes-index.result c.in-Ok.line.items c.loop-index-test.true c.index-changes-index.is
          (l.invariant.refuses, c.in-Ok.ensures.line, c.in-Ok.ensures.within));
      untold = subst (λ (n : ℕ). Refuses (IsLine s) all (untold s) c.args.limit (l.left - n) (drop (l.index + 1) all)) (sym long)
          (refuses_more (IsLine s) all (untold s) c.args.limit l.left all l.index c.index-changes-index.result c.in-Ok.line.items c.loop-index-test.true c.index-changes-index.is
          (l.invariant.untold, c.in-Ok.ensures.line, c.in-Ok.ensures.within));
      few = omega (arith, ap length c.in-Ok-add_line.ensures.added, length-append l.lines.items (c.in-Ok.line.items ++ 10 ∷ []), length-append c.in-Ok.line.items (10 ∷ []), long, c.in-Ok.ensures.within, l.invariant.few);
      inside = omega (arith, c.loop-index-test.true);
    }

pub returns-in-Err-clause-refused : goal.returns-in-Err-clause-refused
returns-in-Err-clause-refused c =
    let l = c.loop-index in
    first_without c.args.schema c.args.limit l.left c.args.changes.now l.index c.index-changes-index.result c.in-Err.why c.loop-index-test.true c.index-changes-index.is
    (l.invariant.refuses, l.invariant.untold) c.in-Err.ensures.refused

pub returns-clause-lines : goal.returns-clause-lines
returns-clause-lines c =
    let l = c.loop-index in
    all_lines (IsLine c.args.schema) c.args.changes.now c.args.changes.now l.index l.lines.items c.loop-index-test.false l.invariant.begins
