-- One line more, or the first query that has none; and at the end the lines of all.
use Rattle.std.proofs.Common.{ℕ, ◌+◌, ◌-◌, List, [], ◌∷◌, ◌++◌, ◌≡◌, ap, arith, length, map, subst, sym}
use Rattle.std.proofs.lemmas.List.{length-append}
use Rattle.riftcalico_core.specs.Gets.{IsLineRefused, IsQueryLine}
use Rattle.riftcalico_core.specs.QueriesSeen.{asked_seen}
use Rattle.riftcalico_core.proofs.LinesGot.{Begins, Refuses, all_lines, begins_more, left_of, refused_at, refuses_more}
use Rattle.riftcalico_core.proofs.get.get_lines.Goals as goal

pub loop-index-preserved : goal.loop-index-preserved
loop-index-preserved c =
    let l = c.loop-index in
    let all = map asked_seen c.args.queries.now in
    let long : c.len.result ≡ length c.in-Ok.line.items = omega (arith, c.len.ensures) in
    record {
      begins = subst (λ (xs : List ℕ). Begins (IsQueryLine c.args.job.now c.args.message.now) all (left_of c.args.queries.now (l.index + 1)) xs) (sym c.in-Ok-add_line.ensures.added)
          (begins_more (IsQueryLine c.args.job.now c.args.message.now) all c.args.queries.now l.index c.index-queries-index.result l.lines.items c.in-Ok.line.items c.loop-index-test.true c.index-queries-index.is l.invariant.begins c.in-Ok.ensures.line);
      refuses = subst (λ (n : ℕ). Refuses (IsQueryLine c.args.job.now c.args.message.now) all (λ f n q. IsLineRefused n c.args.job.now c.args.message.now q f) c.args.job.now.limit (l.left - n) (left_of c.args.queries.now (l.index + 1))) (sym long)
          (refuses_more (IsQueryLine c.args.job.now c.args.message.now) all (λ f n q. IsLineRefused n c.args.job.now c.args.message.now q f) c.args.job.now.limit l.left c.args.queries.now l.index c.index-queries-index.result c.in-Ok.line.items c.loop-index-test.true c.index-queries-index.is
          (l.invariant.refuses, c.in-Ok.ensures.line, c.in-Ok.ensures.within));
      few = omega (arith, ap length c.in-Ok-add_line.ensures.added, length-append l.lines.items (c.in-Ok.line.items ++ 10 ∷ []), length-append c.in-Ok.line.items (10 ∷ []), long, c.in-Ok.ensures.within, l.invariant.few);
      inside = omega (arith, c.loop-index-test.true);
    }

pub returns-in-Err-clause-refused : goal.returns-in-Err-clause-refused
returns-in-Err-clause-refused c = λ memory.
    let l = c.loop-index in
    refused_at (IsQueryLine c.args.job.now c.args.message.now) (map asked_seen c.args.queries.now) (λ f n q. IsLineRefused n c.args.job.now c.args.message.now q f) c.args.job.now.limit l.left c.args.queries.now l.index c.index-queries-index.result c.in-Err.fault c.loop-index-test.true c.index-queries-index.is
    l.invariant.refuses (c.in-Err.ensures.refused memory)

pub returns-clause-lines : goal.returns-clause-lines
returns-clause-lines c =
    let l = c.loop-index in all_lines (IsQueryLine c.args.job.now c.args.message.now) (map asked_seen c.args.queries.now) c.args.queries.now l.index l.lines.items c.loop-index-test.false l.invariant.begins
