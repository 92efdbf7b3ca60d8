-- One line more, or the first query that has none; and at the end the lines of all.
use Rattle.std.proofs.Common.{ℕ, ◌+◌, ◌-◌, List, [], ◌∷◌, ◌++◌, ◌≡◌, ap, arith, length, map, subst, sym}
use Rattle.std.proofs.lemmas.List.{length-append}
use Rattle.riftcalico_core.specs.Json.{IsQueryJson, IsUnfit, IsWithoutJson}
use Rattle.riftcalico_core.specs.QueriesSeen.{asked_seen}
use Rattle.riftcalico_core.proofs.JsonTold.{first_without}
use Rattle.riftcalico_core.proofs.LinesGot.{Begins, Refuses, all_lines, begins_more, left_of, refuses_more}
use Rattle.riftcalico_core.proofs.json.get_json_lines.Goals as goal

pub loop-index-preserved : goal.loop-index-preserved
loop-index-preserved c =
    let l = c.loop-index in
    let j = c.args.job.now in
    let bytes = c.args.message.now in
    let all = map asked_seen c.args.queries.now in
    let long : c.len.result ≡ length c.in-Ok.line.items = omega (arith, c.len.ensures) in
    record {
      begins = subst (λ (xs : List ℕ). Begins (IsQueryJson j bytes) all (left_of c.args.queries.now (l.index + 1)) xs) (sym c.in-Ok-add_line.ensures.added)
          (begins_more (IsQueryJson j bytes) all c.args.queries.now l.index c.index-queries-index.result l.lines.items c.in-Ok.line.items c.loop-index-test.true c.index-queries-index.is l.invariant.begins c.in-Ok.ensures.json);
      refuses = subst (λ (n : ℕ). Refuses (IsQueryJson j bytes) all (λ f n q. IsWithoutJson q.counts n j bytes q.path f) j.limit (l.left - n) (left_of c.args.queries.now (l.index + 1))) (sym long)
          (refuses_more (IsQueryJson j bytes) all (λ f n q. IsWithoutJson q.counts n j bytes q.path f) j.limit l.left c.args.queries.now l.index c.index-queries-index.result c.in-Ok.line.items c.loop-index-test.true c.index-queries-index.is
          (l.invariant.refuses, c.in-Ok.ensures.json, c.in-Ok.ensures.within));
      unfit = subst (λ (n : ℕ). Refuses (IsQueryJson j bytes) all (λ e n q. IsUnfit q.counts j bytes q.path e) j.limit (l.left - n) (left_of c.args.queries.now (l.index + 1))) (sym long)
          (refuses_more (IsQueryJson j bytes) all (λ e n q. IsUnfit q.counts j bytes q.path e) j.limit l.left c.args.queries.now l.index c.index-queries-index.result c.in-Ok.line.items c.loop-index-test.true c.index-queries-index.is
          (l.invariant.unfit, c.in-Ok.ensures.json, c.in-Ok.ensures.within));
      few = omega (arith, ap length c.in-Ok-add_line.ensures.added, length-append l.lines.items (c.in-Ok.line.items ++ 10 ∷ []), length-append c.in-Ok.line.items (10 ∷ []), long, c.in-Ok.ensures.within, l.invariant.few);
      inside = omega (arith, c.loop-index-test.true);
    }

pub returns-in-Err-clause-refused : goal.returns-in-Err-clause-refused
returns-in-Err-clause-refused c =
    let l = c.loop-index in
    first_without c.args.job.now c.args.message.now (map asked_seen c.args.queries.now) l.left c.args.queries.now l.index c.index-queries-index.result c.in-Err.why c.loop-index-test.true c.index-queries-index.is
    (l.invariant.refuses, l.invariant.unfit) c.in-Err.ensures.refused

pub returns-clause-lines : goal.returns-clause-lines
returns-clause-lines c =
    let l = c.loop-index in
    all_lines (IsQueryJson c.args.job.now c.args.message.now) (map asked_seen c.args.queries.now) c.args.queries.now l.index l.lines.items c.loop-index-test.false l.invariant.begins
