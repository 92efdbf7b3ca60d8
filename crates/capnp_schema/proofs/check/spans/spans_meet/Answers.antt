-- The spot where two spans meet is named by both lists.
-- Each row that is done keeps that no spot of its span is named by the other list.
use Rattle.std.proofs.Common.{refl, arith}
use Rattle.capnp_schema.specs.declared.check.spans.Span.TheVariants.{Pointer}
use Rattle.capnp_schema.proofs.Checking.SpanLemmas.{some_from_at, span_at, none_from_all, row_done}
use Rattle.capnp_schema.proofs.check.spans.spans_meet.Goals as goal

pub returns-then-span_meets-clause-yes : goal.returns-then-span_meets-clause-yes
returns-then-span_meets-clause-yes c = λ h. let m = c.if-span_meets.ensures.yes refl in record {
  spot = m.0;
  first = some_from_at _ _ _ _ c.loop-x-test.true m.1;
  second = some_from_at _ _ _ _ c.loop-y-test.true m.2;
}

pub loop-x-preserved : goal.loop-x-preserved
loop-x-preserved c = row_done _ _ _ _ c.loop-x-test.true c.loop-x.invariant (λ p named. none_from_all _ p (λ k d lt. c.loop-y.invariant k d p (omega arith) named))

pub returns-clause-not_met : goal.returns-clause-not_met
returns-clause-not_met c = λ h p named. let at = span_at _ p named in c.loop-x.invariant at.0 (Pointer 0) p (omega arith) (at.2 (Pointer 0))
