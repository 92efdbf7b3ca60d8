-- Two data spans that meet have a spot in common: the first bit of the one that starts later.
-- Two pointers meet if they are the same.
use Rattle.std.proofs.Common.{arith}
use Rattle.std.proofs.lemmas.Bool.Decides.{nat_tests}
use Rattle.capnp_schema.proofs.Checking.SpanLemmas.{right_meets, left_meets, pointers_meet}
use Rattle.capnp_schema.proofs.check.spans.span_meets.Goals as goal

pub returns-then-first-other-clause-yes : goal.returns-then-first-other-clause-yes
returns-then-first-other-clause-yes c = λ h. right_meets _ _ _ _ _ _ c.in-Data-Data.is-0 c.in-Data-Data.is-1 (omega arith) (omega arith) (grind (arith, nat_tests))

pub returns-else-first-other-clause-yes : goal.returns-else-first-other-clause-yes
returns-else-first-other-clause-yes c = λ h. left_meets _ _ _ _ _ _ c.in-Data-Data.is-0 c.in-Data-Data.is-1 c.if-length-gt0.true.0 (omega arith) (grind (arith, nat_tests))

pub returns-in-Pointer-Pointer-clause-yes : goal.returns-in-Pointer-Pointer-clause-yes
returns-in-Pointer-Pointer-clause-yes c = λ h. pointers_meet _ _ _ _ c.in-Pointer-Pointer.is-0 c.in-Pointer-Pointer.is-1 (grind (arith, nat_tests))
