-- A report is told where it is within the limit; else it is too long.
use Rattle.std.proofs.Common.{arith, inr}
use Rattle.std.proofs.lemmas.Result.{err_from_is_err_and}
use Rattle.riftcalico_core.proofs.FirstOf.{first_two}
use Rattle.riftcalico_core.proofs.compare.compare_versions.Goals as goal

pub returns-in_err-report-clause-refused : goal.returns-in_err-report-clause-refused
returns-in_err-report-clause-refused c =
    let p = err_from_is_err_and c.from_residual.result c.from_residual.ensures.1 in
    rw (p.1, p.2) (λ m. first_two (c.in_err-report.ensures.refused m))

pub returns-then-len-job-clause-refused : goal.returns-then-len-job-clause-refused
returns-then-len-job-clause-refused c =
    λ _. inr (inr (record { is = c.from.ensures; report = c.in_ok-report.report; reported = c.in_ok-report.ensures.reported; long = omega (arith, c.len.ensures, c.if-len-job.true) }))

pub returns-clause-answer : goal.returns-clause-answer
returns-clause-answer c = record {
  report = c.in_ok-report.report;
  reported = c.in_ok-report.ensures.reported;
  within = omega (arith, c.len.ensures, c.if-len-job.false);
  answer = c.answer_report.ensures.answer;
}
