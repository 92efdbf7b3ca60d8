-- What is told of all structs.
use Rattle.std.proofs.Common.{refl}
use Rattle.riftcalico_core.proofs.whole.report_owned.Goals as goal

pub returns-clause-report : goal.returns-clause-report
returns-clause-report c = record {
  comparison = c.in_ok-comparison.comparison;
  compared = c.in_ok-comparison.ensures.compared;
  text = c.in_ok-text.ensures.report;
  follows = refl;
}
