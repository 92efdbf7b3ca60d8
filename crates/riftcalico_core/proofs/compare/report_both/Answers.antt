-- What is told of both directions is joined.
use Rattle.std.proofs.Common.{◌∙◌, ap₂}
use Rattle.riftcalico_core.specs.Comparisons.{both_text}
use Rattle.riftcalico_core.proofs.compare.report_both.Goals as goal

pub returns-clause-reports : goal.returns-clause-reports
returns-clause-reports c = record {
  forth = c.in_ok-forth.forth;
  back = c.in_ok-back.back;
  told_forth = c.in_ok-forth.ensures.report;
  told_back = c.in_ok-back.ensures.report;
  text = c.in_ok-text.ensures.joined ∙ ap₂ both_text c.as_str.ensures.value c.as_str-2.ensures.value;
  follows = c.do_both_follow.ensures;
}
