-- The suffix is there or not.
use Rattle.std.proofs.Common.{sym, ◌∙◌}
use Rattle.riftcalico_core.proofs.Counted.{is_counted, not_counted}
use Rattle.riftcalico_core.proofs.queries.get_counted.Goals as goal

pub returns-in-None : goal.returns-in-None
returns-in-None c = sym (not_counted c.args.word.now c.in-None.ensures.cases)

pub returns-in-Some : goal.returns-in-Some
returns-in-Some c = c.get_steps_before.ensures ∙ sym (is_counted c.args.word.now c.in-Some.path.now c.in-Some.ensures.cases)
