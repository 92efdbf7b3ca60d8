-- The text is there, and nothing is written.
use Rattle.riftcalico_core.proofs.answer.answer_shown.Goals as goal

pub returns-in-Ok-None-clause-answer : goal.returns-in-Ok-None-clause-answer
returns-in-Ok-None-clause-answer c = record {
  shown = rw (c.in-Ok-None.field-0-is, c.deref.ensures.value) at c.in-Ok-None.ensures.found;
  few = rw c.deref.ensures.value at c.in-Ok-None.ensures.few c.in-Ok-None.field-0-is;
  output = c.answer_quietly.ensures.output;
  quiet = c.answer_quietly.ensures.quiet;
}
