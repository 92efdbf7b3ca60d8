-- The answer is that of the plan's job, and so is the refusal.
use Rattle.std.proofs.Common.{ap, subst, sym, ◌∙◌, ◌≢◌}
use Rattle.capnp_device.specs.declared.error.Error.{Error}
use Rattle.capnp_device.specs.declared.error.ErrorKind.TheVariants.{OutOfMemory}
use Rattle.capnp_schema.specs.Entries.{lists_seen}
use Rattle.riftcalico_core.specs.Comparisons.{compare_blamed}
use Rattle.riftcalico_core.specs.Steps.Whole.{IsUncomparedWhole}
use Rattle.riftcalico_core.proofs.WholeAnswers.{whole_answer, whole_blamed, whole_refused}
use Rattle.riftcalico_core.proofs.whole.answer_whole.Goals as goal

pub returns-in-Ok-clause-answer : goal.returns-in-Ok-clause-answer
returns-in-Ok-clause-answer c = whole_answer c.args.plan (lists_seen c.args.older) c.in-Ok.answer c.in-Ok.ensures.answer

pub returns-in-Err-clause-refused : goal.returns-in-Err-clause-refused
returns-in-Err-clause-refused c = λ memory.
    whole_refused c.args.plan (lists_seen c.args.older) c.get_fault.result
    (subst (λ (e : Error). e.kind ≢ OutOfMemory → IsUncomparedWhole (lists_seen c.args.older) c.args.plan e) (sym c.get_fault.ensures.error) c.in-Err.ensures.refused memory)
    c.get_fault.ensures.note

pub returns-in-Err-clause-blamed : goal.returns-in-Err-clause-blamed
returns-in-Err-clause-blamed c =
    whole_blamed c.args.plan (lists_seen c.args.older) c.get_fault.result
    (c.get_fault.ensures.blamed ∙ (c.compare_blamed.ensures ∙ sym (ap (λ (e : Error). compare_blamed e.kind) c.get_fault.ensures.error)))
