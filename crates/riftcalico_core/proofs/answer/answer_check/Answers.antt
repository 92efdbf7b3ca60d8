-- The first refusal is told where not all are.
use Rattle.std.proofs.Common.{Bool, IfErr, subst, sym, ◌≢◌}
use Rattle.capnp_call.specs.Seen.{path_seen}
use Rattle.capnp_device.specs.declared.error.ErrorKind.TheVariants.{OutOfMemory}
use Rattle.riftcalico_core.specs.Answers.{IsUnlooked}
use Rattle.riftcalico_core.proofs.answer.answer_check.Goals as goal

pub returns-else-job-clause-refused : goal.returns-else-job-clause-refused
returns-else-job-clause-refused c =
    let j = c.args.job.now in
    subst (λ (q : Bool). IfErr c.answer_shown.result (λ f. f.error.kind ≢ OutOfMemory → IsUnlooked q j.limit j.schema (path_seen j.steps.items) c.args.message.now f)) (sym c.if-job.false)
    c.answer_shown.ensures.refused
