-- A length is asked for, or a text.
use Rattle.std.proofs.Common.{Bool, IfErr, subst, sym, ◌≢◌}
use Rattle.capnp_call.specs.Seen.{path_seen}
use Rattle.capnp_device.specs.declared.error.ErrorKind.TheVariants.{OutOfMemory}
use Rattle.riftcalico_core.specs.Gets.{IsWithoutText}
use Rattle.riftcalico_core.proofs.get.get_query_text.Goals as goal

pub returns-then-query-clause-refused : goal.returns-then-query-clause-refused
returns-then-query-clause-refused c =
    subst (λ (q : Bool). IfErr c.get_count.result (λ f. f.error.kind ≢ OutOfMemory → IsWithoutText q c.args.limit c.args.job.now c.args.message.now (path_seen c.args.query.now.steps.items) f)) (sym c.if-query.true)
    (rw c.deref.ensures.value at c.get_count.ensures.refused)

pub returns-else-query-clause-refused : goal.returns-else-query-clause-refused
returns-else-query-clause-refused c =
    subst (λ (q : Bool). IfErr c.get_text.result (λ f. f.error.kind ≢ OutOfMemory → IsWithoutText q c.args.limit c.args.job.now c.args.message.now (path_seen c.args.query.now.steps.items) f)) (sym c.if-query.false)
    (rw c.deref-else-query.ensures.value at c.get_text.ensures.refused)
