-- Why there is no length is the reason.
use Rattle.std.proofs.Common.{Bool, subst, sym}
use Rattle.capnp_call.specs.Seen.{path_seen}
use Rattle.riftcalico_core.specs.Json.{IsWithoutJson}
use Rattle.riftcalico_core.proofs.json.get_query_json.Goals as goal

pub returns-in-Err-clause-refused : goal.returns-in-Err-clause-refused
returns-in-Err-clause-refused c = (
  c.in-Err.ensures.blamed,
  λ memory.
      subst (λ (q : Bool). IsWithoutJson q c.args.limit c.args.job.now c.args.message.now (path_seen c.args.query.now.steps.items) c.in-Err.fault) (sym c.if-query.true)
      ((rw c.deref.ensures.value at c.in-Err.ensures.refused) memory),
)
