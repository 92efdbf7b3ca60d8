-- Why the value has no JSON is the reason.
use Rattle.capnp_call.specs.Seen.{path_seen}
use Rattle.riftcalico_core.proofs.JsonTold.{without_value}
use Rattle.riftcalico_core.proofs.json.get_value_json.Goals as goal

pub returns-in-Err-Value-clause-refused : goal.returns-in-Err-Value-clause-refused
returns-in-Err-Value-clause-refused c =
    let none = rw c.in-Err-Value.field-0-is at c.in-Err-Value.ensures.refused in
    without_value c.args.job.now c.args.message.now (path_seen c.args.steps.now) c.args.limit c.in-Err-Value.error c.find_reason.result none.2 c.find_reason.ensures
