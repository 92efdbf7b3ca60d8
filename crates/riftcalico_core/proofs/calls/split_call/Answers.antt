-- The last step and those before it are the path.
use Rattle.std.proofs.Common.{ap}
use Rattle.capnp_call.specs.Seen.{op_seen, step_seen}
use Rattle.capnp_edit_calls.specs.ActsSeen.{CallAct}
use Rattle.riftcalico_core.proofs.CallsGiven.{split_seen}
use Rattle.riftcalico_core.proofs.calls.split_call.Goals as goal

pub returns-in-Some : goal.returns-in-Some
returns-in-Some c = ap CallAct (split_seen step_seen (op_seen c.args.op) c.args.steps.now c.in-Some.path.now c.in-Some.last.now (let h = c.in-Some.ensures.cases in h.0))
