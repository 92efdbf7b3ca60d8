-- The last step and those before it are the path.
use Rattle.capnp_call.specs.Seen.{op_seen, step_seen}
use Rattle.capnp_edit_calls.proofs.Found.{seen_along}
use Rattle.capnp_edit_calls.proofs.edit.call_along.Goals as goal

pub returns-in-Some : goal.returns-in-Some
returns-in-Some c = seen_along step_seen (op_seen c.args.op) c.args.path.now c.in-Some.front.now c.in-Some.last.now (let h = c.in-Some.ensures.cases in h.0)
