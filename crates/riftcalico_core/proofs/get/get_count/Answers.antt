-- Why there is no length is told.
use Rattle.capnp_call.specs.Seen.{path_seen}
use Rattle.riftcalico_core.proofs.Unreached.{uncounted}
use Rattle.riftcalico_core.proofs.get.get_count.Goals as goal

pub returns-in-Err-clause-refused : goal.returns-in-Err-clause-refused
returns-in-Err-clause-refused c = λ memory.
    uncounted c.args.limit c.args.schema c.args.message.now (path_seen c.args.steps.now) c.in-Err.why c.explain_length.result c.in-Err.ensures.refused (c.explain_length.ensures.told memory)
