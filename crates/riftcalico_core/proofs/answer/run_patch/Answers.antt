use Rattle.riftcalico_core.proofs.Roomless.{unpatched}
use Rattle.riftcalico_core.proofs.answer.run_patch.Goals as goal

pub returns-in-Err-clause-refused : goal.returns-in-Err-clause-refused
returns-in-Err-clause-refused c =
    unpatched c.args.job.now.limit c.args.message.now c.in-Err.error.kind c.tell_room.result.kind c.in-Err.ensures.refused c.tell_room.ensures.same c.tell_room.ensures.told
