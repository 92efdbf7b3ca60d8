use Rattle.std.proofs.Common.{map}
use Rattle.capnp_check.specs.Faults.{part_told}
use Rattle.capnp_check.proofs.FramesTold.{told_none}
use Rattle.capnp_check.proofs.visits.tell_refused.Goals as goal

pub returns-in-None-clause-told : goal.returns-in-None-clause-told
returns-in-None-clause-told c = λ set are. told_none set c.args.frames.now.items c.args.part (map part_told c.args.places.now.items) c.in-None.ensures
