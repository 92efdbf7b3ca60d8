-- The struct is entered as it is.
use Rattle.capnp_arena.specs.Built.{built_at}
use Rattle.capnp_call.proofs.Behind.{group_goes}
use Rattle.capnp_call.proofs.enter.enter_group.Goals as goal

pub returns : goal.returns
returns c = group_goes c.args.field (built_at c.args.arena.now c.args.place) c.requires.group c.requires.walked
