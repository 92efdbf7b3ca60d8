-- What the loop does.
use Rattle.capnp_arena.specs.Built.{built_at}
use Rattle.capnp_call.proofs.NoMemory.{path_rests}
use Rattle.capnp_call.proofs.walk.walk.Goals as goal

pub returns-clause-rests : goal.returns-clause-rests
returns-clause-rests c =
    path_rests c.args.schema c.args.path.now c.args.end (built_at c.args.arena.now c.args.place) c.walk_all.new.reply (built_at c.walk_all.new.arena c.args.place) c.walk_all.ensures.walks
