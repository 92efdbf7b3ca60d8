-- A struct of the schema's sections has room for the group.
use Rattle.capnp_arena.specs.Built.{built_at}
use Rattle.capnp_bench.proofs.sets.start.Goals as goal

pub init-requires-clause-room : goal.init-requires-clause-room
init-requires-clause-room c = c.requires.lies (built_at c.args.arena.now c.args.place) c.requires.standing.room
