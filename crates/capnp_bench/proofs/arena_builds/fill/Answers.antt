use Rattle.capnp_arena.specs.Shape.{StructIn}
use Rattle.capnp_bench.proofs.ArenaItems.{six}
use Rattle.capnp_bench.proofs.arena_builds.fill.Goals as goal

pub returns-clause-changes : goal.returns-clause-changes
returns-clause-changes c = six (StructIn c.args.start 2 2) _ _ _ _ _ _ _ c.put.ensures.changes c.put_flag.ensures.changes c.put-2.ensures.changes c.put-3.ensures.changes c.put-4.ensures.changes c.put_text.ensures.changes
