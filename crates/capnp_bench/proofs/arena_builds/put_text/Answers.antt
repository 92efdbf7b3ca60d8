use Rattle.capnp_arena.specs.Segment.{segment}
use Rattle.capnp_bench.proofs.ArenaItems.{text_put}
use Rattle.capnp_bench.proofs.arena_builds.put_text.Goals as goal

pub returns-clause-item : goal.returns-clause-item
returns-clause-item c = (text_put c.set_text.result c.args.start (segment c.args.arena.now) (segment c.set_text.new.self) c.requires.item c.set_text.ensures.forest c.set_text.ensures.changes c.set_text.ensures.refused).item

pub returns-clause-changes : goal.returns-clause-changes
returns-clause-changes c = (text_put c.set_text.result c.args.start (segment c.args.arena.now) (segment c.set_text.new.self) c.requires.item c.set_text.ensures.forest c.set_text.ensures.changes c.set_text.ensures.refused).changes
