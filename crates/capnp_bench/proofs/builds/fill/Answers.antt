-- Each of the six settings changes words of the item alone, and one after another they do too.
use Rattle.std.proofs.Common.{rules}
use Rattle.capnp_arena.specs.Handles.{handle_words}
use Rattle.capnp_arena.specs.Segment.{segment}
use Rattle.capnp_bench.proofs.ArenaItems.{six}
use Rattle.capnp_bench.proofs.builds.fill.Goals as goal

pub returns-clause-changes : goal.returns-clause-changes
returns-clause-changes c =
    six (handle_words c.args.item.now.place) _ (segment c.set_data_field.new.self.arena.now) (segment c.set_bool_field.new.self.arena.now) (segment c.set_data_field-2.new.self.arena.now)
    (segment c.set_data_field-3.new.self.arena.now) (segment c.set_data_field-4.new.self.arena.now) _
    c.set_data_field.ensures.changes (search rules) (search rules) (search rules) (search rules) (search rules)
