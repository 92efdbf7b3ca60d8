-- The list is set, or it is too deep for a reader.
use Rattle.std.proofs.Common.{ap, refl, ◌∙◌}
use Rattle.capnp_wire.specs.Standing.{list_of}
use Rattle.capnp_arena.specs.Built.{built_at}
use Rattle.capnp_arena.specs.Message.{message_tree}
use Rattle.capnp_arena.specs.Segment.{segment}
use Rattle.capnp_schema.specs.Types.{seen_type}
use Rattle.capnp_call.specs.Seen.{path_seen, reply_seen}
use Rattle.capnp_edit_calls.specs.ChangesSeen.{change_seen}
use Rattle.capnp_edit_calls.proofs.Found.{deep, edited, stopped}
use Rattle.capnp_edit_calls.proofs.edit.set_made.Goals as goal

pub returns-in-Ok-clause-edits : goal.returns-in-Ok-clause-edits
returns-in-Ok-clause-edits c =
    edited c.args.schema (built_at c.args.arena.now c.args.place) (built_at c.make_call.new.arena c.args.place) (path_seen c.args.edit.now.path.now) (change_seen c.args.edit.now.change) (reply_seen c.make_call.result)
    (segment c.args.arena.now) (segment c.make_call.new.arena) (seen_type c.args.made.now.element) (message_tree c.args.made.now.list) c.new-list.result c.requires.made
    (ap list_of c.new-list.ensures.reader ∙ c.in-Ok.ensures.list) (ap seen_type c.new-list.ensures.element) c.make_call.ensures.made

pub returns-in-Err-clause-edits : goal.returns-in-Err-clause-edits
returns-in-Err-clause-edits c =
    let s = built_at c.args.arena.now c.args.place in
    let bytes = segment c.args.arena.now in
    stopped c.args.schema s s (path_seen c.args.edit.now.path.now) (change_seen c.args.edit.now.change) _ bytes bytes c.in-Err.error.kind refl
    (λ other. deep c.args.schema s (path_seen c.args.edit.now.path.now) (change_seen c.args.edit.now.change) (seen_type c.args.made.now.element) (message_tree c.args.made.now.list) c.in-Err.error.kind c.requires.made c.in-Err.ensures.cause c.in-Err.ensures.deep)
    refl
