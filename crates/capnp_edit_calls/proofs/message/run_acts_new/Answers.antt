-- The empty root is the one that the acts start from.
use Rattle.std.proofs.Common.{subst}
use Rattle.capnp_wire.specs.Edits.{struct_in}
use Rattle.capnp_wire.specs.Tree.{StructTree}
use Rattle.capnp_arena.specs.Message.{message_tree}
use Rattle.capnp_schema.specs.Ranges.{HasRanges}
use Rattle.capnp_call.specs.Messages.{new_record, new_root}
use Rattle.capnp_edit_calls.specs.ActsMade.{ActsMade}
use Rattle.capnp_edit_calls.proofs.Left.{acts_left, start_reads}
use Rattle.capnp_edit_calls.proofs.Roots.{new_room, root_is, start_is}
use Rattle.capnp_edit_calls.proofs.message.run_acts_new.Goals as goal

pub run_acts-requires-clause-root : goal.run_acts-requires-clause-root
run_acts-requires-clause-root c =
    root_is c.args.schema (new_root c.args.schema) _ c.in_ok-message.field-0.replies.items (message_tree c.in_ok-message.field-0.message) (new_room c.args.schema) c.in_ok-message.ensures.run c.in_ok-message.ensures.made

pub returns-clause-made : goal.returns-clause-made
returns-clause-made c =
    subst (λ (s : StructTree). ActsMade c.args.schema s c.args.acts.now c.in_ok-replies.replies.items (struct_in (message_tree c.run_acts.new.message)))
    (start_is c.args.schema (new_root c.args.schema) c.in_ok-message.field-0.replies.items (message_tree c.in_ok-message.field-0.message) c.in_ok-message.ensures.made) c.in_ok-replies.ensures.made

pub returns-clause-left : goal.returns-clause-left
returns-clause-left c =
    let start = new_root c.args.schema in
    let t = message_tree c.in_ok-message.field-0.message in
    let replies = c.in_ok-message.field-0.replies.items in
    acts_left c.args.schema c.requires (subst HasRanges c.get_set.ensures c.numbers_fit.ensures) c.overlay_law.ensures c.acts_law.ensures start (new_room c.args.schema) (new_record c.args.schema) (message_tree c.run_acts.new.message) c.args.acts.now c.in_ok-replies.replies.items
    (start_reads c.args.schema start (new_record c.args.schema) replies t c.in_ok-message.ensures.run c.in_ok-message.ensures.made) c.run_acts.ensures.root
    (subst (λ (s : StructTree). ActsMade c.args.schema s c.args.acts.now c.in_ok-replies.replies.items (struct_in (message_tree c.run_acts.new.message)))
    (start_is c.args.schema start replies t c.in_ok-message.ensures.made) c.in_ok-replies.ensures.made)
