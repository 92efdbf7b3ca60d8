-- The copy is the root that the acts start from.
use Rattle.std.proofs.Common.{subst}
use Rattle.capnp_wire.specs.Edits.{struct_in}
use Rattle.capnp_wire.specs.Tree.{StructTree}
use Rattle.capnp_arena.specs.Message.{message_tree}
use Rattle.capnp_schema.specs.Ranges.{HasRanges}
use Rattle.capnp_call.specs.Messages.{copied_record, copied_root}
use Rattle.capnp_edit_calls.specs.ActsMade.{ActsMade}
use Rattle.capnp_edit_calls.proofs.Left.{acts_left, start_reads}
use Rattle.capnp_edit_calls.proofs.Roots.{copied_room, root_is, start_is}
use Rattle.capnp_edit_calls.proofs.message.run_acts_copied.Goals as goal

pub run_acts-requires-clause-root : goal.run_acts-requires-clause-root
run_acts-requires-clause-root c =
    root_is c.args.schema (copied_root c.args.schema c.args.source) _ c.in_ok-message.field-0.replies.items (message_tree c.in_ok-message.field-0.message) (copied_room c.args.schema c.args.source) c.in_ok-message.ensures.run c.in_ok-message.ensures.made

pub returns-clause-made : goal.returns-clause-made
returns-clause-made c =
    subst (λ (s : StructTree). ActsMade c.args.schema s c.args.acts.now c.in_ok-replies.replies.items (struct_in (message_tree c.run_acts.new.message)))
    (start_is c.args.schema (copied_root c.args.schema c.args.source) c.in_ok-message.field-0.replies.items (message_tree c.in_ok-message.field-0.message) c.in_ok-message.ensures.made) c.in_ok-replies.ensures.made

pub returns-clause-left : goal.returns-clause-left
returns-clause-left c =
    let start = copied_root c.args.schema c.args.source in
    let r = copied_record c.args.schema c.args.source in
    let t = message_tree c.in_ok-message.field-0.message in
    let replies = c.in_ok-message.field-0.replies.items in
    acts_left c.args.schema c.requires (subst HasRanges c.get_set.ensures c.numbers_fit.ensures) c.overlay_law.ensures c.acts_law.ensures start (copied_room c.args.schema c.args.source) r (message_tree c.run_acts.new.message) c.args.acts.now c.in_ok-replies.replies.items
    (start_reads c.args.schema start r replies t c.in_ok-message.ensures.run c.in_ok-message.ensures.made) c.run_acts.ensures.root
    (subst (λ (s : StructTree). ActsMade c.args.schema s c.args.acts.now c.in_ok-replies.replies.items (struct_in (message_tree c.run_acts.new.message)))
    (start_is c.args.schema start replies t c.in_ok-message.ensures.made) c.in_ok-replies.ensures.made)
