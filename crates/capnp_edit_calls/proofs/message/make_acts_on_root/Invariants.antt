-- The acts so far were made on the root, and there is room for the other replies.
use Rattle.std.proofs.Common.{◌-◌, ◌≡◌, ◌≤◌, IsTrue, length, take, vec_len}
use Rattle.std.specs.Vec.{vec_capacity}
use Rattle.capnp_wire.specs.Edits.{is_struct, struct_in}
use Rattle.capnp_arena.specs.Message.{IsMessage, message_tree}
use Rattle.capnp_slots.specs.Standing.{IsUnder}
use Rattle.capnp_edit_calls.specs.ActsMade.{ActsMade}
use Rattle.capnp_edit_calls.proofs.message.make_acts_on_root.Given as goal

abbrev pub decreases-loop-made : goal.decreases-loop-made
decreases-loop-made l = length l.acts - l.made

abbrev pub invariant-loop-made : goal.invariant-loop-made
invariant-loop-made l = record {
  acts_made : ActsMade l.schema (struct_in (message_tree l.fn.message)) (take l.made l.acts) l.replies.items (struct_in (message_tree l.message));
  message : IsMessage l.message;
  here : IsTrue (is_struct (message_tree l.message));
  room : IsUnder l.schema (struct_in (message_tree l.message));
  within : l.made ≤ length l.acts;
  capacity : length l.acts ≤ vec_capacity l.replies;
  count : vec_len l.replies ≡ l.made;
}
