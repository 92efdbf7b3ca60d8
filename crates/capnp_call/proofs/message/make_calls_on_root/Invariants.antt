-- The calls so far were made on the root, and there is room for the other replies.
use Rattle.std.proofs.Common.{◌≡◌, ◌≤◌, IsTrue, length, take, vec_len}
use Rattle.std.specs.Vec.{vec_capacity}
use Rattle.capnp_wire.specs.Edits.{is_struct, struct_in}
use Rattle.capnp_arena.specs.Message.{IsMessage, message_tree}
use Rattle.capnp_schema.specs.StructHandles.{number_of, set_of}
use Rattle.capnp_slots.specs.Standing.{IsUnder}
use Rattle.capnp_call.specs.Runs.{MakesCalls}
use Rattle.capnp_call.proofs.message.make_calls_on_root.Given as goal

abbrev pub invariant-loop-call : goal.invariant-loop-call
invariant-loop-call l = record {
  made : MakesCalls (set_of l.schema) (number_of l.schema) (struct_in (message_tree l.fn.message)) (take l.call-index l.calls) l.replies.items (struct_in (message_tree l.message));
  message : IsMessage l.message;
  here : IsTrue (is_struct (message_tree l.message));
  room : IsUnder l.schema (struct_in (message_tree l.message));
  capacity : length l.calls ≤ vec_capacity l.replies;
  count : vec_len l.replies ≡ l.call-index;
}
