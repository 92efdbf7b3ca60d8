-- So many were put there, and there is room for the others.
use Rattle.std.proofs.Common.{◌+◌, ◌++◌, ◌≡◌, ◌≤◌, replicate, vec_len}
use Rattle.std.specs.Vec.{vec_capacity}
use Rattle.capnp_call.specs.declared.calls.Reply.TheVariants as reply
use Rattle.capnp_edit_calls.proofs.runs.push_done.Given as goal

abbrev pub invariant-loop-index : goal.invariant-loop-index
invariant-loop-index l = record {
  items : l.replies.items ≡ l.fn.replies.items ++ replicate l._index reply.Done;
  count : vec_len l.replies ≡ vec_len l.fn.replies + l._index;
  capacity : vec_capacity l.fn.replies ≤ vec_capacity l.replies;
}
