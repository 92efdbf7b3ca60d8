-- The calls so far were made, and there is room for the other replies.
use Rattle.std.proofs.Common.{◌≡◌, ◌≤◌, length, take, vec_len}
use Rattle.std.specs.Vec.{vec_capacity}
use Rattle.capnp_schema.specs.StructHandles.{number_of, set_of}
use Rattle.capnp_arena.specs.Built.{ChangesIn, built_at}
use Rattle.capnp_slots.specs.Standing.{IsStanding}
use Rattle.capnp_call.specs.Runs.{MakesCalls}
use Rattle.capnp_call.proofs.runs.make_calls.Given as goal

abbrev pub invariant-loop-call : goal.invariant-loop-call
invariant-loop-call l = record {
  made : MakesCalls (set_of l.schema) (number_of l.schema) (built_at l.fn.arena l.place) (take l.call-index l.calls) l.replies.items (built_at l.arena l.place);
  standing : IsStanding l.schema l.arena l.place;
  changes : ChangesIn l.place l.fn.arena l.arena;
  capacity : length l.calls ≤ vec_capacity l.replies;
  count : vec_len l.replies ≡ l.call-index;
}
