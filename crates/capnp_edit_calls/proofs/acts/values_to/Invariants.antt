-- The acts so far append the values.
use Rattle.std.proofs.Common.{◌≡◌, take, vec_len}
use Rattle.capnp_call.specs.Seen.{path_seen}
use Rattle.capnp_edit_calls.specs.ActsMade.{AreAppends}
use Rattle.capnp_edit_calls.specs.ChangesSeen.{sources_of}
use Rattle.capnp_edit_calls.proofs.acts.values_to.Given as goal

abbrev pub invariant-loop-index : goal.invariant-loop-index
invariant-loop-index l = record {
  count : vec_len l.values ≡ l.index;
  appends : AreAppends (path_seen l.path) (sources_of l.values.items) (take l.index l.acts);
}
