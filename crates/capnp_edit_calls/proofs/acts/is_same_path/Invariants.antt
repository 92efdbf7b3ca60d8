-- The steps so far are the same.
use Rattle.std.proofs.Common.{◌≡◌, take}
use Rattle.capnp_call.specs.Seen.{path_seen}
use Rattle.capnp_edit_calls.proofs.acts.is_same_path.Given as goal

abbrev pub invariant-loop-index : goal.invariant-loop-index
invariant-loop-index l = path_seen (take l.index l.a) ≡ path_seen (take l.index l.b)
