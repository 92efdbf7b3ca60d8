-- The calls so far are those of the changes so far.
use Rattle.std.proofs.Common.{◌≡◌, map, take}
use Rattle.capnp_call.specs.Seen.{call_seen}
use Rattle.capnp_diffs.specs.Found.{change_call}
use Rattle.capnp_diffs.proofs.change.as_calls.Given as goal

abbrev pub invariant-loop-change : goal.invariant-loop-change
invariant-loop-change l = map call_seen l.calls.items ≡ map change_call (take l.change-index l.changes)
