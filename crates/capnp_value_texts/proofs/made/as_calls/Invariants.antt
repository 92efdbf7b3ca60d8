-- The calls so far are those of what was made so far.
use Rattle.std.proofs.Common.{◌≡◌, map, take}
use Rattle.capnp_call.specs.Seen.{call_seen}
use Rattle.capnp_value_texts.specs.Made.{made_call}
use Rattle.capnp_value_texts.proofs.made.as_calls.Given as goal

abbrev pub invariant-loop-one : goal.invariant-loop-one
invariant-loop-one l = map call_seen l.calls.items ≡ map made_call (take l.one-index l.made)
