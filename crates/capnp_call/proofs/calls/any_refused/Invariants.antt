-- One of the replies that are left was refused, or none of all.
use Rattle.std.proofs.Common.{◌≡◌, drop}
use Rattle.capnp_call.specs.Refusals.{any_refused}
use Rattle.capnp_call.proofs.calls.any_refused.Given as goal

abbrev pub invariant-loop-index : goal.invariant-loop-index
invariant-loop-index l = any_refused (drop l.index l.replies) ≡ any_refused l.replies
