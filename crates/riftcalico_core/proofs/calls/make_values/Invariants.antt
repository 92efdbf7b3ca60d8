-- The values so far, and those that are left, are those that were read.
use Rattle.std.proofs.Common.{◌≡◌, ◌++◌, drop, map}
use Rattle.capnp_edit_calls.specs.ChangesSeen.{sources_of}
use Rattle.riftcalico_core.specs.CallsSeen.{given_source}
use Rattle.riftcalico_core.proofs.calls.make_values.Given as goal

abbrev pub invariant-loop-call : goal.invariant-loop-call
invariant-loop-call l = sources_of l.values.items ++ map given_source (drop l.call-index l.read) ≡ map given_source l.read
