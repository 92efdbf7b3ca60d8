-- The acts so far, and those that are left, are those that were read.
use Rattle.std.proofs.Common.{◌≡◌, ◌++◌, drop, map}
use Rattle.capnp_edit_calls.specs.ActsSeen.{act_seen}
use Rattle.riftcalico_core.specs.CallsSeen.{read_act_seen}
use Rattle.riftcalico_core.proofs.calls.make_acts.Given as goal

abbrev pub invariant-loop-index : goal.invariant-loop-index
invariant-loop-index l = map act_seen l.acts.items ++ map read_act_seen (drop l.index l.read) ≡ map read_act_seen l.read
