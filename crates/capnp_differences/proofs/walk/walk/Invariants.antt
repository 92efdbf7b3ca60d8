use Rattle.std.proofs.Common.{◌-◌, ◌*◌, length}
use Rattle.capnp_schema.specs.Entries.{lists_seen}
use Rattle.capnp_differences.proofs.Comparisons.{Comparing}
use Rattle.capnp_differences.proofs.walk.walk.Given as goal

abbrev pub invariant-loop-next : goal.invariant-loop-next
invariant-loop-next l = Comparing (lists_seen l.schemas) l.initial.pairs l.next l.pairs l.told.items

-- no more pairs are looked at than there are pairs of brands
abbrev pub decreases-loop-next : goal.decreases-loop-next
decreases-loop-next l = length (lists_seen l.schemas).brands * length (lists_seen l.schemas).brands - l.next
