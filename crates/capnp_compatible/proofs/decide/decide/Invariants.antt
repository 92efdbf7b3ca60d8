use Rattle.std.proofs.Common.{◌-◌, ◌*◌, length}
use Rattle.capnp_schema.specs.Entries.{lists_seen}
use Rattle.capnp_compatible.proofs.Walking.{Walking}
use Rattle.capnp_compatible.proofs.decide.decide.Given as goal

abbrev pub invariant-loop-next : goal.invariant-loop-next
invariant-loop-next l = Walking l.lists (lists_seen l.schemas) l.older l.newer l.next l.pairs

-- no more pairs are looked at than there are pairs of brands
abbrev pub decreases-loop-next : goal.decreases-loop-next
decreases-loop-next l = length (lists_seen l.schemas).brands * length (lists_seen l.schemas).brands - l.next
