use Rattle.std.proofs.Common.{◌-◌, ◌*◌, length}
use Rattle.capnp_schema.specs.Entries.{lists_seen}
use Rattle.capnp_differences.proofs.Marking.{Spreading}
use Rattle.capnp_differences.proofs.marks.reaching.Given as goal

abbrev pub invariant-loop-next : goal.invariant-loop-next
invariant-loop-next l = Spreading (lists_seen l.schemas) l.pairs l.told l.next l.marked

-- no more pairs are marked than there are pairs of brands
abbrev pub decreases-loop-next : goal.decreases-loop-next
decreases-loop-next l = length (lists_seen l.schemas).brands * length (lists_seen l.schemas).brands - l.next
