use Rattle.capnp_schema.specs.Entries.{lists_seen}
use Rattle.capnp_compatible.proofs.Growth.{Grown}
use Rattle.capnp_compatible.proofs.named.add_named.Given as goal

abbrev pub invariant-loop-i : goal.invariant-loop-i
invariant-loop-i l = Grown l.lists (lists_seen l.schemas) l.older l.newer l.i l.initial.pairs l.pairs
