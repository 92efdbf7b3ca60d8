use Rattle.capnp_schema.specs.Entries.{lists_seen}
use Rattle.capnp_differences.specs.Steps.Comparing.{Adds, IsNamed}
use Rattle.capnp_differences.proofs.named.add_named.Given as goal

abbrev pub invariant-loop-i : goal.invariant-loop-i
invariant-loop-i l = Adds l.initial.pairs l.pairs (IsNamed (lists_seen l.schemas) l.older l.newer l.i)
