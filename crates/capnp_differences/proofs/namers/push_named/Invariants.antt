use Rattle.capnp_schema.specs.Entries.{lists_seen}
use Rattle.capnp_differences.specs.Steps.Edges.{AreChained, IsNamedBy, Joins}
use Rattle.capnp_differences.proofs.namers.push_named.Given as goal

abbrev pub invariant-loop-i : goal.invariant-loop-i
invariant-loop-i l = AreChained l.namers × Joins l.initial.namers.edges.items l.namers.edges.items (IsNamedBy (lists_seen l.schemas) l.namer l.i)
