use Rattle.std.proofs.Common.{[]}
use Rattle.capnp_schema.specs.Entries.{lists_seen}
use Rattle.capnp_differences.specs.Steps.Edges.{AreChained, Joins}
use Rattle.capnp_differences.proofs.Edges.{IsNamedBelow}
use Rattle.capnp_differences.proofs.namers.namers_among.Given as goal

abbrev pub invariant-loop-i : goal.invariant-loop-i
invariant-loop-i l = AreChained l.namers × Joins [] l.namers.edges.items (IsNamedBelow (lists_seen l.schemas) l.pairs l.i)
