use Rattle.std.proofs.Common.{map}
use Rattle.capnp_schema.proofs.EntryWalk.{StandBelow}
use Rattle.capnp_schema.proofs.check.entries.broken_entry.Given as goal

abbrev pub invariant-loop-i : goal.invariant-loop-i
invariant-loop-i g l = StandBelow (map g.E.Asked.seen l.entries) g.E.Asked.is_met l.i
