use Rattle.capnp_schema.specs.Accepted.{AllName}
use Rattle.capnp_schema.specs.Steps.Checking.Types.{seen_children}
use Rattle.capnp_schema.specs.Entries.{lists_seen}
use Rattle.capnp_schema.proofs.EntryWalk.{StandBelow}
use Rattle.capnp_schema.proofs.check.types.unnamed_child.Given as goal

abbrev pub invariant-loop-i : goal.invariant-loop-i
invariant-loop-i l = StandBelow (seen_children l.children) (AllName (lists_seen l.lists)) l.i
