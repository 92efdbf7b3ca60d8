use Rattle.capnp_schema.specs.Accepted.{HasEachMember}
use Rattle.capnp_schema.specs.Entries.{lists_seen}
use Rattle.capnp_schema.proofs.EntryWalk.{StandBelow}
use Rattle.capnp_schema.proofs.check.unions.check_unions.Given as goal

abbrev pub invariant-loop-n : goal.invariant-loop-n
invariant-loop-n l = StandBelow (lists_seen l.lists).nodes HasEachMember l.n
