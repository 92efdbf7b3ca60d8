use Rattle.capnp_schema.specs.Accepted.{DiscriminantFits}
use Rattle.capnp_schema.specs.Entries.{lists_seen}
use Rattle.capnp_schema.proofs.EntryWalk.{StandBelow}
use Rattle.capnp_schema.proofs.check.unions.check_discriminants.Given as goal

abbrev pub invariant-loop-n : goal.invariant-loop-n
invariant-loop-n l = StandBelow (lists_seen l.lists).nodes DiscriminantFits l.n
