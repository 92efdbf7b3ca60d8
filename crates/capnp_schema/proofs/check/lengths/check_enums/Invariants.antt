use Rattle.capnp_schema.specs.Accepted.{EnumHasTypes}
use Rattle.capnp_schema.specs.Entries.{lists_seen}
use Rattle.capnp_schema.proofs.EntryWalk.{StandBelow}
use Rattle.capnp_schema.proofs.check.lengths.check_enums.Given as goal

abbrev pub invariant-loop-e : goal.invariant-loop-e
invariant-loop-e l = StandBelow (lists_seen l.lists).enums EnumHasTypes l.e
