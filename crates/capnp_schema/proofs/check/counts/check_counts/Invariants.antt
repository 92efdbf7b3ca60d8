use Rattle.capnp_schema.specs.Accepted.{HasFewEnumerants, HasFewFields}
use Rattle.capnp_schema.specs.Entries.{lists_seen}
use Rattle.capnp_schema.proofs.EntryWalk.{StandBelow}
use Rattle.capnp_schema.proofs.check.counts.check_counts.Given as goal

abbrev pub invariant-loop-n : goal.invariant-loop-n
invariant-loop-n l = StandBelow (lists_seen l.lists).nodes HasFewFields l.n

abbrev pub invariant-loop-e : goal.invariant-loop-e
invariant-loop-e l = StandBelow (lists_seen l.lists).enums HasFewEnumerants l.e
