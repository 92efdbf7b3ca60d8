use Rattle.capnp_schema.specs.Accepted.{EachOfEnum, HaveWords, NodeHasWords}
use Rattle.capnp_schema.specs.Entries.{lists_seen}
use Rattle.capnp_schema.proofs.EntryWalk.{StandBelow}
use Rattle.capnp_schema.proofs.check.values.check_words.Given as goal

abbrev pub invariant-loop-n : goal.invariant-loop-n
invariant-loop-n l = StandBelow (lists_seen l.lists).nodes NodeHasWords l.n

abbrev pub invariant-loop-e : goal.invariant-loop-e
invariant-loop-e l = StandBelow (lists_seen l.lists).enums (EachOfEnum HaveWords) l.e
