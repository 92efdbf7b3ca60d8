use Rattle.std.proofs.Common.{◌<◌, length}
use Rattle.capnp_schema.specs.Entries.{lists_seen}
use Rattle.capnp_schema.proofs.Checking.GroupChains.{StepsUp}
use Rattle.capnp_schema.proofs.check.groups.stands_in_struct.Given as goal

-- so many steps lead to where the walk stands, which is a brand
abbrev pub invariant-loop : goal.invariant-loop
invariant-loop l = record { steps : StepsUp l.counter (lists_seen l.lists) l.group l.at; within : l.at < length (lists_seen l.lists).brands }
