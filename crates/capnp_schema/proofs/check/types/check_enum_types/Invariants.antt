use Rattle.capnp_schema.specs.Schema.{Enum}
use Rattle.capnp_schema.specs.Accepted.{TypesName}
use Rattle.capnp_schema.specs.Entries.{lists_seen}
use Rattle.capnp_schema.proofs.EntryWalk.{StandBelow}
use Rattle.capnp_schema.proofs.check.types.check_enum_types.Given as goal

abbrev pub invariant-loop-e : goal.invariant-loop-e
invariant-loop-e l = StandBelow (lists_seen l.lists).enums (λ (x : Enum). TypesName (lists_seen l.lists) x.annotation_types) l.e
