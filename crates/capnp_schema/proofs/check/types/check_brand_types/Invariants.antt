use Rattle.capnp_schema.specs.Schema.{Brand}
use Rattle.capnp_schema.specs.Accepted.{TypesName}
use Rattle.capnp_schema.specs.Entries.{lists_seen}
use Rattle.capnp_schema.proofs.EntryWalk.{StandBelow}
use Rattle.capnp_schema.proofs.check.types.check_brand_types.Given as goal

abbrev pub invariant-loop-brand : goal.invariant-loop-brand
invariant-loop-brand l = StandBelow (lists_seen l.lists).brands (λ (x : Brand). TypesName (lists_seen l.lists) x.annotation_types) l.brand
