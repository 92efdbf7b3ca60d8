use Rattle.capnp_schema.specs.Entries.{lists_seen}
use Rattle.capnp_schema.specs.Schema.{fields_of}
use Rattle.capnp_schema.specs.Accepted.{ReadsDefault}
use Rattle.capnp_schema.proofs.EntryWalk.{StandBelow}
use Rattle.capnp_schema.proofs.check.list_defaults.check_brand_defaults.Given as goal

abbrev pub invariant-loop-i : goal.invariant-loop-i
invariant-loop-i l = StandBelow (fields_of (lists_seen l.lists) l.brand) ReadsDefault l.i
