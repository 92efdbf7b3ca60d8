use Rattle.std.proofs.Common.{All, ℕ, ◌<◌}
use Rattle.capnp_schema.specs.Entries.{lists_seen}
use Rattle.capnp_schema.specs.Schema.{fields_of}
use Rattle.capnp_schema.specs.Accepted.{ReadsDefault}
use Rattle.capnp_schema.proofs.check.list_defaults.check_list_defaults.Given as goal

abbrev pub invariant-loop-b : goal.invariant-loop-b
invariant-loop-b l = (b : ℕ) → b < l.b → All ReadsDefault (fields_of (lists_seen l.lists) b)
