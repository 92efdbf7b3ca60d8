use Rattle.std.proofs.Common.{ℕ, ◌<◌}
use Rattle.capnp_schema.specs.Schema.{node_of, field_at}
use Rattle.capnp_schema.specs.Entries.{lists_seen}
use Rattle.capnp_schema.specs.Steps.Checking.Fields.{FieldStands}
use Rattle.capnp_schema.proofs.check.fields.check_fields_of.Given as goal

abbrev pub invariant-loop-i : goal.invariant-loop-i
invariant-loop-i l = (k : ℕ) → k < l.i → FieldStands (lists_seen l.lists) (node_of (lists_seen l.lists) l.brand) (field_at (lists_seen l.lists) l.brand k)
