use Rattle.std.proofs.Common.{ℕ, ◌<◌, length}
use Rattle.capnp_schema.specs.Schema.{node_of, fields_of, field_at}
use Rattle.capnp_schema.specs.Entries.{lists_seen}
use Rattle.capnp_schema.specs.Steps.Checking.Fields.{FieldStands}
use Rattle.capnp_schema.proofs.check.fields.check_fields.Given as goal

abbrev pub invariant-loop-brand : goal.invariant-loop-brand
invariant-loop-brand l = (b : ℕ) → b < l.brand → (k : ℕ) → k < length (fields_of (lists_seen l.lists) b) → FieldStands (lists_seen l.lists) (node_of (lists_seen l.lists) b) (field_at (lists_seen l.lists) b k)
