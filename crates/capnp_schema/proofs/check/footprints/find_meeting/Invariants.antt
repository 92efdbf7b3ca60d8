use Rattle.std.proofs.Common.{ℕ, ◌<◌, length}
use Rattle.capnp_schema.specs.Schema.{fields_of, field_at}
use Rattle.capnp_schema.specs.Entries.{lists_seen}
use Rattle.capnp_schema.specs.Accepted.{FieldsApart, DiscriminantApart}
use Rattle.capnp_schema.proofs.check.footprints.find_meeting.Given as goal

abbrev pub invariant-loop-brand : goal.invariant-loop-brand
invariant-loop-brand l = record {
  fields : (b i : ℕ) → b < l.brand → i < length (fields_of (lists_seen l.lists) b) → FieldsApart (lists_seen l.lists) b i (field_at (lists_seen l.lists) b i);
  discriminants : (b i : ℕ) → b < l.brand → i < length (fields_of (lists_seen l.lists) b) → DiscriminantApart (lists_seen l.lists) b (field_at (lists_seen l.lists) b i);
}
