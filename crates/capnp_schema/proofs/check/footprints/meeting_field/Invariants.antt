use Rattle.std.proofs.Common.{ℕ, ◌≡◌, ◌≢◌, ◌<◌, true, false}
use Rattle.capnp_schema.specs.Footprint.{Spot}
use Rattle.capnp_schema.specs.Schema.{field_at}
use Rattle.capnp_schema.specs.Entries.{lists_seen}
use Rattle.capnp_schema.specs.Accepted.{FieldsApart}
use Rattle.capnp_schema.proofs.Checking.SpanTables.{footprint_at}
use Rattle.capnp_schema.proofs.check.footprints.meeting_field.Given as goal

abbrev pub invariant-loop-j : goal.invariant-loop-j
invariant-loop-j l = (k : ℕ) (p : Spot) → k < l.j → l.i ≢ k → footprint_at (lists_seen l.lists) l.brand l.i p ≡ true → footprint_at (lists_seen l.lists) l.brand k p ≡ false

abbrev pub invariant-loop-i : goal.invariant-loop-i
invariant-loop-i l = (k : ℕ) → k < l.i → FieldsApart (lists_seen l.lists) l.brand k (field_at (lists_seen l.lists) l.brand k)
