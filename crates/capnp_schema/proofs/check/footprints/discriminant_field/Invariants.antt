use Rattle.std.proofs.Common.{ℕ, ◌<◌, ◌≡◌, true, false}
use Rattle.capnp_schema.specs.Footprint.{Spot}
use Rattle.capnp_schema.specs.Entries.{lists_seen}
use Rattle.capnp_schema.specs.Steps.Checking.Spans.{some_span}
use Rattle.capnp_schema.proofs.Checking.SpanTables.{footprint_at}
use Rattle.capnp_schema.proofs.check.footprints.discriminant_field.Given as goal

abbrev pub invariant-loop-i : goal.invariant-loop-i
invariant-loop-i l = (k : ℕ) (p : Spot) → k < l.i → some_span l.own p ≡ true → footprint_at (lists_seen l.lists) l.brand k p ≡ false
