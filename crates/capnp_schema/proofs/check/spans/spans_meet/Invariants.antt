use Rattle.std.proofs.Common.{ℕ, ◌≡◌, ◌<◌, true, false, get_or}
use Rattle.capnp_schema.specs.Footprint.{Spot}
use Rattle.capnp_schema.specs.declared.check.spans.Span.{Span}
use Rattle.capnp_schema.specs.Steps.Checking.Spans.{span_names, some_span}
use Rattle.capnp_schema.proofs.check.spans.spans_meet.Given as goal

abbrev pub invariant-loop-x : goal.invariant-loop-x
invariant-loop-x l = (k : ℕ) (d : Span) (p : Spot) → k < l.x-index → span_names (get_or l.a k d) p ≡ true → some_span l.b p ≡ false

abbrev pub invariant-loop-y : goal.invariant-loop-y
invariant-loop-y l = (k : ℕ) (d : Span) (p : Spot) → k < l.y-index → span_names l.x p ≡ true → span_names (get_or l.b k d) p ≡ false
