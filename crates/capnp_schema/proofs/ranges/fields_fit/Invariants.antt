use Rattle.std.proofs.Common.{map}
use Rattle.capnp_schema.specs.Schema.{Field, seen_field}
use Rattle.capnp_schema.specs.Steps.EntryRanges.{FieldFits}
use Rattle.capnp_schema.proofs.EntryWalk.{StandBelow}
use Rattle.capnp_schema.proofs.ranges.fields_fit.Given as goal

abbrev pub invariant-loop-i : goal.invariant-loop-i
invariant-loop-i l = StandBelow (map seen_field l.fields) (λ (a : Field). FieldFits a) l.i
