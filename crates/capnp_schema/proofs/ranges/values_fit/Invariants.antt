use Rattle.std.proofs.Common.{map}
use Rattle.capnp_schema.specs.Schema.{Annotation, seen_annotation}
use Rattle.capnp_schema.specs.Ranges.{ValueFits}
use Rattle.capnp_schema.proofs.EntryWalk.{StandBelow}
use Rattle.capnp_schema.proofs.ranges.values_fit.Given as goal

abbrev pub invariant-loop-i : goal.invariant-loop-i
invariant-loop-i l = StandBelow (map seen_annotation l.annotations) (λ (a : Annotation). ValueFits a.value) l.i
