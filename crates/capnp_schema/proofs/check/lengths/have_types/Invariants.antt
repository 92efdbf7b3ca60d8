use Rattle.std.proofs.Common.{ℕ, ◌<◌, ◌≡◌, get_or}
use Rattle.capnp_schema.specs.Steps.Checking.Lengths.{annotation_counts, children_counts}
use Rattle.capnp_schema.proofs.check.lengths.have_types.Given as goal

abbrev pub invariant-loop-i : goal.invariant-loop-i
invariant-loop-i g l = (k : ℕ) → k < l.i → get_or (children_counts l.types) k 0 ≡ get_or (annotation_counts g.E.Annotated.seen g.E.Annotated.annotations_of l.entries) k 0
