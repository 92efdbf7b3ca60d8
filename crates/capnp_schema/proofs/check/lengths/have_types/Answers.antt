-- The two lists of counts differ where their lengths do, or at an index where they are seen to; else they agree at each index.
use Rattle.std.proofs.Common.{sym, ◌∙◌, arith}
use Rattle.capnp_schema.specs.Steps.Checking.Lengths.{annotation_counts, children_counts}
use Rattle.capnp_schema.proofs.Checking.Lengths.{other_length, other_at, same_counts, children_length, annotations_length}
use Rattle.capnp_schema.proofs.check.lengths.have_types.Goals as goal

pub returns-then-types-entries : goal.returns-then-types-entries
returns-then-types-entries g c = other_length (children_counts c.args.types.now) (annotation_counts g.E.Annotated.seen g.E.Annotated.annotations_of c.args.entries.now) (λ e. c.if-types-entries.true (sym (children_length c.args.types.now) ∙ e ∙ annotations_length g.E.Annotated.seen g.E.Annotated.annotations_of c.args.entries.now))

pub returns-then-types_at-annotations_at : goal.returns-then-types_at-annotations_at
returns-then-types_at-annotations_at g c = other_at (children_counts c.args.types.now) (annotation_counts g.E.Annotated.seen g.E.Annotated.annotations_of c.args.entries.now) c.loop-i.i (λ e. c.if-types_at-annotations_at.true (c.types_at.ensures ∙ e ∙ sym c.annotations_at.ensures))

pub returns : goal.returns
returns g c = same_counts (children_counts c.args.types.now) (annotation_counts g.E.Annotated.seen g.E.Annotated.annotations_of c.args.entries.now) (children_length c.args.types.now ∙ c.if-types-entries.false ∙ sym (annotations_length g.E.Annotated.seen g.E.Annotated.annotations_of c.args.entries.now)) (λ k h. c.loop-i.invariant k (omega (arith, children_length c.args.types.now)))
