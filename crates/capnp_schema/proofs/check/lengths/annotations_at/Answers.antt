-- Counting the annotations of the entry read there is the same as reading the list of
-- counts, both for an entry and past the last.
use Rattle.std.proofs.Common.{ap, sym, ◌∙◌, length}
use Rattle.std.proofs.lemmas.List.{length-map}
use Rattle.capnp_schema.specs.Schema.{seen_annotation}
use Rattle.capnp_schema.specs.Steps.Checking.Lengths.{annotation_count}
use Rattle.capnp_schema.proofs.Checking.Lengths.{annotations_at}
use Rattle.capnp_schema.proofs.check.lengths.annotations_at.Goals as goal

pub returns-in-Some : goal.returns-in-Some
returns-in-Some g c =
    sym (length-map c.annotations.result.now seen_annotation) ∙ ap length c.annotations.ensures
    ∙ ap (annotation_count g.E.Annotated.seen g.E.Annotated.annotations_of) c.in-Some.ensures
    ∙ sym (annotations_at g.E.Annotated.seen g.E.Annotated.annotations_of c.args.entries.now c.args.i)

pub returns-in-None : goal.returns-in-None
returns-in-None g c = ap (annotation_count g.E.Annotated.seen g.E.Annotated.annotations_of) c.in-None.ensures
    ∙ sym (annotations_at g.E.Annotated.seen g.E.Annotated.annotations_of c.args.entries.now c.args.i)
