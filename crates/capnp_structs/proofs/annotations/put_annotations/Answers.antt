-- One more annotation.
use Rattle.std.proofs.Common.{ℕ, List, ◌+◌, drop, arith, get_or, string_bytes}
use Rattle.std.proofs.lemmas.Option.{slice_get-get_or}
use Rattle.capnp_schema.specs.Annotated.{TypedAnnotation}
use Rattle.capnp_schema.specs.Schema.{Schemas}
use Rattle.capnp_schema.specs.AnnotationLists.{annotation_in, annotation_set, annotations_in, annotations_set}
use Rattle.capnp_structs.specs.Values.{annotation_text, annotations_text}
use Rattle.capnp_structs.proofs.AnnotationsSaid.{as_many, first_annotation, next_annotation, no_annotation_left, one_refused, value_at}
use Rattle.capnp_structs.proofs.Stopped.{handed_on, stopped_left, stopped_loop}
use Rattle.capnp_structs.proofs.TextsThere.{annotations_there}
use Rattle.capnp_structs.proofs.annotations.put_annotations.Goals as goal

pub loop-index-init : goal.loop-index-init
loop-index-init c = λ new put. put

pub bounds-records-index : goal.bounds-records-index
bounds-records-index c = omega (arith, as_many (annotations_in c.args.annotations) c.args.records.now c.requires.recorded, c.len-index-end.ensures.length, c.loop-index-test.true)

pub put_annotation-requires : goal.put_annotation-requires
put_annotation-requires c = record {
  stored = value_at (annotations_in c.args.annotations) c.args.records.now c.loop-index.index (annotation_in c.get.result) (get_or c.args.records.now c.loop-index.index c.index-records-index.result) c.requires.recorded c.get.ensures.entry
      (slice_get-get_or c.args.records.now c.loop-index.index c.index-records-index.result (omega (arith, as_many (annotations_in c.args.annotations) c.args.records.now c.requires.recorded, c.len-index-end.ensures.length, c.loop-index-test.true)));
}

pub loop-index-preserved : goal.loop-index-preserved
loop-index-preserved c =
    next_annotation (annotations_set c.args.annotations) (annotation_set c.get.result) (annotations_in c.args.annotations) c.loop-index.index (annotation_in c.get.result) (string_bytes c.args.out.now) _ (string_bytes c.loop-index.out) _
    c.get.ensures.entry c.get.ensures.set c.loop-index.invariant c.in_ok-put_annotation.ensures.put

pub returns-clause-put : goal.returns-clause-put
returns-clause-put c =
    no_annotation_left (annotations_set c.args.annotations) (annotations_in c.args.annotations) c.loop-index.index (string_bytes c.args.out.now) _ (string_bytes c.loop-index.out) (omega (arith, c.len-index-end.ensures.length, c.loop-index-test.false)) c.loop-index.invariant

pub returns-in_err-put_annotation-clause-stopped : goal.returns-in_err-put_annotation-clause-stopped
returns-in_err-put_annotation-clause-stopped c =
    let set : Schemas = annotations_set c.args.annotations in
    let xs : List TypedAnnotation = annotations_in c.args.annotations in
    let i : ℕ = c.loop-index.index in
    let x : TypedAnnotation = annotation_in c.get.result in
    let start : List ℕ = string_bytes c.args.out.now in
    let text : List ℕ = string_bytes c.loop-index.out in
    handed_on c.from_residual.result _ c.args.limit start _ c.from_residual.ensures.1
    (stopped_left c.args.limit start (annotations_text set xs) (annotation_text (annotation_set c.get.result) x) (annotations_text set (drop (i + 1) xs)) text _
    (first_annotation set (annotation_set c.get.result) xs i x start (annotations_text set xs) text c.get.ensures.entry c.get.ensures.set c.loop-index.invariant) (annotations_there set (drop (i + 1) xs))
    (one_refused set (annotation_set c.get.result) xs i x c.get.ensures.entry c.get.ensures.set) c.in_err-put_annotation.ensures.stopped)

pub returns-in_err-check_length-clause-stopped : goal.returns-in_err-check_length-clause-stopped
returns-in_err-check_length-clause-stopped c =
    let set : Schemas = annotations_set c.args.annotations in
    let xs : List TypedAnnotation = annotations_in c.args.annotations in
    let i : ℕ = c.loop-index.index in
    let start : List ℕ = string_bytes c.args.out.now in
    let text : List ℕ = string_bytes c.put_annotation.new.out in
    handed_on c.from_residual-in_err-check_length.result _ c.args.limit start _ c.from_residual-in_err-check_length.ensures.1
    (stopped_loop c.args.limit start (annotations_text set xs) (annotations_text set (drop (i + 1) xs)) text _
    (next_annotation set (annotation_set c.get.result) xs i (annotation_in c.get.result) start (annotations_text set xs) (string_bytes c.loop-index.out) text c.get.ensures.entry c.get.ensures.set c.loop-index.invariant c.in_ok-put_annotation.ensures.put)
    (annotations_there set (drop (i + 1) xs)) c.in_err-check_length.ensures.too_long)
