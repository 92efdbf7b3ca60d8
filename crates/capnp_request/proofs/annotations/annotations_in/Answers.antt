-- The pairs made so far, before what the annotations from this place on make, are the work on the whole list.
-- One that can't be read or made refuses it.
use Rattle.std.proofs.Common.{rules, length, ◌+◌, ◌≡◌, ◌∙◌, arith, ap, sym, List, [], ◌∷◌, ◌++◌}
use Rattle.capnp_schema.specs.Schema.{Annotation}
use Rattle.capnp_schema.specs.Types.{SchemaType}
use Rattle.capnp_schema.specs.declared.record.AnnotationRecord.{AnnotationRecord}
use Rattle.capnp_request.specs.Steps.Seen.{record_seen}
use Rattle.capnp_request.specs.Steps.Bindings.{bounds}
use Rattle.capnp_request.specs.Steps.Done.{between}
use Rattle.capnp_request.specs.Steps.Nodes.{nodes_of}
use Rattle.capnp_request.proofs.Refused.{err_done}
use Rattle.capnp_request.specs.Conversion.{annotation_of}
use Rattle.capnp_request.specs.Steps.ConvertedSeen.{typed_annotations}
use Rattle.capnp_request.specs.Steps.Handles.{values_left}
use Rattle.capnp_request.specs.Reading.{annotation_said, each_said}
use Rattle.capnp_request.specs.Work.{each_read}
use Rattle.capnp_request.proofs.FieldsDone.{typed_longer, typed_more}
use Rattle.capnp_request.proofs.Walks.{begun_with, prefixed, walk_end, walk_ok, walk_refused, walk_unread}
use Rattle.capnp_request.proofs.annotations.annotations_in.Goals as goal

pub loop-at-init : goal.loop-at-init
loop-at-init c =
    let none : c.new-records.result.items ≡ [] = search rules in
    let no_types : c.new-types.result.items ≡ [] = search rules in
    record {
      numbers = c.requires.numbers;
      typed = ap length no_types ∙ sym (ap length none);
      done = begun_with (typed_annotations c.new-records.result.items c.new-types.result.items) _ (ap (λ (xs : List AnnotationRecord). typed_annotations xs c.new-types.result.items) none);
    }

pub returns-in_err-annotation-clause-done : goal.returns-in_err-annotation-clause-done
returns-in_err-annotation-clause-done c = err_done (λ r. typed_annotations r.0.items r.1.items) (each_read (annotation_of (nodes_of c.args.context.nodes.now) c.args.context.strict (bounds c.args.inside.now)) (each_said 12 annotation_said (values_left c.args.listed 0))) (between c.args.entries.now) _ c.from_residual.result _ c.from_residual.ensures.1 (λ n. c.loop-at.invariant.done ∙ walk_unread (annotation_of (nodes_of c.args.context.nodes.now) c.args.context.strict (bounds c.args.inside.now)) 12 annotation_said c.args.listed c.loop-at.at (typed_annotations c.loop-at.records.items c.loop-at.types.items) (between c.loop-at.entries) _ c.requires.elements (omega arith) c.in_err-annotation.ensures.refused)

pub returns-in_err-made-clause-done : goal.returns-in_err-made-clause-done
returns-in_err-made-clause-done c = err_done (λ r. typed_annotations r.0.items r.1.items) (each_read (annotation_of (nodes_of c.args.context.nodes.now) c.args.context.strict (bounds c.args.inside.now)) (each_said 12 annotation_said (values_left c.args.listed 0))) (between c.args.entries.now) _ c.from_residual-in_err-made.result _ c.from_residual-in_err-made.ensures.1 (λ n. c.loop-at.invariant.done ∙ walk_refused (annotation_of (nodes_of c.args.context.nodes.now) c.args.context.strict (bounds c.args.inside.now)) 12 annotation_said c.args.listed c.loop-at.at (typed_annotations c.loop-at.records.items c.loop-at.types.items) (between c.loop-at.entries) (record_seen c.in_ok-annotation.annotation) _ c.requires.elements (omega arith) c.in_ok-annotation.ensures.read (c.in_err-made.ensures.done n))

pub loop-at-preserved : goal.loop-at-preserved
loop-at-preserved c =
    let more : length (c.loop-at.types.items ++ c.in_ok-made.made.1 ∷ []) ≡ length (c.loop-at.records.items ++ c.in_ok-made.made.0 ∷ []) = typed_longer c.loop-at.records.items c.loop-at.types.items _ _ c.loop-at.invariant.typed in
    record {
      numbers = c.in_ok-made.ensures.numbers;
      typed = ap length c.in_ok-push-2.ensures.items ∙ (more ∙ ap length (sym c.in_ok-push.ensures.items));
      done = c.loop-at.invariant.done
          ∙ (walk_ok (annotation_of (nodes_of c.args.context.nodes.now) c.args.context.strict (bounds c.args.inside.now)) 12 annotation_said c.args.listed c.loop-at.at (typed_annotations c.loop-at.records.items c.loop-at.types.items) (between c.loop-at.entries) (record_seen c.in_ok-annotation.annotation) _ _ c.requires.elements (omega arith) c.in_ok-annotation.ensures.read c.in_ok-made.ensures.done
          ∙ ap (λ (ys : List (Annotation × SchemaType)). prefixed ys (each_read (annotation_of (nodes_of c.args.context.nodes.now) c.args.context.strict (bounds c.args.inside.now)) (each_said 12 annotation_said (values_left c.args.listed (c.loop-at.at + 1))) (between c.annotation_of.new.entries))) (sym (typed_more c.loop-at.records.items _ c.loop-at.types.items _ c.in_ok-made.made.0 c.in_ok-made.made.1 c.loop-at.invariant.typed c.in_ok-push.ensures.items c.in_ok-push-2.ensures.items)));
    }

pub returns-clause-done : goal.returns-clause-done
returns-clause-done c = c.loop-at.invariant.done ∙ walk_end (annotation_of (nodes_of c.args.context.nodes.now) c.args.context.strict (bounds c.args.inside.now)) 12 annotation_said c.args.listed c.loop-at.at (typed_annotations c.loop-at.records.items c.loop-at.types.items) (between c.loop-at.entries) (omega arith)
