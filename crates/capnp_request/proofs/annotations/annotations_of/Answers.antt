-- The work on a list is that on its annotations, one after another. Where there are none it makes none.
use Rattle.capnp_request.specs.Steps.Seen.{record_seen}
use Rattle.capnp_request.specs.Steps.Bindings.{bounds}
use Rattle.capnp_request.specs.Steps.Done.{between}
use Rattle.capnp_request.specs.Steps.Nodes.{nodes_of}
use Rattle.capnp_request.specs.Parts.{request_read_at}
use Rattle.capnp_request.proofs.Refused.{err_done}
use Rattle.capnp_request.proofs.TypesDone.{done_as}
use Rattle.capnp_request.specs.Conversion.{annotation_of, annotations_of}
use Rattle.capnp_request.specs.Steps.ConvertedSeen.{typed_annotations}
use Rattle.capnp_request.specs.Reading.{annotation_said, annotation_terms_in, each_said}
use Rattle.capnp_request.specs.Steps.Handles.{values_left}
use Rattle.capnp_request.specs.Work.{each_read}
use Rattle.capnp_request.proofs.AnnotationsDone.{annotations_start, annotations_unread}
use Rattle.capnp_request.proofs.annotations.annotations_of.Goals as goal

pub returns-in_err-listed-clause-done : goal.returns-in_err-listed-clause-done
returns-in_err-listed-clause-done c = err_done (λ r. typed_annotations r.0.items r.1.items) (annotations_of (nodes_of c.args.context.nodes.now) c.args.context.strict (bounds c.args.inside.now) (annotation_terms_in (request_read_at c.args.brand c.args.index (record_seen c.args.reader)))) (between c.args.entries.now) _ c.from_residual.result _ c.from_residual.ensures.1 (λ n. annotations_unread (nodes_of c.args.context.nodes.now) c.args.context.strict (bounds c.args.inside.now) (between c.args.entries.now) _ _ c.in_err-listed.ensures.refused)

pub returns-clause-done : goal.returns-clause-done
returns-clause-done c = done_as (λ r. typed_annotations r.0.items r.1.items) (each_read (annotation_of (nodes_of c.args.context.nodes.now) c.args.context.strict (bounds c.args.inside.now)) (each_said 12 annotation_said (values_left c.in_ok-listed.listed 0))) (annotations_of (nodes_of c.args.context.nodes.now) c.args.context.strict (bounds c.args.inside.now) (annotation_terms_in (request_read_at c.args.brand c.args.index (record_seen c.args.reader)))) _ _ c.annotations_in.result (annotations_start (nodes_of c.args.context.nodes.now) c.args.context.strict (bounds c.args.inside.now) _ _ c.in_ok-listed.listed c.in_ok-listed.ensures.read) c.annotations_in.ensures.done
