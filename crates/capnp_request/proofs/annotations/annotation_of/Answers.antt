-- The value is read and meant first, and then the type is found. The refusal of either is the annotation's.
use Rattle.capnp_schema.specs.Schema.{seen_annotation, seen_value}
use Rattle.capnp_schema.specs.Types.{seen_type}
use Rattle.capnp_request.specs.Steps.Seen.{record_seen}
use Rattle.capnp_request.specs.Steps.Bindings.{bounds, seen_marked}
use Rattle.capnp_request.specs.Steps.Done.{between}
use Rattle.capnp_request.specs.Steps.Nodes.{nodes_of}
use Rattle.capnp_request.proofs.Refused.{err_done}
use Rattle.capnp_request.specs.Conversion.{annotation_of}
use Rattle.capnp_request.specs.Reading.{annotation_said}
use Rattle.capnp_request.proofs.AnnotationsDone.{annotation_done, type_refused, value_refused, value_unread}
use Rattle.capnp_request.proofs.annotations.annotation_of.Goals as goal

pub returns-in_err-said-clause-done : goal.returns-in_err-said-clause-done
returns-in_err-said-clause-done c = err_done (λ r. (seen_annotation r.0, seen_type r.1)) (annotation_of (nodes_of c.args.context.nodes.now) c.args.context.strict (bounds c.args.inside.now) (annotation_said (record_seen c.args.annotation))) (between c.args.entries.now) _ c.from_residual.result _ c.from_residual.ensures.1 (λ n. value_unread (nodes_of c.args.context.nodes.now) c.args.context.strict (bounds c.args.inside.now) (record_seen c.args.annotation) c.u64_at-id.result c.u64_at-id.ensures (between c.args.entries.now) _ c.in_err-said.ensures.refused)

pub returns-in_err-value-clause-done : goal.returns-in_err-value-clause-done
returns-in_err-value-clause-done c = err_done (λ r. (seen_annotation r.0, seen_type r.1)) (annotation_of (nodes_of c.args.context.nodes.now) c.args.context.strict (bounds c.args.inside.now) (annotation_said (record_seen c.args.annotation))) (between c.args.entries.now) _ c.from_residual-in_err-value.result _ c.from_residual-in_err-value.ensures.1 (λ n. value_refused (nodes_of c.args.context.nodes.now) c.args.context.strict (bounds c.args.inside.now) (record_seen c.args.annotation) c.u64_at-id.result c.u64_at-id.ensures (between c.args.entries.now) (record_seen c.in_ok-said.said) c.in_ok-said.ensures.read _ (c.in_err-value.ensures.refused n))

pub returns-in_err-annotation_type-clause-done : goal.returns-in_err-annotation_type-clause-done
returns-in_err-annotation_type-clause-done c = err_done (λ r. (seen_annotation r.0, seen_type r.1)) (annotation_of (nodes_of c.args.context.nodes.now) c.args.context.strict (bounds c.args.inside.now) (annotation_said (record_seen c.args.annotation))) (between c.args.entries.now) _ c.from_residual-in_err-annotation_type.result _ c.from_residual-in_err-annotation_type.ensures.1 (λ n. type_refused (nodes_of c.args.context.nodes.now) c.args.context.strict (bounds c.args.inside.now) (record_seen c.args.annotation) c.u64_at-id.result c.u64_at-id.ensures (between c.args.entries.now) (record_seen c.in_ok-said.said) c.in_ok-said.ensures.read (seen_value c.in_ok-value.value) c.in_ok-value.ensures.read _ (c.in_err-annotation_type.ensures.done n))

pub returns-clause-done : goal.returns-clause-done
returns-clause-done c = annotation_done (nodes_of c.args.context.nodes.now) c.args.context.strict (bounds c.args.inside.now) (record_seen c.args.annotation) c.u64_at-id.result c.u64_at-id.ensures (between c.args.entries.now) (record_seen c.in_ok-said.said) c.in_ok-said.ensures.read (seen_value c.in_ok-value.value) c.in_ok-value.ensures.read (seen_marked c.in_ok-annotation_type.annotation_type) _ c.in_ok-annotation_type.ensures.done
