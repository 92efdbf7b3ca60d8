-- Name, kind and annotations come in this order, and each refusal is the field's.
-- The mark of floats goes behind the annotations, refused for memory alone.
use Rattle.std.proofs.Common.{string_bytes, ◌∙◌}
use Rattle.capnp_request.specs.Steps.Seen.{record_seen}
use Rattle.capnp_request.specs.Steps.Bindings.{bounds}
use Rattle.capnp_request.specs.Steps.Done.{between}
use Rattle.capnp_request.specs.Steps.Nodes.{nodes_of}
use Rattle.capnp_request.proofs.Refused.{err_done}
use Rattle.capnp_request.specs.Conversion.{field_of}
use Rattle.capnp_request.specs.Steps.ConvertedSeen.{seen_converted, seen_converted_kind}
use Rattle.capnp_request.specs.Reading.{field_said}
use Rattle.capnp_request.proofs.FieldsDone.{annotations_refused, field_done, field_made, kind_refused, name_refused, name_unread}
use Rattle.capnp_request.proofs.fields.field_of.Goals as goal

pub returns-in_err-text-clause-done : goal.returns-in_err-text-clause-done
returns-in_err-text-clause-done c = err_done (seen_converted c.args.place.parent c.args.place.field) (field_of (nodes_of c.args.context.nodes.now) c.args.context.strict (bounds c.args.inside.now) c.args.place.parent c.args.place.field (field_said (record_seen c.args.field))) (between c.args.entries.now) _ c.from_residual.result _ c.from_residual.ensures.1 (λ n. name_unread (nodes_of c.args.context.nodes.now) c.args.context.strict (bounds c.args.inside.now) c.args.place.parent c.args.place.field (record_seen c.args.field) (between c.args.entries.now) _ c.in_err-text.ensures.refused)

pub returns-in_err-name-clause-done : goal.returns-in_err-name-clause-done
returns-in_err-name-clause-done c = err_done (seen_converted c.args.place.parent c.args.place.field) (field_of (nodes_of c.args.context.nodes.now) c.args.context.strict (bounds c.args.inside.now) c.args.place.parent c.args.place.field (field_said (record_seen c.args.field))) (between c.args.entries.now) _ c.from_residual-in_err-name.result _ c.from_residual-in_err-name.ensures.1 (λ n. name_refused (nodes_of c.args.context.nodes.now) c.args.context.strict (bounds c.args.inside.now) c.args.place.parent c.args.place.field (record_seen c.args.field) (between c.args.entries.now) c.in_ok-text.text.now c.in_ok-text.ensures.read _ (c.in_err-name.ensures.refused n))

pub returns-in_err-converted-clause-done : goal.returns-in_err-converted-clause-done
returns-in_err-converted-clause-done c = err_done (seen_converted c.args.place.parent c.args.place.field) (field_of (nodes_of c.args.context.nodes.now) c.args.context.strict (bounds c.args.inside.now) c.args.place.parent c.args.place.field (field_said (record_seen c.args.field))) (between c.args.entries.now) _ c.from_residual-in_err-converted.result _ c.from_residual-in_err-converted.ensures.1 (λ n. kind_refused (nodes_of c.args.context.nodes.now) c.args.context.strict (bounds c.args.inside.now) c.args.place.parent c.args.place.field (record_seen c.args.field) (between c.args.entries.now) c.in_ok-text.text.now c.in_ok-text.ensures.read (string_bytes c.in_ok-name.name) c.in_ok-name.ensures.read c.u16_at-discriminant_value.result c.u16_at-discriminant_value.ensures _ (c.in_err-converted.ensures.done n))

pub returns-in_err-listed-clause-done : goal.returns-in_err-listed-clause-done
returns-in_err-listed-clause-done c = err_done (seen_converted c.args.place.parent c.args.place.field) (field_of (nodes_of c.args.context.nodes.now) c.args.context.strict (bounds c.args.inside.now) c.args.place.parent c.args.place.field (field_said (record_seen c.args.field))) (between c.args.entries.now) _ c.from_residual-in_err-listed.result _ c.from_residual-in_err-listed.ensures.1 (λ n. annotations_refused (nodes_of c.args.context.nodes.now) c.args.context.strict (bounds c.args.inside.now) c.args.place.parent c.args.place.field (record_seen c.args.field) (between c.args.entries.now) c.in_ok-text.text.now c.in_ok-text.ensures.read (string_bytes c.in_ok-name.name) c.in_ok-name.ensures.read c.u16_at-discriminant_value.result c.u16_at-discriminant_value.ensures (seen_converted_kind c.args.place c.in_ok-converted.converted) _ c.in_ok-converted.ensures.done _ (c.in_err-listed.ensures.done n))

pub returns-clause-done : goal.returns-clause-done
returns-clause-done c = field_done (nodes_of c.args.context.nodes.now) c.args.context.strict (bounds c.args.inside.now) c.args.place.parent c.args.place.field (record_seen c.args.field) (between c.args.entries.now) c.in_ok-text.text.now c.in_ok-text.ensures.read (string_bytes c.in_ok-name.name) c.in_ok-name.ensures.read c.u16_at-discriminant_value.result c.u16_at-discriminant_value.ensures (seen_converted_kind c.args.place c.in_ok-converted.converted) _ c.in_ok-converted.ensures.done _ _ c.in_ok-listed.ensures.done ∙ field_made (string_bytes c.in_ok-name.name) c.u16_at-discriminant_value.result (seen_converted_kind c.args.place c.in_ok-converted.converted) _ c.add_mark.new.annotations.items c.add_mark.new.types.items _ c.in_ok-add_mark.ensures.added c.in_ok-add_mark.ensures.typed

pub returns-in_err-add_mark-clause-done : goal.returns-in_err-add_mark-clause-done
returns-in_err-add_mark-clause-done c = err_done (seen_converted c.args.place.parent c.args.place.field) (field_of (nodes_of c.args.context.nodes.now) c.args.context.strict (bounds c.args.inside.now) c.args.place.parent c.args.place.field (field_said (record_seen c.args.field))) (between c.args.entries.now) _ c.from_residual-in_err-add_mark.result _ c.from_residual-in_err-add_mark.ensures.1 (λ n. absurd (n c.in_err-add_mark.ensures.kinds))
