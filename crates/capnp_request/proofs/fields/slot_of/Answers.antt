-- The type comes first and then the default, each read before it is meant.
-- A default is noted as left out where the type is untyped and the value is not null.
use Rattle.std.proofs.Common.{◌∙◌, ap, refl, sym}
use Rattle.capnp_schema.specs.Schema.{seen_value}
use Rattle.capnp_request.specs.Steps.Seen.{record_seen}
use Rattle.capnp_request.specs.Steps.Bindings.{bounds, flags, seen_marked}
use Rattle.capnp_request.specs.Steps.Done.{between}
use Rattle.capnp_request.specs.Steps.Nodes.{nodes_of}
use Rattle.capnp_request.specs.Steps.Numbers.{numbered_entries}
use Rattle.capnp_request.specs.Parts.{request_read_at}
use Rattle.capnp_request.proofs.Refused.{err_done}
use Rattle.capnp_request.specs.Conversion.{kind_of}
use Rattle.capnp_request.specs.Steps.ConvertedSeen.{seen_converted_kind}
use Rattle.capnp_request.specs.Reading.{in_struct, slot_said, type_levels, type_said}
use Rattle.capnp_request.specs.Terms.{UnreadField}
use Rattle.capnp_request.specs.Types.{type_of}
use Rattle.capnp_request.specs.Steps.Work.{named_with}
use Rattle.capnp_request.proofs.FieldsDone.{default_refused, default_unread, slot_done, slot_refused, slot_unread}
use Rattle.capnp_request.proofs.fields.slot_of.Goals as goal

pub returns-in_err-term-clause-done : goal.returns-in_err-term-clause-done
returns-in_err-term-clause-done c =
    err_done (seen_converted_kind c.args.place) (kind_of (nodes_of c.args.context.nodes.now) c.args.context.strict (bounds c.args.inside.now) c.args.place.parent c.args.place.field (in_struct UnreadField slot_said (request_read_at 8 3 (record_seen c.args.field)))) (between c.args.entries.now) _ c.from_residual.result _ c.from_residual.ensures.1 (λ n. slot_unread (nodes_of c.args.context.nodes.now) c.args.context.strict (bounds c.args.inside.now) c.args.place.parent c.args.place.field (request_read_at 8 3 (record_seen c.args.field)) (record_seen c.group_at-slot.result) c.u32_at-offset.result c.group_at-slot.ensures.read c.u32_at-offset.ensures (numbered_entries c.args.entries.now) _ c.in_err-term.ensures.refused)

pub returns-in_err-field_type-clause-done : goal.returns-in_err-field_type-clause-done
returns-in_err-field_type-clause-done c =
    err_done (seen_converted_kind c.args.place) (kind_of (nodes_of c.args.context.nodes.now) c.args.context.strict (bounds c.args.inside.now) c.args.place.parent c.args.place.field (in_struct UnreadField slot_said (request_read_at 8 3 (record_seen c.args.field)))) (between c.args.entries.now) _ c.from_residual-in_err-field_type.result _ c.from_residual-in_err-field_type.ensures.1 (λ n. slot_refused (nodes_of c.args.context.nodes.now) c.args.context.strict (bounds c.args.inside.now) c.args.place.parent c.args.place.field (request_read_at 8 3 (record_seen c.args.field)) (record_seen c.group_at-slot.result) c.u32_at-offset.result c.group_at-slot.ensures.read c.u32_at-offset.ensures (numbered_entries c.args.entries.now) (record_seen c.in_ok-term.term) c.in_ok-term.ensures.read type_levels refl _ ((ap (λ s. type_of (nodes_of c.args.context.nodes.now) c.args.context.strict (bounds c.args.inside.now) (type_said type_levels (record_seen c.in_ok-term.term)) (named_with (numbered_entries c.args.entries.now) s)) (sym c.nothing-seen.ensures.seen)) ∙ c.in_err-field_type.ensures.done n))

pub returns-in_err-value-clause-done : goal.returns-in_err-value-clause-done
returns-in_err-value-clause-done c =
    err_done (seen_converted_kind c.args.place) (kind_of (nodes_of c.args.context.nodes.now) c.args.context.strict (bounds c.args.inside.now) c.args.place.parent c.args.place.field (in_struct UnreadField slot_said (request_read_at 8 3 (record_seen c.args.field)))) (between c.args.entries.now) _ c.from_residual-in_err-value.result _ c.from_residual-in_err-value.ensures.1 (λ n. default_unread (nodes_of c.args.context.nodes.now) c.args.context.strict (bounds c.args.inside.now) c.args.place.parent c.args.place.field (request_read_at 8 3 (record_seen c.args.field)) (record_seen c.group_at-slot.result) c.u32_at-offset.result c.group_at-slot.ensures.read c.u32_at-offset.ensures (numbered_entries c.args.entries.now) (record_seen c.in_ok-term.term) c.in_ok-term.ensures.read type_levels refl (seen_marked c.in_ok-field_type.field_type) (numbered_entries c.slot_type.new.entries) (flags c.slot_type.new.seen) ((ap (λ s. type_of (nodes_of c.args.context.nodes.now) c.args.context.strict (bounds c.args.inside.now) (type_said type_levels (record_seen c.in_ok-term.term)) (named_with (numbered_entries c.args.entries.now) s)) (sym c.nothing-seen.ensures.seen)) ∙ c.in_ok-field_type.ensures.done) _ c.in_err-value.ensures.refused)

pub returns-in_err-default-clause-done : goal.returns-in_err-default-clause-done
returns-in_err-default-clause-done c =
    err_done (seen_converted_kind c.args.place) (kind_of (nodes_of c.args.context.nodes.now) c.args.context.strict (bounds c.args.inside.now) c.args.place.parent c.args.place.field (in_struct UnreadField slot_said (request_read_at 8 3 (record_seen c.args.field)))) (between c.args.entries.now) _ c.from_residual-in_err-default.result _ c.from_residual-in_err-default.ensures.1 (λ n. default_refused (nodes_of c.args.context.nodes.now) c.args.context.strict (bounds c.args.inside.now) c.args.place.parent c.args.place.field (request_read_at 8 3 (record_seen c.args.field)) (record_seen c.group_at-slot.result) c.u32_at-offset.result c.group_at-slot.ensures.read c.u32_at-offset.ensures (numbered_entries c.args.entries.now) (record_seen c.in_ok-term.term) c.in_ok-term.ensures.read type_levels refl (seen_marked c.in_ok-field_type.field_type) (numbered_entries c.slot_type.new.entries) (flags c.slot_type.new.seen) ((ap (λ s. type_of (nodes_of c.args.context.nodes.now) c.args.context.strict (bounds c.args.inside.now) (type_said type_levels (record_seen c.in_ok-term.term)) (named_with (numbered_entries c.args.entries.now) s)) (sym c.nothing-seen.ensures.seen)) ∙ c.in_ok-field_type.ensures.done) (record_seen c.in_ok-value.value) c.in_ok-value.ensures.read _ (c.in_err-default.ensures.refused n))

pub returns-clause-done : goal.returns-clause-done
returns-clause-done c =
    slot_done (nodes_of c.args.context.nodes.now) c.args.context.strict (bounds c.args.inside.now) c.args.place.parent c.args.place.field (request_read_at 8 3 (record_seen c.args.field)) (record_seen c.group_at-slot.result) c.u32_at-offset.result c.group_at-slot.ensures.read c.u32_at-offset.ensures (numbered_entries c.args.entries.now) (record_seen c.in_ok-term.term) c.in_ok-term.ensures.read type_levels refl (seen_marked c.in_ok-field_type.field_type) (numbered_entries c.slot_type.new.entries) (flags c.slot_type.new.seen) ((ap (λ s. type_of (nodes_of c.args.context.nodes.now) c.args.context.strict (bounds c.args.inside.now) (type_said type_levels (record_seen c.in_ok-term.term)) (named_with (numbered_entries c.args.entries.now) s)) (sym c.nothing-seen.ensures.seen)) ∙ c.in_ok-field_type.ensures.done) (record_seen c.in_ok-value.value) c.in_ok-value.ensures.read (seen_value c.in_ok-default.default) c.is_default_left_out.result c.in_ok-default.ensures.read c.is_default_left_out.ensures
