-- The active member decides: 3 is a slot and 4 a group, each meant by its own record; none or another is an unknown kind.
use Rattle.std.proofs.Common.{◌∙◌, arith, ap, sym, Err}
use Rattle.capnp_request.specs.Steps.Seen.{record_seen}
use Rattle.capnp_request.specs.Steps.Bindings.{bounds}
use Rattle.capnp_request.specs.Steps.Done.{between}
use Rattle.capnp_request.specs.Steps.Nodes.{nodes_of}
use Rattle.capnp_request.specs.Parts.{request_read_at}
use Rattle.capnp_request.specs.Conversion.{kind_of}
use Rattle.capnp_request.specs.Steps.ConvertedSeen.{seen_converted_kind}
use Rattle.capnp_request.specs.Reading.{field_said, group_said, in_struct, slot_said}
use Rattle.capnp_request.specs.Terms.{UnreadField}
use Rattle.capnp_request.proofs.FieldsDone.{is_group, is_slot, kind_none, kind_other}
use Rattle.capnp_request.proofs.TypesDone.{done_as}
use Rattle.capnp_request.proofs.fields.kind_of.Goals as goal

pub returns-in_default-clause-done : goal.returns-in_default-clause-done
returns-in_default-clause-done c = λ n. kind_none (nodes_of c.args.context.nodes.now) c.args.context.strict (bounds c.args.inside.now) c.args.place.parent c.args.place.field (record_seen c.args.field) (between c.args.entries.now) (sym c.field_member.ensures ∙ c.in_default.is) ∙ ap (λ k. Err k) (sym c.from.ensures)

pub returns-in-3-clause-done : goal.returns-in-3-clause-done
returns-in-3-clause-done c =
    done_as (seen_converted_kind c.args.place) (kind_of (nodes_of c.args.context.nodes.now) c.args.context.strict (bounds c.args.inside.now) c.args.place.parent c.args.place.field (in_struct UnreadField slot_said (request_read_at 8 3 (record_seen c.args.field)))) (kind_of (nodes_of c.args.context.nodes.now) c.args.context.strict (bounds c.args.inside.now) c.args.place.parent c.args.place.field (field_said (record_seen c.args.field)).kind) (between c.args.entries.now) _ _
    (ap (λ k. kind_of (nodes_of c.args.context.nodes.now) c.args.context.strict (bounds c.args.inside.now) c.args.place.parent c.args.place.field k (between c.args.entries.now)) (is_slot (nodes_of c.args.context.nodes.now) c.args.context.strict (bounds c.args.inside.now) c.args.place.parent c.args.place.field (record_seen c.args.field) (between c.args.entries.now) c.in-Some.member (sym c.field_member.ensures ∙ c.in-Some.is) c.in-3.is)) c.slot_of.ensures.done

pub returns-in-4-clause-done : goal.returns-in-4-clause-done
returns-in-4-clause-done c =
    done_as (seen_converted_kind c.args.place) (kind_of (nodes_of c.args.context.nodes.now) c.args.context.strict (bounds c.args.inside.now) c.args.place.parent c.args.place.field (in_struct UnreadField group_said (request_read_at 8 4 (record_seen c.args.field)))) (kind_of (nodes_of c.args.context.nodes.now) c.args.context.strict (bounds c.args.inside.now) c.args.place.parent c.args.place.field (field_said (record_seen c.args.field)).kind) (between c.args.entries.now) _ _
    (ap (λ k. kind_of (nodes_of c.args.context.nodes.now) c.args.context.strict (bounds c.args.inside.now) c.args.place.parent c.args.place.field k (between c.args.entries.now)) (is_group (nodes_of c.args.context.nodes.now) c.args.context.strict (bounds c.args.inside.now) c.args.place.parent c.args.place.field (record_seen c.args.field) (between c.args.entries.now) c.in-Some.member (sym c.field_member.ensures ∙ c.in-Some.is) c.in-4.is)) c.group_of.ensures.done

pub returns-in_default-member-clause-done : goal.returns-in_default-member-clause-done
returns-in_default-member-clause-done c = λ n. kind_other (nodes_of c.args.context.nodes.now) c.args.context.strict (bounds c.args.inside.now) c.args.place.parent c.args.place.field (record_seen c.args.field) (between c.args.entries.now) c.in-Some.member (sym c.field_member.ensures ∙ c.in-Some.is) (λ e. omega (arith, e)) (λ e. omega (arith, e)) ∙ ap (λ k. Err k) (sym c.from-in_default-member.ensures)
