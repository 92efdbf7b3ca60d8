-- The id has to be a struct's. Then the group gets an entry of its own with the scopes of its parent, and nothing is noted of it.
use Rattle.std.proofs.Common.{◌∙◌, ap, sym, Err, Ok, List}
use Rattle.capnp_schema.specs.Schema.{Group}
use Rattle.capnp_request.specs.Steps.Seen.{record_seen}
use Rattle.capnp_request.specs.Steps.Bindings.{bounds, seen_marked}
use Rattle.capnp_request.specs.Steps.Done.{between}
use Rattle.capnp_request.specs.Steps.Nodes.{nodes_of}
use Rattle.capnp_request.specs.Parts.{request_read_at}
use Rattle.capnp_request.specs.Work.{nothing_seen, plain, GroupOf}
use Rattle.capnp_request.proofs.Refused.{err_done}
use Rattle.capnp_request.specs.Conversion.{Note, kind_of}
use Rattle.capnp_request.specs.Steps.ConvertedSeen.{seen_converted_kind}
use Rattle.capnp_request.specs.Reading.{group_said, in_struct}
use Rattle.capnp_request.specs.Terms.{UnreadField}
use Rattle.capnp_request.specs.Types.{add_entry}
use Rattle.capnp_request.proofs.FieldsDone.{group_done, group_missing, group_refused, nothing_noted}
use Rattle.capnp_request.proofs.fields.group_of.Goals as goal

pub returns-in_err-struct_node-clause-done : goal.returns-in_err-struct_node-clause-done
returns-in_err-struct_node-clause-done c =
    err_done (seen_converted_kind c.args.place) (kind_of (nodes_of c.args.context.nodes.now) c.args.context.strict (bounds c.args.inside.now) c.args.place.parent c.args.place.field (in_struct UnreadField group_said (request_read_at 8 4 (record_seen c.args.field)))) (between c.args.entries.now) _ c.from_residual.result _ c.from_residual.ensures.1 (λ n. group_missing (nodes_of c.args.context.nodes.now) c.args.context.strict (bounds c.args.inside.now) c.args.place.parent c.args.place.field (request_read_at 8 4 (record_seen c.args.field)) (record_seen c.group_at-group.result) c.u64_at-id.result c.group_at-group.ensures.read c.u64_at-id.ensures (between c.args.entries.now) c.in_err-struct_node.ensures.missing ∙ ap (λ k. Err k) (sym c.in_err-struct_node.ensures.kinds))

pub returns-in_err-scopes-clause-done : goal.returns-in_err-scopes-clause-done
returns-in_err-scopes-clause-done c =
    err_done (seen_converted_kind c.args.place) (kind_of (nodes_of c.args.context.nodes.now) c.args.context.strict (bounds c.args.inside.now) c.args.place.parent c.args.place.field (in_struct UnreadField group_said (request_read_at 8 4 (record_seen c.args.field)))) (between c.args.entries.now) _ c.from_residual-in_err-scopes.result _ c.from_residual-in_err-scopes.ensures.1 (λ n. absurd (n c.in_err-scopes.ensures.kinds))

pub returns-in_err-number-clause-done : goal.returns-in_err-number-clause-done
returns-in_err-number-clause-done c =
    err_done (seen_converted_kind c.args.place) (kind_of (nodes_of c.args.context.nodes.now) c.args.context.strict (bounds c.args.inside.now) c.args.place.parent c.args.place.field (in_struct UnreadField group_said (request_read_at 8 4 (record_seen c.args.field)))) (between c.args.entries.now) _ c.from_residual-in_err-number.result _ c.from_residual-in_err-number.ensures.1 (λ n.
    group_refused (nodes_of c.args.context.nodes.now) c.args.context.strict (bounds c.args.inside.now) c.args.place.parent c.args.place.field (request_read_at 8 4 (record_seen c.args.field)) (record_seen c.group_at-group.result) c.u64_at-id.result c.group_at-group.ensures.read c.u64_at-id.ensures (between c.args.entries.now) c.in_ok-struct_node.ensures.found _
    (ap (λ b. add_entry (record { node = c.u64_at-id.result; bound = b; place = GroupOf c.args.place.parent c.args.place.field }) (between c.args.entries.now)) (sym c.in_ok-scopes.ensures.read) ∙ c.in_err-number.ensures.refused n nothing_seen))

pub returns-clause-done : goal.returns-clause-done
returns-clause-done c =
    group_done (nodes_of c.args.context.nodes.now) c.args.context.strict (bounds c.args.inside.now) c.args.place.parent c.args.place.field (request_read_at 8 4 (record_seen c.args.field)) (record_seen c.group_at-group.result) c.u64_at-id.result c.group_at-group.ensures.read c.u64_at-id.ensures (between c.args.entries.now) c.in_ok-struct_node.ensures.found c.in_ok-number.number _ _
    (ap (λ b. add_entry (record { node = c.u64_at-id.result; bound = b; place = GroupOf c.args.place.parent c.args.place.field }) (between c.args.entries.now)) (sym c.in_ok-scopes.ensures.read) ∙ c.in_ok-number.ensures.done nothing_seen) (c.plain.ensures ∙ ap plain c.entry_type.ensures)
    ∙ ap (λ (ns : List Note). Ok ((Group c.in_ok-number.number, seen_marked c.plain.result, ns), between c.number_group.new.self)) (nothing_noted c.args.place.parent c.args.place.field _ _ c.nothing.ensures.seen c.nothing.ensures.default)
