-- The id in the type's group gets its number as an enum, or is refused, and the type of that number is what the term means.
use Rattle.std.proofs.Common.{◌∙◌, ap}
use Rattle.capnp_request.specs.Steps.Seen.{record_seen}
use Rattle.capnp_request.specs.Steps.Bindings.{seen_marked}
use Rattle.capnp_request.specs.Steps.Nodes.{nodes_of}
use Rattle.capnp_request.specs.Steps.Numbers.{numbered_entries}
use Rattle.capnp_request.specs.Parts.{request_read_at}
use Rattle.capnp_request.specs.Reading.{enum_term, type_said}
use Rattle.capnp_request.specs.Types.{type_of}
use Rattle.capnp_request.specs.Work.{plain}
use Rattle.capnp_request.specs.Steps.Work.{named_with}
use Rattle.capnp_request.proofs.Refused.{err_done}
use Rattle.capnp_request.proofs.TypesDone.{enum_done, enum_refused}
use Rattle.capnp_request.proofs.types.enum_type_of.Goals as goal

pub returns-clause-done : goal.returns-clause-done
returns-clause-done c = λ inside levels seen.
    enum_done (nodes_of c.args.context.nodes.now) c.args.context.strict inside (type_said levels) (request_read_at 13 15 (record_seen c.args.term)) (record_seen c.group_at-named.result) c.u64_at-id.result
    c.group_at-named.ensures.read c.u64_at-id.ensures (named_with (numbered_entries c.args.entries.now) seen) c.in_ok-number.number _ _ (c.in_ok-number.ensures.done seen) (c.plain.ensures ∙ ap plain c.enum_type.ensures)

pub returns-in_err-number-clause-done : goal.returns-in_err-number-clause-done
returns-in_err-number-clause-done c = λ inside levels seen.
    err_done seen_marked (type_of (nodes_of c.args.context.nodes.now) c.args.context.strict inside (enum_term (type_said levels) (request_read_at 13 15 (record_seen c.args.term)))) (named_with (numbered_entries c.args.entries.now) seen) _
    c.from_residual.result _ c.from_residual.ensures.1 (λ n.
    enum_refused (nodes_of c.args.context.nodes.now) c.args.context.strict inside (type_said levels) (request_read_at 13 15 (record_seen c.args.term)) (record_seen c.group_at-named.result) c.u64_at-id.result
    c.group_at-named.ensures.read c.u64_at-id.ensures (named_with (numbered_entries c.args.entries.now) seen) _ (c.in_err-number.ensures.refused n seen))
