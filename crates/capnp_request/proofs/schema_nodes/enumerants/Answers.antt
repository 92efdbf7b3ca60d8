-- The node is an enum, so its group is the one that its kind is read from. The list there, or its fault, is what the kind says.
use Rattle.capnp_request.specs.Steps.Seen.{record_seen}
use Rattle.capnp_request.proofs.NodesRead.{enum_kind, enumerants_read, enumerants_unread}
use Rattle.capnp_request.proofs.Refused.{err_if}
use Rattle.capnp_request.proofs.schema_nodes.enumerants.Goals as goal

pub returns-clause-read : goal.returns-clause-read
returns-clause-read c =
    enumerants_read _ (record_seen c.group_at-part.result) _
    (enum_kind (record_seen c.args.node) _ (c.is_enum_node.ensures.active c.if-not-is_enum_node.false) c.group_at-part.ensures.read) c.in_ok-listed.ensures.read

pub returns-in_err-listed-clause-refused : goal.returns-in_err-listed-clause-refused
returns-in_err-listed-clause-refused c =
    err_if _ c.from_residual.result _ c.from_residual.ensures.1 (λ is.
    enumerants_unread _ (record_seen c.group_at-part.result) _
    (enum_kind (record_seen c.args.node) _ (c.is_enum_node.ensures.active c.if-not-is_enum_node.false) c.group_at-part.ensures.read) c.in_err-listed.ensures.refused)
