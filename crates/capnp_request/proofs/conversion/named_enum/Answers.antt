-- The node of the id, its display name and the name without file are found in this order.
-- What fails first is why the enum can't begin.
use Rattle.std.proofs.lemmas.Result.{err_from_is_err_and}
use Rattle.capnp_request.specs.Steps.Seen.{record_seen}
use Rattle.capnp_request.specs.Steps.Nodes.{nodes_of}
use Rattle.capnp_request.specs.Reading.{node_said}
use Rattle.capnp_request.proofs.OrderMade.{enum_begun, enum_missing, enum_unnamed, enum_unread}
use Rattle.capnp_request.proofs.conversion.named_enum.Goals as goal

pub returns-in_err-node-clause-said : goal.returns-in_err-node-clause-said
returns-in_err-node-clause-said c =
    let p = err_from_is_err_and c.from_residual.result c.from_residual.ensures.1 in
    rw (p.1, p.2) (λ is. enum_missing (nodes_of c.args.context.nodes.now) c.args.id _ c.in_err-node.ensures.missing c.in_err-node.ensures.kinds)

pub returns-in_err-display-clause-said : goal.returns-in_err-display-clause-said
returns-in_err-display-clause-said c =
    let p = err_from_is_err_and c.from_residual-in_err-display.result c.from_residual-in_err-display.ensures.1 in
    rw (p.1, p.2) (λ is. enum_unread (nodes_of c.args.context.nodes.now) c.args.id (node_said (record_seen c.in_ok-node.node)) c.in_ok-node.ensures.read _ c.in_err-display.ensures.refused)

pub returns-in_err-name-clause-said : goal.returns-in_err-name-clause-said
returns-in_err-name-clause-said c =
    let p = err_from_is_err_and c.from_residual-in_err-name.result c.from_residual-in_err-name.ensures.1 in
    rw (p.1, p.2) (λ is. enum_unnamed (nodes_of c.args.context.nodes.now) c.args.id (node_said (record_seen c.in_ok-node.node)) c.in_ok-node.ensures.read _ c.in_ok-display.ensures.read _ (c.in_err-name.ensures.refused is))

pub returns-clause-said : goal.returns-clause-said
returns-clause-said c = enum_begun (nodes_of c.args.context.nodes.now) c.args.id (node_said (record_seen c.in_ok-node.node)) c.in_ok-node.ensures.read _ c.in_ok-display.ensures.read _ c.in_ok-name.ensures.read
