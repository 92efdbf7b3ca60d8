-- Fields of the node at the index meet, or those of the nodes up to it don't.
use Rattle.std.proofs.Common.{◌≡◌, Some, slice_get}
use Rattle.capnp_schema.specs.Entries.{lists_seen}
use Rattle.capnp_schema.specs.Schema.{seen_node}
use Rattle.capnp_json_names.proofs.NodesMet.{no_node_left, node_met, node_passed, seen_past, seen_there}
use Rattle.capnp_json_names.proofs.names.find_fields.Goals as goal

pub returns-in-Some : goal.returns-in-Some
returns-in-Some c =
    let set = lists_seen c.args.schemas.now in
    let there : slice_get set.nodes c.loop-node.node-index ≡ Some (seen_node c.node-item.result) =
    seen_there seen_node c.nodes-node-items.result.now set.nodes c.loop-node.node-index c.node-item.result c.nodes-node-items.ensures.is c.loop-node-test.true c.node-item.is in
    node_met set c.loop-node.node-index (seen_node c.node-item.result) c.in-Some.met there c.loop-node.invariant c.in-Some.ensures

pub loop-node-preserved : goal.loop-node-preserved
loop-node-preserved c =
    let set = lists_seen c.args.schemas.now in
    let there : slice_get set.nodes c.loop-node.node-index ≡ Some (seen_node c.node-item.result) =
    seen_there seen_node c.nodes-node-items.result.now set.nodes c.loop-node.node-index c.node-item.result c.nodes-node-items.ensures.is c.loop-node-test.true c.node-item.is in
    node_passed set c.loop-node.node-index (seen_node c.node-item.result) there c.loop-node.invariant c.in_default.ensures

pub returns : goal.returns
returns c =
    let set = lists_seen c.args.schemas.now in
    no_node_left set c.loop-node.node-index (seen_past seen_node c.nodes-node-items.result.now set.nodes c.loop-node.node-index c.nodes-node-items.ensures.is c.loop-node-test.false) c.loop-node.invariant
