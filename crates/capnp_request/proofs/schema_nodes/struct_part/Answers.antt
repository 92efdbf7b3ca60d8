use Rattle.capnp_request.specs.Steps.Seen.{record_seen}
use Rattle.capnp_request.proofs.NodesRead.{struct_kind}
use Rattle.capnp_request.proofs.schema_nodes.struct_part.Goals as goal

pub returns-clause-read : goal.returns-clause-read
returns-clause-read c = struct_kind (record_seen c.args.node) _ (c.is_struct_node.ensures.active c.if-not-is_struct_node.false) c.group_at-part.ensures.read
