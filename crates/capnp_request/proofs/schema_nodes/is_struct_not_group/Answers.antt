use Rattle.capnp_request.proofs.NodesRead.{no_root, root_read}
use Rattle.capnp_request.proofs.schema_nodes.is_struct_not_group.Goals as goal

pub returns-in-Ok : goal.returns-in-Ok
returns-in-Ok c = root_read _ _ _ c.in-Ok.ensures.read c.bool_at.ensures

pub returns-in-Err : goal.returns-in-Err
returns-in-Err c = no_root _ c.in-Err.ensures.missing
