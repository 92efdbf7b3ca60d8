use Rattle.capnp_request.specs.Steps.Seen.{record_seen}
use Rattle.capnp_request.proofs.NodesRead.{name_read, name_unread}
use Rattle.capnp_request.proofs.Refused.{err_if}
use Rattle.capnp_request.proofs.schema_nodes.display_name.Goals as goal

pub returns-clause-read : goal.returns-clause-read
returns-clause-read c = name_read (record_seen c.args.node) _ c.in_ok-name.ensures.read

pub returns-in_err-name-clause-refused : goal.returns-in_err-name-clause-refused
returns-in_err-name-clause-refused c = err_if _ c.from_residual.result _ c.from_residual.ensures.1 (name_unread (record_seen c.args.node) _ c.in_err-name.ensures.refused)
