use Rattle.std.proofs.Common.{refl}
use Rattle.capnp_request.specs.Steps.Nodes.{node_record}
use Rattle.capnp_request.specs.Steps.Seen.{record_seen}
use Rattle.capnp_request.proofs.schema_nodes.node_of.Goals as goal

pub returns-clause-read : goal.returns-clause-read
unfolding node_record record_seen
returns-clause-read c = refl
