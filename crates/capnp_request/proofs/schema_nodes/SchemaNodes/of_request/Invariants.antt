-- So many nodes were read, and the map says which has an id.
use Rattle.capnp_request.proofs.NodesListed.{ReadSoFar}
use Rattle.capnp_request.proofs.schema_nodes.SchemaNodes.of_request.Given as goal

abbrev pub invariant-loop-index : goal.invariant-loop-index
invariant-loop-index l = ReadSoFar l.listed l.by_id l.index
