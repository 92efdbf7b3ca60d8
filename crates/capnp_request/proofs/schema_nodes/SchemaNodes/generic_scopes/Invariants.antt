-- The scopes so far, and the ids that were met.
use Rattle.std.proofs.Common.{◌-◌}
use Rattle.capnp_request.specs.Steps.Nodes.{nodes_of}
use Rattle.capnp_request.proofs.ScopesRead.{ScopesSoFar}
use Rattle.capnp_request.proofs.schema_nodes.SchemaNodes.generic_scopes.Given as goal

abbrev pub invariant-loop-distance : goal.invariant-loop-distance
invariant-loop-distance l = ScopesSoFar (nodes_of l.self) l.fn.id l.scopes.items l.way (l.self.count - l.distance) l.distance l.id
