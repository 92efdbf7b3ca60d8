use Rattle.std.proofs.Common.{Some, ap, ◌∙◌}
use Rattle.std.specs.Option.{option_map}
use Rattle.capnp_request.specs.Reading.{node_said}
use Rattle.capnp_request.proofs.NodesListed.{said_by}
use Rattle.capnp_request.proofs.schema_nodes.SchemaNodes.get.Goals as goal

pub returns-in-Some-clause-read : goal.returns-in-Some-clause-read
returns-in-Some-clause-read c = ap (λ r. Some (node_said r)) c.node_of.ensures.read ∙ (ap (option_map said_by) c.in-Some.ensures.value ∙ c.requires.by_id c.args.id)
