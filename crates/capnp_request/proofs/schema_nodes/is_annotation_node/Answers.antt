-- The active member decides the node's kind: 10 is an annotation, any other is not, and without one the node is of no kind.
use Rattle.std.proofs.Common.{ap, sym, ◌∙◌}
use Rattle.capnp_request.specs.Steps.Seen.{record_seen}
use Rattle.capnp_request.specs.Steps.Types.{is_annotation}
use Rattle.capnp_request.proofs.NodesRead.{kind_none, annotation_where}
use Rattle.capnp_request.proofs.schema_nodes.is_annotation_node.Goals as goal

pub returns-in-Some-clause-kind : goal.returns-in-Some-clause-kind
returns-in-Some-clause-kind c = annotation_where (record_seen c.args.node) c.in-Some.member (sym c.node_member.ensures ∙ c.in-Some.is)

pub returns-in-None-clause-kind : goal.returns-in-None-clause-kind
returns-in-None-clause-kind c = ap is_annotation (kind_none (record_seen c.args.node) (sym c.node_member.ensures ∙ c.in-None.is))
