-- Whether the node is an annotation decides: its group is then the declaration, and a node of another kind declares nothing.
use Rattle.std.proofs.Common.{◌∙◌}
use Rattle.capnp_request.specs.Steps.Seen.{record_seen}
use Rattle.capnp_request.proofs.NodesRead.{annotation_kind, declared_by, undeclared}
use Rattle.capnp_request.proofs.schema_nodes.SchemaNodes.declaration.Goals as goal

pub returns-then-not-is_annotation_node-clause-missing : goal.returns-then-not-is_annotation_node-clause-missing
returns-then-not-is_annotation_node-clause-missing c = undeclared _ (record_seen c.in-Some.node) c.in-Some.ensures.read (c.is_annotation_node.ensures.kind ∙ c.if-not-is_annotation_node.true)

pub returns-clause-read : goal.returns-clause-read
returns-clause-read c =
    declared_by _ (record_seen c.in-Some.node) (record_seen c.group_at-declaration.result) c.in-Some.ensures.read
    (annotation_kind (record_seen c.in-Some.node) _ (c.is_annotation_node.ensures.active c.if-not-is_annotation_node.false) c.group_at-declaration.ensures.read)
