-- The active member decides the node's kind: 7 is an enum, any other is not, and without one the node is of no kind.
use Rattle.std.proofs.Common.{ap, sym, ◌∙◌}
use Rattle.capnp_request.specs.Steps.Seen.{record_seen}
use Rattle.capnp_request.specs.Types.{is_enum}
use Rattle.capnp_request.proofs.NodesRead.{kind_none, enum_where}
use Rattle.capnp_request.proofs.schema_nodes.is_enum_node.Goals as goal

pub returns-in-Some-clause-kind : goal.returns-in-Some-clause-kind
returns-in-Some-clause-kind c = enum_where (record_seen c.args.node) c.in-Some.member (sym c.node_member.ensures ∙ c.in-Some.is)

pub returns-in-None-clause-kind : goal.returns-in-None-clause-kind
returns-in-None-clause-kind c = ap is_enum (kind_none (record_seen c.args.node) (sym c.node_member.ensures ∙ c.in-None.is))
