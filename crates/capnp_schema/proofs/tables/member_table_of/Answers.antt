-- The node read there is that of the set, so rule 3 makes its fields few and rule 9 gives it each member once.
use Rattle.std.proofs.Common.{◌≤◌, length, subst}
use Rattle.capnp_schema.specs.Schema.{Node, seen_node}
use Rattle.capnp_schema.specs.Entries.{lists_seen}
use Rattle.capnp_schema.specs.Accepted.{HasEachMember}
use Rattle.capnp_schema.proofs.FieldCounts.{few_fields}
use Rattle.capnp_schema.proofs.MemberTables.{has_each, node_here}
use Rattle.capnp_schema.proofs.tables.member_table_of.Goals as goal

pub member_table-requires-clause-few : goal.member_table-requires-clause-few
member_table-requires-clause-few c = subst (λ (n : Node). length n.fields ≤ 65535) (node_here (lists_seen c.args.lists.now) c.args.node (seen_node c.in-Some.record.now) c.in-Some.ensures) (few_fields (lists_seen c.args.lists.now) c.requires.rule3.counts c.args.node)

pub member_table-requires-clause-each : goal.member_table-requires-clause-each
member_table-requires-clause-each c = subst HasEachMember (node_here (lists_seen c.args.lists.now) c.args.node (seen_node c.in-Some.record.now) c.in-Some.ensures) (has_each (lists_seen c.args.lists.now) c.requires c.args.node)
