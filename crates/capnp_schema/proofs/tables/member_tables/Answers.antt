-- One member table is pushed for each node, so each so far stands for the node at its index;
-- a node past the end has the empty one.
use Rattle.std.proofs.Common.{arith}
use Rattle.std.proofs.lemmas.List.{length-map}
use Rattle.capnp_schema.specs.Schema.{node_at, seen_node}
use Rattle.capnp_schema.specs.Entries.{lists_seen}
use Rattle.capnp_schema.specs.Tables.{IsMemberTable}
use Rattle.capnp_schema.proofs.EntryTables.{all_node_tables, one_table}
use Rattle.capnp_schema.proofs.MemberTables.{no_member_table}
use Rattle.capnp_schema.proofs.tables.member_tables.Goals as goal

pub loop-n-preserved : goal.loop-n-preserved
loop-n-preserved c = rw c.in_ok-push.ensures.items (one_table (λ n table. IsMemberTable (node_at (lists_seen c.args.lists.now) n) table) c.loop-n.tables.items c.loop-n.n c.in_ok-table.table c.loop-n.invariant c.in_ok-table.ensures.table)

pub returns-clause-tables : goal.returns-clause-tables
returns-clause-tables c = all_node_tables (lists_seen c.args.lists.now) (λ x table. IsMemberTable x table) c.loop-n.tables.items c.loop-n.n c.loop-n.invariant (let n = length-map c.args.lists.now.nodes.items seen_node in omega arith) no_member_table
