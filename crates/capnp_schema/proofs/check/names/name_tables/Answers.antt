-- One table is pushed for each node, so each table so far is of the node at its index; at the end there are as many as nodes.
use Rattle.std.proofs.Common.{arith}
use Rattle.std.proofs.lemmas.List.{length-map}
use Rattle.capnp_schema.specs.Entries.{lists_seen}
use Rattle.capnp_schema.specs.Names.{IsNameTable}
use Rattle.capnp_schema.specs.Schema.{node_at, seen_node}
use Rattle.capnp_schema.proofs.EntryTables.{all_node_tables, one_table}
use Rattle.capnp_schema.proofs.Checking.NameTables.{no_names}
use Rattle.capnp_schema.proofs.check.names.name_tables.Goals as goal

pub loop-n-preserved : goal.loop-n-preserved
loop-n-preserved c = rw c.in_ok-push.ensures.items (one_table (λ n table. IsNameTable (node_at (lists_seen c.args.lists.now) n).fields table) c.loop-n.tables.items c.loop-n.n c.in_ok-table.table c.loop-n.invariant c.in_ok-table.ensures)

pub returns : goal.returns
returns c =
    let n = length-map c.args.lists.now.nodes.items seen_node in
    let counted = c.loop-n.invariant.counted in
    record {
      same_length = omega arith;
      each = all_node_tables (lists_seen c.args.lists.now) (λ x table. IsNameTable x.fields table) c.loop-n.tables.items c.loop-n.n c.loop-n.invariant (omega arith) no_names;
    }
