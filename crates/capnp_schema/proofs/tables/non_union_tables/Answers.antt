-- By rule 3 a node has few fields, so their indices fit.
-- One list is pushed for each node, and each so far is of the non-union fields of the node at its index.
use Rattle.std.proofs.Common.{◌≡◌, ◌∙◌, ap, arith, length, refl}
use Rattle.std.proofs.lemmas.List.{length-map}
use Rattle.capnp_schema.specs.Schema.{node_at, seen_field, seen_node}
use Rattle.capnp_schema.specs.Entries.{lists_seen}
use Rattle.capnp_schema.specs.Query.{indices_from, is_non_union, non_union_fields}
use Rattle.capnp_schema.proofs.EntryTables.{all_node_tables, one_table}
use Rattle.capnp_schema.proofs.FieldCounts.{few_fields}
use Rattle.capnp_schema.proofs.tables.non_union_tables.Goals as goal

pub non_union_table-requires : goal.non_union_table-requires
non_union_table-requires c =
    let few = few_fields (lists_seen c.args.lists.now) c.requires.rule3.counts c.loop-n.n in
    let n = length-map c.fields_at.result.now seen_field in
    let e = ap (λ fs. length fs) c.fields_at.ensures in
    omega arith

pub loop-n-preserved : goal.loop-n-preserved
loop-n-preserved c = rw c.in_ok-push.ensures.items (one_table (λ n table. table ≡ non_union_fields (node_at (lists_seen c.args.lists.now) n).fields) c.loop-n.tables.items c.loop-n.n c.in_ok-table.table c.loop-n.invariant (c.in_ok-table.ensures.table ∙ ap (indices_from 0 is_non_union) c.fields_at.ensures))

pub returns-clause-tables : goal.returns-clause-tables
returns-clause-tables c = all_node_tables (lists_seen c.args.lists.now) (λ x table. table ≡ non_union_fields x.fields) c.loop-n.tables.items c.loop-n.n c.loop-n.invariant (let n = length-map c.args.lists.now.nodes.items seen_node in omega arith) refl
