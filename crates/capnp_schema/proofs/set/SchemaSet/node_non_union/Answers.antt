-- The table kept for the node is the list of its non-union fields; these are no more than its fields, which rule 3 makes few.
use Rattle.std.proofs.Common.{ℕ, ◌≡◌, ◌∙◌, List, Vec, ap, arith, length}
use Rattle.std.specs.declared.alloc.Global.{Global}
use Rattle.capnp_schema.specs.Schema.{node_at}
use Rattle.capnp_schema.specs.Entries.{lists_seen}
use Rattle.capnp_schema.specs.Query.{is_non_union, non_union_fields}
use Rattle.capnp_schema.specs.Tables.{table_at}
use Rattle.capnp_schema.proofs.FieldCounts.{few_fields}
use Rattle.capnp_schema.proofs.LookUps.{accepted_seen, tables_seen}
use Rattle.capnp_schema.proofs.StructLookUps.{kept_few}
use Rattle.capnp_schema.proofs.set.SchemaSet.node_non_union.Goals as goal

pub returns-clause-few : goal.returns-clause-few
returns-clause-few c =
    let is : c.table_at.result.now ≡ non_union_fields (node_at (lists_seen c.args.self.now) c.args.node).fields =
    c.table_at.ensures ∙ ap (λ (ts : List (Vec ℕ Global)). table_at ts c.args.node) c.deref.ensures.value ∙ (tables_seen c.self.view_is c.self.invariant.1).non_union c.args.node in
    omega (arith, ap (λ (l : List ℕ). length l) is, kept_few is_non_union (node_at (lists_seen c.args.self.now) c.args.node).fields 0, few_fields (lists_seen c.args.self.now) (accepted_seen c.self.view_is c.self.invariant.0).rule3.counts c.args.node)
