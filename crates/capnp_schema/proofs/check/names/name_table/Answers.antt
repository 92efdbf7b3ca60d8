-- A node has few fields, so their order by name can be made.
-- A repeated name in it breaks rule 3 at that field; else the order is the table.
use Rattle.std.proofs.Common.{List, ap, arith, length, subst}
use Rattle.std.proofs.lemmas.List.{length-map}
use Rattle.capnp_schema.specs.Entries.{lists_seen}
use Rattle.capnp_schema.specs.Steps.Names.{IsRepeated}
use Rattle.capnp_schema.specs.Schema.{Field, seen_field}
use Rattle.capnp_schema.proofs.FieldCounts.{few_fields}
use Rattle.capnp_schema.proofs.Checking.NameTables.{repeated_at}
use Rattle.capnp_schema.proofs.Checking.FieldWalk.{refused}
use Rattle.capnp_schema.proofs.check.names.name_table.Goals as goal

pub name_order-requires : goal.name_order-requires
name_order-requires c =
    let few = few_fields (lists_seen c.args.lists.now) c.requires c.args.node in
    let n = length-map c.fields_at-fields.result.now seen_field in
    let same = ap (λ (fs : List Field). length fs) c.fields_at-fields.ensures in
    omega arith

pub returns-in-Some : goal.returns-in-Some
returns-in-Some c = refused _ _ _ _ _ _ c.refusal.ensures
    (repeated_at (lists_seen c.args.lists.now) c.args.node c.in-Some.field (subst (λ (fs : List Field). IsRepeated fs c.in-Some.field) c.fields_at-fields.ensures c.in-Some.ensures))
