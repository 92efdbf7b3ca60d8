-- A brand is refused with rule 2 where it names no node, or lacks types for the node that it
-- names; else both are there, and it stands.
use Rattle.std.proofs.lemmas.Bool.Decides.{not_from_Decides}
use Rattle.capnp_device.specs.declared.error.SchemaTable.TheVariants.{Brand as InBrands}
use Rattle.capnp_schema.specs.Schema.{seen_node, seen_brand}
use Rattle.capnp_schema.specs.Entries.{lists_seen}
use Rattle.capnp_schema.proofs.Checking.FieldWalk.{refused}
use Rattle.capnp_schema.proofs.Checking.Lengths.{names_no_node, brand_stands, lacks_types}
use Rattle.capnp_schema.proofs.check.lengths.check_brand.Goals as goal

pub returns-in_default-node_of : goal.returns-in_default-node_of
returns-in_default-node_of c = refused (lists_seen c.args.lists.now) c.refusal.result.kind 2 InBrands c.args.brand 65535 c.refusal.ensures
    (names_no_node (lists_seen c.args.lists.now) c.args.brand (seen_brand c.in-Some.record.now) c.in-Some.ensures c.in_default-node_of.ensures)

pub returns-then-not-brand_has_types : goal.returns-then-not-brand_has_types
returns-then-not-brand_has_types c = refused (lists_seen c.args.lists.now) c.refusal-then-not-brand_has_types.result.kind 2 InBrands c.args.brand 65535 c.refusal-then-not-brand_has_types.ensures
    (lacks_types (lists_seen c.args.lists.now) c.args.brand (seen_brand c.in-Some.record.now) (seen_node c.in-Some-node_of.node.now) c.in-Some.ensures c.in-Some-node_of.ensures
    (not_from_Decides _ c.brand_has_types.ensures c.if-not-brand_has_types.true))

pub returns : goal.returns
returns c = brand_stands (lists_seen c.args.lists.now) c.args.brand (seen_brand c.in-Some.record.now) (seen_node c.in-Some-node_of.node.now) c.in-Some.ensures c.in-Some-node_of.ensures
    (c.brand_has_types.ensures.0 c.if-not-brand_has_types.false)
