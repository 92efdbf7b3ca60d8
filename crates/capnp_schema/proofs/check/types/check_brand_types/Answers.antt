-- The walk keeps that the annotation types of all brands before name entries.
-- By rules 2 and 3 each brand has few, so the place of an unnamed one fits.
use Rattle.std.proofs.Common.{arith}
use Rattle.std.proofs.lemmas.List.{length-map}
use Rattle.capnp_device.specs.declared.error.SchemaTable.TheVariants.{Brand as InBrands}
use Rattle.capnp_schema.specs.Schema.{Brand, seen_brand}
use Rattle.capnp_schema.specs.Accepted.{TypesName}
use Rattle.capnp_schema.specs.Entries.{lists_seen}
use Rattle.capnp_schema.proofs.EntryWalk.{one_stands, all_stand}
use Rattle.capnp_schema.proofs.Checking.FieldWalk.{refused}
use Rattle.capnp_schema.proofs.Checking.Types.{brand_unnamed, few_brand_children, children_length}
use Rattle.capnp_schema.proofs.check.types.check_brand_types.Goals as goal

pub unnamed-requires : goal.unnamed-requires
unnamed-requires c = omega (arith, children_length c.in-Some.entry.now.annotation_types.children.items, few_brand_children (lists_seen c.args.lists.now) c.requires.rule3 c.requires.rule2 c.loop-brand.brand (seen_brand c.in-Some.entry.now) c.in-Some.ensures)

pub returns-in-Some-unnamed : goal.returns-in-Some-unnamed
returns-in-Some-unnamed c = refused (lists_seen c.args.lists.now) c.refusal.result.kind 1 InBrands c.loop-brand.brand c.in-Some-unnamed.place c.refusal.ensures
    (brand_unnamed (lists_seen c.args.lists.now) c.loop-brand.brand c.in-Some-unnamed.place (seen_brand c.in-Some.entry.now) c.in-Some.ensures c.in-Some-unnamed.ensures)

pub loop-brand-preserved : goal.loop-brand-preserved
loop-brand-preserved c = one_stands (lists_seen c.args.lists.now).brands (λ (x : Brand). TypesName (lists_seen c.args.lists.now) x.annotation_types) c.loop-brand.brand (seen_brand c.in-Some.entry.now) c.in-Some.ensures c.in_default-unnamed.ensures c.loop-brand.invariant

pub returns : goal.returns
returns c = all_stand (lists_seen c.args.lists.now).brands (λ (x : Brand). TypesName (lists_seen c.args.lists.now) x.annotation_types) c.loop-brand.brand c.loop-brand.invariant (omega (arith, length-map c.args.lists.now.brands.items seen_brand))
