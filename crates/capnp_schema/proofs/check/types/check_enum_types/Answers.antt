-- The walk keeps that the annotation types of all enums before name entries.
-- By rules 2 and 3 each enum has few, so the place of an unnamed one fits.
use Rattle.std.proofs.Common.{arith}
use Rattle.std.proofs.lemmas.List.{length-map}
use Rattle.capnp_device.specs.declared.error.SchemaTable.TheVariants.{Enum as InEnums}
use Rattle.capnp_schema.specs.Schema.{Enum, seen_enum}
use Rattle.capnp_schema.specs.Accepted.{TypesName}
use Rattle.capnp_schema.specs.Entries.{lists_seen}
use Rattle.capnp_schema.proofs.EntryWalk.{one_stands, all_stand}
use Rattle.capnp_schema.proofs.Checking.FieldWalk.{refused}
use Rattle.capnp_schema.proofs.Checking.Types.{enum_unnamed, few_enum_children, children_length}
use Rattle.capnp_schema.proofs.check.types.check_enum_types.Goals as goal

pub unnamed-requires : goal.unnamed-requires
unnamed-requires c = omega (arith, children_length c.in-Some.entry.now.annotation_types.children.items, few_enum_children (lists_seen c.args.lists.now) c.requires.rule3 c.requires.rule2 c.loop-e.e (seen_enum c.in-Some.entry.now) c.in-Some.ensures)

pub returns-in-Some-unnamed : goal.returns-in-Some-unnamed
returns-in-Some-unnamed c = refused (lists_seen c.args.lists.now) c.refusal.result.kind 1 InEnums c.loop-e.e c.in-Some-unnamed.place c.refusal.ensures
    (enum_unnamed (lists_seen c.args.lists.now) c.loop-e.e c.in-Some-unnamed.place (seen_enum c.in-Some.entry.now) c.in-Some.ensures c.in-Some-unnamed.ensures)

pub loop-e-preserved : goal.loop-e-preserved
loop-e-preserved c = one_stands (lists_seen c.args.lists.now).enums (λ (x : Enum). TypesName (lists_seen c.args.lists.now) x.annotation_types) c.loop-e.e (seen_enum c.in-Some.entry.now) c.in-Some.ensures c.in_default-unnamed.ensures c.loop-e.invariant

pub returns : goal.returns
returns c = all_stand (lists_seen c.args.lists.now).enums (λ (x : Enum). TypesName (lists_seen c.args.lists.now) x.annotation_types) c.loop-e.e c.loop-e.invariant (omega (arith, length-map c.args.lists.now.enums.items seen_enum))
