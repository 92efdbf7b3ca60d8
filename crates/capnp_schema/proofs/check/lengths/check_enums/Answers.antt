-- The walk keeps that all enums before have a type for each annotation; the first that has not breaks rule 2.
use Rattle.std.proofs.Common.{arith}
use Rattle.std.proofs.lemmas.List.{length-map}
use Rattle.std.proofs.lemmas.Bool.Decides.{not_from_Decides}
use Rattle.capnp_device.specs.declared.error.SchemaTable.TheVariants.{Enum as InEnums}
use Rattle.capnp_schema.specs.Schema.{seen_enum}
use Rattle.capnp_schema.specs.Entries.{lists_seen}
use Rattle.capnp_schema.specs.Accepted.{EnumHasTypes}
use Rattle.capnp_schema.specs.Broken.{enum_lengths}
use Rattle.capnp_schema.proofs.EntryWalk.{one_stands, all_stand, entry_breaks}
use Rattle.capnp_schema.proofs.Checking.FieldWalk.{refused}
use Rattle.capnp_schema.proofs.check.lengths.check_enums.Goals as goal

pub returns-then-not-enum_has_types : goal.returns-then-not-enum_has_types
returns-then-not-enum_has_types c = refused (lists_seen c.args.lists.now) c.refusal.result.kind 2 InEnums c.loop-e.e 65535 c.refusal.ensures
    (enum_lengths c.loop-e.e (entry_breaks (lists_seen c.args.lists.now).enums EnumHasTypes c.loop-e.e (seen_enum c.in-Some.record.now) c.in-Some.ensures
    (not_from_Decides _ c.enum_has_types.ensures c.if-not-enum_has_types.true)))

pub loop-e-preserved : goal.loop-e-preserved
loop-e-preserved c = one_stands (lists_seen c.args.lists.now).enums EnumHasTypes c.loop-e.e (seen_enum c.in-Some.record.now) c.in-Some.ensures (c.enum_has_types.ensures.0 c.if-not-enum_has_types.false) c.loop-e.invariant

pub returns : goal.returns
returns c = all_stand (lists_seen c.args.lists.now).enums EnumHasTypes c.loop-e.e c.loop-e.invariant (omega (arith, length-map c.args.lists.now.enums.items seen_enum))
