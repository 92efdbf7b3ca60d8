-- The walk keeps that each node before has its discriminant inside its data section; the first that has not breaks rule 10.
use Rattle.std.proofs.Common.{false, refl, arith}
use Rattle.std.proofs.lemmas.List.{length-map}
use Rattle.std.proofs.lemmas.Bool.Decides.{not_from_Decides}
use Rattle.capnp_device.specs.declared.error.SchemaTable.TheVariants.{Node as InNodes}
use Rattle.capnp_schema.specs.Schema.{seen_node}
use Rattle.capnp_schema.specs.Entries.{lists_seen}
use Rattle.capnp_schema.specs.Accepted.{DiscriminantFits}
use Rattle.capnp_schema.specs.Broken.{discriminant_outside}
use Rattle.capnp_schema.proofs.EntryWalk.{one_stands, all_stand, entry_breaks}
use Rattle.capnp_schema.proofs.Checking.FieldWalk.{refused}
use Rattle.capnp_schema.proofs.check.unions.check_discriminants.Goals as goal

pub returns-then-not-is_discriminant_inside : goal.returns-then-not-is_discriminant_inside
returns-then-not-is_discriminant_inside c = refused (lists_seen c.args.lists.now) c.refusal.result.kind 10 InNodes c.loop-n.n 65535 c.refusal.ensures
    (discriminant_outside c.loop-n.n (entry_breaks (lists_seen c.args.lists.now).nodes DiscriminantFits c.loop-n.n (seen_node c.in-Some.node.now) c.in-Some.ensures
    (not_from_Decides false c.if-not-is_discriminant_inside.ensures refl)))

pub loop-n-preserved : goal.loop-n-preserved
loop-n-preserved c = one_stands (lists_seen c.args.lists.now).nodes DiscriminantFits c.loop-n.n (seen_node c.in-Some.node.now) c.in-Some.ensures (c.if-not-is_discriminant_inside.ensures.0 refl) c.loop-n.invariant

pub returns : goal.returns
returns c = all_stand (lists_seen c.args.lists.now).nodes DiscriminantFits c.loop-n.n c.loop-n.invariant (omega (arith, length-map c.args.lists.now.nodes.items seen_node))
