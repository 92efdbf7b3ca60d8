-- The walk keeps that in each node before, the members have each value once; the first node where they have not breaks rule 9.
use Rattle.std.proofs.Common.{arith}
use Rattle.std.proofs.lemmas.List.{length-map}
use Rattle.capnp_device.specs.declared.error.SchemaTable.TheVariants.{Node as InNodes}
use Rattle.capnp_schema.specs.Schema.{seen_node}
use Rattle.capnp_schema.specs.Entries.{lists_seen}
use Rattle.capnp_schema.specs.Accepted.{HasEachMember}
use Rattle.capnp_schema.specs.Broken.{members}
use Rattle.std.proofs.lemmas.Bool.Decides.{not_from_Decides}
use Rattle.capnp_schema.proofs.EntryWalk.{one_stands, all_stand, entry_breaks}
use Rattle.capnp_schema.proofs.Checking.FieldWalk.{refused}
use Rattle.capnp_schema.proofs.check.unions.check_unions.Goals as goal

pub returns-then-not-branch : goal.returns-then-not-branch
returns-then-not-branch c = refused (lists_seen c.args.lists.now) c.refusal.result.kind 9 InNodes c.loop-n.n 65535 c.refusal.ensures
    (members c.loop-n.n (entry_breaks (lists_seen c.args.lists.now).nodes HasEachMember c.loop-n.n (seen_node c.in-Some.node.now) c.in-Some.ensures
    (not_from_Decides _ c.in_ok-has_each_member.ensures c.if-not-branch.true)))

pub loop-n-preserved : goal.loop-n-preserved
loop-n-preserved c = one_stands (lists_seen c.args.lists.now).nodes HasEachMember c.loop-n.n (seen_node c.in-Some.node.now) c.in-Some.ensures (c.in_ok-has_each_member.ensures.0 c.if-not-branch.false) c.loop-n.invariant

pub returns : goal.returns
returns c = all_stand (lists_seen c.args.lists.now).nodes HasEachMember c.loop-n.n c.loop-n.invariant (omega (arith, length-map c.args.lists.now.nodes.items seen_node))
