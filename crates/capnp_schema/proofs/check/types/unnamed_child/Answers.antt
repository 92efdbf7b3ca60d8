-- The walk keeps that the types of all children before are named; the child it stops at has one that isn't.
use Rattle.std.proofs.Common.{map, arith}
use Rattle.capnp_schema.specs.Types.{seen_type}
use Rattle.capnp_schema.specs.Accepted.{AllName}
use Rattle.capnp_schema.specs.Steps.Checking.Types.{seen_children, seen_list}
use Rattle.capnp_schema.specs.Entries.{lists_seen}
use Rattle.capnp_schema.proofs.EntryWalk.{one_stands, all_stand, entry_breaks, seen_at}
use Rattle.capnp_schema.proofs.Checking.Types.{children_length, decided_at, decided_not}
use Rattle.capnp_schema.proofs.check.types.unnamed_child.Goals as goal

pub returns-then-not-all_named : goal.returns-then-not-all_named
returns-then-not-all_named c = entry_breaks (seen_children c.args.children.now) (AllName (lists_seen c.args.lists.now)) c.loop-i.i (map seen_type c.in-Some.types.now.items) (seen_at seen_list c.args.children.now c.loop-i.i c.in-Some.types.now c.in-Some.ensures)
    (decided_not (lists_seen c.args.lists.now) c.all_named.result c.deref.result.now c.in-Some.types.now.items c.deref.ensures.value c.all_named.ensures c.if-not-all_named.true)

pub loop-i-preserved : goal.loop-i-preserved
loop-i-preserved c = one_stands (seen_children c.args.children.now) (AllName (lists_seen c.args.lists.now)) c.loop-i.i (map seen_type c.in-Some.types.now.items) (seen_at seen_list c.args.children.now c.loop-i.i c.in-Some.types.now c.in-Some.ensures)
    (decided_at (lists_seen c.args.lists.now) c.all_named.result c.deref.result.now c.in-Some.types.now.items c.deref.ensures.value c.all_named.ensures c.if-not-all_named.false) c.loop-i.invariant

pub returns : goal.returns
returns c = all_stand (seen_children c.args.children.now) (AllName (lists_seen c.args.lists.now)) c.loop-i.i c.loop-i.invariant (omega (arith, children_length c.args.children.now))
