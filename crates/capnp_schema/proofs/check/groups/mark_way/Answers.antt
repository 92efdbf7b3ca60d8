-- The group gone through stands in a struct, and so does its parent.
-- Marking it therefore keeps that all marked groups stand in one.
use Rattle.std.proofs.Common.{sym}
use Rattle.capnp_schema.specs.Entries.{lists_seen}
use Rattle.capnp_schema.proofs.Checking.GroupChains.{parent_within, parent_stands, mark_known}
use Rattle.capnp_schema.proofs.check.groups.mark_way.Goals as goal

pub loop-preserved : goal.loop-preserved
loop-preserved c = let group = sym c.if-not-is_group.ensures in record {
  known = mark_known (lists_seen c.args.lists.now) c.loop.known.items c.loop.at c.loop.invariant.known (c.loop.invariant.stands group);
  stands = λ _. parent_stands (lists_seen c.args.lists.now) c.requires.targets c.args.parents.now c.requires.table c.loop.at c.in-Some.parent _ group c.in-Some.ensures (c.loop.invariant.stands group);
  within = parent_within (lists_seen c.args.lists.now) c.requires.targets c.args.parents.now c.requires.table c.loop.at c.in-Some.parent _ c.in-Some.ensures;
}
