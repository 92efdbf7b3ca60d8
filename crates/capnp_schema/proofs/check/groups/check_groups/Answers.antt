-- By rules 1 and 7 each group field leads to a group.
-- The walk keeps that all groups before stand, and that each marked one stands in a struct.
use Rattle.std.proofs.Common.{refl, sym, subst, arith, below_more}
use Rattle.capnp_schema.specs.Accepted.{GroupStands}
use Rattle.capnp_schema.specs.Entries.{lists_seen}
use Rattle.capnp_schema.specs.Steps.Checking.Parents.{AreKnown}
use Rattle.capnp_schema.proofs.Checking.BrandRefusals.{refused_at_group}
use Rattle.capnp_schema.proofs.Checking.GroupChains.{none_known}
use Rattle.capnp_schema.proofs.GroupTargets.{targets_are_groups}
use Rattle.capnp_schema.proofs.check.groups.check_groups.Goals as goal

pub parent_table-requires : goal.parent_table-requires
parent_table-requires c = targets_are_groups (lists_seen c.args.lists.now) c.requires.rule1 c.requires.rule7

pub group_stands-requires-clause-targets : goal.group_stands-requires-clause-targets
group_stands-requires-clause-targets c = targets_are_groups (lists_seen c.args.lists.now) c.requires.rule1 c.requires.rule7

pub returns-then-not-group_stands : goal.returns-then-not-group_stands
returns-then-not-group_stands c = refused_at_group (lists_seen c.args.lists.now) c.refusal.result c.loop-group.group c.refusal.ensures (omega arith) (c.if-not-group_stands.ensures.no refl)

pub loop-group-preserved : goal.loop-group-preserved
loop-group-preserved c = record {
  stands = below_more (GroupStands (lists_seen c.args.lists.now)) c.loop-group.group c.loop-group.invariant.stands (c.if-not-group_stands.ensures.yes refl);
  known = c.mark_way.ensures;
}

pub loop-group-init : goal.loop-group-init
loop-group-init c = record {
  stands = λ g lt. absurd (omega arith);
  known = none_known (lists_seen c.args.lists.now) _ _ c.in_ok-known.ensures c.brand_count.ensures;
}

pub mark_way-requires-clause-targets : goal.mark_way-requires-clause-targets
mark_way-requires-clause-targets c = targets_are_groups (lists_seen c.args.lists.now) c.requires.rule1 c.requires.rule7

pub group_stands-requires-clause-known : goal.group_stands-requires-clause-known
group_stands-requires-clause-known c = subst (AreKnown (lists_seen c.args.lists.now)) (sym c.deref-in-loop-group.ensures.value) c.loop-group.invariant.known
