-- The older nodes unmoved and the newer ones moved behind the older ends are the joined nodes.
-- Sets that are accepted each are accepted when joined.
use Rattle.std.proofs.Common.{◌≡◌, List, All, map, IfErr, IfOk, subst}
use Rattle.capnp_schema.specs.Schema.{Node, seen_node}
use Rattle.capnp_schema.specs.Entries.{lists_seen}
use Rattle.capnp_joined_sets.specs.Refusals.{IsMoveRefusal, NodeFits}
use Rattle.capnp_joined_sets.proofs.JoinedAccepted.{joined_accepted}
use Rattle.capnp_joined_sets.proofs.Kept.{nodes_joined}
use Rattle.capnp_joined_sets.proofs.sets.join_nodes.Goals as goal

pub returns-clause-joined : goal.returns-clause-joined
returns-clause-joined c =
    subst (λ (xs : List Node). IfOk c.both.result (λ out. map seen_node out.items ≡ xs))
    (nodes_joined (lists_seen c.args.older.now) (lists_seen c.args.newer.now) c.ends_of.result _ _ c.nodes.ensures.is c.nodes-2.ensures.is c.ends_of.ensures)
    c.both.ensures.joined

pub returns-clause-refused : goal.returns-clause-refused
returns-clause-refused c =
    subst (λ (xs : List Node). IfErr c.both.result (IsMoveRefusal (All NodeFits xs)))
    (nodes_joined (lists_seen c.args.older.now) (lists_seen c.args.newer.now) c.ends_of.result _ _ c.nodes.ensures.is c.nodes-2.ensures.is c.ends_of.ensures)
    c.both.ensures.refused

pub returns-clause-accepted : goal.returns-clause-accepted
returns-clause-accepted c = joined_accepted (lists_seen c.args.older.now) (lists_seen c.args.newer.now) c.nodes.ensures.accepted c.nodes-2.ensures.accepted
