-- Once the discriminant's span is claimed for the levels below, and the top is laid on them,
-- the level of the entered group stands.
use Rattle.std.proofs.Common.{rules, subst, List, ◌++◌, ◌∷◌, []}
use Rattle.capnp_schema.specs.Schema.{seen_node}
use Rattle.capnp_schema.specs.Entries.{lists_seen}
use Rattle.capnp_schema.specs.Steps.Checking.Levels.{IsClaimed}
use Rattle.capnp_schema.specs.declared.check.claims.Level.{Level}
use Rattle.capnp_schema.proofs.FoundEntries.{found_node}
use Rattle.capnp_schema.proofs.Checking.TourGroups.{group_entered}
use Rattle.capnp_schema.proofs.check.tour.enter.Goals as goal

pub returns-clause-stands : goal.returns-clause-stands
returns-clause-stands c = group_entered (lists_seen c.args.lists.now) c.args.tour.now c.args.top c.entered.result c.args.group (seen_node c.in-Some.node.now) c.discriminant_span-span.result c.claim.new.self c.push.new.self c.requires.stands c.requires.entered
    (subst (λ (xs : List Level). IsClaimed (xs ++ c.args.top ∷ []) c.args.tour.now.now c.discriminant_span-span.result c.args.tour.now.claims c.claim.new.self) c.deref.ensures.value (c.in_ok-claim.ensures.claimed (search rules)))
    c.discriminant_span-span.ensures (found_node (lists_seen c.args.lists.now) c.args.group _ c.in-Some.ensures) c.entered.ensures (search rules)
