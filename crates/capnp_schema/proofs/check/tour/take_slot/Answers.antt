use Rattle.std.proofs.Common.{rules, subst, List, ◌++◌, ◌∷◌, []}
use Rattle.capnp_schema.specs.Entries.{lists_seen}
use Rattle.capnp_schema.specs.Steps.Checking.Levels.{IsClaimed}
use Rattle.capnp_schema.specs.declared.check.claims.Level.{Level}
use Rattle.capnp_schema.proofs.Checking.Tours.{slot_taken}
use Rattle.capnp_schema.proofs.check.tour.take_slot.Goals as goal

pub returns-clause-stands : goal.returns-clause-stands
returns-clause-stands c = slot_taken (lists_seen c.args.lists.now) c.args.tour.now c.args.top c.args.field c.args.span c.claim.new.self c.advanced.result c.requires.stands c.requires.current c.requires.names
    (subst (λ (xs : List Level). IsClaimed (xs ++ c.args.top ∷ []) c.args.tour.now.now c.args.span c.args.tour.now.claims c.claim.new.self) c.deref.ensures.value (c.in_ok-claim.ensures.claimed (search rules))) (search rules)
