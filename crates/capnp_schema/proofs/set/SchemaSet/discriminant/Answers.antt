-- The plan of the member of value 0 has the discriminant's place.
use Rattle.std.proofs.Common.{ℕ, ap}
use Rattle.std.specs.Option.{option_map}
use Rattle.capnp_schema.specs.Entries.{lists_seen}
use Rattle.capnp_schema.specs.declared.plan.SlotPlan.{SlotPlan}
use Rattle.capnp_schema.proofs.DiscriminantPlaces.{first_place, no_union}
use Rattle.capnp_schema.proofs.LookUps.{accepted_seen}
use Rattle.capnp_schema.proofs.set.SchemaSet.discriminant.Goals as goal

pub returns-in_default : goal.returns-in_default
returns-in_default c = no_union (lists_seen c.args.self.now) (accepted_seen c.accepted_lists-lists.ensures.is c.accepted_lists-lists.ensures.accepted) c.args.brand c.in_default.ensures

pub returns-in-Some-member : goal.returns-in-Some-member
returns-in-Some-member c =
    let placed = first_place (lists_seen c.args.self.now) (accepted_seen c.accepted_lists-lists.ensures.is c.accepted_lists-lists.ensures.accepted) c.args.brand c.in-Some.index c.in-Some.ensures
    c.plan.result.now.member (ap (λ (p : SlotPlan). p.member) c.plan.ensures.is) in
    let read = ap (option_map (λ (m : ℕ × ℕ). m.0)) c.in-Some-member.is in
    cc

pub returns-in-None : goal.returns-in-None
returns-in-None c =
    let placed = first_place (lists_seen c.args.self.now) (accepted_seen c.accepted_lists-lists.ensures.is c.accepted_lists-lists.ensures.accepted) c.args.brand c.in-Some.index c.in-Some.ensures
    c.plan.result.now.member (ap (λ (p : SlotPlan). p.member) c.plan.ensures.is) in
    let read = ap (option_map (λ (m : ℕ × ℕ). m.0)) c.in-None.is in
    cc
