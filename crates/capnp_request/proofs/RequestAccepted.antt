-- The request set meets the twelve rules: the tests of the rules, computed.
use Rattle.std.proofs.Common.{ℕ, ◌==◌, List, [], ◌∷◌, cond, refl}
use Rattle.capnp_wire.specs.Place.{tree_at, tree_below}
use Rattle.capnp_schema.specs.Accepted.{IsAccepted}
use Rattle.capnp_schema.specs.Facts.AcceptedLists.{MeetsRules, rules_accept}
use Rattle.capnp_request.specs.RequestSet.{request_set}

-- the struct and the field at which each group stands
abbrev group_places : List (ℕ × (ℕ × ℕ))
group_places = (3, (2, 6)) ∷ (4, (2, 7)) ∷ (5, (2, 10)) ∷ (9, (8, 3)) ∷ (10, (8, 4)) ∷ (14, (13, 14)) ∷ (15, (13, 15)) ∷ (16, (13, 16)) ∷ (17, (13, 18)) ∷ (18, (17, 1)) ∷ []

abbrev place_of : List (ℕ × (ℕ × ℕ)) → ℕ → ℕ × ℕ
place_of [] g = (0, 0)
place_of ((h, place) ∷ places) g = cond (h == g) place (place_of places g)

abbrev parents : ℕ → ℕ × ℕ
parents = place_of group_places

request_meets_rules : MeetsRules request_set parents
unfolding tree_at tree_below
request_meets_rules = record { rule1 = refl; rule2 = refl; rule3 = refl; rule4 = refl; rule5 = refl; rule6 = refl; rule7 = refl; rule8 = refl; rule9 = refl; rule10 = refl; rule11 = refl; rule12 = refl }

pub request_accepted : IsAccepted request_set
request_accepted = rules_accept request_set parents request_meets_rules
