-- The meta set meets the twelve rules: the tests of the rules, computed.
use Rattle.std.proofs.Common.{ℕ, refl}
use Rattle.capnp_wire.specs.Place.{tree_at, tree_below}
use Rattle.capnp_schema.specs.Accepted.{IsAccepted}
use Rattle.capnp_schema.specs.Facts.AcceptedLists.{MeetsRules, rules_accept}
use Rattle.capnp_schema.specs.Meta.{meta}

-- group 3 stands at field 3 of brand 2
abbrev parents : ℕ → ℕ × ℕ
parents g = (2, 3)

meta_meets_rules : MeetsRules meta parents
unfolding tree_at tree_below
meta_meets_rules = record { rule1 = refl; rule2 = refl; rule3 = refl; rule4 = refl; rule5 = refl; rule6 = refl; rule7 = refl; rule8 = refl; rule9 = refl; rule10 = refl; rule11 = refl; rule12 = refl }

pub meta_accepted : IsAccepted meta
meta_accepted = rules_accept meta parents meta_meets_rules
