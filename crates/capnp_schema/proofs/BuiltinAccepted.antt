-- The built-in set meets the twelve rules: the tests of the rules, computed.
use Rattle.std.proofs.Common.{ℕ, ◌-◌, refl}
use Rattle.capnp_wire.specs.Place.{tree_at, tree_below}
use Rattle.capnp_schema.specs.Accepted.{IsAccepted}
use Rattle.capnp_schema.specs.Facts.AcceptedLists.{MeetsRules, rules_accept}
use Rattle.capnp_schema.specs.Builtin.{builtin}

-- groups 4 and 5 stand at fields 1 and 2 of brand 3
abbrev parents : ℕ → ℕ × ℕ
parents g = (3, g - 3)

builtin_meets_rules : MeetsRules builtin parents
unfolding tree_at tree_below
builtin_meets_rules = record { rule1 = refl; rule2 = refl; rule3 = refl; rule4 = refl; rule5 = refl; rule6 = refl; rule7 = refl; rule8 = refl; rule9 = refl; rule10 = refl; rule11 = refl; rule12 = refl }

pub builtin_accepted : IsAccepted builtin
builtin_accepted = rules_accept builtin parents builtin_meets_rules
