-- Sets that are accepted: those whose tests of the twelve rules compute, and lists that are those of such a set.
use Rattle.std.proofs.Common.{ℕ, ◌≡◌, true, List, sym, subst}
use Rattle.capnp_schema.specs.Schema.{Schemas, Node, Brand, Enum}
use Rattle.capnp_schema.specs.Accepted.{IsAccepted}
use Rattle.capnp_schema.specs.Facts.ComputedRules.{meets_rule1, meets_rule2, meets_rule3, meets_rule4, meets_rule5, meets_rule7, meets_rule9, meets_rule10, rule1, rule2, rule3, rule4, rule5, rule7, rule9, rule10}
use Rattle.capnp_schema.specs.Facts.ComputedValues.{meets_rule6, rule6}
use Rattle.capnp_schema.specs.Facts.ComputedGroups.{meets_rule8, rule8}
use Rattle.capnp_schema.specs.Facts.ComputedSpans.{meets_rule11, meets_rule12, rule11, rule12}

-- the tests, where the brand and field of each group are given
pub record MeetsRules (set : Schemas) (parents : ℕ → ℕ × ℕ) : Type 0 where
  pub rule1 : meets_rule1 set ≡ true
  pub rule2 : meets_rule2 set ≡ true
  pub rule3 : meets_rule3 set ≡ true
  pub rule4 : meets_rule4 set ≡ true
  pub rule5 : meets_rule5 set ≡ true
  pub rule6 : meets_rule6 set ≡ true
  pub rule7 : meets_rule7 set ≡ true
  pub rule8 : meets_rule8 set parents ≡ true
  pub rule9 : meets_rule9 set ≡ true
  pub rule10 : meets_rule10 set ≡ true
  pub rule11 : meets_rule11 set ≡ true
  pub rule12 : meets_rule12 set ≡ true

pub rules_accept : (set : Schemas) (parents : ℕ → ℕ × ℕ) → MeetsRules set parents → IsAccepted set
rules_accept set parents meets = record {
  rule1 = rule1 set meets.rule1;
  rule2 = rule2 set meets.rule2;
  rule3 = rule3 set meets.rule3;
  rule4 = rule4 set meets.rule4;
  rule5 = rule5 set meets.rule5;
  rule6 = rule6 set meets.rule6;
  rule7 = rule7 set meets.rule7;
  rule8 = rule8 set parents meets.rule8;
  rule9 = rule9 set meets.rule9;
  rule10 = rule10 set meets.rule10;
  rule11 = rule11 set meets.rule11;
  rule12 = rule12 set meets.rule12;
}

pub lists_accepted : (set : Schemas) → IsAccepted set → (nodes : List Node) (brands : List Brand) (enums : List Enum) → nodes ≡ set.nodes → brands ≡ set.brands → enums ≡ set.enums → IsAccepted (record { nodes = nodes; brands = brands; enums = enums })
lists_accepted set accepted nodes brands enums n b e =
    subst (λ (ns : List Node). IsAccepted (record { nodes = ns; brands = brands; enums = enums })) (sym n) (
    subst (λ (bs : List Brand). IsAccepted (record { nodes = set.nodes; brands = bs; enums = enums })) (sym b) (
    subst (λ (es : List Enum). IsAccepted (record { nodes = set.nodes; brands = set.brands; enums = es })) (sym e) accepted))
