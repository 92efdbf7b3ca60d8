-- Where a rule is broken the rule doesn't hold, and a set isn't accepted.
use Rattle.std.specs.Prelude.{ℕ, ◌≡◌}
use Rattle.capnp_device.specs.declared.error.SchemaTable.{SchemaTable}
use Rattle.capnp_schema.specs.Schema.{Schemas}
use Rattle.capnp_schema.specs.Accepted.{IsAccepted, Rule1, Rule2, Rule3, Rule4, Rule5, Rule6, Rule7, Rule8, Rule9, Rule10, Rule11, Rule12}
use Rattle.capnp_schema.specs.Broken.{IsBroken}

-- the rule of that number
pub record RuleHolds (set : Schemas) (rule : ℕ) : Type 0 where
  pub rule1 : rule ≡ 1 → Rule1 set
  pub rule2 : rule ≡ 2 → Rule2 set
  pub rule3 : rule ≡ 3 → Rule3 set
  pub rule4 : rule ≡ 4 → Rule4 set
  pub rule5 : rule ≡ 5 → Rule5 set
  pub rule6 : rule ≡ 6 → Rule6 set
  pub rule7 : rule ≡ 7 → Rule7 set
  pub rule8 : rule ≡ 8 → Rule8 set
  pub rule9 : rule ≡ 9 → Rule9 set
  pub rule10 : rule ≡ 10 → Rule10 set
  pub rule11 : rule ≡ 11 → Rule11 set
  pub rule12 : rule ≡ 12 → Rule12 set

abbrev pub BrokenRuleFails : Type 0
BrokenRuleFails = (set : Schemas) (rule entry field : ℕ) (table : SchemaTable) → IsBroken set rule table entry field → RuleHolds set rule → ⊥

abbrev pub BrokenIsRefused : Type 0
BrokenIsRefused = (set : Schemas) (rule entry field : ℕ) (table : SchemaTable) → IsBroken set rule table entry field → IsAccepted set → ⊥
