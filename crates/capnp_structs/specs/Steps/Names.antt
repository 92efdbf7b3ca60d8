-- The names of a set's structs, as the code meets them one after another: steps of the code.
use Rattle.std.specs.Prelude.{ℕ, ◌≡◌, ◌^◌, ◌<◌, ◌≤◌, List, drop, cond, Option, Some, None, IfSome, bytes_eq}
use Rattle.std.specs.Borrow.{Bor}
use Rattle.std.specs.HashMap.{HashMap, get_by}
use Rattle.std.specs.Option.{option_or}
use Rattle.capnp_schema.specs.ByName.{brand_among, brand_named}
use Rattle.capnp_schema.specs.Schema.{Schemas}

-- the brand at a name that was met
abbrev pub brand_met : {S : Type 0} → HashMap (Bor (List ℕ)) ℕ S → List ℕ → Option ℕ
brand_met met name = get_by (λ k. bytes_eq name k.now) met

-- one more name was met, unless it was before
abbrev pub IsNameMet : {S : Type 0} → (b : ℕ) → (name : List ℕ) → (old new : HashMap (Bor (List ℕ)) ℕ S) → Type 0
IsNameMet b name old new = (q : List ℕ) → brand_met new q ≡ option_or (brand_met old q) (cond (bytes_eq q name) (Some b) None)

-- The names that were met are those of the brands below an index: a name finds what was met, or else a brand from there on.
-- Past 32 bits no brand is found.
pub record AreNamesBelow {S : Type 0} (set : Schemas) (index : ℕ) (met : HashMap (Bor (List ℕ)) ℕ S) : Type 0 where
  pub found : (name : List ℕ) → index ≤ 2 ^ 32 → brand_named set name ≡ option_or (brand_met met name) (brand_among set (drop index set.brands) index name)
  pub below : (name : List ℕ) → IfSome (brand_met met name) (λ b. b < index)
