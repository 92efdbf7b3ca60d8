-- The fields of a struct: a line for each, with its type, its place and its default: steps of the code.
use Rattle.std.specs.Prelude.{ℕ, zero, suc, ◌≡◌, ◌==◌, List, [], ◌++◌, true, cond, nat_eq}
use Rattle.std.specs.HashSet.{HashSet, contains}
use Rattle.std.specs.List.{list_any}

-- a piece so many times
abbrev pub repeated_words : ℕ → List ℕ → List ℕ
repeated_words zero piece = []
repeated_words (suc n) piece = piece ++ repeated_words n piece

-- one more enum was met
abbrev pub IsEnumMet : {S : Type 0} → ℕ → (old new : HashSet ℕ S) → Type 0
IsEnumMet number old new = (e : ℕ) → contains nat_eq new e ≡ cond (number == e) true (contains nat_eq old e)

-- the enums that were met are those of a list
abbrev pub AreEnumsMet : {S : Type 0} → HashSet ℕ S → List ℕ → Type 0
AreEnumsMet met enums = (e : ℕ) → contains nat_eq met e ≡ list_any (λ (x : ℕ). x == e) enums
