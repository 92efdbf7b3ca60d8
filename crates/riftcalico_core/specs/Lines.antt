-- Lines of queries or of others, one after another, and the first that has none.
use Rattle.std.specs.Prelude.{ℕ, ◌-◌, ◌≤◌, ◌≡◌, ◌⊎◌, List, [], ◌∷◌, ◌++◌, length}

-- a line of each, ended by a line feed
unfoldable pub AreLinesOf : {A : Type 0} → (is : A → List ℕ → Type 0) → List A → (lines : List ℕ) → Type 0
AreLinesOf is [] lines = lines ≡ []
AreLinesOf is (q ∷ qs) lines = (line : List ℕ) × (rest : List ℕ) × is q line × AreLinesOf is qs rest × (lines ≡ line ++ 10 ∷ rest)

-- it is so of one with what is left of a limit, where those before it have lines, and these take the rest of it
unfoldable pub IsFirstOf : {A : Type 0} → (is : A → List ℕ → Type 0) → (so : (left : ℕ) → A → Type 0) → (left : ℕ) → List A → Type 0
IsFirstOf is so left [] = ⊥
IsFirstOf is so left (q ∷ qs) = so left q ⊎ ((line : List ℕ) × is q line × (length line ≤ left) × IsFirstOf is so (left - length line) qs)
