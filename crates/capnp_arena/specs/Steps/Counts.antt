-- What a count of a tree's words answers.
use Rattle.std.specs.Prelude.{ℕ, ◌+◌, ◌*◌, ◌<◌, ◌≤◌, ◌≡◌, ◌⊎◌, Option, Some, None, List}
use Rattle.capnp_wire.specs.Locate.{words_past_format}
use Rattle.capnp_arena.specs.Forest.{Forest}

-- the words, or none where they are 2 ^ 29 or more
abbrev pub IsCount : Option ℕ → ℕ → Type 0
IsCount (Some n) words = (n ≡ words) × (n < words_past_format)
IsCount None words = words_past_format ≤ words

-- the words of what is so deep at most, or none where they are 2 ^ 29 or more or where it is deeper
abbrev pub IsCounted : Option ℕ → ℕ → Type 0 → Type 0
IsCounted (Some n) words is_below = (n ≡ words) × (n < words_past_format) × is_below
IsCounted None words is_below = (words_past_format ≤ words) ⊎ (is_below → ⊥)

-- each of so many pointers in a row leads to a tree
abbrev pub AreForests : List ℕ → ℕ → ℕ → Type 0
AreForests bytes first count = (j : ℕ) → first ≤ j → j < first + count → Forest bytes j

-- and each pointer of so many structs in a row
abbrev pub AreElementForests : List ℕ → (start count data_words pointers : ℕ) → Type 0
AreElementForests bytes start count d p = (i : ℕ) → i < count → AreForests bytes (start + i * (d + p) + d) p
