-- Names that may have been meant by another one.
use Rattle.std.specs.Prelude.{ℕ, ◌-◌, ◌==◌, List, [], ◌∷◌, ◌++◌, Bool, false, not, cond, ◌&&◌, ◌||◌, bytes_eq, codes, drop, get_or, length, nat_lt}
use Rattle.std.specs.Char.{eq_ignore_ascii_case}

-- two words have the same byte at an index, but for the case of letters from A to Z
abbrev pub is_alike_at : (asked name : List ℕ) → ℕ → Bool
is_alike_at asked name i = eq_ignore_ascii_case (get_or asked i 0) (get_or name i 0)

-- two words of three bytes and more begin alike: their first three are
abbrev pub begins_alike : (asked name : List ℕ) → Bool
begins_alike asked name =
    not (nat_lt (length asked) 3) && not (nat_lt (length name) 3) && is_alike_at asked name 0 && is_alike_at asked name 1 && is_alike_at asked name 2

-- a word stands behind a point or colon
abbrev pub is_behind_mark : (asked : List ℕ) → List ℕ → Bool
is_behind_mark asked [] = false
is_behind_mark asked (mark ∷ rest) = (mark == 46 || mark == 58) && bytes_eq rest asked

-- a name ends with a word, behind a point or colon
abbrev pub is_last_part : (asked name : List ℕ) → Bool
is_last_part asked name = is_behind_mark asked (drop (length name - length asked - 1) name)

-- A name is near to a word that begins alike, or that is its last part.
abbrev pub is_near : (asked name : List ℕ) → Bool
is_near asked name = begins_alike asked name || is_last_part asked name

-- ---- how near names are told ----

abbrev pub before_near : (note : List ℕ) → List ℕ
before_near [] = codes "; near: "
before_near (b ∷ note) = codes ", "

-- with a name more, if it is near
abbrev pub with_near : (asked note name : List ℕ) → List ℕ
with_near asked note name = cond (is_near asked name) (note ++ before_near note ++ name) note

abbrev pub with_all_near : (asked note : List ℕ) → List (List ℕ) → List ℕ
with_all_near asked note [] = note
with_all_near asked note (name ∷ names) = with_all_near asked (with_near asked note name) names

-- those of these names that are near
abbrev pub near_note : (asked : List ℕ) → List (List ℕ) → List ℕ
near_note asked names = with_all_near asked [] names
