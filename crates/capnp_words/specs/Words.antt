-- Words that are one of a few.
use Rattle.std.specs.Prelude.{ℕ, suc, max, List, [], ◌∷◌, Bool, ◌&&◌, cond, ◌==◌, length, Ok, Err}
use Rattle.std.specs.List.{common_prefix_len}
use Rattle.capnp_words.specs.Reads.{Read}

-- how many bytes from the first on are the same
abbrev pub shared_length : List ℕ → List ℕ → ℕ
shared_length xs ys = common_prefix_len (λ x y. x == y) xs ys

-- whether the bytes begin with a word, or are it
abbrev pub is_front : List ℕ → List ℕ → Bool
is_front word bs = shared_length word bs == length word

abbrev pub is_word : List ℕ → List ℕ → Bool
is_word word bs = is_front word bs && (length bs == length word)

-- The bytes are the first of these words that they are. Else the place is behind the most bytes that they share with one of
-- them, or with one before.
abbrev pub one_of : {A : Type 0} → List (List ℕ × A) → (best : ℕ) → List ℕ → Read A
one_of [] best bs = Err best
one_of (w ∷ ws) best bs = cond (is_word w.0 bs) (Ok w.1) (one_of ws (max best (shared_length w.0 bs)) bs)

-- the same of what the bytes begin with, by how many bytes that has
abbrev pub begins_with_one : {A : Type 0} → List (List ℕ × A) → (best : ℕ) → List ℕ → Read (A × ℕ)
begins_with_one [] best bs = Err best
begins_with_one (w ∷ ws) best bs = cond (is_front w.0 bs) (Ok (w.1, length w.0)) (begins_with_one ws (max best (shared_length w.0 bs)) bs)

-- the same of names, by the number of the name
abbrev pub name_among : List (List ℕ) → (number best : ℕ) → List ℕ → Read ℕ
name_among [] number best bs = Err best
name_among (n ∷ ns) number best bs = cond (is_word n bs) (Ok number) (name_among ns (suc number) (max best (shared_length n bs)) bs)

-- read so or else so; where in neither way, as far as one of them goes
abbrev pub read_or : {A : Type 0} → Read A → Read A → Read A
read_or (Ok x) other = Ok x
read_or (Err place) (Ok x) = Ok x
read_or (Err place) (Err further) = Err (max place further)
