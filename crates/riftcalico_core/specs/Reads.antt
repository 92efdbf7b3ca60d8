-- What several words are read as, or where they can't be.
use Rattle.std.specs.Prelude.{ℕ, suc, ◌++◌, List, [], ◌∷◌, Result, Ok, Err, codes, decimal, get_or}
use Rattle.capnp_patch.specs.Lines.{told_word}
use Rattle.capnp_words.specs.Reads.{Read}

-- the index of the first that can't be read, and the place in it of the first byte that can't stand
abbrev pub Reads : Type 0 → Type 0
Reads A = Result A (ℕ × ℕ)

abbrev pub at_word : {A : Type 0} → ℕ → Read A → Reads A
at_word i (Ok x) = Ok x
at_word i (Err place) = Err (i, place)

abbrev pub joined_reads : {A : Type 0} → Reads A → Reads (List A) → Reads (List A)
joined_reads (Err at) rest = Err at
joined_reads (Ok x) (Err at) = Err at
joined_reads (Ok x) (Ok xs) = Ok (x ∷ xs)

-- each is read in the same way, the first of them at this index
abbrev pub each_word_read : {A B : Type 0} → (A → Read B) → ℕ → List A → Reads (List B)
each_word_read f i [] = Ok []
each_word_read f i (x ∷ xs) = joined_reads (at_word i (f x)) (each_word_read f (suc i) xs)

-- the same where what a word is read as is a relation
pub data AreRead {A B : Type 0} (is : A → Read B → Type 0) : ℕ → List A → Reads (List B) → Type 0 where
  none : (i : ℕ) → AreRead is i [] (Ok [])
  more : (i : ℕ) (x : A) (xs : List A) (y : B) (ys : List B) → is x (Ok y) → AreRead is (suc i) xs (Ok ys) → AreRead is i (x ∷ xs) (Ok (y ∷ ys))
  first : (i : ℕ) (x : A) (xs : List A) (place : ℕ) → is x (Err place) → AreRead is i (x ∷ xs) (Err (i, place))
  later : (i : ℕ) (x : A) (xs : List A) (y : B) (at : ℕ × ℕ) → is x (Ok y) → AreRead is (suc i) xs (Err at) → AreRead is i (x ∷ xs) (Err at)

-- how that is told: the number of a word among its kind, from 1 on, the word as it is told, and the place
abbrev pub unreadable_line : (number : ℕ) → (word : List ℕ) → (place : ℕ) → List ℕ
unreadable_line number word place = decimal number ++ codes ": " ++ told_word word ++ codes ": can't be read at " ++ decimal place ++ 10 ∷ []

-- the same of words by their index
abbrev pub line_at : List (List ℕ) → ℕ × ℕ → List ℕ
line_at words at = unreadable_line (suc at.0) (get_or words at.0 []) at.1

-- the same of a value, with a note
abbrev pub value_line_at : List (List ℕ) → ℕ × ℕ → (note : List ℕ) → List ℕ
value_line_at words at note =
    decimal (suc at.0) ++ codes ": " ++ told_word (get_or words at.0 []) ++ codes ": can't be read at " ++ decimal at.1 ++ told_word note ++ 10 ∷ []
