-- Paths as words, and words as paths.
use Rattle.std.specs.Prelude.{ℕ, ◌+◌, List, [], ◌∷◌, Bool, cond, nat_lt, ◌==◌, length, map, Ok, Err, decimal}
use Rattle.std.specs.Char.{is_ascii_digit}
use Rattle.std.specs.List.{position_or_len, slice_split, join_with_byte}
use Rattle.capnp_records.specs.Call.{PathStep, FieldNumber, FieldNamed, ElementAt}
use Rattle.capnp_words.specs.Reads.{Read, read_as, read_then, ended_read}
use Rattle.capnp_words.specs.Numbers.{decimal_at}

-- ---- how a path is written ----

-- a field by its name or by `#` and its number, an element by its number
abbrev pub step_word : PathStep → List ℕ
step_word (FieldNumber i) = 35 ∷ decimal i
step_word (FieldNamed name) = name
step_word (ElementAt i) = decimal i

-- the steps with dots between them; an empty path is a dot
abbrev pub words_of_path : List PathStep → List ℕ
words_of_path [] = 46 ∷ []
words_of_path (s ∷ ss) = join_with_byte 46 (map step_word (s ∷ ss))

-- ---- how a word is read; the place is that of its first byte ----

abbrev pub is_dot : ℕ → Bool
is_dot b = b == 46

abbrev pub is_space : ℕ → Bool
is_space b = b == 32

-- a name has no space
abbrev pub path_name_at : (place : ℕ) → List ℕ → Read PathStep
path_name_at place bs =
    cond (nat_lt (position_or_len is_space bs) (length bs)) (Err (place + position_or_len is_space bs)) (Ok (FieldNamed bs))

-- the field numbers go to 65,535, and the element numbers to 2^32 - 1
abbrev pub step_at : (place : ℕ) → List ℕ → Read PathStep
step_at place [] = Err place
step_at place (b ∷ bs) =
    cond (b == 35) (read_as FieldNumber (decimal_at 65535 (place + 1) bs))
    (cond (is_ascii_digit b) (read_as ElementAt (decimal_at 4294967295 place (b ∷ bs))) (path_name_at place (b ∷ bs)))

-- the parts between dots, each a step
abbrev pub parts_at : (place : ℕ) → List (List ℕ) → Read (List PathStep)
parts_at place [] = Ok []
parts_at place (p ∷ ps) = read_then (step_at place p) (λ s. read_as (λ ss. s ∷ ss) (parts_at (place + (length p + 1)) ps))

-- a path that is not empty
abbrev pub steps_at : (place : ℕ) → List ℕ → Read (List PathStep)
steps_at place bs = parts_at place (slice_split is_dot bs)

-- a dot alone is the empty path
abbrev pub path_at : (place : ℕ) → List ℕ → Read (List PathStep)
path_at place [] = Err place
path_at place (b ∷ bs) = cond (b == 46) (ended_read [] (place + 1) bs) (steps_at place (b ∷ bs))
