-- Paths are read as they are written, and nothing else is.
use Rattle.std.proofs.Common.{decimal, ◌==◌, All, nat_lt, slice_index, ◌≢◌, ◌≡◌, ℕ, zero, suc, ◌+◌, ◌^◌, ◌<◌, List, [], ◌∷◌, length, get_or, true, false, Ok, refl, ap, ◌∙◌, map, arith}
use Rattle.std.specs.List.{AllByRecursion, join_with_byte, position_or_len, slice_split}
use Rattle.std.specs.Char.{is_ascii_digit}
use Rattle.std.proofs.lemmas.Bool.Decides.{nat_tests}
use Rattle.std.proofs.lemmas.Fmt.{decimal_nonempty}
use Rattle.std.proofs.lemmas.List.Splits.{slice_split_none, slice_split_at}
use Rattle.std.proofs.lemmas.List.Sums.{position_or_len_is}
use Rattle.capnp_records.specs.Call.{PathStep, FieldNumber, FieldNamed, ElementAt}
use Rattle.capnp_words.specs.Reads.{read_as}
use Rattle.capnp_words.specs.Numbers.{decimal_at}
use Rattle.capnp_words.specs.Paths.{is_dot, is_space, path_name_at, path_at, parts_at, steps_at, step_at, step_word, words_of_path}
use Rattle.capnp_words.specs.Laws.{IsPathName, IsPathStep, PathsAreRead}
use Rattle.capnp_words.proofs.DigitsRead.{decimal_again, decimal_digits}

-- ---- one step ----

number_begins : (place : ℕ) (ds : List ℕ) → 0 < length ds → is_ascii_digit (get_or ds 0 0) ≡ true → step_at place ds ≡ read_as ElementAt (decimal_at 4294967295 place ds)
number_begins place [] h d = absurd (omega arith)
number_begins place (b ∷ bs) h d = let e : (b == 35) ≡ false = grind (arith, nat_tests) in rw (e, d) refl

name_begins : (place : ℕ) (name : List ℕ) → 0 < length name → is_ascii_digit (slice_index name 0) ≡ false → slice_index name 0 ≢ 35 → step_at place name ≡ path_name_at place name
name_begins place [] h d k = absurd (omega arith)
name_begins place (b ∷ bs) h d k = let e : (b == 35) ≡ false = grind (arith, nat_tests, k) in rw (e, d) refl

name_again : (place : ℕ) (name : List ℕ) → IsPathName name → step_at place name ≡ Ok (FieldNamed name)
name_again place name n =
    let all : position_or_len is_space name ≡ length name = position_or_len_is is_space name (length name) 0 (omega arith) (λ k h. n.no_space k 0 h) (λ h. absurd (omega (arith, h))) in
    let past : nat_lt (position_or_len is_space name) (length name) ≡ false = grind (arith, nat_tests, all) in
    name_begins place name n.some n.begins n.no_number ∙ rw past refl

step_again : (place : ℕ) (s : PathStep) → IsPathStep s → step_at place (step_word s) ≡ Ok s
step_again place (FieldNumber i) h = rw (decimal_again 65535 (place + 1) i (omega arith) h) refl
step_again place (FieldNamed name) h = name_again place name h
step_again place (ElementAt i) h =
    number_begins place (decimal i) (decimal_nonempty i (omega arith)) (decimal_digits i (omega arith) 0 0 (decimal_nonempty i (omega arith))) ∙ rw (decimal_again 4294967295 place i (omega arith) h) refl

-- ---- steps between dots ----

abbrev NoDot : List ℕ → Type 0
NoDot bs = All (λ b. is_dot b ≡ false) bs

digit_no_dot : (b : ℕ) → is_ascii_digit b ≡ true → is_dot b ≡ false
digit_no_dot b h = grind (arith, nat_tests)

number_no_dot : (n : ℕ) → n < 2 ^ 64 → NoDot (decimal n)
number_no_dot n h = λ k d q. digit_no_dot (get_or (decimal n) k d) (decimal_digits n h k d q)

field_no_dot : (ds : List ℕ) → NoDot ds → NoDot (35 ∷ ds)
field_no_dot ds h zero d q = refl
field_no_dot ds h (suc k) d q = h k d (omega arith)

step_no_dot : (s : PathStep) → IsPathStep s → NoDot (step_word s)
step_no_dot (FieldNumber i) h = field_no_dot (decimal i) (number_no_dot i (omega arith))
step_no_dot (FieldNamed name) h = h.no_dot
step_no_dot (ElementAt i) h = number_no_dot i (omega arith)

pub step_some : (s : PathStep) → IsPathStep s → 0 < length (step_word s)
step_some (FieldNumber i) h = omega arith
step_some (FieldNamed name) h = h.some
step_some (ElementAt i) h = decimal_nonempty i (omega arith)

pub split_joined : (s : PathStep) (ss : List PathStep) → AllByRecursion IsPathStep (s ∷ ss) → slice_split is_dot (join_with_byte 46 (map step_word (s ∷ ss))) ≡ map step_word (s ∷ ss)
split_joined s [] h = slice_split_none is_dot (step_word s) (step_no_dot s h.0)
split_joined s (t ∷ ts) h =
    slice_split_at is_dot (step_word s) 46 (join_with_byte 46 (map step_word (t ∷ ts))) (step_no_dot s h.0) refl ∙ ap (λ rest. step_word s ∷ rest) (split_joined t ts h.1)

pub parts_again : (place : ℕ) (ss : List PathStep) → AllByRecursion IsPathStep ss → parts_at place (map step_word ss) ≡ Ok ss
parts_again place [] h = refl
parts_again place (s ∷ ss) h = rw (step_again place s h.0, parts_again (place + (length (step_word s) + 1)) ss h.1) refl

-- ---- whole paths ----

joined_begins : (p : List ℕ) (ps : List (List ℕ)) → NoDot p → 0 < length p → (0 < length (join_with_byte 46 (p ∷ ps))) × (is_dot (get_or (join_with_byte 46 (p ∷ ps)) 0 0) ≡ false)
joined_begins [] ps h k = absurd (omega arith)
joined_begins (b ∷ bs) [] h k = (k, h 0 0 k)
joined_begins (b ∷ bs) (q ∷ qs) h k = (omega arith, h 0 0 k)

path_begins : (place : ℕ) (bs : List ℕ) → 0 < length bs → is_dot (get_or bs 0 0) ≡ false → path_at place bs ≡ steps_at place bs
path_begins place [] h k = absurd (omega arith)
path_begins place (b ∷ bs) h k = rw k refl

pub path_again : (place : ℕ) (path : List PathStep) → AllByRecursion IsPathStep path → path_at place (words_of_path path) ≡ Ok path
path_again place [] h = refl
path_again place (s ∷ ss) h =
    let begins = joined_begins (step_word s) (map step_word ss) (step_no_dot s h.0) (step_some s h.0) in
    path_begins place (join_with_byte 46 (map step_word (s ∷ ss))) begins.0 begins.1 ∙ ap (parts_at place) (split_joined s ss h) ∙ parts_again place (s ∷ ss) h

pub paths_read : PathsAreRead
paths_read path h = path_again 0 path h
