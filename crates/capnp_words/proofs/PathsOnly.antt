-- A word that is read as a path is the one that the path is written as.
use Rattle.std.proofs.Common.{◌==◌, nat_lt, ◌≡◌, ℕ, ◌+◌, List, [], ◌∷◌, length, Bool, true, false, cond, Ok, Err, refl, ap, sym, ◌∙◌, map, arith}
use Rattle.std.specs.List.{join_with_byte, position_or_len, slice_split}
use Rattle.std.specs.Char.{is_ascii_digit}
use Rattle.std.proofs.lemmas.Bool.Decides.{nat_tests}
use Rattle.std.proofs.lemmas.List.Splits.{join_with_byte-slice_split, length-slice_split}
use Rattle.capnp_records.specs.Call.{PathStep, FieldNumber, FieldNamed, ElementAt}
use Rattle.capnp_words.specs.Reads.{Read, ended_read, read_as, read_then}
use Rattle.capnp_words.specs.Numbers.{decimal_at}
use Rattle.capnp_words.specs.Paths.{is_dot, is_space, path_name_at, path_at, parts_at, steps_at, step_at, step_word, words_of_path}
use Rattle.capnp_words.specs.Laws.{OnlyPathsAreRead, PathsAreDifferent}
use Rattle.capnp_words.proofs.DigitsRead.{decimal_only}
use Rattle.capnp_words.proofs.PathsRead.{paths_read}

-- ---- one step ----

field_only : (place : ℕ) (bs : List ℕ) (s : PathStep) (r : Read ℕ) → decimal_at 65535 place bs ≡ r → read_as FieldNumber r ≡ Ok s → step_word s ≡ 35 ∷ bs
field_only place bs s (Err p) f e = let no : ⊥ = cc in absurd no
field_only place bs s (Ok n) f e =
    let same : FieldNumber n ≡ s = cc in
    sym (ap step_word same) ∙ ap (λ x. 35 ∷ x) (sym (decimal_only 65535 place bs n (omega arith) f))

element_only : (place : ℕ) (bs : List ℕ) (s : PathStep) (r : Read ℕ) → decimal_at 4294967295 place bs ≡ r → read_as ElementAt r ≡ Ok s → step_word s ≡ bs
element_only place bs s (Err p) f e = let no : ⊥ = cc in absurd no
element_only place bs s (Ok n) f e =
    let same : ElementAt n ≡ s = cc in
    sym (ap step_word same) ∙ sym (decimal_only 4294967295 place bs n (omega arith) f)

name_only : (place : ℕ) (bs : List ℕ) (s : PathStep) (t : Bool) → cond t (Err place) (Ok (FieldNamed bs)) ≡ Ok s → step_word s ≡ bs
name_only place bs s true e = let no : ⊥ = cc in absurd no
name_only place bs s false e = let same : FieldNamed bs ≡ s = cc in sym (ap step_word same)

by_first : (place b : ℕ) (bs : List ℕ) (s : PathStep) (t u : Bool) → (b == 35) ≡ t
    → cond t (read_as FieldNumber (decimal_at 65535 (place + 1) bs)) (cond u (read_as ElementAt (decimal_at 4294967295 place (b ∷ bs))) (path_name_at place (b ∷ bs))) ≡ Ok s → step_word s ≡ b ∷ bs
by_first place b bs s true u f e =
    let same : 35 ≡ b = grind (arith, nat_tests) in
    field_only (place + 1) bs s (decimal_at 65535 (place + 1) bs) refl e ∙ ap (λ x. x ∷ bs) same
by_first place b bs s false true f e = element_only place (b ∷ bs) s (decimal_at 4294967295 place (b ∷ bs)) refl e
by_first place b bs s false false f e = name_only (place + position_or_len is_space (b ∷ bs)) (b ∷ bs) s (nat_lt (position_or_len is_space (b ∷ bs)) (length (b ∷ bs))) e

step_only : (place : ℕ) (bs : List ℕ) (s : PathStep) → step_at place bs ≡ Ok s → step_word s ≡ bs
step_only place [] s e = let no : ⊥ = cc in absurd no
step_only place (b ∷ bs) s e = by_first place b bs s (b == 35) (is_ascii_digit b) refl e

-- ---- all steps ----

rest_only : (p : List ℕ) (ps : List (List ℕ)) (ss : List PathStep) (s : PathStep) → step_word s ≡ p → (r : Read (List PathStep)) → ((ts : List PathStep) → r ≡ Ok ts → map step_word ts ≡ ps)
    → read_as (λ ts. s ∷ ts) r ≡ Ok ss → map step_word ss ≡ p ∷ ps
rest_only p ps ss s f (Err q) rest e = let no : ⊥ = cc in absurd no
rest_only p ps ss s f (Ok ts) rest e =
    let same : s ∷ ts ≡ ss = cc in
    let more : map step_word ts ≡ ps = rest ts refl in
    sym (ap (map step_word) same) ∙ (λ i. f i ∷ more i)

first_only : (p : List ℕ) (ps : List (List ℕ)) (ss : List PathStep) (r : Read PathStep) → ((s : PathStep) → r ≡ Ok s → step_word s ≡ p) → (q : Read (List PathStep)) → ((ts : List PathStep) → q ≡ Ok ts → map step_word ts ≡ ps)
    → read_then r (λ s. read_as (λ ts. s ∷ ts) q) ≡ Ok ss → map step_word ss ≡ p ∷ ps
first_only p ps ss (Err x) first q rest e = let no : ⊥ = cc in absurd no
first_only p ps ss (Ok s) first q rest e = rest_only p ps ss s (first s refl) q rest e

parts_only : (place : ℕ) (ps : List (List ℕ)) (ss : List PathStep) → parts_at place ps ≡ Ok ss → map step_word ss ≡ ps
parts_only place [] ss e = let same : [] ≡ ss = cc in sym (ap (map step_word) same)
parts_only place (p ∷ ps) ss e =
    first_only p ps ss (step_at place p) (step_only place p) (parts_at (place + (length p + 1)) ps) (parts_only (place + (length p + 1)) ps) e

-- ---- whole words ----

some_joined : (bs : List ℕ) (ss : List PathStep) → map step_word ss ≡ slice_split is_dot bs → bs ≡ words_of_path ss
some_joined bs [] e = let no : 0 ≡ length (slice_split is_dot bs) = ap length e in absurd (omega (arith, no, length-slice_split is_dot bs))
some_joined bs (s ∷ ss) e = sym (join_with_byte-slice_split 46 bs) ∙ sym (ap (join_with_byte 46) e)

dot_only : (bs : List ℕ) (ss : List PathStep) → ended_read [] 1 bs ≡ Ok ss → 46 ∷ bs ≡ words_of_path ss
dot_only [] ss e = let same : [] ≡ ss = cc in ap words_of_path same
dot_only (b ∷ bs) ss e = let no : ⊥ = cc in absurd no

by_dot : (b : ℕ) (bs : List ℕ) (ss : List PathStep) (t : Bool) → (b == 46) ≡ t → cond t (ended_read [] 1 bs) (steps_at 0 (b ∷ bs)) ≡ Ok ss → b ∷ bs ≡ words_of_path ss
by_dot b bs ss true f e = let same : b ≡ 46 = grind (arith, nat_tests) in ap (λ x. x ∷ bs) same ∙ dot_only bs ss e
by_dot b bs ss false f e = some_joined (b ∷ bs) ss (parts_only 0 (slice_split is_dot (b ∷ bs)) ss e)

pub only_paths_read : OnlyPathsAreRead
only_paths_read [] path e = let no : ⊥ = cc in absurd no
only_paths_read (b ∷ bs) path e = by_dot b bs path (b == 46) refl e

pub paths_differ : PathsAreDifferent
paths_differ p q hp hq e =
    let one : Ok p ≡ Ok q = sym (paths_read p hp) ∙ ap (path_at 0) e ∙ paths_read q hq in
    cc
