-- Calls are read as they are written.
use Rattle.std.proofs.Common.{decimal, nat_lt, ◌≡◌, ℕ, suc, ◌+◌, ◌^◌, ◌<◌, List, [], ◌∷◌, ◌++◌, length, get_or, take, drop, true, false, Ok, refl, ap, sym, ◌∙◌, map, arith, length-append}
use Rattle.std.specs.List.{AllByRecursion, join_with_byte, position_or_len}
use Rattle.std.specs.Char.{is_ascii_digit}
use Rattle.std.proofs.lemmas.Bool.Decides.{nat_tests}
use Rattle.capnp_records.specs.Call.{PathStep, FieldNumber, FieldNamed, ElementAt}
use Rattle.capnp_words.specs.Reads.{Read, read_as}
use Rattle.capnp_words.specs.Paths.{is_space, steps_at, step_word, words_of_path, parts_at}
use Rattle.capnp_words.specs.Calls.{Append, CallOp, Clear, Copy, Get, Has, Init, Initn, Insert, Remove, Resize, Set, Which, append_given, call_at, call_of, count_given, element_at, element_path, from_given, indexed, insert_given, op_word, size_given, value_given, with_argument, with_element}
use Rattle.capnp_words.specs.Laws.{CallsAreRead, IsCallOf, IsNonEmptyPath, IsPathStep}
use Rattle.capnp_words.proofs.DigitsRead.{decimal_again, decimal_digits}
use Rattle.capnp_words.proofs.Indexes.{indexed_last}
use Rattle.capnp_words.proofs.PathsRead.{parts_again, path_again, split_joined}

-- ---- no path has a space ----

abbrev NoSpace : List ℕ → Type 0
NoSpace bs = AllByRecursion (λ b. is_space b ≡ false) bs

by_places : (bs : List ℕ) → ((k : ℕ) → k < length bs → is_space (get_or bs k 0) ≡ false) → NoSpace bs
by_places [] h = tt
by_places (b ∷ bs) h = (h 0 (omega arith), by_places bs (λ k q. h (suc k) (omega (arith, q))))

digit_no_space : (b : ℕ) → is_ascii_digit b ≡ true → is_space b ≡ false
digit_no_space b h = grind (arith, nat_tests)

number_no_space : (n : ℕ) → n < 2 ^ 64 → NoSpace (decimal n)
number_no_space n h = by_places (decimal n) (λ k q. digit_no_space (get_or (decimal n) k 0) (decimal_digits n h k 0 q))

step_no_space : (s : PathStep) → IsPathStep s → NoSpace (step_word s)
step_no_space (FieldNumber i) h = (refl, number_no_space i (omega arith))
step_no_space (FieldNamed name) h = by_places name (λ k q. h.no_space k 0 q)
step_no_space (ElementAt i) h = number_no_space i (omega arith)

both_no_space : (xs ys : List ℕ) → NoSpace xs → NoSpace ys → NoSpace (xs ++ ys)
both_no_space [] ys h k = k
both_no_space (x ∷ xs) ys h k = (h.0, both_no_space xs ys h.1 k)

steps_no_space : (s : PathStep) (ss : List PathStep) → AllByRecursion IsPathStep (s ∷ ss) → NoSpace (join_with_byte 46 (map step_word (s ∷ ss)))
steps_no_space s [] h = step_no_space s h.0
steps_no_space s (t ∷ ts) h = both_no_space (step_word s) (46 ∷ join_with_byte 46 (map step_word (t ∷ ts))) (step_no_space s h.0) (refl, steps_no_space t ts h.1)

path_no_space : (path : List PathStep) → AllByRecursion IsPathStep path → NoSpace (words_of_path path)
path_no_space [] h = (refl, tt)
path_no_space (s ∷ ss) h = steps_no_space s ss h

-- ---- what stands behind the first space ----

first_space : (w v : List ℕ) → NoSpace w → position_or_len is_space (w ++ 32 ∷ v) ≡ length w
first_space [] v h = refl
first_space (b ∷ w) v h = rw (h.0, first_space w v h.1) (omega arith)

take_front : (w v : List ℕ) → take (length w) (w ++ v) ≡ w
take_front [] v = refl
take_front (b ∷ w) v = ap (λ x. b ∷ x) (take_front w v)

drop_space : (w v : List ℕ) → drop (length w + 1) (w ++ 32 ∷ v) ≡ v
drop_space [] v = refl
drop_space (b ∷ w) v = let e : suc (length w) + 1 ≡ suc (length w + 1) = omega arith in rw e (drop_space w v)

with_again : (f : ℕ → List ℕ → Read CallOp) (place : ℕ) (w v : List ℕ) (path : List PathStep) (op : CallOp) → NoSpace w → steps_at place w ≡ Ok path → f (place + (length w + 1)) v ≡ Ok op
    → with_argument f place (w ++ 32 ∷ v) ≡ Ok (call_of op path)
with_again f place w v path op clean steps given =
    let at : position_or_len is_space (w ++ 32 ∷ v) ≡ length w = first_space w v clean in
    let inside : nat_lt (length w) (length (w ++ 32 ∷ v)) ≡ true = grind (arith, nat_tests, length-append w (32 ∷ v)) in
    rw (at, take_front w (32 ∷ v), steps, inside, drop_space w v, given) refl

part_again : (place : ℕ) (path : List PathStep) → IsNonEmptyPath path → steps_at place (words_of_path path) ≡ Ok path
part_again place [] h = absurd (omega (arith, h.1))
part_again place (s ∷ ss) h = ap (parts_at place) (split_joined s ss h.0) ∙ parts_again place (s ∷ ss) h.0

-- ---- elements ----

indexed_again : (end : ℕ) (path : List PathStep) (i : ℕ) → indexed end (element_path path i) ≡ Ok (path, i)
indexed_again end path i = indexed_last end path (ElementAt i)

element_again : (place : ℕ) (path : List PathStep) (i : ℕ) → IsNonEmptyPath (element_path path i) → element_at place (words_of_path (element_path path i)) ≡ Ok (path, i)
element_again place path i h = rw (part_again place (element_path path i) h) (indexed_again (place + length (words_of_path (element_path path i))) path i)

with_element_again : (place : ℕ) (v : List ℕ) (path : List PathStep) (i : ℕ) → IsNonEmptyPath (element_path path i)
    → with_element insert_given place (words_of_path (element_path path i) ++ 32 ∷ v) ≡ Ok (call_of (Insert i v (place + (length (words_of_path (element_path path i)) + 1))) path)
with_element_again place v path i h =
    let w = words_of_path (element_path path i) in
    let at : position_or_len is_space (w ++ 32 ∷ v) ≡ length w = first_space w v (path_no_space (element_path path i) h.0) in
    let inside : nat_lt (length w) (length (w ++ 32 ∷ v)) ≡ true = grind (arith, nat_tests, length-append w (32 ∷ v)) in
    rw (at, take_front w (32 ∷ v), element_again place path i h, inside, drop_space w v) refl

call_again : (path : List PathStep) (op : CallOp) → IsCallOf path op → call_at (op_word path op) ≡ Ok (call_of op path)
call_again path Get h = ap (read_as (call_of Get)) (part_again 4 path h)
call_again path Has h = ap (read_as (call_of Has)) (part_again 4 path h)
call_again path Which h = ap (read_as (call_of Which)) (path_again 6 path h)
call_again path (Set value place) h =
    with_again value_given 4 (words_of_path path) value path (Set value place) (path_no_space path h.0.0) (part_again 4 path h.0) (ap (λ p. Ok (Set value p)) (sym h.1))
call_again path Init h = ap (read_as (call_of Init)) (part_again 5 path h)
call_again path (Initn size) h =
    with_again size_given 6 (words_of_path path) (decimal size) path (Initn size) (path_no_space path h.0.0) (part_again 6 path h.0)
    (ap (read_as Initn) (decimal_again 4294967295 (6 + (length (words_of_path path) + 1)) size (omega arith) h.1))
call_again path Clear h = ap (read_as (call_of Clear)) (part_again 6 path h)
call_again path (Append value place) h =
    with_again append_given 7 (words_of_path path) value path (Append value place) (path_no_space path h.0.0) (part_again 7 path h.0) (ap (λ p. Ok (Append value p)) (sym h.1))
call_again path (Insert i value place) h = with_element_again 7 value path i h.0 ∙ ap (λ p. Ok (call_of (Insert i value p) path)) (sym h.1)
call_again path (Remove i) h = ap (read_as (λ e. call_of (Remove e.1) e.0)) (element_again 7 path i h)
call_again path (Resize count) h =
    with_again count_given 7 (words_of_path path) (decimal count) path (Resize count) (path_no_space path h.0.0) (part_again 7 path h.0)
    (ap (read_as Resize) (decimal_again 4294967295 (7 + (length (words_of_path path) + 1)) count (omega arith) h.1))
call_again path (Copy from) h =
    with_again from_given 5 (words_of_path path) (words_of_path from) path (Copy from) (path_no_space path h.0.0) (part_again 5 path h.0)
    (ap (read_as Copy) (path_again (5 + (length (words_of_path path) + 1)) from h.1))

pub calls_read : CallsAreRead
calls_read c h = call_again c.path c.op h
