-- Enumerants are read by their names, and by their numbers where they have none.
use Rattle.std.proofs.Common.{decimal, ◌==◌, slice_get, slice_index, ◌≡◌, ℕ, zero, suc, ◌+◌, ◌^◌, ◌<◌, ◌≤◌, max, List, [], ◌∷◌, length, Bool, true, false, cond, Some, Ok, Err, refl, ap, sym, ◌∙◌, add-zero, arith, subst}
use Rattle.std.specs.Char.{is_ascii_digit}
use Rattle.std.proofs.lemmas.Bool.Decides.{nat_tests}
use Rattle.std.proofs.lemmas.Fmt.{decimal_nonempty}
use Rattle.capnp_words.specs.Words.{is_word, name_among, shared_length}
use Rattle.capnp_words.specs.Values.{enumerant_by_word}
use Rattle.capnp_words.proofs.DigitsRead.{decimal_again, decimal_digits}

-- ---- a word is itself, and no other ----

shared_all : (bs : List ℕ) → shared_length bs bs ≡ length bs
shared_all [] = refl
shared_all (b ∷ bs) = let e : (b == b) ≡ true = grind (arith, nat_tests) in rw (e, shared_all bs) (omega arith)

word_itself : (bs : List ℕ) → is_word bs bs ≡ true
word_itself bs =
    let e : (shared_length bs bs == length bs) ≡ true = grind (arith, nat_tests, shared_all bs) in
    let f : (length bs == length bs) ≡ true = grind (arith, nat_tests) in
    rw (e, f) refl

same_first : (x y s n : ℕ) → cond (x == y) (1 + s) 0 ≡ suc n → (x ≡ y) × (s ≡ n)
same_first x y s n e = grind (arith, nat_tests)

same_word : (w bs : List ℕ) → shared_length w bs ≡ length w → length bs ≡ length w → w ≡ bs
same_word [] [] e h = refl
same_word [] (y ∷ bs) e h = absurd (omega (arith, h))
same_word (x ∷ w) [] e h = absurd (omega (arith, h))
same_word (x ∷ w) (y ∷ bs) e h =
    let s = same_first x y (shared_length w bs) (length w) e in
    let rest : w ≡ bs = same_word w bs s.1 (omega (arith, h)) in
    let first : x ≡ y = s.0 in
    λ i. first i ∷ rest i

word_is : (w bs : List ℕ) → is_word w bs ≡ true → w ≡ bs
word_is w bs e = same_word w bs (grind (arith, nat_tests)) (grind (arith, nat_tests))

-- ---- names ----

abbrev Distinct : List (List ℕ) → Type 0
Distinct names = (i j : ℕ) (name : List ℕ) → slice_get names i ≡ Some name → slice_get names j ≡ Some name → i ≡ j

found_next : (m : List ℕ) (ms : List (List ℕ)) (number best : ℕ) (name : List ℕ) (t : Bool) → is_word m name ≡ t → (t ≡ true → ⊥)
    → name_among (m ∷ ms) number best name ≡ name_among ms (suc number) (max best (shared_length m name)) name
found_next m ms number best name true e h = absurd (h refl)
found_next m ms number best name false e h = rw e refl

pub name_found : (ns : List (List ℕ)) (number best n : ℕ) (name : List ℕ) → Distinct ns → slice_get ns n ≡ Some name → name_among ns number best name ≡ Ok (number + n)
name_found [] number best n name d e = let no : ⊥ = cc in absurd no
name_found (m ∷ ms) number best zero name d e =
    let same : m ≡ name = cc in
    let is : is_word m name ≡ true = subst (λ (x : List ℕ). is_word m x ≡ true) same (word_itself m) in
    rw (is, add-zero) refl
name_found (m ∷ ms) number best (suc n) name d e =
    let other : is_word m name ≡ true → ⊥ = λ h. let same : m ≡ name = word_is m name h in let first : slice_get (m ∷ ms) 0 ≡ Some name = ap Some same in let no : 0 ≡ suc n = d 0 (suc n) name first e in absurd (omega (arith, no)) in
    let rest : Distinct ms = λ i j x p q. let s : suc i ≡ suc j = d (suc i) (suc j) x p q in omega (arith, s) in
    let places : suc number + n ≡ number + suc n = omega arith in
    found_next m ms number best name (is_word m name) refl other ∙ name_found ms (suc number) (max best (shared_length m name)) n name rest e ∙ ap Ok places

-- where no name is the word
pub name_lacks : (ns : List (List ℕ)) (number best : ℕ) (bs : List ℕ) → ((i : ℕ) (name : List ℕ) → slice_get ns i ≡ Some name → name ≡ bs → ⊥)
    → (place : ℕ) × (name_among ns number best bs ≡ Err place)
name_lacks [] number best bs h = (best, refl)
name_lacks (m ∷ ms) number best bs h =
    let rest = name_lacks ms (suc number) (max best (shared_length m bs)) bs (λ i name e. h (suc i) name e) in
    (rest.0, found_next m ms number best bs (is_word m bs) refl (λ e. h 0 m refl (word_is m bs e)) ∙ rest.1)

pub number_read : (ns : List (List ℕ)) (n : ℕ) → ((i : ℕ) (name : List ℕ) → slice_get ns i ≡ Some name → is_ascii_digit (slice_index name 0) ≡ false) → n ≤ 65535 → enumerant_by_word ns (decimal n) ≡ Ok n
number_read ns n begin h =
    let small : n < 2 ^ 64 = omega arith in
    let digit : is_ascii_digit (slice_index (decimal n) 0) ≡ true = decimal_digits n small 0 0 (decimal_nonempty n small) in
    let lacks = name_lacks ns 0 0 (decimal n) (λ i name e same. let no : is_ascii_digit (slice_index name 0) ≡ true = subst (λ (x : List ℕ). is_ascii_digit (slice_index x 0) ≡ true) (sym same) digit in let not_digit = begin i name e in cc) in
    rw (lacks.1, decimal_again 65535 0 n small h) refl
