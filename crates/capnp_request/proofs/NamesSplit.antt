-- A name behind its last colon, and the file before it.
use Rattle.std.proofs.Common.{ℕ, zero, suc, ◌<◌, ◌≤◌, ◌≡◌, ◌≢◌, ◌==◌, ◌∙◌, nat_lt, arith, ap, refl, sym, subst, Bool, true, false, List, [], ◌∷◌, length, get_or, take, drop}
use Rattle.std.proofs.lemmas.Bool.{eq-eqb, eqb-true, lt-ltb}
use Rattle.capnp_request.specs.Names.{occurrences_of, dotted_of, file_of, has_colon}

abbrev by_test : Bool → ℕ → ℕ
by_test true n = suc n
by_test false n = n

count_more : (byte x : ℕ) (xs : List ℕ) → occurrences_of byte (x ∷ xs) ≡ by_test (x == byte) (occurrences_of byte xs)
count_more byte x xs = go (x == byte)
  where
    go : (q : Bool) → (elim q as (λ _. ℕ) [ true ↦ suc (occurrences_of byte xs) | false ↦ occurrences_of byte xs ]) ≡ by_test q (occurrences_of byte xs)
    go true = refl
    go false = refl

-- none where no byte is the one
none_of : (byte : ℕ) (xs : List ℕ) → ((k : ℕ) → k < length xs → get_or xs k 0 ≢ byte) → occurrences_of byte xs ≡ 0
none_of byte [] h = refl
none_of byte (x ∷ xs) h = count_more byte x xs ∙ go (x == byte) refl (none_of byte xs (λ k inside. h (suc k) (omega (arith, inside))))
  where
    go : (q : Bool) → (x == byte) ≡ q → occurrences_of byte xs ≡ 0 → by_test q (occurrences_of byte xs) ≡ 0
    go true e rest = absurd (h 0 (omega arith) (eqb-true x byte e))
    go false e rest = rest

-- some where one is
some_of : (byte : ℕ) (xs : List ℕ) (k : ℕ) → k < length xs → get_or xs k 0 ≡ byte → 0 < occurrences_of byte xs
some_of byte [] k inside e = absurd (omega (arith, inside))
some_of byte (x ∷ xs) zero inside e = subst (λ n. 0 < n) (sym (count_more byte x xs ∙ ap (λ q. by_test q (occurrences_of byte xs)) (eq-eqb x byte e))) (omega arith)
some_of byte (x ∷ xs) (suc k) inside e = subst (λ n. 0 < n) (sym (count_more byte x xs)) (go (x == byte) (some_of byte xs k (omega (arith, inside)) e))
  where
    go : (q : Bool) → 0 < occurrences_of byte xs → 0 < by_test q (occurrences_of byte xs)
    go true rest = omega arith
    go false rest = rest

colon : (xs : List ℕ) → 0 < occurrences_of 58 xs → has_colon xs ≡ true
colon xs h = lt-ltb 0 (occurrences_of 58 xs) h

no_colon : (xs : List ℕ) → occurrences_of 58 xs ≡ 0 → has_colon xs ≡ false
no_colon xs e = ap (λ n. nat_lt 0 n) e

abbrev file_by : Bool → ℕ → List ℕ → List ℕ
file_by true x xs = x ∷ file_of xs
file_by false x xs = []

abbrev dotted_by : Bool → ℕ → List ℕ → List ℕ
dotted_by true x xs = dotted_of xs
dotted_by false x xs = x ∷ xs

file_more : (x : ℕ) (xs : List ℕ) → file_of (x ∷ xs) ≡ file_by (has_colon (x ∷ xs)) x xs
file_more x xs = go (has_colon (x ∷ xs))
  where
    go : (q : Bool) → (elim q as (λ _. List ℕ) [ true ↦ x ∷ file_of xs | false ↦ [] ]) ≡ file_by q x xs
    go true = refl
    go false = refl

dotted_more : (x : ℕ) (xs : List ℕ) → dotted_of (x ∷ xs) ≡ dotted_by (has_colon (x ∷ xs)) x xs
dotted_more x xs = go (has_colon (x ∷ xs))
  where
    go : (q : Bool) → (elim q as (λ _. List ℕ) [ true ↦ dotted_of xs | false ↦ x ∷ xs ]) ≡ dotted_by q x xs
    go true = refl
    go false = refl

-- a part begins behind a colon, or at the name's begin, and has none itself
pub record Begins (xs : List ℕ) (start : ℕ) : Type 0 where
  pub inside : start ≤ length xs
  pub none : (k : ℕ) → start ≤ k → k < length xs → get_or xs k 0 ≢ 58
  pub before : (k : ℕ) → start ≡ suc k → get_or xs k 0 ≡ 58

pub file_before : (xs : List ℕ) (start : ℕ) → Begins xs start → take start xs ≡ file_of xs
file_before [] zero h = refl
file_before [] (suc start) h = refl
file_before (x ∷ xs) zero h = sym (file_more x xs ∙ ap (λ q. file_by q x xs) (no_colon (x ∷ xs) (none_of 58 (x ∷ xs) (λ k inside. h.none k (omega arith) inside))))
file_before (x ∷ xs) (suc start) h =
    let within : suc start ≤ suc (length xs) = h.inside in
    let here : has_colon (x ∷ xs) ≡ true = colon (x ∷ xs) (some_of 58 (x ∷ xs) start (omega (arith, within)) (h.before start refl)) in
    ap (λ (ys : List ℕ). x ∷ ys) (file_before xs start (record {
      inside = omega (arith, within);
      none = λ k from inside. h.none (suc k) (omega (arith, from)) (omega (arith, inside));
      before = λ k e. h.before (suc k) (ap suc e);
    })) ∙ sym (file_more x xs ∙ ap (λ q. file_by q x xs) here)

pub dotted_behind : (xs : List ℕ) (start : ℕ) → Begins xs start → drop start xs ≡ dotted_of xs
dotted_behind [] zero h = refl
dotted_behind [] (suc start) h = refl
dotted_behind (x ∷ xs) zero h = sym (dotted_more x xs ∙ ap (λ q. dotted_by q x xs) (no_colon (x ∷ xs) (none_of 58 (x ∷ xs) (λ k inside. h.none k (omega arith) inside))))
dotted_behind (x ∷ xs) (suc start) h =
    let within : suc start ≤ suc (length xs) = h.inside in
    let here : has_colon (x ∷ xs) ≡ true = colon (x ∷ xs) (some_of 58 (x ∷ xs) start (omega (arith, within)) (h.before start refl)) in
    dotted_behind xs start (record {
      inside = omega (arith, within);
      none = λ k from inside. h.none (suc k) (omega (arith, from)) (omega (arith, inside));
      before = λ k e. h.before (suc k) (ap suc e);
    }) ∙ sym (dotted_more x xs ∙ ap (λ q. dotted_by q x xs) here)
