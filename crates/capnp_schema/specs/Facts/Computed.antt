-- Tests of all numbers below a bound, of all entries, pairs and fields, as they compute.
use Rattle.std.proofs.Common.{All, ℕ, zero, suc, ◌≡◌, ◌<◌, ◌&&◌, ◌||◌, ◌==◌, ◌⊎◌, inl, inr, ⊎_elim, Bool, true, false, not, List, length, get_or, arith, refl, sym, ap₂, ◌∙◌, subst, Option, Some, None, slice_get}
use Rattle.std.specs.List.{list_all}
use Rattle.std.proofs.lemmas.Bool.{cases_lt}
use Rattle.std.proofs.lemmas.Bool.Decides.{Decides-eqb}
use Rattle.std.proofs.lemmas.List.Sums.{AllPass-from_list_all}
use Rattle.std.proofs.lemmas.Option.{slice_get_within}
use Rattle.capnp_schema.specs.Schema.{Schemas, TypedField, fields_of, field_at}
use Rattle.capnp_schema.specs.Accepted.{EachField}

pub both : (a b : Bool) → (a && b) ≡ true → (a ≡ true) × (b ≡ true)
both true b e = (refl, e)
both false b e = cc

pub either : (a b : Bool) → (a || b) ≡ true → (a ≡ true) ⊎ (b ≡ true)
either true b e = inl refl
either false b e = inr e

pub not_so : (a : Bool) → not a ≡ true → a ≡ true → ⊥
not_so true e p = cc
not_so false e p = cc

pub not_both : (a b : Bool) → not (a && b) ≡ true → a ≡ true → b ≡ true → ⊥
not_both true true e p q = cc
not_both true false e p q = cc
not_both false b e p q = cc

-- ---- numbers ----

abbrev pub all_below : ℕ → (ℕ → Bool) → Bool
all_below zero test = true
all_below (suc n) test = test n && all_below n test

pub passes_below : (n : ℕ) (test : ℕ → Bool) → all_below n test ≡ true → (k : ℕ) → k < n → test k ≡ true
passes_below zero test e k h = absurd (omega arith)
passes_below (suc n) test e k h =
    let parts = both (test n) (all_below n test) e in ⊎_elim
    (λ lt. passes_below n test parts.1 k lt)
    (λ le. let same : n ≡ k = omega arith in subst (λ (x : ℕ). test x ≡ true) same parts.0)
    (cases_lt k n)

-- ---- entries ----

pub all_pass : {A : Type 0} (test : A → Bool) (P : A → Type 0) (xs : List A) → ((x : A) → test x ≡ true → P x) → list_all test xs ≡ true → All P xs
all_pass test P xs gives e = λ k d h. gives (get_or xs k d) (AllPass-from_list_all test xs e k d h)

-- two entries that are there
abbrev pub pair_passes : {A : Type 0} → (A → A → Bool) → Option A → Option A → Bool
pair_passes test None y = true
pair_passes test (Some x) None = true
pair_passes test (Some x) (Some y) = test x y

-- each two entries at different indices
abbrev pub all_pairs : {A : Type 0} → (A → A → Bool) → List A → Bool
all_pairs test xs = all_below (length xs) (λ i. all_below (length xs) (λ j. (i == j) || pair_passes test (slice_get xs i) (slice_get xs j)))

pub each_pair : {A : Type 0} (test : A → A → Bool) (xs : List A) → all_pairs test xs ≡ true → (i j : ℕ) (x y : A) → slice_get xs i ≡ Some x → slice_get xs j ≡ Some y → (i ≡ j) ⊎ (test x y ≡ true)
each_pair test xs e i j x y at_i at_j =
    let row = passes_below (length xs) (λ i. all_below (length xs) (λ j. (i == j) || pair_passes test (slice_get xs i) (slice_get xs j))) e i (slice_get_within xs i x at_i) in
    let cell = passes_below (length xs) (λ j. (i == j) || pair_passes test (slice_get xs i) (slice_get xs j)) row j (slice_get_within xs j y at_j) in ⊎_elim
    (λ same. inl ((Decides-eqb i j).0 same))
    (λ pass. inr (sym (ap₂ (pair_passes test) at_i at_j) ∙ pass))
    (either (i == j) (pair_passes test (slice_get xs i) (slice_get xs j)) cell)

-- ---- fields ----

abbrev pub all_fields : Schemas → (ℕ → ℕ → TypedField → Bool) → Bool
all_fields set test = all_below (length set.brands) (λ b. all_below (length (fields_of set b)) (λ i. test b i (field_at set b i)))

pub each_field : (set : Schemas) (test : ℕ → ℕ → TypedField → Bool) (P : ℕ → ℕ → TypedField → Type 0) → ((b i : ℕ) (f : TypedField) → test b i f ≡ true → P b i f) → all_fields set test ≡ true → EachField set P
each_field set test P gives e b i b_in i_in =
    let row = passes_below (length set.brands) (λ b. all_below (length (fields_of set b)) (λ i. test b i (field_at set b i))) e b b_in in
    gives b i (field_at set b i) (passes_below (length (fields_of set b)) (λ i. test b i (field_at set b i)) row i i_in)
