-- The first of so many indices that has something.
use Rattle.std.proofs.Common.{◌≡◌, ℕ, zero, suc, ◌+◌, ◌<◌, ◌≤◌, inl, inr, Option, Some, None, refl, sym, ◌∙◌, ap, arith}
use Rattle.std.proofs.lemmas.Bool.{cases_lt}
use Rattle.capnp_json_names.specs.Meetings.{first_from, first_of, or_else}

left_none : {A : Type 0} (a b : Option A) → or_else a b ≡ None → a ≡ None
left_none None b h = refl
left_none (Some x) b h = h

right_none : {A : Type 0} (a b : Option A) → or_else a b ≡ None → b ≡ None
right_none None b h = h
right_none (Some x) b h = let no : ⊥ = cc in absurd no

-- something stands at an index, and nothing before it
pub record IsFirst {A : Type 0} (f : ℕ → Option A) (from count : ℕ) (x : A) : Type 0 where
  pub at : ℕ
  pub above : from ≤ at
  pub below : at < count
  pub is : f at ≡ Some x
  pub before : (k : ℕ) → from ≤ k → k < at → f k ≡ None

none_from : {A : Type 0} (f : ℕ → Option A) (i left : ℕ) → ((k : ℕ) → i ≤ k → k < i + left → f k ≡ None) → first_from f i left ≡ None
none_from f i zero h = refl
none_from f i (suc left) h =
    ap (λ o. or_else o (first_from f (suc i) left)) (h i (omega arith) (omega arith))
    ∙ none_from f (suc i) left (λ k above below. h k (omega arith) (omega arith))

from_none : {A : Type 0} (f : ℕ → Option A) (i left : ℕ) → first_from f i left ≡ None → (k : ℕ) → i ≤ k → k < i + left → f k ≡ None
from_none f i zero e k above below = absurd (omega arith)
from_none f i (suc left) e k above below = elim (cases_lt i k) [
  | inl later ↦ from_none f (suc i) left (right_none (f i) (first_from f (suc i) left) e) k (omega arith) (omega arith)
  | inr here ↦ let same : i ≡ k = omega arith in ap f (sym same) ∙ left_none (f i) (first_from f (suc i) left) e
]

here_some : {A : Type 0} (f : ℕ → Option A) (i left : ℕ) (x y : A) → f i ≡ Some y → or_else (Some y) (first_from f (suc i) left) ≡ Some x → IsFirst f i (i + suc left) x
here_some f i left x y at e = record { at = i; above = omega arith; below = omega arith; is = at ∙ e; before = λ k above below. absurd (omega arith) }

later_some : {A : Type 0} (f : ℕ → Option A) (i left : ℕ) (x : A) → f i ≡ None → IsFirst f (suc i) (suc i + left) x → IsFirst f i (i + suc left) x
later_some f i left x none m =
    record {
      at = m.at;
      above = omega (arith, m.above);
      below = omega (arith, m.below);
      is = m.is;
      before = λ k above below. elim (cases_lt i k) [
        | inl later ↦ m.before k (omega arith) below
        | inr here ↦ let same : i ≡ k = omega arith in ap f (sym same) ∙ none
      ];
    }

by_first : {A : Type 0} (f : ℕ → Option A) (i left : ℕ) (x : A) (o : Option A) → f i ≡ o → (first_from f (suc i) left ≡ Some x → IsFirst f (suc i) (suc i + left) x) → or_else o (first_from f (suc i) left) ≡ Some x
    → IsFirst f i (i + suc left) x
by_first f i left x (Some y) at rest e = here_some f i left x y at e
by_first f i left x None at rest e = later_some f i left x at (rest e)

from_some : {A : Type 0} (f : ℕ → Option A) (i left : ℕ) (x : A) → first_from f i left ≡ Some x → IsFirst f i (i + left) x
from_some f i zero x e = let no : ⊥ = cc in absurd no
from_some f i (suc left) x e = by_first f i left x (f i) refl (from_some f (suc i) left x) e

some_from : {A : Type 0} (f : ℕ → Option A) (i left : ℕ) (x : A) → IsFirst f i (i + left) x → first_from f i left ≡ Some x
some_from f i zero x m = absurd (omega (arith, m.above, m.below))
some_from f i (suc left) x m = elim (cases_lt i m.at) [
  | inl later ↦
      ap (λ o. or_else o (first_from f (suc i) left)) (m.before i (omega arith) later)
      ∙ some_from f (suc i) left x (record { at = m.at; above = omega arith; below = omega (arith, m.below); is = m.is; before = λ k above below. m.before k (omega arith) below })
  | inr here ↦
      let same : m.at ≡ i = omega (arith, m.above) in
      ap (λ o. or_else o (first_from f (suc i) left)) (ap f (sym same) ∙ m.is)
]

-- ---- from the first on ----

pub none_first : {A : Type 0} (f : ℕ → Option A) (count : ℕ) → ((k : ℕ) → k < count → f k ≡ None) → first_of f count ≡ None
none_first f count h = none_from f 0 count (λ k above below. h k (omega arith))

pub first_none : {A : Type 0} (f : ℕ → Option A) (count : ℕ) → first_of f count ≡ None → (k : ℕ) → k < count → f k ≡ None
first_none f count e k below = from_none f 0 count e k (omega arith) (omega arith)

-- the first index that has something
pub record IsFirstAt {A : Type 0} (f : ℕ → Option A) (count : ℕ) (x : A) : Type 0 where
  pub at : ℕ
  pub below : at < count
  pub is : f at ≡ Some x
  pub before : (k : ℕ) → k < at → f k ≡ None

pub first_some : {A : Type 0} (f : ℕ → Option A) (count : ℕ) (x : A) → first_of f count ≡ Some x → IsFirstAt f count x
first_some f count x e =
    let m = from_some f 0 count x e in
    record { at = m.at; below = omega (arith, m.below); is = m.is; before = λ k below. m.before k (omega arith) below }

pub some_first : {A : Type 0} (f : ℕ → Option A) (count i : ℕ) (x : A) → i < count → f i ≡ Some x → ((k : ℕ) → k < i → f k ≡ None) → first_of f count ≡ Some x
some_first f count i x below at before =
    some_from f 0 count x (record { at = i; above = omega arith; below = omega arith; is = at; before = λ k above less. before k less })
