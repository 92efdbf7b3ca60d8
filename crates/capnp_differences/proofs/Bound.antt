-- A list of pairs of brands in which none stands twice is no longer than the square of the count of brands.
use Rattle.std.proofs.Common.{ℕ, ◌+◌, ◌*◌, ◌/◌, ◌%◌, ◌<◌, ◌≤◌, ◌≡◌, refl, List, [], ◌∷◌, ◌++◌, Bool, true, false, ◌==◌, ◌&&◌, ◌||◌, length, map, arith, ap, sym, ◌∙◌, subst, eqb}
use Rattle.std.specs.List.{AllByRecursion, IsDistinct, list_any}
use Rattle.std.proofs.lemmas.List.{length-map}
use Rattle.std.proofs.lemmas.Nat.{div-mul-add, mod-mul-add, mul-add-lt}
use Rattle.std.proofs.lemmas.Map.Steps.{length-le_from_distinct_below}
use Rattle.std.proofs.lemmas.Map.Keys.{IsDistinct-cons}
use Rattle.capnp_schema.specs.Schema.{Schemas}
use Rattle.capnp_differences.specs.declared.differences.Pair.{Pair}
use Rattle.capnp_differences.specs.Closing.{is_pair, listed_pairs}
use Rattle.capnp_differences.specs.Steps.Comparing.{Apart, Within, brand_pairs}
use Rattle.capnp_differences.proofs.Listings.{at_listed, is_same, or_right}
use Rattle.capnp_differences.proofs.BrandPairs.{first_in, second_in}

other_way : (p q : Pair) → is_pair p.older p.newer q ≡ false → is_pair q.older q.newer p ≡ false
other_way p q e = at (is_pair q.older q.newer p) refl
  where
    at : (t : Bool) → is_pair q.older q.newer p ≡ t → t ≡ false
    at false h = refl
    at true h = let s = is_same q.older q.newer p h in let a : q.older ≡ p.older = sym s.0 in let b : q.newer ≡ p.newer = sym s.1 in absurd (clash (sym (both q.older p.older q.newer p.newer a b) ∙ e))
      where
        clash : true ≡ false → ⊥
        clash c = cc

        both : (k l m n : ℕ) → k ≡ l → m ≡ n → (k == l) && (m == n) ≡ true
        both k l m n e f = grind arith

left_false : (x y : Bool) → x || y ≡ false → x ≡ false
left_false true y e = e
left_false false y e = refl

right_false : (x y : Bool) → x || y ≡ false → y ≡ false
right_false true y e = cc
right_false false y e = e

neither : (x y : Bool) → x ≡ false → y ≡ false → x || y ≡ false
neither x y e f = cc

not_last : (xs : List Pair) (a b : ℕ) (p : Pair) → listed_pairs xs a b ≡ false → is_pair a b p ≡ false → listed_pairs (xs ++ (p ∷ [])) a b ≡ false
not_last [] a b p e f = neither (is_pair a b p) false f refl
not_last (x ∷ xs) a b p e f = neither (is_pair a b x) (listed_pairs (xs ++ (p ∷ [])) a b) (left_false (is_pair a b x) (listed_pairs xs a b) e) (not_last xs a b p (right_false (is_pair a b x) (listed_pairs xs a b) e) f)

pub apart_more : (xs : List Pair) (p : Pair) → Apart xs → listed_pairs xs p.older p.newer ≡ false → Apart (xs ++ (p ∷ []))
apart_more [] p h e = (refl, tt)
apart_more (x ∷ xs) p h e = (
  not_last xs x.older x.newer p h.0 (other_way p x (left_false (is_pair p.older p.newer x) (listed_pairs xs p.older p.newer) e)),
  apart_more xs p h.1 (right_false (is_pair p.older p.newer x) (listed_pairs xs p.older p.newer) e),
)

module _ (n : ℕ) where
  code : Pair → ℕ
  code p = p.older * n + p.newer

  pub InRange : List Pair → Type 0
  InRange [] = Unit {0}
  InRange (p ∷ ps) = (p.older < n) × (p.newer < n) × InRange ps

  same_code : (p q : Pair) → p.newer < n → q.newer < n → code p ≡ code q → is_pair p.older p.newer q ≡ true
  unfolding code
  same_code p q h k e =
      let a : q.older ≡ p.older = sym (div-mul-add q.older n q.newer k) ∙ ap (λ (x : ℕ). x / n) (sym e) ∙ div-mul-add p.older n p.newer h in
      let b : q.newer ≡ p.newer = sym (mod-mul-add q.older n q.newer k) ∙ ap (λ (x : ℕ). x % n) (sym e) ∙ mod-mul-add p.older n p.newer h in
      both q.older p.older q.newer p.newer a b
    where
      both : (k l m n : ℕ) → k ≡ l → m ≡ n → (k == l) && (m == n) ≡ true
      both k l m n e f = grind arith

  codes_apart : (p : Pair) (xs : List Pair) → p.newer < n → InRange xs → listed_pairs xs p.older p.newer ≡ false → AllByRecursion (λ y. eqb (code p) y ≡ false) (map code xs)
  unfolding InRange
  codes_apart p [] h r e = tt
  codes_apart p (x ∷ xs) h r e = (
    differs (eqb (code p) (code x)) refl,
    codes_apart p xs h r.2 (right_false (is_pair p.older p.newer x) (listed_pairs xs p.older p.newer) e),
  )
    where
      clash : true ≡ false → ⊥
      clash c = cc

      differs : (t : Bool) → eqb (code p) (code x) ≡ t → t ≡ false
      differs false q = refl
      differs true q = let s : code p ≡ code x = grind arith in absurd (clash (sym (same_code p x h r.1 s) ∙ left_false (is_pair p.older p.newer x) (listed_pairs xs p.older p.newer) e))

  codes_distinct : (xs : List Pair) → Apart xs → InRange xs → IsDistinct eqb (map code xs)
  unfolding IsDistinct InRange
  codes_distinct [] a r = tt
  codes_distinct (x ∷ xs) a r = IsDistinct-cons eqb (code x) (map code xs) (codes_apart x xs r.1 r.2 a.0) (codes_distinct xs a.1 r.2)

  codes_below : (xs : List Pair) → InRange xs → (q : ℕ) → list_any (eqb q) (map code xs) ≡ true → q < n * n
  unfolding code InRange
  codes_below [] r q e = cc
  codes_below (x ∷ xs) r q e = at (codes_below xs r.2 q) (eqb q (x.older * n + x.newer)) refl e
    where
      at : (list_any (eqb q) (map code xs) ≡ true → q < n * n) → (t : Bool) → eqb q (x.older * n + x.newer) ≡ t → t || list_any (eqb q) (map code xs) ≡ true → q < n * n
      at rest true s e = let same : q ≡ x.older * n + x.newer = grind arith in subst (λ (z : ℕ). z < n * n) (sym same) (mul-add-lt x.older n x.newer n r.0 r.1)
      at rest false s e = rest e

  pub square_bound : (xs : List Pair) → Apart xs → InRange xs → length xs ≤ n * n
  square_bound xs a r = let l : length (map code xs) ≡ length xs = length-map xs code in let le = length-le_from_distinct_below (map code xs) (n * n) (codes_distinct xs a r) (codes_below xs r) in omega (arith, l, le)

in_range : (set : Schemas) (xs : List Pair) → Within (listed_pairs xs) (brand_pairs set) → InRange (length set.brands) xs
unfolding InRange
in_range set [] h = tt
in_range set (x ∷ xs) h =
    let here = h x.older x.newer (at_listed (x ∷ xs) 0 x refl) in
    (first_in set x.older x.newer here, second_in set x.older x.newer here, in_range set xs (λ m n g. h m n (or_right (is_pair m n x) (listed_pairs xs m n) g)))

-- how many pairs there are at most
pub pairs_bound : (set : Schemas) (xs : List Pair) → Apart xs → Within (listed_pairs xs) (brand_pairs set) → length xs ≤ length set.brands * length set.brands
pairs_bound set xs a h = square_bound (length set.brands) xs a (in_range set xs h)
