-- Lists of pairs as sets.
use Rattle.std.proofs.Common.{ℕ, zero, suc, ◌<◌, ◌≡◌, ◌⊎◌, inl, inr, refl, List, [], ◌∷◌, ◌++◌, Bool, true, false, ◌||◌, IsTrue, Contains, Some, length, slice_get, arith, ap, sym, ◌∙◌, subst}
use Rattle.std.proofs.lemmas.Option.{get_or_from_slice_get, slice_get-get_or, slice_get_within}
use Rattle.capnp_differences.specs.declared.differences.Pair.{Pair}
use Rattle.capnp_differences.specs.Closing.{is_pair, listed_pairs}
use Rattle.capnp_differences.specs.Steps.Comparing.{Begins, IsPairOf, Within}

pub or_right : (x y : Bool) → IsTrue y → IsTrue (x || y)
or_right true y h = refl
or_right false y h = h

pub or_left : (x y : Bool) → IsTrue x → IsTrue (x || y)
or_left true y h = refl
or_left false y h = cc

or_both : (t x y : Bool) → (IsTrue x → IsTrue y) → IsTrue (t || x) → IsTrue (t || y)
or_both true x y f h = refl
or_both false x y f h = f h

pub within_more : (xs ys : List Pair) → Within (listed_pairs xs) (listed_pairs (xs ++ ys))
within_more [] ys a b h = cc
within_more (x ∷ xs) ys a b h = or_both (is_pair a b x) (listed_pairs xs a b) (listed_pairs (xs ++ ys) a b) (within_more xs ys a b) h

pub begins_same : (xs : List Pair) → Begins xs xs
begins_same xs = (omega arith, λ k h. refl)

begins_at : (x : Pair) (xs ys : List Pair) → ((k : ℕ) → k < length xs → slice_get (xs ++ ys) k ≡ slice_get xs k) → (k : ℕ) → k < length (x ∷ xs) → slice_get (x ∷ (xs ++ ys)) k ≡ slice_get (x ∷ xs) k
begins_at x xs ys r zero h = refl
begins_at x xs ys r (suc k) h = r k (omega arith)

pub begins_more : (xs ys : List Pair) → Begins xs (xs ++ ys)
begins_more [] ys = (omega arith, λ k h. absurd (omega arith))
begins_more (x ∷ xs) ys = (let r = (begins_more xs ys).0 in omega arith, begins_at x xs ys (begins_more xs ys).1)

pub same_itself : (p : Pair) → IsTrue (is_pair p.older p.newer p)
same_itself p = grind arith

pub listed_last : (xs : List Pair) (p : Pair) → IsTrue (listed_pairs (xs ++ (p ∷ [])) p.older p.newer)
listed_last [] p = or_left (is_pair p.older p.newer p) false (same_itself p)
listed_last (x ∷ xs) p = or_right (is_pair p.older p.newer x) (listed_pairs (xs ++ (p ∷ [])) p.older p.newer) (listed_last xs p)

pub is_same : (a b : ℕ) (p : Pair) → is_pair a b p ≡ true → (p.older ≡ a) × (p.newer ≡ b)
is_same a b p h = (grind arith, grind arith)

-- what is listed once a pair is put at the end was listed before, or is that pair
pub listed_cases : (xs : List Pair) (p : Pair) (a b : ℕ) → IsTrue (listed_pairs (xs ++ (p ∷ [])) a b) → IsTrue (listed_pairs xs a b) ⊎ IsPairOf p a b
listed_cases [] p a b h = at (is_pair a b p) refl h
  where
    at : (t : Bool) → is_pair a b p ≡ t → IsTrue (t || false) → IsTrue (listed_pairs [] a b) ⊎ IsPairOf p a b
    at true q e = let s = is_same a b p q in inr (sym s.0, sym s.1)
    at false q e = cc
listed_cases (x ∷ xs) p a b h = at (listed_cases xs p a b) (is_pair a b x) refl h
  where
    rest : IsTrue (listed_pairs xs a b) ⊎ IsPairOf p a b → IsTrue (listed_pairs (x ∷ xs) a b) ⊎ IsPairOf p a b
    rest (inl l) = inl (or_right (is_pair a b x) (listed_pairs xs a b) l)
    rest (inr e) = inr e

    at : (IsTrue (listed_pairs (xs ++ (p ∷ [])) a b) → IsTrue (listed_pairs xs a b) ⊎ IsPairOf p a b) → (t : Bool) → is_pair a b x ≡ t → IsTrue (t || listed_pairs (xs ++ (p ∷ [])) a b) → IsTrue (listed_pairs (x ∷ xs) a b) ⊎ IsPairOf p a b
    at before true q e = inl (or_left (is_pair a b x) (listed_pairs xs a b) q)
    at before false q e = rest (before e)

-- a pair that is listed stands at an index
pub listed_at : (xs : List Pair) (a b : ℕ) → IsTrue (listed_pairs xs a b) → (k : ℕ) × (p : Pair) × (slice_get xs k ≡ Some p) × (p.older ≡ a) × (p.newer ≡ b)
listed_at [] a b h = cc
listed_at (x ∷ xs) a b h = at (listed_at xs a b) (is_pair a b x) refl h
  where
    at : (IsTrue (listed_pairs xs a b) → (k : ℕ) × (p : Pair) × (slice_get xs k ≡ Some p) × (p.older ≡ a) × (p.newer ≡ b)) → (t : Bool) → is_pair a b x ≡ t → IsTrue (t || listed_pairs xs a b) → (k : ℕ) × (p : Pair) × (slice_get (x ∷ xs) k ≡ Some p) × (p.older ≡ a) × (p.newer ≡ b)
    at rest true q e = let s = is_same a b x q in (zero, x, refl, s.0, s.1)
    at rest false q e = let r = rest e in (suc r.0, r.1, r.2, r.3, r.4)

pub at_listed : (xs : List Pair) (k : ℕ) (p : Pair) → slice_get xs k ≡ Some p → IsTrue (listed_pairs xs p.older p.newer)
at_listed [] k p e = cc
at_listed (x ∷ xs) zero p e = let s : x ≡ p = cc in or_left (is_pair p.older p.newer x) (listed_pairs xs p.older p.newer) (subst (λ (y : Pair). IsTrue (is_pair p.older p.newer y)) (sym s) (same_itself p))
at_listed (x ∷ xs) (suc k) p e = or_right (is_pair p.older p.newer x) (listed_pairs xs p.older p.newer) (at_listed xs k p e)

pub index_inside : (xs : List Pair) (k : ℕ) (p : Pair) → slice_get xs k ≡ Some p → k < length xs
index_inside [] k p e = cc
index_inside (x ∷ xs) zero p e = omega arith
index_inside (x ∷ xs) (suc k) p e = let l = index_inside xs k p e in omega arith

-- what an index gives is in the list, and the other way round
pub contains_at : {X : Type 0} (xs : List X) (k : ℕ) (x : X) → slice_get xs k ≡ Some x → Contains xs x
contains_at xs k x e = (k, slice_get_within xs k x e, get_or_from_slice_get xs k x x e)

pub at_contained : {X : Type 0} (xs : List X) (x : X) (h : Contains xs x) → slice_get xs h.0 ≡ Some x
at_contained xs x h = slice_get-get_or xs h.0 x h.1 ∙ ap Some h.2

pub contains_listed : (xs : List Pair) (p : Pair) → Contains xs p → IsTrue (listed_pairs xs p.older p.newer)
contains_listed xs p h = at_listed xs h.0 p (at_contained xs p h)
