-- Lists of pairs as sets.
use Rattle.std.proofs.Common.{ℕ, zero, suc, ◌<◌, ◌≡◌, refl, List, [], ◌∷◌, ◌++◌, Bool, true, false, ◌||◌, IsTrue, Some, length, slice_get, arith, sym, subst}
use Rattle.capnp_compatible.specs.declared.pairs.Pair.{Pair}
use Rattle.capnp_records.specs.Compatible.{Pairs}
use Rattle.capnp_compatible.specs.Closing.{is_pair, listed_pairs}
use Rattle.capnp_compatible.specs.Steps.Closing.{Adds, Begins, Within}

pub within_same : (xs : List Pair) → Within (listed_pairs xs) (listed_pairs xs)
within_same xs a b h = h

pub or_right : (x y : Bool) → IsTrue y → IsTrue (x || y)
or_right true y h = refl
or_right false y h = h

or_left : (x y : Bool) → IsTrue x → IsTrue (x || y)
or_left true y h = refl
or_left false y h = cc

or_both : (t x y : Bool) → (IsTrue x → IsTrue y) → IsTrue (t || x) → IsTrue (t || y)
or_both true x y f h = refl
or_both false x y f h = f h

pub within_more : (xs ys : List Pair) → Within (listed_pairs xs) (listed_pairs (xs ++ ys))
within_more [] ys a b h = cc
within_more (x ∷ xs) ys a b h = or_both (is_pair a b x) (listed_pairs xs a b) (listed_pairs (xs ++ ys) a b) (within_more xs ys a b) h

pub begins_same : (xs : List Pair) → Begins xs xs
begins_same xs = (omega arith, λ k h. refl)

begins_at : (x : Pair) (xs ys : List Pair) → ((k : ℕ) → k < length xs → slice_get (xs ++ ys) k ≡ slice_get xs k) → (k : ℕ) → k < length (x ∷ xs) → slice_get (x ∷ (xs ++ ys)) k ≡ slice_get (x ∷ xs) k
begins_at x xs ys r zero h = refl
begins_at x xs ys r (suc k) h = r k (omega arith)

pub begins_more : (xs ys : List Pair) → Begins xs (xs ++ ys)
begins_more [] ys = (omega arith, λ k h. absurd (omega arith))
begins_more (x ∷ xs) ys = (let r = (begins_more xs ys).0 in omega arith, begins_at x xs ys (begins_more xs ys).1)

same_itself : (p : Pair) → IsTrue (is_pair p.older p.newer p)
same_itself p = grind arith

pub listed_last : (xs : List Pair) (p : Pair) → IsTrue (listed_pairs (xs ++ (p ∷ [])) p.older p.newer)
listed_last [] p = or_left (is_pair p.older p.newer p) false (same_itself p)
listed_last (x ∷ xs) p = or_right (is_pair p.older p.newer x) (listed_pairs (xs ++ (p ∷ [])) p.older p.newer) (listed_last xs p)

pub adds_same : (xs : List Pair) (New : Pairs → Type 0) → Adds xs xs New
adds_same xs New pairs h new = h

pub is_same : (a b : ℕ) (p : Pair) → is_pair a b p ≡ true → (p.older ≡ a) × (p.newer ≡ b)
is_same a b p h = (grind arith, grind arith)

pub within_pairs : (xs : List Pair) (p : Pair) (pairs : Pairs) → Within (listed_pairs xs) pairs → IsTrue (pairs p.older p.newer) → Within (listed_pairs (xs ++ (p ∷ []))) pairs
within_pairs [] p pairs h here a b e = at (is_pair a b p) refl e
  where
    at : (t : Bool) → is_pair a b p ≡ t → IsTrue (t || false) → IsTrue (pairs a b)
    at true q e = let s = is_same a b p q in subst (λ (n : ℕ). IsTrue (pairs a n)) s.1 (subst (λ (m : ℕ). IsTrue (pairs m p.newer)) s.0 here)
    at false q e = cc
within_pairs (x ∷ xs) p pairs h here a b e = at (within_pairs xs p pairs (λ m n g. h m n (or_right (is_pair m n x) (listed_pairs xs m n) g)) here a b) (is_pair a b x) refl e
  where
    at : (IsTrue (listed_pairs (xs ++ (p ∷ [])) a b) → IsTrue (pairs a b)) → (t : Bool) → is_pair a b x ≡ t → IsTrue (t || listed_pairs (xs ++ (p ∷ [])) a b) → IsTrue (pairs a b)
    at rest true q e = h a b (or_left (is_pair a b x) (listed_pairs xs a b) q)
    at rest false q e = rest e

pub adds_more : (xs : List Pair) (p : Pair) → Adds xs (xs ++ (p ∷ [])) (λ sets. IsTrue (sets p.older p.newer))
adds_more xs p pairs h here = within_pairs xs p pairs h here

-- a pair that is listed stands at an index
pub listed_at : (xs : List Pair) (a b : ℕ) → IsTrue (listed_pairs xs a b) → (k : ℕ) × (p : Pair) × (slice_get xs k ≡ Some p) × (p.older ≡ a) × (p.newer ≡ b)
listed_at [] a b h = cc
listed_at (x ∷ xs) a b h = at (listed_at xs a b) (is_pair a b x) refl h
  where
    at : (IsTrue (listed_pairs xs a b) → (k : ℕ) × (p : Pair) × (slice_get xs k ≡ Some p) × (p.older ≡ a) × (p.newer ≡ b)) → (t : Bool) → is_pair a b x ≡ t → IsTrue (t || listed_pairs xs a b) → (k : ℕ) × (p : Pair) × (slice_get (x ∷ xs) k ≡ Some p) × (p.older ≡ a) × (p.newer ≡ b)
    at rest true q e = let s = is_same a b x q in (zero, x, refl, s.0, s.1)
    at rest false q e = let r = rest e in (suc r.0, r.1, r.2, r.3, r.4)

pub at_listed : (xs : List Pair) (k : ℕ) (p : Pair) → slice_get xs k ≡ Some p → IsTrue (listed_pairs xs p.older p.newer)
at_listed [] k p e = cc
at_listed (x ∷ xs) zero p e = let s : x ≡ p = cc in or_left (is_pair p.older p.newer x) (listed_pairs xs p.older p.newer) (subst (λ (y : Pair). IsTrue (is_pair p.older p.newer y)) (sym s) (same_itself p))
at_listed (x ∷ xs) (suc k) p e = or_right (is_pair p.older p.newer x) (listed_pairs xs p.older p.newer) (at_listed xs k p e)
