-- A list of pairs to which others are added.
use Rattle.std.proofs.Common.{ℕ, ◌+◌, ◌<◌, ◌≤◌, ◌≡◌, ◌↔◌, ◌⊎◌, inl, inr, ⊎_elim, List, [], ◌∷◌, ◌++◌, false, IsTrue, Option, Some, None, length, arith, ap, ap₂, sym, ◌∙◌, subst}
use Rattle.std.proofs.lemmas.Bool.{cases_lt}
use Rattle.capnp_schema.specs.Schema.{Schemas, field_at, fields_of}
use Rattle.capnp_differences.specs.declared.differences.Pair.{Pair}
use Rattle.capnp_differences.specs.Closing.{listed_pairs}
use Rattle.capnp_differences.specs.Differences.{struct_pair}
use Rattle.capnp_differences.specs.Steps.Comparing.{Adds, Begins, IsNamed, IsPairOf, pair_of}
use Rattle.capnp_differences.proofs.Bound.{apart_more}
use Rattle.capnp_differences.proofs.Listings.{begins_more, begins_same, listed_cases, listed_last, within_more}

begins_far : (xs ys zs : List Pair) → Begins xs ys → Begins ys zs → Begins xs zs
begins_far xs ys zs f g = (let l = f.0 in let m = g.0 in omega arith, λ k below. g.1 k (let l = f.0 in omega arith) ∙ f.1 k below)

at_pair : (xs : List Pair) (p : Pair) (a b : ℕ) → IsTrue (listed_pairs xs p.older p.newer) → IsPairOf p a b → IsTrue (listed_pairs xs a b)
at_pair xs p a b here e = subst (λ (n : ℕ). IsTrue (listed_pairs xs a n)) (sym e.1) (subst (λ (m : ℕ). IsTrue (listed_pairs xs m p.newer)) (sym e.0) here)

-- nothing is added where nothing is new
pub adds_none : (xs : List Pair) (New : ℕ → ℕ → Type 0) → ((a b : ℕ) → New a b → IsTrue (listed_pairs xs a b)) → Adds xs xs New
adds_none xs New old = record {
  joined = λ a b. (λ h. inl h, λ h. ⊎_elim (λ l. l) (λ n. old a b n) h);
  begins = begins_same xs;
  apart = λ h. h;
}

pub adds_listed : (xs : List Pair) (p : Pair) → IsTrue (listed_pairs xs p.older p.newer) → Adds xs xs (IsPairOf p)
adds_listed xs p here = adds_none xs (IsPairOf p) (λ a b e. at_pair xs p a b here e)

pub adds_new : (xs : List Pair) (p : Pair) → listed_pairs xs p.older p.newer ≡ false → Adds xs (xs ++ (p ∷ [])) (IsPairOf p)
adds_new xs p new = record {
  joined = λ a b. (λ h. listed_cases xs p a b h, λ h. ⊎_elim (λ l. within_more xs (p ∷ []) a b l) (λ e. at_pair (xs ++ (p ∷ [])) p a b (listed_last xs p) e) h);
  begins = begins_more xs (p ∷ []);
  apart = λ h. apart_more xs p h new;
}

module _ (xs ys : List Pair) (P : ℕ → ℕ → Type 0) (f : Adds xs ys P) where
  pub adds_as : (Q : ℕ → ℕ → Type 0) → ((a b : ℕ) → (P a b ↔ Q a b)) → Adds xs ys Q
  adds_as Q same = record {
    joined = λ a b. (λ h. ⊎_elim (λ l. inl l) (λ p. inr ((same a b).0 p)) ((f.joined a b).0 h), λ h. (f.joined a b).1 (⊎_elim (λ l. inl l) (λ q. inr ((same a b).1 q)) h));
    begins = f.begins;
    apart = f.apart;
  }

  pub adds_then : (zs : List Pair) (Q : ℕ → ℕ → Type 0) → Adds ys zs Q → Adds xs zs (λ a b. P a b ⊎ Q a b)
  adds_then zs Q g = record {
    joined = λ a b. (λ h. ⊎_elim (λ l. first a b ((f.joined a b).0 l)) (λ q. inr (inr q)) ((g.joined a b).0 h), λ h. (g.joined a b).1 (back a b h));
    begins = begins_far xs ys zs f.begins g.begins;
    apart = λ h. g.apart (f.apart h);
  }
    where
      first : (a b : ℕ) → IsTrue (listed_pairs xs a b) ⊎ P a b → IsTrue (listed_pairs xs a b) ⊎ (P a b ⊎ Q a b)
      first a b (inl l) = inl l
      first a b (inr p) = inr (inl p)

      back : (a b : ℕ) → IsTrue (listed_pairs xs a b) ⊎ (P a b ⊎ Q a b) → IsTrue (listed_pairs ys a b) ⊎ Q a b
      back a b (inl l) = inl ((f.joined a b).1 (inl l))
      back a b (inr (inl p)) = inl ((f.joined a b).1 (inr p))
      back a b (inr (inr q)) = inr q

-- a pair that there may be
pub adds_some : (xs ys : List Pair) (o : Option Pair) (q : Pair) → o ≡ Some q → Adds xs ys (IsPairOf q) → Adds xs ys (λ a b. o ≡ Some (pair_of a b))
adds_some xs ys o q is f = adds_as xs ys (IsPairOf q) f (λ a b. o ≡ Some (pair_of a b)) (λ a b. (there a b, back a b))
  where
    there : (a b : ℕ) → IsPairOf q a b → o ≡ Some (pair_of a b)
    there a b e = is ∙ ap (λ (p : Pair). Some p) (ap₂ pair_of (sym e.0) (sym e.1))

    back : (a b : ℕ) → o ≡ Some (pair_of a b) → IsPairOf q a b
    back a b e = let same : pair_of a b ≡ q = cc in (ap (λ (p : Pair). p.older) same, ap (λ (p : Pair). p.newer) same)

pub adds_no_pair : (xs : List Pair) (o : Option Pair) → o ≡ None → Adds xs xs (λ a b. o ≡ Some (pair_of a b))
adds_no_pair xs o is = adds_none xs (λ a b. o ≡ Some (pair_of a b)) (λ a b e. absurd (none a b e))
  where
    none : (a b : ℕ) → o ≡ Some (pair_of a b) → ⊥
    none a b e = cc

-- ---- the pairs that fields name ----

module _ (set : Schemas) (x y : ℕ) where
  pub named_none : (xs : List Pair) → Adds xs xs (IsNamed set x y 0)
  named_none xs = adds_none xs (IsNamed set x y 0) (λ a b n. absurd (let l = n.1 in omega arith))

  module _ (xs ys zs : List Pair) (i : ℕ) (l : i < length (fields_of set x)) (m : i < length (fields_of set y)) (o : Option Pair) (is : o ≡ struct_pair set (field_at set x i).type (field_at set y i).type) where
    pub named_more : Adds xs ys (IsNamed set x y i) → Adds ys zs (λ a b. o ≡ Some (pair_of a b)) → Adds xs zs (IsNamed set x y (i + 1))
    named_more f g = adds_as xs zs (λ a b. IsNamed set x y i a b ⊎ (o ≡ Some (pair_of a b))) (adds_then xs ys (IsNamed set x y i) f zs (λ a b. o ≡ Some (pair_of a b)) g) (IsNamed set x y (i + 1)) (λ a b. (there a b, back a b))
      where
        there : (a b : ℕ) → IsNamed set x y i a b ⊎ (o ≡ Some (pair_of a b)) → IsNamed set x y (i + 1) a b
        there a b (inl n) = let lt = n.1 in (n.0, omega arith, n.2, n.3, n.4)
        there a b (inr e) = (i, omega arith, l, m, sym is ∙ e)

        back : (a b : ℕ) → IsNamed set x y (i + 1) a b → IsNamed set x y i a b ⊎ (o ≡ Some (pair_of a b))
        back a b n = ⊎_elim (λ lt. inl (n.0, lt, n.2, n.3, n.4)) (λ le. inr (let lt = n.1 in let same : n.0 ≡ i = omega arith in is ∙ subst (λ (k : ℕ). struct_pair set (field_at set x k).type (field_at set y k).type ≡ Some (pair_of a b)) same n.4)) (cases_lt n.0 i)

  -- all that both have are the fields of the older one that both have
  pub named_all : (xs ys : List Pair) (count : ℕ) → count ≤ length (fields_of set x) → ((i : ℕ) → i < length (fields_of set x) → i < length (fields_of set y) → i < count) → Adds xs ys (IsNamed set x y count) → Adds xs ys (IsNamed set x y (length (fields_of set x)))
  named_all xs ys count le all f = adds_as xs ys (IsNamed set x y count) f (IsNamed set x y (length (fields_of set x))) (λ a b. (λ n. (n.0, n.2, n.2, n.3, n.4), λ n. (n.0, all n.0 n.2 n.3, n.2, n.3, n.4)))
