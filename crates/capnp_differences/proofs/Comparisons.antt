-- The walk over the pairs that are compared.
use Rattle.std.proofs.Common.{ℕ, ◌+◌, ◌<◌, ◌≤◌, ◌≡◌, ◌⊎◌, inl, inr, ⊎_elim, refl, List, [], Bool, IsTrue, Contains, Option, Some, None, length, slice_get, arith, ap, ap₂, sym, ◌∙◌, subst, below_more}
use Rattle.std.proofs.lemmas.Bool.{cases_lt}
use Rattle.capnp_schema.specs.Schema.{Schemas, fields_of, field_at}
use Rattle.capnp_schema.specs.Accepted.{IsAccepted}
use Rattle.capnp_differences.specs.declared.differences.Difference.{Difference}
use Rattle.capnp_differences.specs.declared.differences.Pair.{Pair}
use Rattle.capnp_differences.specs.Closing.{listed_pairs}
use Rattle.capnp_differences.specs.Differences.{Given, Holds, IsCompared, IsComparedOf, Named, struct_pair, turn_of}
use Rattle.capnp_differences.specs.Steps.Comparing.{Adds, Apart, Compares, Has, HasNamed, IsNamed, Within, brand_pairs, pair_of}
use Rattle.capnp_differences.specs.Steps.Telling.{AreKnown, AreOrdered, IsBelow, IsOfPair, Orders, Tells}
use Rattle.capnp_differences.proofs.BrandPairs.{first_in, named_in, named_within, second_in}
use Rattle.capnp_differences.proofs.Listings.{at_listed, contains_at, index_inside, listed_at}
use Rattle.capnp_differences.proofs.Turns.{stands_once}
use Rattle.capnp_differences.proofs.Tellings.{holds_pair, pair_holds, tells_as, tells_none, tells_then}

-- a difference of one of the pairs before an index
abbrev pub IsBefore : Schemas → List Pair → ℕ → Difference → Type 0
IsBefore set ps next d = (k : ℕ) × (k < next) × (slice_get ps k ≡ Some d.pair) × Holds set d

-- the pairs before an index were compared
pub record Comparing (set : Schemas) (asked : List Pair) (next : ℕ) (ps : List Pair) (ts : List Difference) : Type 0 where
  pub given : Within (listed_pairs asked) (listed_pairs ps)
  pub brands : Within (listed_pairs ps) (brand_pairs set)
  pub compared : (a b : ℕ) → IsTrue (listed_pairs ps a b) → IsComparedOf set asked a b
  pub apart : Apart ps
  pub followed : (k : ℕ) → k < next → (p : Pair) → slice_get ps k ≡ Some p → HasNamed set (listed_pairs ps) p.older p.newer
  pub known : (k : ℕ) → k < next → (p : Pair) → slice_get ps k ≡ Some p → AreKnown set p.older p.newer (length (fields_of set p.older))
  pub told : Tells [] ts (IsBefore set ps next)
  pub ordered : AreOrdered ts

-- ---- the start ----

module _ (set : Schemas) (asked : List Pair) (brands : Within (listed_pairs asked) (brand_pairs set)) (apart : Apart asked) where
  asked_compared : (a b : ℕ) → IsTrue (listed_pairs asked a b) → IsComparedOf set asked a b
  asked_compared a b h = let r = listed_at asked a b h in record {
    given = r.1;
    stands = contains_at asked r.0 r.1 r.2;
    compared = subst (λ (y : ℕ). IsCompared set (r.1).older (r.1).newer a y) r.4 (subst (λ (x : ℕ). IsCompared set (r.1).older (r.1).newer x (r.1).newer) r.3 Given);
  }

  begun : Comparing set asked 0 asked []
  begun = record {
    given = λ a b h. h;
    brands = brands;
    compared = asked_compared;
    apart = apart;
    followed = λ k lt p e. absurd (omega arith);
    known = λ k lt p e. absurd (omega arith);
    told = tells_none [] (IsBefore set asked 0) (λ d h. let lt = h.1 in omega arith);
    ordered = λ i j d lt inside. absurd (omega arith);
  }

  pub compare_begins : (ts : List Difference) → ts ≡ [] → Comparing set asked 0 asked ts
  compare_begins ts e = subst (λ (y : List Difference). Comparing set asked 0 asked y) (sym e) begun

-- ---- a step ----

module _ (set : Schemas) (asked : List Pair) (next : ℕ) (ps : List Pair) (ts : List Difference) (w : Comparing set asked next ps ts) (p : Pair) (at : slice_get ps next ≡ Some p) where
  here : IsTrue (listed_pairs ps p.older p.newer)
  here = at_listed ps next p at

  pub older_in : p.older < length set.brands
  older_in = first_in set p.older p.newer (w.brands p.older p.newer here)

  pub newer_in : p.newer < length set.brands
  newer_in = second_in set p.older p.newer (w.brands p.older p.newer here)

  module _ (accepted : IsAccepted set) (qs : List Pair) (us : List Difference) (tells : Tells ts us (IsOfPair set p)) (known : AreKnown set p.older p.newer (length (fields_of set p.older)))
      (high : ℕ) (orders : Orders ts us p 0 high) (adds : Adds ps qs (IsNamed set p.older p.newer (length (fields_of set p.older)))) (inside : next < length ps) where
    more : Within (listed_pairs ps) (listed_pairs qs)
    more a b h = (adds.joined a b).1 (inl h)

    was : (k : ℕ) (q : Pair) → k < next + 1 → slice_get qs k ≡ Some q → slice_get ps k ≡ Some q
    was k q below e = sym (adds.begins.1 k (omega arith)) ∙ e

    same_here : (q : Pair) → slice_get qs next ≡ Some q → p ≡ q
    same_here q e = let f = was next q (omega arith) e in cc

    new_brands : (a b : ℕ) → IsTrue (listed_pairs ps a b) ⊎ IsNamed set p.older p.newer (length (fields_of set p.older)) a b → IsTrue (brand_pairs set a b)
    new_brands a b (inl h) = w.brands a b h
    new_brands a b (inr n) = subst (λ (o : Option Pair). Has (brand_pairs set) o) n.4 (named_in set accepted p.older p.newer older_in newer_in n.0 n.2 n.3)

    new_compared : (a b : ℕ) → IsTrue (listed_pairs ps a b) ⊎ IsNamed set p.older p.newer (length (fields_of set p.older)) a b → IsComparedOf set asked a b
    new_compared a b (inl h) = w.compared a b h
    new_compared a b (inr n) = let before = w.compared p.older p.newer here in record {
      given = before.given;
      stands = before.stands;
      compared = Named p.older p.newer n.0 a b before.compared n.2 n.3 n.4;
    }

    named_here : HasNamed set (listed_pairs qs) p.older p.newer
    named_here i l m = has (struct_pair set (field_at set p.older i).type (field_at set p.newer i).type) refl
      where
        has : (o : Option Pair) → struct_pair set (field_at set p.older i).type (field_at set p.newer i).type ≡ o → Has (listed_pairs qs) o
        has None e = tt
        has (Some q) e = (adds.joined q.older q.newer).1 (inr (i, l, l, m, e))

    new_told : (d : Difference) → (IsBefore set ps next d ⊎ IsOfPair set p d) → IsBefore set qs (next + 1) d
    new_told d (inl h) = let lt = h.1 in (h.0, omega arith, adds.begins.1 h.0 (omega arith) ∙ h.2, h.3)
    new_told d (inr h) = let s = pair_holds set p d h in (next, omega arith, adds.begins.1 next (omega arith) ∙ (at ∙ ap (λ (q : Pair). Some q) (sym s.0)), s.1)

    old_told : (d : Difference) → IsBefore set qs (next + 1) d → IsBefore set ps next d ⊎ IsOfPair set p d
    old_told d h = ⊎_elim (λ lt. inl (h.0, lt, was h.0 d.pair h.1 h.2, h.3)) (λ le. inr (holds_pair set p d (at_next le) h.3)) (cases_lt h.0 next)
      where
        at_next : next ≤ h.0 → d.pair ≡ p
        at_next le = let lt = h.1 in let e : h.0 ≡ next = omega arith in sym (same_here d.pair (subst (λ (k : ℕ). slice_get qs k ≡ Some d.pair) e h.2))

    -- nothing was told of the pair before
    none_before : IsBelow p 0 ts
    none_before d h e = at_before ((w.told d).0 h)
      where
        at_before : Contains [] d ⊎ IsBefore set ps next d → turn_of d.field d.cause < 0
        at_before (inl none) = absurd (let l = none.1 in omega arith)
        at_before (inr (k, lt, stands, holds)) = absurd (stands_once ps w.apart k next lt p (stands ∙ ap (λ (q : Pair). Some q) e) at)

    pub compare_more : Comparing set asked (next + 1) qs us
    compare_more = record {
      given = λ a b h. more a b (w.given a b h);
      brands = λ a b h. new_brands a b ((adds.joined a b).0 h);
      compared = λ a b h. new_compared a b ((adds.joined a b).0 h);
      apart = adds.apart w.apart;
      followed = below_more (λ k. (q : Pair) → slice_get qs k ≡ Some q → HasNamed set (listed_pairs qs) q.older q.newer) next
          (λ k below q e. named_within set (listed_pairs ps) (listed_pairs qs) q.older q.newer more (w.followed k below q (was k q (omega arith) e)))
          (λ q e. subst (λ (x : Pair). HasNamed set (listed_pairs qs) x.older x.newer) (same_here q e) named_here);
      known = below_more (λ k. (q : Pair) → slice_get qs k ≡ Some q → AreKnown set q.older q.newer (length (fields_of set q.older))) next
          (λ k below q e. w.known k below q (was k q (omega arith) e))
          (λ q e. subst (λ (x : Pair). AreKnown set x.older x.newer (length (fields_of set x.older))) (same_here q e) known);
      told = tells_as [] us (λ d. IsBefore set ps next d ⊎ IsOfPair set p d) (tells_then [] ts (IsBefore set ps next) w.told us (IsOfPair set p) tells) (IsBefore set qs (next + 1)) (λ d. (new_told d, old_told d));
      ordered = (orders w.ordered none_before).0;
    }

-- ---- the end ----

module _ (set : Schemas) (asked : List Pair) (next : ℕ) (ps : List Pair) (ts : List Difference) (w : Comparing set asked next ps ts) (past : length ps ≤ next) where
  before : (k : ℕ) (p : Pair) → slice_get ps k ≡ Some p → k < next
  before k p e = let l = index_inside ps k p e in omega arith

  named : (a b : ℕ) → IsTrue (listed_pairs ps a b) → HasNamed set (listed_pairs ps) a b
  named a b h = let r = listed_at ps a b h in
      subst (λ (y : ℕ). HasNamed set (listed_pairs ps) a y) r.4 (subst (λ (x : ℕ). HasNamed set (listed_pairs ps) x (r.1).newer) r.3 (w.followed r.0 (before r.0 r.1 r.2) r.1 r.2))

  known : (a b : ℕ) → IsTrue (listed_pairs ps a b) → AreKnown set a b (length (fields_of set a))
  known a b h = let r = listed_at ps a b h in
      subst (λ (y : ℕ). AreKnown set a y (length (fields_of set a))) r.4 (subst (λ (x : ℕ). AreKnown set x (r.1).newer (length (fields_of set x))) r.3 (w.known r.0 (before r.0 r.1 r.2) r.1 r.2))

  -- what is told differs
  told_listed : (d : Difference) → Contains ts d → IsTrue (listed_pairs ps d.pair.older d.pair.newer) × Holds set d
  told_listed d h = at ((w.told d).0 h)
    where
      at : Contains [] d ⊎ IsBefore set ps next d → IsTrue (listed_pairs ps d.pair.older d.pair.newer) × Holds set d
      at (inl none) = absurd (let l = none.1 in omega arith)
      at (inr (k, lt, e, holds)) = (at_listed ps k d.pair e, holds)

  -- what differs in a listed pair is told
  listed_told : (d : Difference) → IsTrue (listed_pairs ps d.pair.older d.pair.newer) → Holds set d → Contains ts d
  listed_told d h holds = let r = listed_at ps d.pair.older d.pair.newer h in
      (w.told d).1 (inr (r.0, before r.0 r.1 r.2, r.2 ∙ ap (λ (q : Pair). Some q) (ap₂ pair_of r.3 r.4), holds))

  pub compare_ends : Compares set asked ps ts
  compare_ends = record {
    given = w.given;
    brands = w.brands;
    compared = w.compared;
    named = named;
    known = known;
    told = λ d. (told_listed d, λ h. listed_told d h.0 h.1);
    ordered = w.ordered;
    apart = w.apart;
  }
