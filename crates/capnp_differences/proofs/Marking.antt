-- Pairs from which a difference can be reached are marked.
use Rattle.std.proofs.Common.{ℕ, ◌+◌, ◌*◌, ◌<◌, ◌≤◌, ◌≡◌, ◌⊎◌, inl, inr, ⊎_elim, refl, List, [], ◌∷◌, IsTrue, Contains, Some, length, slice_get, arith, sym, ◌∙◌, subst}
use Rattle.std.proofs.lemmas.Bool.{cases_lt}
use Rattle.capnp_schema.specs.Schema.{Schemas, field_at, fields_of}
use Rattle.capnp_differences.specs.declared.differences.Difference.{Difference}
use Rattle.capnp_differences.specs.declared.differences.Pair.{Pair}
use Rattle.capnp_differences.specs.declared.namers.Edge.{Edge}
use Rattle.capnp_differences.specs.Closing.{listed_pairs}
use Rattle.capnp_differences.specs.Differences.{Given, IsCompared, Named, struct_pair}
use Rattle.capnp_differences.specs.Steps.Comparing.{Adds, Apart, IsNamed, Within, brand_pairs, pair_of}
use Rattle.capnp_differences.specs.Steps.Edges.{AreNamers, HasEdge}
use Rattle.capnp_differences.specs.Steps.Gathering.{Gathers, IsToldAt}
use Rattle.capnp_differences.specs.Steps.Marking.{AreFound, Leads, Reaches}
use Rattle.capnp_differences.proofs.Bound.{pairs_bound}
use Rattle.capnp_differences.proofs.Listings.{at_contained, at_listed, contains_at, index_inside, listed_at}

-- ---- what a pair leads to ----

module _ (set : Schemas) (a b i c d : ℕ) (l : i < length (fields_of set a)) (m : i < length (fields_of set b)) (e : struct_pair set (field_at set a i).type (field_at set b i).type ≡ Some (pair_of c d)) where
  through : {x y : ℕ} → IsCompared set c d x y → IsCompared set a b x y
  through Given = Named a b i c d Given l m e
  through (Named x y j v w before l' m' e') = Named x y j v w (through before) l' m' e'

  leads_on : Leads set c d → Leads set a b
  leads_on (x, h) = (x, record { compared = through h.compared; holds = h.holds })

-- ---- one marked pair after another ----

-- the pairs in which something differs are marked, and what is marked leads to a difference
pub record Marking (set : Schemas) (ps : List Pair) (ts : List Difference) (ms : List Pair) : Type 0 where
  pub inside : Within (listed_pairs ms) (listed_pairs ps)
  pub apart : Apart ms
  pub differing : (d : Difference) → Contains ts d → IsTrue (listed_pairs ms d.pair.older d.pair.newer)
  pub leads : (a b : ℕ) → IsTrue (listed_pairs ms a b) → Leads set a b

module _ (set : Schemas) (ps : List Pair) (ts : List Difference) where
  pub mark_begins : (ms : List Pair) → Gathers (IsToldAt ts) ms (length ts) → AreFound set ps ts → Marking set ps ts ms
  mark_begins ms g found = record {
    inside = λ a b h. place a b (g.only a b h);
    apart = g.apart;
    differing = λ d h. g.all h.0 h.1 d.pair (d, at_contained ts d h, refl);
    leads = λ a b h. lead a b (g.only a b h);
  }
    where
      place : (a b : ℕ) → (k : ℕ) × IsToldAt ts k (pair_of a b) → IsTrue (listed_pairs ps a b)
      place a b (k, (d, e, f)) = subst (λ (q : Pair). IsTrue (listed_pairs ps q.older q.newer)) f (found d (contains_at ts k d e)).0

      lead : (a b : ℕ) → (k : ℕ) × IsToldAt ts k (pair_of a b) → Leads set a b
      lead a b (k, (d, e, f)) = (
        d,
        record {
          compared = subst (λ (q : Pair). IsCompared set a b q.older q.newer) (sym f) Given;
          holds = (found d (contains_at ts k d e)).1;
        },
      )

  -- those who name the first so many marked pairs are marked
  pub record Spreading (next : ℕ) (ms : List Pair) : Type 0 where
    pub marks : Marking set ps ts ms
    pub settled : (k : ℕ) → k < next → (q : Pair) → slice_get ms k ≡ Some q → (a b : ℕ) → IsTrue (listed_pairs ps a b) → IsNamed set a b (length (fields_of set a)) q.older q.newer → IsTrue (listed_pairs ms a b)

  pub spread_begins : (ms : List Pair) → Gathers (IsToldAt ts) ms (length ts) → AreFound set ps ts → Spreading 0 ms
  spread_begins ms g found = record { marks = mark_begins ms g found; settled = λ k lt. absurd (omega arith) }

  module _ (es : List Edge) (namers : AreNamers set ps es) (ms ns : List Pair) (next : ℕ) (q : Pair) (at : slice_get ms next ≡ Some q) (w : Spreading next ms)
      (adds : Adds ms ns (λ a b. HasEdge es q (pair_of a b))) where
    kept : (a b : ℕ) → IsTrue (listed_pairs ms a b) → IsTrue (listed_pairs ns a b)
    kept a b h = (adds.joined a b).1 (inl h)

    marks_more : Marking set ps ts ns
    marks_more = record {
      inside = λ a b h. ⊎_elim (λ l. w.marks.inside a b l) (λ e. ((namers q (pair_of a b)).0 e).0) ((adds.joined a b).0 h);
      apart = adds.apart w.marks.apart;
      differing = λ d h. kept d.pair.older d.pair.newer (w.marks.differing d h);
      leads = λ a b h. ⊎_elim (λ l. w.marks.leads a b l) (λ e. on a b ((namers q (pair_of a b)).0 e).1) ((adds.joined a b).0 h);
    }
      where
        on : (a b : ℕ) → IsNamed set a b (length (fields_of set a)) q.older q.newer → Leads set a b
        on a b n = leads_on set a b n.0 q.older q.newer n.2 n.3 n.4 (w.marks.leads q.older q.newer (at_listed ms next q at))

    settled_more : (k : ℕ) → k < next + 1 → (p : Pair) → slice_get ns k ≡ Some p → (a b : ℕ) → IsTrue (listed_pairs ps a b) → IsNamed set a b (length (fields_of set a)) p.older p.newer → IsTrue (listed_pairs ns a b)
    settled_more k below p here a b l n = ⊎_elim
        (λ lt. kept a b (w.settled k lt p (before (let l = index_inside ms next q at in omega arith)) a b l n))
        (λ ge.
        let same : k ≡ next = omega arith in
        let found : Some p ≡ Some q = sym (before (let l = index_inside ms next q at in omega arith)) ∙ subst (λ (j : ℕ). slice_get ms j ≡ Some q) (sym same) at in
        let eq : p ≡ q = cc in
        (adds.joined a b).1 (inr ((namers q (pair_of a b)).1 (l, subst (λ (x : Pair). IsNamed set a b (length (fields_of set a)) x.older x.newer) eq n))))
        (cases_lt k next)
      where
        before : k < length ms → slice_get ms k ≡ Some p
        before lt = sym (adds.begins.1 k lt) ∙ here

    pub spread_more : Spreading (next + 1) ns
    spread_more = record { marks = marks_more; settled = settled_more }

  module _ (ms : List Pair) (next : ℕ) (w : Spreading next ms) where
    -- there are no more pairs than pairs of brands
    pub spread_bound : Within (listed_pairs ps) (brand_pairs set) → length ms ≤ length set.brands * length set.brands
    spread_bound brands = pairs_bound set ms w.marks.apart (λ a b h. brands a b (w.marks.inside a b h))

    pub spread_ends : length ms ≤ next → Reaches set ps ts ms
    spread_ends past = record {
      differing = w.marks.differing;
      leads = w.marks.leads;
      settled = λ a b l n. on a b l n.0 n.1 n.2 (listed_at ms n.0 n.1 n.3);
    }
      where
        on : (a b : ℕ) → IsTrue (listed_pairs ps a b) → (c d : ℕ) → IsNamed set a b (length (fields_of set a)) c d → (k : ℕ) × (p : Pair) × (slice_get ms k ≡ Some p) × (p.older ≡ c) × (p.newer ≡ d) → IsTrue (listed_pairs ms a b)
        on a b l c d n s = w.settled s.0 (let lt = index_inside ms s.0 s.1 s.2 in omega arith) s.1 s.2 a b l
            (subst (λ (y : ℕ). IsNamed set a b (length (fields_of set a)) s.1.older y) (sym s.4) (subst (λ (x : ℕ). IsNamed set a b (length (fields_of set a)) x d) (sym s.3) n))

-- ---- where nothing is told ----

none_at : (ts : List Difference) (k : ℕ) (d : Difference) → length ts ≡ 0 → slice_get ts k ≡ Some d → ⊥
none_at [] k d none e = cc
none_at (x ∷ xs) k d none e = omega (arith, none)

-- nothing is marked then
module _ (set : Schemas) (ps : List Pair) (ts : List Difference) (ms : List Pair) (g : Gathers (IsToldAt ts) ms (length ts)) (none : length ts ≡ 0) where
  none_listed : (a b : ℕ) → IsTrue (listed_pairs ms a b) → ⊥
  none_listed a b h = let at = g.only a b h in none_at ts at.0 (at.1).0 none (at.1).1

  pub none_reach : Reaches set ps ts ms
  none_reach = record {
    differing = λ d h. absurd (let lt = h.1 in omega (arith, lt, none));
    leads = λ a b h. absurd (none_listed a b h);
    settled = λ a b h n. absurd (none_listed n.0 n.1 n.3);
  }
