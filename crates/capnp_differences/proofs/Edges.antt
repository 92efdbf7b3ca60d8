-- Edges are put at the end of their list, and those of one pair are followed.
use Rattle.std.proofs.Common.{ℕ, zero, suc, ◌+◌, ◌<◌, ◌≤◌, ◌≡◌, ◌↔◌, ◌⊎◌, inl, inr, ⊎_elim, refl, List, [], ◌∷◌, ◌++◌, Bool, true, false, IsTrue, Option, Some, None, cond, length, slice_get, arith, ap, ap₂, sym, ◌∙◌, subst, length-append}
use Rattle.std.proofs.lemmas.Bool.{cases_lt}
use Rattle.std.specs.HashMap.{Updates, get}
use Rattle.std.specs.Map.{lookup}
use Rattle.capnp_schema.specs.Schema.{Schemas, field_at, fields_of}
use Rattle.capnp_differences.specs.declared.differences.Pair.{Pair}
use Rattle.capnp_differences.specs.declared.namers.Edge.{Edge}
use Rattle.capnp_differences.specs.declared.namers.Namers.{Namers}
use Rattle.capnp_differences.specs.Closing.{listed_pairs}
use Rattle.capnp_differences.specs.Differences.{struct_pair}
use Rattle.capnp_differences.specs.Keys.{same_key}
use Rattle.capnp_differences.specs.Steps.Comparing.{Adds, IsNamed, IsPairOf, pair_of}
use Rattle.capnp_differences.specs.Steps.Edges.{AreChained, AreNamers, HasEdge, IsLast, IsNamedBy, Joins, last_number, number_or_none}
use Rattle.capnp_differences.proofs.Adding.{adds_as, adds_none, adds_then}
use Rattle.capnp_differences.proofs.Listings.{at_listed, index_inside, listed_at}

-- ---- an edge behind others ----

stays : (es : List Edge) (x : Edge) (k : ℕ) (e : Edge) → slice_get es k ≡ Some e → slice_get (es ++ (x ∷ [])) k ≡ Some e
stays [] x k e h = cc
stays (y ∷ es) x zero e h = h
stays (y ∷ es) x (suc k) e h = stays es x k e h

comes : (es : List Edge) (x : Edge) → slice_get (es ++ (x ∷ [])) (length es) ≡ Some x
comes [] x = refl
comes (y ∷ es) x = comes es x

below : (es : List Edge) (k : ℕ) (e : Edge) → slice_get es k ≡ Some e → k < length es
below [] k e h = cc
below (y ∷ es) zero e h = omega arith
below (y ∷ es) (suc k) e h = let l = below es k e h in omega arith

which : (es : List Edge) (x : Edge) (k : ℕ) (e : Edge) → slice_get (es ++ (x ∷ [])) k ≡ Some e → (slice_get es k ≡ Some e) ⊎ ((k ≡ length es) × (e ≡ x))
which [] x zero e h = inr (refl, cc)
which [] x (suc k) e h = cc
which (y ∷ es) x zero e h = inl h
which (y ∷ es) x (suc k) e h = ⊎_elim (λ l. inl l) (λ r. inr (let same = r.0 in omega arith, r.1)) (which es x k e h)

-- ---- which edges there are ----

pub joins_none : (es : List Edge) (New : Pair → Pair → Type 0) → ((q p : Pair) → New q p → ⊥) → Joins es es New
joins_none es New none q p = (λ h. inl h, λ h. ⊎_elim (λ l. l) (λ n. absurd (none q p n)) h)

module _ (es fs : List Edge) (P : Pair → Pair → Type 0) (f : Joins es fs P) where
  pub joins_as : (Q : Pair → Pair → Type 0) → ((q p : Pair) → (P q p ↔ Q q p)) → Joins es fs Q
  joins_as Q same q p = (
    λ h. ⊎_elim (λ l. inl l) (λ n. inr ((same q p).0 n)) ((f q p).0 h),
    λ h. (f q p).1 (⊎_elim (λ l. inl l) (λ n. inr ((same q p).1 n)) h),
  )

  pub joins_then : (gs : List Edge) (Q : Pair → Pair → Type 0) → Joins fs gs Q → Joins es gs (λ q p. P q p ⊎ Q q p)
  joins_then gs Q g q p = (
    λ h. ⊎_elim (λ l. ⊎_elim (λ m. inl m) (λ n. inr (inl n)) ((f q p).0 l)) (λ n. inr (inr n)) ((g q p).0 h),
    λ h. (g q p).1 (⊎_elim (λ l. inl ((f q p).1 (inl l))) (λ o. ⊎_elim (λ n. inl ((f q p).1 (inr n))) (λ n. inr n) o) h),
  )

pub joins_one : (es : List Edge) (x : Edge) (named namer : Pair) → x.named ≡ named → x.namer ≡ namer → Joins es (es ++ (x ∷ [])) (λ q p. (q ≡ named) × (p ≡ namer))
joins_one es x named namer to by q p = (there, back)
  where
    there : HasEdge (es ++ (x ∷ [])) q p → HasEdge es q p ⊎ ((q ≡ named) × (p ≡ namer))
    there h = ⊎_elim
        (λ l. inl (h.0, h.1, l, h.3, h.4))
        (λ r. inr (sym h.3 ∙ (ap (λ (e : Edge). e.named) r.1 ∙ to), sym h.4 ∙ (ap (λ (e : Edge). e.namer) r.1 ∙ by)))
        (which es x h.0 h.1 h.2)

    back : HasEdge es q p ⊎ ((q ≡ named) × (p ≡ namer)) → HasEdge (es ++ (x ∷ [])) q p
    back (inl h) = (h.0, h.1, stays es x h.0 h.1 h.2, h.3, h.4)
    back (inr e) = (length es, x, comes es x, to ∙ sym e.0, by ∙ sym e.1)

-- a pair that there may be
pub joins_some : (es fs : List Edge) (o : Option Pair) (found namer : Pair) → o ≡ Some found → Joins es fs (λ q p. (q ≡ found) × (p ≡ namer)) → Joins es fs (λ q p. (o ≡ Some q) × (p ≡ namer))
joins_some es fs o found namer is f = joins_as es fs (λ q p. (q ≡ found) × (p ≡ namer)) f (λ q p. (o ≡ Some q) × (p ≡ namer)) (λ q p. (λ h. (is ∙ ap Some (sym h.0), h.1), λ h. (one q h.0, h.1)))
  where
    one : (q : Pair) → o ≡ Some q → q ≡ found
    one q e = let both : Some q ≡ Some found = sym e ∙ is in cc

pub joins_no_pair : (es : List Edge) (o : Option Pair) (namer : Pair) → o ≡ None → Joins es es (λ q p. (o ≡ Some q) × (p ≡ namer))
joins_no_pair es o namer is = joins_none es (λ q p. (o ≡ Some q) × (p ≡ namer)) (λ q p h. none q h.0)
  where
    none : (q : Pair) → o ≡ Some q → ⊥
    none q e = cc

-- ---- what fields name ----

module _ (set : Schemas) (namer : Pair) where
  pub fields_none : (es : List Edge) → Joins es es (IsNamedBy set namer 0)
  fields_none es = joins_none es (IsNamedBy set namer 0) (λ q p h. let l = h.0.1 in omega arith)

  module _ (es fs gs : List Edge) (i : ℕ) (l : i < length (fields_of set namer.older)) (m : i < length (fields_of set namer.newer)) (o : Option Pair)
      (is : o ≡ struct_pair set (field_at set namer.older i).type (field_at set namer.newer i).type) where
    pub fields_more : Joins es fs (IsNamedBy set namer i) → Joins fs gs (λ q p. (o ≡ Some q) × (p ≡ namer)) → Joins es gs (IsNamedBy set namer (i + 1))
    fields_more f g = joins_as es gs (λ q p. IsNamedBy set namer i q p ⊎ ((o ≡ Some q) × (p ≡ namer))) (joins_then es fs (IsNamedBy set namer i) f gs (λ q p. (o ≡ Some q) × (p ≡ namer)) g) (IsNamedBy set namer (i + 1)) (λ q p. (there q p, back q p))
      where
        there : (q p : Pair) → IsNamedBy set namer i q p ⊎ ((o ≡ Some q) × (p ≡ namer)) → IsNamedBy set namer (i + 1) q p
        there q p (inl (n, e)) = let lt = n.1 in ((n.0, omega arith, n.2, n.3, n.4), e)
        there q p (inr (h, e)) = ((i, omega arith, l, m, sym is ∙ h), e)

        back : (q p : Pair) → IsNamedBy set namer (i + 1) q p → IsNamedBy set namer i q p ⊎ ((o ≡ Some q) × (p ≡ namer))
        back q p (n, e) = ⊎_elim
            (λ lt. inl ((n.0, lt, n.2, n.3, n.4), e))
            (λ le. inr (let lt = n.1 in let same : n.0 ≡ i = omega arith in (is ∙ subst (λ (k : ℕ). struct_pair set (field_at set namer.older k).type (field_at set namer.newer k).type ≡ Some q) same n.4, e)))
            (cases_lt n.0 i)

  -- all that both have are the fields of the older one that both have
  pub fields_all : (es fs : List Edge) (count : ℕ) → ((i : ℕ) → i < length (fields_of set namer.older) → i < length (fields_of set namer.newer) → i < count) → Joins es fs (IsNamedBy set namer count) → Joins es fs (IsNamedBy set namer (length (fields_of set namer.older)))
  fields_all es fs count all f = joins_as es fs (IsNamedBy set namer count) f (IsNamedBy set namer (length (fields_of set namer.older))) (λ q p. (λ h. ((h.0.0, h.0.2, h.0.2, h.0.3, h.0.4), h.1), λ h. ((h.0.0, all h.0.0 h.0.2 h.0.3, h.0.2, h.0.3, h.0.4), h.1)))

-- ---- what a list of pairs names ----

module _ (set : Schemas) (ps : List Pair) where
  -- one of the first so many pairs names another one
  abbrev pub IsNamedBelow : ℕ → Pair → Pair → Type 0
  IsNamedBelow count q p = (k : ℕ) × (k < count) × (slice_get ps k ≡ Some p) × IsNamed set p.older p.newer (length (fields_of set p.older)) q.older q.newer

  pub pairs_none : (es : List Edge) → es ≡ [] → Joins [] es (IsNamedBelow 0)
  pairs_none es e = subst (λ (fs : List Edge). Joins [] fs (IsNamedBelow 0)) (sym e) (joins_none [] (IsNamedBelow 0) (λ q p h. let l = h.1 in omega arith))

  pub pairs_more : (es fs : List Edge) (i : ℕ) (namer : Pair) → slice_get ps i ≡ Some namer → Joins [] es (IsNamedBelow i) → Joins es fs (IsNamedBy set namer (length (fields_of set namer.older))) → Joins [] fs (IsNamedBelow (i + 1))
  pairs_more es fs i namer at f g = joins_as [] fs (λ q p. IsNamedBelow i q p ⊎ IsNamedBy set namer (length (fields_of set namer.older)) q p) (joins_then [] es (IsNamedBelow i) f fs (IsNamedBy set namer (length (fields_of set namer.older))) g) (IsNamedBelow (i + 1)) (λ q p. (there q p, back q p))
    where
      there : (q p : Pair) → IsNamedBelow i q p ⊎ IsNamedBy set namer (length (fields_of set namer.older)) q p → IsNamedBelow (i + 1) q p
      there q p (inl h) = let lt = h.1 in (h.0, omega arith, h.2, h.3)
      there q p (inr h) = (i, omega arith, at ∙ ap Some (sym h.1), subst (λ (x : Pair). IsNamed set x.older x.newer (length (fields_of set x.older)) q.older q.newer) (sym h.1) h.0)

      back : (q p : Pair) → IsNamedBelow (i + 1) q p → IsNamedBelow i q p ⊎ IsNamedBy set namer (length (fields_of set namer.older)) q p
      back q p h = ⊎_elim
          (λ lt. inl (h.0, lt, h.2, h.3))
          (λ le. inr (
          let lt = h.1 in
          let same : h.0 ≡ i = omega arith in
          let found : Some p ≡ Some namer = sym (subst (λ (k : ℕ). slice_get ps k ≡ Some p) same h.2) ∙ at in
          let eq : p ≡ namer = cc in
          (subst (λ (x : Pair). IsNamed set x.older x.newer (length (fields_of set x.older)) q.older q.newer) eq h.3, eq)
          ))
          (cases_lt h.0 i)

  pub pairs_all : (es : List Edge) (count : ℕ) → length ps ≤ count → Joins [] es (IsNamedBelow count) → AreNamers set ps es
  pairs_all es count past f q p = (there, back)
    where
      none : HasEdge [] q p → ⊥
      none h = let e = h.2 in cc

      there : HasEdge es q p → IsTrue (listed_pairs ps p.older p.newer) × IsNamed set p.older p.newer (length (fields_of set p.older)) q.older q.newer
      there h = ⊎_elim (λ l. absurd (none l)) (λ n. (at_listed ps n.0 p n.2, n.3)) ((f q p).0 h)

      back : IsTrue (listed_pairs ps p.older p.newer) × IsNamed set p.older p.newer (length (fields_of set p.older)) q.older q.newer → HasEdge es q p
      back (h, n) = let s = listed_at ps p.older p.newer h in
          let same : s.1 ≡ p = ap₂ pair_of s.3 s.4 in
          (f q p).1 (inr (s.0, let lt = index_inside ps s.0 s.1 s.2 in omega arith, s.2 ∙ ap Some same, n))

-- ---- where those of a pair stand ----

last_more : (es : List Edge) (x : Edge) (count : ℕ) (q : Pair) (number : ℕ) → count ≤ length es → IsLast es count q number → IsLast (es ++ (x ∷ [])) count q number
last_more es x count q number le last = record {
  inside = last.inside;
  past = λ k from to e h. ⊎_elim (λ l. last.past k from to e l) (λ r. absurd (let same = r.0 in omega arith)) (which es x k e h);
  here = λ k is e h. ⊎_elim (λ l. last.here k is e l) (λ r. absurd (let same = r.0 in let in_it = last.inside in omega arith)) (which es x k e h);
}

last_past : (es : List Edge) (x : Edge) (q : Pair) (number : ℕ) → (x.named ≡ q → ⊥) → IsLast es (length es) q number → IsLast (es ++ (x ∷ [])) (length es + 1) q number
last_past es x q number other last = record {
  inside = let l = last.inside in omega arith;
  past = λ k from to e h to_q. ⊎_elim (λ l. last.past k from (below es k e l) e l to_q) (λ r. other (sym (ap (λ (y : Edge). y.named) r.1) ∙ to_q)) (which es x k e h);
  here = λ k is e h. ⊎_elim (λ l. last.here k is e l) (λ r. absurd (let same = r.0 in let in_it = last.inside in omega arith)) (which es x k e h);
}

last_here : (es : List Edge) (x : Edge) (q : Pair) → x.named ≡ q → IsLast (es ++ (x ∷ [])) (length es + 1) q (length es + 1)
last_here es x q to = record {
  inside = omega arith;
  past = λ k from to e h to_q. omega arith;
  here = λ k is e h. ⊎_elim (λ l. absurd (let lt = below es k e l in omega arith)) (λ r. ap (λ (y : Edge). y.named) r.1 ∙ to) (which es x k e h);
}

-- the pair of a key
key_same : (p q : Pair) → same_key (q.older, q.newer) (p.older, p.newer) ≡ true → p ≡ q
key_same p q h = ap₂ pair_of (grind arith) (grind arith)

key_other : (p q : Pair) → same_key (p.older, p.newer) (q.older, q.newer) ≡ false → p ≡ q → ⊥
key_other p q h e = grind arith

empty_at : (k : ℕ) (x : Edge) → slice_get [] k ≡ Some x → ⊥
empty_at k x h = cc

pub chained_none : (n : Namers) → n.edges.items ≡ [] → n.last.entries ≡ [] → AreChained n
chained_none n e none = record {
  each = λ k x h. absurd (no_edge k x h);
  last = λ q. record {
    inside = let z = unknown q in omega arith;
    past = λ k from to x h is. no_edge k x h;
    here = λ k is x h. absurd (no_edge k x h);
  };
}
  where
    no_edge : (k : ℕ) (x : Edge) → slice_get n.edges.items k ≡ Some x → ⊥
    no_edge k x h = empty_at k x (sym (ap (λ (es : List Edge). slice_get es k) e) ∙ h)

    unknown : (q : Pair) → last_number n.last q ≡ 0
    unknown q = ap (λ (xs : List ((ℕ × ℕ) × ℕ)). number_or_none (lookup (same_key (q.older, q.newer)) xs)) none

module _ (n m : Namers) (x : Edge) (es : m.edges.items ≡ n.edges.items ++ (x ∷ [])) (before : x.before ≡ last_number n.last x.named) (number : ℕ) (is : number ≡ length n.edges.items + 1)
    (put : Updates same_key n.last m.last (x.named.older, x.named.newer) (Some number)) (chained : AreChained n) where
  each_more : (k : ℕ) → (e : Edge) → slice_get (n.edges.items ++ (x ∷ [])) k ≡ Some e → IsLast (n.edges.items ++ (x ∷ [])) k e.named e.before
  each_more k e h = ⊎_elim
      (λ l. last_more n.edges.items x k e.named e.before (let lt = below n.edges.items k e l in omega arith) (chained.each k e l))
      (λ r.
      subst (λ (y : Edge). IsLast (n.edges.items ++ (x ∷ [])) k y.named y.before) (sym r.1)
      (subst (λ (j : ℕ). IsLast (n.edges.items ++ (x ∷ [])) j x.named x.before) (sym r.0)
      (subst (λ (b : ℕ). IsLast (n.edges.items ++ (x ∷ [])) (length n.edges.items) x.named b) (sym before)
      (last_more n.edges.items x (length n.edges.items) x.named (last_number n.last x.named) (omega arith) (chained.last x.named)))))
      (which n.edges.items x k e h)

  last_of_more : (q : Pair) → IsLast (n.edges.items ++ (x ∷ [])) (length n.edges.items + 1) q (last_number m.last q)
  last_of_more q = at (same_key (x.named.older, x.named.newer) (q.older, q.newer)) refl
    where
      found : (t : Bool) → same_key (x.named.older, x.named.newer) (q.older, q.newer) ≡ t → last_number m.last q ≡ number_or_none (cond t (Some number) (get same_key n.last (q.older, q.newer)))
      found t e = ap number_or_none (put.0 (q.older, q.newer) ∙ ap (λ (b : Bool). cond b (Some number) (get same_key n.last (q.older, q.newer))) e)

      at : (t : Bool) → same_key (x.named.older, x.named.newer) (q.older, q.newer) ≡ t → IsLast (n.edges.items ++ (x ∷ [])) (length n.edges.items + 1) q (last_number m.last q)
      at true e = subst (λ (j : ℕ). IsLast (n.edges.items ++ (x ∷ [])) (length n.edges.items + 1) q j) (sym (found true e ∙ is)) (last_here n.edges.items x q (sym (key_same q x.named e)))
      at false e = subst (λ (j : ℕ). IsLast (n.edges.items ++ (x ∷ [])) (length n.edges.items + 1) q j) (sym (found false e)) (last_past n.edges.items x q (last_number n.last q) (key_other x.named q e) (chained.last q))

  pub chained_more : AreChained m
  chained_more = record {
    each = subst (λ (l : List Edge). (k : ℕ) → (e : Edge) → slice_get l k ≡ Some e → IsLast l k e.named e.before) (sym es) each_more;
    last = subst (λ (l : List Edge). (q : Pair) → IsLast l (length l) q (last_number m.last q)) (sym es)
        (subst (λ (j : ℕ). (q : Pair) → IsLast (n.edges.items ++ (x ∷ [])) j q (last_number m.last q)) (sym (length-append n.edges.items (x ∷ []))) last_of_more);
  }

-- ---- those who name a pair ----

-- an edge that leads from the pair and stands at or behind an index
abbrev pub HasEdgeFrom : List Edge → Pair → (from : ℕ) → ℕ → ℕ → Type 0
HasEdgeFrom es q from a b = (k : ℕ) × (from ≤ k) × (e : Edge) × (slice_get es k ≡ Some e) × (e.named ≡ q) × (e.namer ≡ pair_of a b)

-- those that stand there are marked
pub record Following (es : List Edge) (q : Pair) (old new : List Pair) (number : ℕ) : Type 0 where
  pub adds : Adds old new (HasEdgeFrom es q number)
  pub inside : number ≤ length es
  pub here : (k : ℕ) → number ≡ k + 1 → (e : Edge) → slice_get es k ≡ Some e → e.named ≡ q

module _ (n : Namers) (chained : AreChained n) (q : Pair) (old : List Pair) where
  pub follow_begins : (number : ℕ) → number ≡ last_number n.last q → Following n.edges.items q old old number
  follow_begins number is = let last = subst (λ (j : ℕ). IsLast n.edges.items (length n.edges.items) q j) (sym is) (chained.last q) in record {
    adds = adds_none old (HasEdgeFrom n.edges.items q number) (λ a b h. absurd (last.past h.0 h.1 (below n.edges.items h.0 h.2 h.3) h.2 h.3 h.4));
    inside = last.inside;
    here = last.here;
  }

  pub follow_more : (ms ns : List Pair) (number index : ℕ) (e : Edge) → number ≡ index + 1 → slice_get n.edges.items index ≡ Some e → Following n.edges.items q old ms number → Adds ms ns (IsPairOf e.namer) → Following n.edges.items q old ns e.before
  follow_more ms ns number index e is at f g = record {
    adds = adds_as old ns (λ a b. HasEdgeFrom n.edges.items q number a b ⊎ IsPairOf e.namer a b) (adds_then old ms (HasEdgeFrom n.edges.items q number) f.adds ns (IsPairOf e.namer) g) (HasEdgeFrom n.edges.items q e.before) (λ a b. (there a b, back a b));
    inside = let l = last.inside in let lt = below n.edges.items index e at in omega arith;
    here = λ k same x h. last.here k same x h ∙ to;
  }
    where
      to : e.named ≡ q
      to = f.here index is e at

      last : IsLast n.edges.items index e.named e.before
      last = chained.each index e at

      there : (a b : ℕ) → HasEdgeFrom n.edges.items q number a b ⊎ IsPairOf e.namer a b → HasEdgeFrom n.edges.items q e.before a b
      there a b (inl h) = (h.0, let le = h.1 in let l = last.inside in omega arith, h.2, h.3, h.4, h.5)
      there a b (inr h) = (index, last.inside, e, at, to, sym (ap₂ pair_of h.0 h.1))

      back : (a b : ℕ) → HasEdgeFrom n.edges.items q e.before a b → HasEdgeFrom n.edges.items q number a b ⊎ IsPairOf e.namer a b
      back a b h = ⊎_elim
          (λ lt. absurd (last.past h.0 h.1 lt h.2 h.3 (h.4 ∙ sym to)))
          (λ ge. ⊎_elim
          (λ lt. inr (
          let same : h.0 ≡ index = omega arith in
          let found : Some h.2 ≡ Some e = sym (subst (λ (k : ℕ). slice_get n.edges.items k ≡ Some h.2) same h.3) ∙ at in
          let eq : h.2 ≡ e = cc in
          let pair : pair_of a b ≡ e.namer = sym h.5 ∙ ap (λ (x : Edge). x.namer) eq in
          (ap (λ (p : Pair). p.older) pair, ap (λ (p : Pair). p.newer) pair)
          ))
          (λ further. inl (h.0, let le = further in omega arith, h.2, h.3, h.4, h.5))
          (cases_lt h.0 number))
          (cases_lt h.0 index)

  pub follow_ends : (ns : List Pair) (number : ℕ) → number ≡ 0 → Following n.edges.items q old ns number → Adds old ns (λ a b. HasEdge n.edges.items q (pair_of a b))
  follow_ends ns number none f = adds_as old ns (HasEdgeFrom n.edges.items q number) f.adds (λ a b. HasEdge n.edges.items q (pair_of a b)) (λ a b. (λ h. (h.0, h.2, h.3, h.4, h.5), λ h. (h.0, omega arith, h.1, h.2, h.3, h.4)))
