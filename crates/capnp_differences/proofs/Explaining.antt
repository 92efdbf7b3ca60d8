-- What is answered of the pairs that were compared.
use Rattle.std.proofs.Common.{ℕ, suc, zero, ◌≡◌, ◌↔◌, refl, List, [], ◌∷◌, Bool, true, false, not, ◌&&◌, IsTrue, Contains, Option, Some, None, length, map, slice_get, arith, ap, sym, ◌∙◌, subst}
use Rattle.std.specs.Option.{option_map}
use Rattle.std.proofs.lemmas.List.{length-map}
use Rattle.std.proofs.lemmas.Option.{slice_get-map}
use Rattle.capnp_schema.specs.Schema.{Schemas, field_at}
use Rattle.capnp_records.specs.Compatible.{IsSuccessor, Pairs}
use Rattle.capnp_differences.specs.declared.differences.Cause.{Cause}
use Rattle.capnp_differences.specs.declared.differences.Difference.{Difference}
use Rattle.capnp_differences.specs.declared.differences.Pair.{Pair}
use Rattle.capnp_differences.specs.Closing.{listed_pairs}
use Rattle.capnp_differences.specs.Differences.{AreAnswered, DiffersAt, Given, IsCompared, IsComparedOf, IsDifference, IsDifferenceOf, Named, struct_pair}
use Rattle.capnp_differences.specs.Steps.Comparing.{Compares, Has, HasNamed, pair_of}
use Rattle.capnp_differences.specs.Steps.Gathering.{Gathers, IsAt}
use Rattle.capnp_differences.specs.Steps.Marking.{AreFound, Reaches}
use Rattle.capnp_differences.specs.Steps.Telling.{difference_of}
use Rattle.capnp_differences.proofs.Listings.{contains_at, contains_listed, index_inside, listed_at}
use Rattle.capnp_differences.proofs.Relating.{shared_from, shared_named, shared_same}

clash : true ≡ false → ⊥
clash e = cc

not_empty : (ts : List Difference) (d : Difference) → ts ≡ [] → Contains ts d → ⊥
not_empty ts d e h = let l = (subst (λ (x : List Difference). Contains x d) e h).1 in omega arith

-- ---- one pair ----

module _ (set : Schemas) (older newer : ℕ) where
  -- the pairs that are compared are those of each set that leads from its pairs to their pairs
  all_in : (c : IsSuccessor true set older newer) → {a b : ℕ} → IsCompared set older newer a b → IsTrue (c.pairs a b)
  all_in c Given = c.given
  all_in c (Named a b i x y before l m e) = subst (λ (o : Option Pair). Has c.pairs o) e (shared_named set c.pairs a b (c.closed a b (all_in c before)) i l)

  -- of a compatible pair nothing differs
  pub none_differs : IsSuccessor true set older newer → (d : Difference) → IsDifference set older newer d → ⊥
  none_differs c d h = shared_same set c.pairs d.pair.older d.pair.newer (c.closed d.pair.older d.pair.newer (all_in c h.compared)) d.field d.cause h.holds

-- ---- several pairs ----

module _ (set : Schemas) (asked ps : List Pair) (ts : List Difference) (w : Compares set asked ps ts) where
  found : AreFound set ps ts
  found d h = (w.told d).0 h

  listed_from : (a b : ℕ) → IsTrue (listed_pairs ps a b) → {c d : ℕ} → IsCompared set a b c d → IsTrue (listed_pairs ps c d)
  listed_from a b here Given = here
  listed_from a b here (Named x y i c d before l m e) = subst (λ (o : Option Pair). Has (listed_pairs ps) o) e (w.named x y (listed_from a b here before) i l m)

  given_listed : (p : Pair) → Contains asked p → IsTrue (listed_pairs ps p.older p.newer)
  given_listed p h = w.given p.older p.newer (contains_listed asked p h)

  pub all_listed : (a b : ℕ) → IsComparedOf set asked a b → IsTrue (listed_pairs ps a b)
  all_listed a b c = listed_from c.given.older c.given.newer (given_listed c.given c.stands) c.compared

  pub all_told : (d : Difference) → (Contains ts d ↔ IsDifferenceOf set asked d)
  all_told d = (λ h. let r = (w.told d).0 h in record { compared = w.compared d.pair.older d.pair.newer r.0; holds = r.1 }, λ h. (w.told d).1 (all_listed d.pair.older d.pair.newer h.compared, h.holds))

  -- ---- the pairs that are not marked ----

  module _ (ms : List Pair) (r : Reaches set ps ts ms) where
    abbrev unmarked : Pairs
    unmarked a b = listed_pairs ps a b && not (listed_pairs ms a b)

    both : (x y : Bool) → x ≡ true → y ≡ false → x && not y ≡ true
    both true false e f = refl
    both true true e f = absurd (clash f)
    both false y e f = cc

    first : (x y : Bool) → x && not y ≡ true → x ≡ true
    first true y e = refl
    first false y e = e

    second : (x y : Bool) → x && not y ≡ true → y ≡ false
    second x false e = refl
    second true true e = absurd (clash (sym e))
    second false true e = absurd (clash (sym e))

    quiet : (a b : ℕ) → IsTrue (listed_pairs ps a b) → listed_pairs ms a b ≡ false → (o : Option ℕ) (c : Cause) → DiffersAt set (pair_of a b) o c → ⊥
    quiet a b h none o c holds = clash (sym (r.differing (difference_of (pair_of a b) o c) ((w.told (difference_of (pair_of a b) o c)).1 (h, holds))) ∙ none)

    unmarked_named : (a b : ℕ) → IsTrue (listed_pairs ps a b) → listed_pairs ms a b ≡ false → HasNamed set unmarked a b
    unmarked_named a b h none i l m = has (struct_pair set (field_at set a i).type (field_at set b i).type) refl (w.named a b h i l m)
      where
        has : (o : Option Pair) → struct_pair set (field_at set a i).type (field_at set b i).type ≡ o → Has (listed_pairs ps) o → Has unmarked o
        has None e here = tt
        has (Some q) e here = at (listed_pairs ms q.older q.newer) refl
          where
            at : (t : Bool) → listed_pairs ms q.older q.newer ≡ t → IsTrue (unmarked q.older q.newer)
            at false f = both (listed_pairs ps q.older q.newer) (listed_pairs ms q.older q.newer) here f
            at true f = absurd (clash (sym (r.settled a b h (q.older, q.newer, (i, l, l, m, e), f)) ∙ none))

    -- they are compatible, and those that are marked are not
    successor : (a b : ℕ) → IsTrue (listed_pairs ps a b) → listed_pairs ms a b ≡ false → IsSuccessor true set a b
    successor a b h none = record {
      pairs = unmarked;
      given = both (listed_pairs ps a b) (listed_pairs ms a b) h none;
      closed = λ x y e.
          let here : IsTrue (listed_pairs ps x y) = first (listed_pairs ps x y) (listed_pairs ms x y) e in
          let free : listed_pairs ms x y ≡ false = second (listed_pairs ps x y) (listed_pairs ms x y) e in
          shared_from set unmarked x y (quiet x y here free) (w.known x y here) (unmarked_named x y here free);
    }

    marked_differs : (a b : ℕ) → IsSuccessor true set a b → listed_pairs ms a b ≡ true → ⊥
    marked_differs a b c h = let d = r.leads a b h in none_differs set a b c d.0 d.1

    unmarked_exactly : (p : Pair) → Contains asked p → (t : Bool) → t ≡ not (listed_pairs ms p.older p.newer) → (IsTrue t ↔ IsSuccessor true set p.older p.newer)
    unmarked_exactly p h t e = at (listed_pairs ms p.older p.newer) refl
      where
        at : (m : Bool) → listed_pairs ms p.older p.newer ≡ m → (IsTrue t ↔ IsSuccessor true set p.older p.newer)
        at false f = (λ yes. successor p.older p.newer (given_listed p h) f, λ c. e ∙ ap not f)
        at true f = (λ yes. absurd (clash (sym yes ∙ (e ∙ ap not f))), λ c. absurd (marked_differs p.older p.newer c f))

    at_mapped : (k : ℕ) (p : Pair) (t : Bool) → slice_get asked k ≡ Some p → slice_get (map (λ (q : Pair). not (listed_pairs ms q.older q.newer)) asked) k ≡ Some t → t ≡ not (listed_pairs ms p.older p.newer)
    at_mapped k p t e f =
        let same : Some t ≡ Some (not (listed_pairs ms p.older p.newer)) = sym f ∙ (slice_get-map (λ (q : Pair). not (listed_pairs ms q.older q.newer)) asked k ∙ ap (option_map (λ (q : Pair). not (listed_pairs ms q.older q.newer))) e) in
        cc

    pub answered : (follows : List Bool) → follows ≡ map (λ (p : Pair). not (listed_pairs ms p.older p.newer)) asked → AreAnswered set asked follows
    answered follows e = record {
      count = ap length e ∙ length-map asked (λ (p : Pair). not (listed_pairs ms p.older p.newer));
      each = λ k p t f g. unmarked_exactly p (contains_at asked k p f) t (at_mapped k p t f (subst (λ (l : List Bool). slice_get l k ≡ Some t) e g));
    }

  pub answered_as : (us : List Difference) (ms : List Pair) (follows : List Bool) → us ≡ ts → Reaches set ps us ms → follows ≡ map (λ (p : Pair). not (listed_pairs ms p.older p.newer)) asked → AreAnswered set asked follows
  answered_as us ms follows e r f = answered ms (subst (λ (l : List Difference). Reaches set ps l ms) e r) follows f

  pub found_as : (us : List Difference) → us ≡ ts → AreFound set ps us
  found_as us e = subst (λ (l : List Difference). AreFound set ps l) (sym e) found

  -- ---- where nothing is told ----

  -- nothing is marked then
  none_reach : ts ≡ [] → Reaches set ps ts []
  none_reach e = record {
    differing = λ d h. absurd (not_empty ts d e h);
    leads = λ a b h. absurd (clash (sym h));
    settled = λ a b h n. absurd (clash (sym n.3));
  }

  follow : ts ≡ [] → (p : Pair) → Contains asked p → IsSuccessor true set p.older p.newer
  follow e p h = successor [] (none_reach e) p.older p.newer (given_listed p h) refl

  nothing_told : ((p : Pair) → Contains asked p → IsSuccessor true set p.older p.newer) → ts ≡ []
  nothing_told all = at ts refl
    where
      differs : (x : Difference) → Contains ts x → ⊥
      differs x h = let d = (all_told x).0 h in none_differs set d.compared.given.older d.compared.given.newer (all d.compared.given d.compared.stands) x (record { compared = d.compared.compared; holds = d.holds })

      at : (xs : List Difference) → ts ≡ xs → ts ≡ []
      at [] e = e
      at (x ∷ xs) e = absurd (differs x (subst (λ (l : List Difference). Contains l x) (sym e) (0, omega arith, refl)))

  pub all_follow : (ts ≡ []) ↔ ((p : Pair) → Contains asked p → IsSuccessor true set p.older p.newer)
  all_follow = (follow, nothing_told)

-- ---- the pairs that are asked, each once ----

module _ (set : Schemas) (asked gs ps : List Pair) (ts : List Difference) (g : Gathers (IsAt asked) gs (length asked)) (w : Compares set gs ps ts) where
  as_asked : (p : Pair) → Contains gs p → Contains asked p
  as_asked p h = let at = g.only p.older p.newer (contains_listed gs p h) in contains_at asked at.0 p at.1

  asked_within : (a b : ℕ) → IsTrue (listed_pairs asked a b) → IsTrue (listed_pairs ps a b)
  asked_within a b h = let r = listed_at asked a b h in
      w.given a b (subst (λ (y : ℕ). IsTrue (listed_pairs gs a y)) r.4 (subst (λ (x : ℕ). IsTrue (listed_pairs gs x (r.1).newer)) r.3 (g.all r.0 (index_inside asked r.0 r.1 r.2) r.1 r.2)))

  pub compares_asked : Compares set asked ps ts
  compares_asked = record {
    given = asked_within;
    brands = w.brands;
    compared = λ a b h. let c = w.compared a b h in record { given = c.given; stands = as_asked c.given c.stands; compared = c.compared };
    named = w.named;
    known = w.known;
    told = w.told;
    ordered = w.ordered;
    apart = w.apart;
  }

-- ---- the only pair ----

-- what is told are the differences, and there are none exactly where the pair is compatible
pub record Explains (set : Schemas) (older newer : ℕ) (ts : List Difference) : Type 0 where
  pub told : (d : Difference) → (Contains ts d ↔ IsDifference set older newer d)
  pub none : (ts ≡ []) ↔ IsSuccessor true set older newer

module _ (set : Schemas) (ps qs : List Pair) (ts : List Difference) (g : Pair) (only : ps ≡ g ∷ []) (w : Compares set ps qs ts) where
  one : Compares set (g ∷ []) qs ts
  one = subst (λ (x : List Pair). Compares set x qs ts) only w

  is_only : (p : Pair) → Contains (g ∷ []) p → g ≡ p
  is_only p (zero, lt, e) = e
  is_only p (suc k, lt, e) = absurd (omega arith)

  here : Contains (g ∷ []) g
  here = (0, omega arith, refl)

  only_told : (d : Difference) → (Contains ts d ↔ IsDifference set g.older g.newer d)
  only_told d = (λ h. to ((all_told set (g ∷ []) qs ts one d).0 h), λ h. (all_told set (g ∷ []) qs ts one d).1 (record { compared = record { given = g; stands = here; compared = h.compared }; holds = h.holds }))
    where
      to : IsDifferenceOf set (g ∷ []) d → IsDifference set g.older g.newer d
      to h = record { compared = subst (λ (p : Pair). IsCompared set p.older p.newer d.pair.older d.pair.newer) (sym (is_only h.compared.given h.compared.stands)) h.compared.compared; holds = h.holds }

  only_follows : (ts ≡ []) ↔ IsSuccessor true set g.older g.newer
  only_follows = (λ e. (all_follow set (g ∷ []) qs ts one).0 e g here, λ c. (all_follow set (g ∷ []) qs ts one).1 (λ p h. subst (λ (q : Pair). IsSuccessor true set q.older q.newer) (is_only p h) c))

  pub only_explained : Explains set g.older g.newer ts
  only_explained = record { told = only_told; none = only_follows }

-- under other names
pub explained : (set set' : Schemas) (a a' b b' : ℕ) (ps qs : List Pair) (ts : List Difference) → set ≡ set' → a ≡ a' → b ≡ b' → ps ≡ pair_of a b ∷ [] → Compares set ps qs ts → Explains set' a' b' ts
explained set set' a a' b b' ps qs ts e f g only w =
    subst (λ (y : ℕ). Explains set' a' y ts) g (subst (λ (x : ℕ). Explains set' x b ts) f (subst (λ (z : Schemas). Explains z a b ts) e (only_explained set ps qs ts (pair_of a b) only w)))
