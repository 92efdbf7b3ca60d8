-- What one step of a tour keeps.
use Rattle.std.proofs.Common.{ℕ, ◌≡◌, ◌+◌, ◌-◌, ◌<◌, ◌≤◌, ◌⊎◌, inl, inr, ⊎_elim, Bool, true, false, List, [], ◌∷◌, ◌++◌, length, arith, refl, sym, ap, ◌∙◌, subst, Some, None, slice_get, cond}
use Rattle.std.proofs.Math.ListN.{set}
use Rattle.std.proofs.lemmas.Bool.{cases_lt}
use Rattle.std.proofs.lemmas.List.{length_push}
use Rattle.std.proofs.lemmas.Option.{slice_get_within, same_Some, slice_get_past}
use Rattle.capnp_schema.specs.Schema.{Schemas, fields_of}
use Rattle.capnp_schema.specs.Footprint.{Spot}
use Rattle.capnp_schema.specs.Steps.Checking.Spans.{span_names, entry_names}
use Rattle.capnp_schema.specs.Steps.Checking.Levels.{IsOpen, AreOpen, mark_at, IsClaimed, member_at, Names, NonUnionDone, by_discriminant, by_non_union, Done, among_non_union, by_member, IsCurrent, non_union, member, IsClear, LevelStands, IsAbove, IsCurrentGroup, LevelsStand, TourStands}
use Rattle.capnp_schema.specs.declared.check.claims.Claims.{Claims}
use Rattle.capnp_schema.specs.declared.check.claims.Level.{Level}
use Rattle.capnp_schema.specs.declared.check.spans.Span.{Span}
use Rattle.capnp_schema.specs.declared.check.tour.Tour.{Tour}
use Rattle.capnp_schema.proofs.Checking.LevelTimes.{slice_get_push, slice_get_last, slice_get_end, pushed}

-- ---- what is past, and more of it ----

pub non_union_more : (set : Schemas) (b s t : ℕ) (p : Spot) → s ≤ t → NonUnionDone set b s p → NonUnionDone set b t p
non_union_more set b s t p le (by_discriminant e) = by_discriminant e
non_union_more set b s t p le (by_non_union i m lt n) = by_non_union i m (omega arith) n

-- a mark that stays, or one at a place that was open to the levels
abbrev pub Keeps : List Level → ℕ → (Spot → ℕ) → (Spot → ℕ) → Type 0
Keeps levels now old new = (p : Spot) → (new p ≡ old p) ⊎ (AreOpen levels (old p) × (new p ≡ now))

pub keeps_from_claim : (levels : List Level) (now : ℕ) (span : Span) (old new : Claims) → IsClaimed levels now span old new → Keeps levels now (mark_at old) (mark_at new)
keeps_from_claim levels now span old new c p = at (span_names span p) refl
  where
    at : (b : Bool) → span_names span p ≡ b → (mark_at new p ≡ mark_at old p) ⊎ (AreOpen levels (mark_at old p) × (mark_at new p ≡ now))
    at true e = inr (c.inside p e)
    at false e = inl (c.outside p e)

-- a level keeps standing under new marks
pub level_kept : (set : Schemas) (old new : Spot → ℕ) (now : ℕ) (levels : List Level) (k : ℕ) (l : Level) → slice_get levels k ≡ Some l → Keeps levels now old new → LevelStands set old now l → LevelStands set new (now + 1) l
level_kept set old new now levels k l here keeps s = record {
  started = λ p d. ⊎_elim (λ e. let h = s.started p d in subst (λ x. l.start ≤ x) (sym e) h) (λ r. let o = s.ordered in let t = s.ended in subst (λ x. l.start ≤ x) (sym r.1) (omega arith)) (keeps p);
  non_union = λ p d. ⊎_elim (λ e. let h = s.non_union p d in subst (λ x. x < l.non_union_end) (sym e) h) (λ r. absurd (r.0 k l here (s.started p (among_non_union d)) (s.non_union p d))) (keeps p);
  clear_non_union = s.clear_non_union;
  clear_members = s.clear_members;
  ordered = s.ordered;
  ended = (let t = s.ended in omega arith);
}

pub fresh_kept : (old new : Spot → ℕ) (now : ℕ) (levels : List Level) → Keeps levels now old new → ((p : Spot) → old p < now) → (p : Spot) → new p < now + 1
fresh_kept old new now levels keeps fresh p = ⊎_elim (λ e. let h = fresh p in subst (λ x. x < now + 1) (sym e) (omega arith)) (λ r. subst (λ x. x < now + 1) (sym r.1) (omega arith)) (keeps p)

-- all levels do
pub levels_kept : (set : Schemas) (old new : Spot → ℕ) (now : ℕ) (levels : List Level) → Keeps levels now old new → LevelsStand set old now levels → LevelsStand set new (now + 1) levels
levels_kept set old new now levels keeps s = record {
  each = λ k l e. level_kept set old new now levels k l e keeps (s.each k l e);
  pairs = s.pairs;
  entered = s.entered;
  fresh = fresh_kept old new now levels keeps s.fresh;
}

-- a place that is open to a level is named by no non-union field that it is past
pub open_is_apart : (set : Schemas) (mark : Spot → ℕ) (now : ℕ) (l : Level) (p : Spot) → LevelStands set mark now l → IsOpen l (mark p) → NonUnionDone set l.brand l.steps p → ⊥
open_is_apart set mark now l p s o d = o (s.started p (among_non_union d)) (s.non_union p d)

-- ---- another top ----

abbrev pub AtTop : Schemas → (Spot → ℕ) → ℕ → List Level → Level → Type 0
AtTop set mark now below x = LevelStands set mark now x × ((k : ℕ) (l : Level) → slice_get below k ≡ Some l → IsAbove set l x)

module _ (set : Schemas) (mark : Spot → ℕ) (now : ℕ) (below : List Level) (top next : Level) where
  pub top_stands : LevelsStand set mark now (below ++ top ∷ []) → AtTop set mark now below top
  top_stands s = (s.each (length below) top (slice_get_last below top), λ k l e. s.pairs k (length below) l top (slice_get_within below k l e) (pushed below top l k e) (slice_get_last below top))

  -- the top goes on at its brand
  pub next_stands : LevelsStand set mark now (below ++ top ∷ []) → next.brand ≡ top.brand → AtTop set mark now below next → LevelsStand set mark now (below ++ next ∷ [])
  next_stands s same t = record {
    each = λ k l e. ⊎_elim
        (λ lt. s.each k l (old k l lt e))
        (λ le. subst (LevelStands set mark now) (slice_get_end below next l k le e).1 t.0)
        (cases_lt k (length below));
    pairs = λ j k l m lt e f. ⊎_elim
        (λ less. s.pairs j k l m lt (old j l (omega arith) e) (old k m less f))
        (λ le. let r = slice_get_end below next m k le f in let jl : j < length below = (let q = r.0 in omega arith) in subst (IsAbove set l) r.1 (t.1 j l (sym (slice_get_push below next j jl) ∙ e)))
        (cases_lt k (length below));
    entered = λ k l m e f. ⊎_elim
        (λ less. s.entered k l m (old k l (omega arith) e) (old (k + 1) m less f))
        (λ le. let r = slice_get_end below next m (k + 1) le f in let kl : k < length below = (let q = r.0 in omega arith) in
        let was : slice_get (below ++ top ∷ []) (k + 1) ≡ Some top = ap (slice_get (below ++ top ∷ [])) r.0 ∙ slice_get_last below top in
        let c : IsCurrentGroup set l top.brand = s.entered k l top (old k l kl e) was in
        subst (IsCurrentGroup set l) (sym same ∙ ap (λ (x : Level). x.brand) r.1) c)
        (cases_lt (k + 1) (length below));
    fresh = s.fresh;
  }
    where
      old : (k : ℕ) (l : Level) → k < length below → slice_get (below ++ next ∷ []) k ≡ Some l → slice_get (below ++ top ∷ []) k ≡ Some l
      old k l lt e = slice_get_push below top k lt ∙ sym (slice_get_push below next k lt) ∙ e

-- a level on top of the others
pub push_stands : (set : Schemas) (mark : Spot → ℕ) (now : ℕ) (levels : List Level) (last top : Level) (below : List Level) → levels ≡ below ++ last ∷ [] → LevelsStand set mark now levels → AtTop set mark now levels top → IsCurrentGroup set last top.brand → LevelsStand set mark now (levels ++ top ∷ [])
push_stands set mark now levels last top below is s t c = record {
  each = λ k l e. ⊎_elim
      (λ lt. s.each k l (old k l lt e))
      (λ le. subst (LevelStands set mark now) (slice_get_end levels top l k le e).1 t.0)
      (cases_lt k (length levels));
  pairs = λ j k l m lt e f. ⊎_elim
      (λ less. s.pairs j k l m lt (old j l (omega arith) e) (old k m less f))
      (λ le. let r = slice_get_end levels top m k le f in let jl : j < length levels = (let q = r.0 in omega arith) in subst (IsAbove set l) r.1 (t.1 j l (old j l jl e)))
      (cases_lt k (length levels));
  entered = λ k l m e f. ⊎_elim
      (λ less. s.entered k l m (old k l (omega arith) e) (old (k + 1) m less f))
      (λ le. let r = slice_get_end levels top m (k + 1) le f in let kl : k < length levels = (let q = r.0 in omega arith) in
      let long : length levels ≡ length below + 1 = ap (λ (x : List Level). length x) is ∙ length_push below last in
      let at_last : k ≡ length below = (let q = r.0 in omega arith) in
      let there : slice_get levels k ≡ Some last = ap (slice_get levels) at_last ∙ ap (λ (x : List Level). slice_get x (length below)) is ∙ slice_get_last below last in
      let l_is : last ≡ l = same_Some last l (sym there ∙ old k l kl e) in
      subst (λ (x : Level). IsCurrentGroup set x m.brand) l_is (subst (λ (x : Level). IsCurrentGroup set last x.brand) r.1 c))
      (cases_lt (k + 1) (length levels));
  fresh = s.fresh;
}
  where
    old : (k : ℕ) (l : Level) → k < length levels → slice_get (levels ++ top ∷ []) k ≡ Some l → slice_get levels k ≡ Some l
    old k l lt e = sym (slice_get_push levels top k lt) ∙ e

-- without the top
pub pop_stands : (set : Schemas) (mark : Spot → ℕ) (now : ℕ) (levels : List Level) (top : Level) → LevelsStand set mark now (levels ++ top ∷ []) → LevelsStand set mark now levels
pop_stands set mark now levels top s = record {
  each = λ k l e. s.each k l (pushed levels top l k e);
  pairs = λ j k l m lt e f. s.pairs j k l m lt (pushed levels top l j e) (pushed levels top m k f);
  entered = λ k l m e f. s.entered k l m (pushed levels top l k e) (pushed levels top m (k + 1) f);
  fresh = s.fresh;
}

-- ---- one more step ----

no_names : (set : Schemas) (b i : ℕ) (p : Spot) → length (fields_of set b) ≤ i → Names set b i p → ⊥
no_names set b i p past n = let e : slice_get (fields_of set b) i ≡ None = slice_get_past (fields_of set b) i past in
    let f : entry_names n.groups set None p ≡ true = ap (λ o. entry_names n.groups set o p) (sym e) ∙ n.names in (cc)

clear_past : (set : Schemas) (b i : ℕ) → length (fields_of set b) ≤ i → IsClear set b i
clear_past set b i past = record { non_union = λ e p n d. no_names set b i p past n; member = λ e p n d. no_names set b i p past n }

-- the fields that one more step is past
pub data IsNew (set : Schemas) (b s i : ℕ) : Type 0 where
  new_non_union : member_at set b i ≡ false → i ≡ s → IsNew set b s i
  new_member : member_at set b i ≡ true → length (fields_of set b) + i ≡ s → IsNew set b s i

-- what has to be known of them
pub record NewStands (set : Schemas) (mark : Spot → ℕ) (below : List Level) (b start non_union_end i : ℕ) : Type 0 where
  pub clear : IsClear set b i
  pub started : (p : Spot) → Names set b i p → start ≤ mark p
  pub non_union : (p : Spot) → Names set b i p → member_at set b i ≡ false → mark p < non_union_end
  pub apart : (p : Spot) → Names set b i p → (k : ℕ) (l : Level) → slice_get below k ≡ Some l → NonUnionDone set l.brand l.steps p → ⊥

nothing_new : (set : Schemas) (mark : Spot → ℕ) (below : List Level) (b start non_union_end i : ℕ) → length (fields_of set b) ≤ i → NewStands set mark below b start non_union_end i
nothing_new set mark below b start non_union_end i past = record {
  clear = clear_past set b i past;
  started = λ p n. absurd (no_names set b i p past n);
  non_union = λ p n m. absurd (no_names set b i p past n);
  apart = λ p n k l e d. no_names set b i p past n;
}

module _ (set : Schemas) (mark : Spot → ℕ) (now : ℕ) (below : List Level) (top : Level) (end : ℕ) (stands : AtTop set mark now below top)
    (new : (i : ℕ) → IsNew set top.brand top.steps i → NewStands set mark below top.brand top.start end i) (later : top.non_union_end ≤ end) (ended : end ≤ now) where
  abbrev more : Level
  more = record { brand = top.brand; steps = top.steps + 1; start = top.start; non_union_end = end }

  non_union_split : (p : Spot) → NonUnionDone set top.brand (top.steps + 1) p → NonUnionDone set top.brand top.steps p ⊎ ((i : ℕ) × IsNew set top.brand top.steps i × (member_at set top.brand i ≡ false) × Names set top.brand i p)
  non_union_split p (by_discriminant e) = inl (by_discriminant e)
  non_union_split p (by_non_union i m lt n) = ⊎_elim (λ less. inl (by_non_union i m less n)) (λ le. inr (i, new_non_union m (omega arith), m, n)) (cases_lt i top.steps)

  split : (p : Spot) → Done set top.brand (top.steps + 1) p → Done set top.brand top.steps p ⊎ ((i : ℕ) × IsNew set top.brand top.steps i × Names set top.brand i p)
  split p (among_non_union d) = ⊎_elim (λ old. inl (among_non_union old)) (λ r. inr (r.0, r.1, r.3)) (non_union_split p d)
  split p (by_member i m lt n) = ⊎_elim (λ less. inl (by_member i m less n)) (λ le. inr (i, new_member m (omega arith), n)) (cases_lt (length (fields_of set top.brand) + i) top.steps)

  pub more_stands : AtTop set mark now below more
  more_stands = (
    record {
      started = λ p d. ⊎_elim (λ old. stands.0.started p old) (λ r. (new r.0 r.1).started p r.2) (split p d);
      non_union = λ p d. ⊎_elim (λ old. let h = stands.0.non_union p old in omega arith) (λ r. (new r.0 r.1).non_union p r.3 r.2) (non_union_split p d);
      clear_non_union = λ i m lt. ⊎_elim (λ less. stands.0.clear_non_union i m less) (λ le. (new i (new_non_union m (omega arith))).clear) (cases_lt i top.steps);
      clear_members = λ i m lt. ⊎_elim (λ less. stands.0.clear_members i m less) (λ le. (new i (new_member m (omega arith))).clear) (cases_lt (length (fields_of set top.brand) + i) top.steps);
      ordered = (let o = stands.0.ordered in omega arith);
      ended = ended;
    },
    λ k l e. record {
      later = (stands.1 k l e).later;
      apart = λ p d past. ⊎_elim (λ old. (stands.1 k l e).apart p old past) (λ r. (new r.0 r.1).apart p r.2 k l e past) (split p d);
    },
  )

-- ---- steps past a field ----

module _ (set : Schemas) (mark : Spot → ℕ) (below : List Level) (b s start end : ℕ) where
  -- the field that the step is about is the only one
  pub new_current : (field : ℕ) → IsCurrent set b s field → NewStands set mark below b start end field → (i : ℕ) → IsNew set b s i → NewStands set mark below b start end i
  new_current field (non_union m lt e) h i (new_non_union n f) = subst (NewStands set mark below b start end) (e ∙ sym f) h
  new_current field (non_union m lt e) h i (new_member n f) = absurd (omega arith)
  new_current field (member m e) h i (new_non_union n f) = nothing_new set mark below b start end i (omega arith)
  new_current field (member m e) h i (new_member n f) = let same : field ≡ i = omega arith in subst (NewStands set mark below b start end) same h

  -- a member is left for later
  pub new_none_early : s < length (fields_of set b) → member_at set b s ≡ true → (i : ℕ) → IsNew set b s i → NewStands set mark below b start end i
  new_none_early lt m i (new_non_union n f) = absurd (let e : member_at set b s ≡ false = ap (member_at set b) (sym f) ∙ n in cc)
  new_none_early lt m i (new_member n f) = absurd (omega arith)

  -- a non-union field was taken before
  pub new_none_late : (field : ℕ) → length (fields_of set b) ≤ s → field ≡ s - length (fields_of set b) → member_at set b field ≡ false → (i : ℕ) → IsNew set b s i → NewStands set mark below b start end i
  new_none_late field le is m i (new_non_union n f) = nothing_new set mark below b start end i (omega arith)
  new_none_late field le is m i (new_member n f) = absurd (let same : i ≡ field = omega arith in let e : member_at set b i ≡ false = ap (member_at set b) same ∙ m in cc)

-- the field is clear, where it names nothing that the non-union part of its level does
pub clear_current : (set : Schemas) (b s field : ℕ) → IsCurrent set b s field → ((p : Spot) → Names set b field p → NonUnionDone set b s p → ⊥) → IsClear set b field
clear_current set b s field (non_union m lt e) h = record {
  non_union = λ n p names d. h p names (non_union_more set b field s p (omega arith) d);
  member = λ n. absurd (cc);
}
clear_current set b s field (member m e) h = record {
  non_union = λ n. absurd (cc);
  member = λ n p names d. h p names (non_union_more set b (length (fields_of set b)) s p (omega arith) d);
}

module _ (set : Schemas) (tour : Tour) (top : Level) where
  abbrev pub mark : Spot → ℕ
  mark = mark_at tour.claims

  abbrev pub levels : List Level
  levels = tour.below.items ++ top ∷ []

  -- the marks of one more claim
  abbrev pub after : Claims → Tour
  after claims = record { claims = claims; below = tour.below; done = tour.done; now = tour.now + 1 }

  pub slot_taken : (field : ℕ) (span : Span) (claims : Claims) (next : Level) → TourStands set tour top → IsCurrent set top.brand top.steps field → ((p : Spot) → Names set top.brand field p → span_names span p ≡ true) → IsClaimed levels tour.now span tour.claims claims
      → next ≡ record { brand = top.brand; steps = top.steps + 1; start = top.start; non_union_end = cond (member_at set top.brand field) top.non_union_end (tour.now + 1) } → TourStands set (after claims) next
  slot_taken field span claims next t current names c is = record {
    levels = next_stands set (mark_at claims) (tour.now + 1) tour.below.items top next kept (ap (λ (x : Level). x.brand) is)
        (subst (AtTop set (mark_at claims) (tour.now + 1) tour.below.items) (sym is) (more_stands set (mark_at claims) (tour.now + 1) tour.below.items top end here
        (new_current set (mark_at claims) tour.below.items top.brand top.steps top.start end field current new) ends.0 ends.1));
    done = t.done;
  }
    where
      end : ℕ
      end = cond (member_at set top.brand field) top.non_union_end (tour.now + 1)

      kept : LevelsStand set (mark_at claims) (tour.now + 1) levels
      kept = levels_kept set mark (mark_at claims) tour.now levels (keeps_from_claim levels tour.now span tour.claims claims c) t.levels

      here : AtTop set (mark_at claims) (tour.now + 1) tour.below.items top
      here = top_stands set (mark_at claims) (tour.now + 1) tour.below.items top top kept

      was : LevelStands set mark tour.now top
      was = (top_stands set mark tour.now tour.below.items top top t.levels).0

      end_of : (b : Bool) → (top.non_union_end ≤ cond b top.non_union_end (tour.now + 1)) × (cond b top.non_union_end (tour.now + 1) ≤ tour.now + 1)
      end_of true = let e = was.ended in (omega arith, omega arith)
      end_of false = let e = was.ended in (omega arith, omega arith)

      ends : (top.non_union_end ≤ end) × (end ≤ tour.now + 1)
      ends = end_of (member_at set top.brand field)

      all_apart : (p : Spot) → Names set top.brand field p → (k : ℕ) (l : Level) → slice_get levels k ≡ Some l → NonUnionDone set l.brand l.steps p → ⊥
      all_apart p n k l e d = open_is_apart set mark tour.now l p (t.levels.each k l e) ((c.inside p (names p n)).0 k l e) d

      new : NewStands set (mark_at claims) tour.below.items top.brand top.start end field
      new = record {
        clear = clear_current set top.brand top.steps field current (λ p n d. all_apart p n (length tour.below.items) top (slice_get_last tour.below.items top) d);
        started = λ p n. let e = (c.inside p (names p n)).1 in let o = was.ordered in let f = was.ended in subst (λ x. top.start ≤ x) (sym e) (omega arith);
        non_union = λ p n m. let e = (c.inside p (names p n)).1 in
            let h : tour.now < cond (member_at set top.brand field) top.non_union_end (tour.now + 1) = subst (λ b. tour.now < cond b top.non_union_end (tour.now + 1)) (sym m) (omega arith) in subst (λ x. x < end) (sym e) h;
        apart = λ p n k l e d. all_apart p n k l (pushed tour.below.items top l k e) d;
      }

  -- a field that is not taken now
  pub skipped : (next : Level) → TourStands set tour top → ((end i : ℕ) → IsNew set top.brand top.steps i → NewStands set mark tour.below.items top.brand top.start end i)
      → next ≡ record { brand = top.brand; steps = top.steps + 1; start = top.start; non_union_end = top.non_union_end } → TourStands set tour next
  skipped next t new is = record {
    levels = next_stands set mark tour.now tour.below.items top next t.levels (ap (λ (x : Level). x.brand) is)
        (subst (AtTop set mark tour.now tour.below.items) (sym is) (more_stands set mark tour.now tour.below.items top top.non_union_end here (new top.non_union_end) (omega arith) here.0.ended));
    done = t.done;
  }
    where
      here : AtTop set mark tour.now tour.below.items top
      here = top_stands set mark tour.now tour.below.items top top t.levels
