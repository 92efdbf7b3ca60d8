-- A tour into a group and out of it, and the rules at its end.
use Rattle.std.proofs.Common.{ℕ, zero, suc, ◌≡◌, ◌≢◌, ◌+◌, ◌<◌, ◌≤◌, ⊎_elim, Bool, true, false, ◌||◌, List, [], ◌∷◌, ◌++◌, length, arith, refl, sym, ap, ◌∙◌, subst, Option, Some, None, slice_get, cond, Vec}
use Rattle.std.specs.declared.alloc.Global.{Global}
use Rattle.std.proofs.Math.ListN.{set as set_at, length-set}
use Rattle.std.proofs.lemmas.Bool.{cases_lt}
use Rattle.std.proofs.lemmas.List.{get_or-set_other, length_push}
use Rattle.capnp_schema.specs.Types.{SchemaType}
use Rattle.capnp_schema.specs.Schema.{Schemas, Node, FieldKind, Slot, Group, TypedField, node_of, fields_of, field_at, kind_target}
use Rattle.capnp_schema.specs.Footprint.{Spot, kind_names, group_names, brand_names, some_field, discriminant_names, footprint}
use Rattle.capnp_schema.specs.Accepted.{Rule11, Rule12}
use Rattle.capnp_schema.specs.Steps.Checking.Parents.{group_target, entry_target}
use Rattle.capnp_schema.specs.Steps.Checking.Spans.{span_names, entry_names, field_names}
use Rattle.capnp_schema.specs.Steps.Checking.Levels.{mark_at, IsClaimed, member_at, Names, by_discriminant, by_non_union, Done, among_non_union, by_member, IsCurrent, non_union, member, IsClear, LevelStands, IsAbove, IsCurrentGroup, LevelsStand, AreClear, DoneStand, TourStands, TourRests}
use Rattle.capnp_schema.specs.declared.check.claims.Claims.{Claims}
use Rattle.capnp_schema.specs.declared.check.claims.Level.{Level}
use Rattle.capnp_schema.specs.declared.check.spans.Span.{Span}
use Rattle.capnp_schema.specs.declared.check.tour.Tour.{Tour}
use Rattle.capnp_schema.proofs.GroupTargets.{field_is}
use Rattle.capnp_schema.proofs.Checking.LevelTimes.{slice_get_last, pushed}
use Rattle.capnp_schema.proofs.Checking.Tours.{keeps_from_claim, levels_kept, open_is_apart, AtTop, top_stands, next_stands, push_stands, pop_stands, more_stands, NewStands, new_current, clear_current}

-- ---- into a group ----

pub group_entered : (set : Schemas) (tour : Tour) (top next : Level) (group : ℕ) (n : Node) (span : Span) (claims : Claims) (below : Vec Level Global) → TourStands set tour top → IsCurrentGroup set top group
    → IsClaimed (tour.below.items ++ top ∷ []) tour.now span tour.claims claims → ((p : Spot) → span_names span p ≡ discriminant_names n p) → node_of set group ≡ n
    → next ≡ record { brand = group; steps = 0; start = tour.now; non_union_end = tour.now + 1 } → below.items ≡ tour.below.items ++ top ∷ []
    → TourStands set (record { claims = claims; below = below; done = tour.done; now = tour.now + 1 }) next
group_entered set tour top next group n span claims below t at c names node is pushed_is = record {
  levels = subst (λ (xs : List Level). LevelsStand set (mark_at claims) (tour.now + 1) (xs ++ next ∷ [])) (sym pushed_is)
      (subst (λ (x : Level). LevelsStand set (mark_at claims) (tour.now + 1) (levels ++ x ∷ [])) (sym is) (push_stands set (mark_at claims) (tour.now + 1) levels top new tour.below.items refl kept on_top at));
  done = t.done;
}
  where
    levels : List Level
    levels = tour.below.items ++ top ∷ []

    new : Level
    new = record { brand = group; steps = 0; start = tour.now; non_union_end = tour.now + 1 }

    kept : LevelsStand set (mark_at claims) (tour.now + 1) levels
    kept = levels_kept set (mark_at tour.claims) (mark_at claims) tour.now levels (keeps_from_claim levels tour.now span tour.claims claims c) t.levels

    named : (p : Spot) → Done set group 0 p → span_names span p ≡ true
    named p (among_non_union (by_discriminant e)) = names p ∙ ap (λ (m : Node). discriminant_names m p) (sym node) ∙ e
    named p (among_non_union (by_non_union i m lt k)) = absurd (omega arith)
    named p (by_member i m lt k) = absurd (omega arith)

    on_top : AtTop set (mark_at claims) (tour.now + 1) levels new
    on_top = (
      record {
        started = λ p d. let e = (c.inside p (named p d)).1 in omega arith;
        non_union = λ p d. let e = (c.inside p (named p (among_non_union d))).1 in omega arith;
        clear_non_union = λ i m lt. absurd (omega arith);
        clear_members = λ i m lt. absurd (omega arith);
        ordered = omega arith;
        ended = omega arith;
      },
      λ k l e. record {
        later = (t.levels.each k l e).ended;
        apart = λ p d past. open_is_apart set (mark_at tour.claims) tour.now l p (t.levels.each k l e) ((c.inside p (named p d)).0 k l e) past;
      },
    )

-- ---- out of a group ----

some_field_at : (names : TypedField → Spot → Bool) (fs : List TypedField) (p : Spot) → some_field names fs p ≡ true → (k : ℕ) × (k < length fs) × ((f : TypedField) × (slice_get fs k ≡ Some f) × (names f p ≡ true))
some_field_at names [] p e = cc
some_field_at names (f ∷ fs) p e = at (names f p) refl (some_field names fs p) (some_field_at names fs p) e
  where
    at : (b : Bool) → names f p ≡ b → (c : Bool) → (c ≡ true → (k : ℕ) × (k < length fs) × ((g : TypedField) × (slice_get fs k ≡ Some g) × (names g p ≡ true))) → (b || c) ≡ true → (k : ℕ) × (k < suc (length fs)) × ((g : TypedField) × (slice_get (f ∷ fs) k ≡ Some g) × (names g p ≡ true))
    at true is c rest h = (0, omega arith, (f, refl, is))
    at false is c rest h = let r = rest h in (suc r.0, omega arith, r.2)

-- what a brand names is done where all of it is past
names_done : (groups : ℕ) (set : Schemas) (b steps : ℕ) (p : Spot) → length (fields_of set b) + length (fields_of set b) ≤ steps → brand_names groups set b p ≡ true → Done set b steps p
names_done zero set b steps p past e = cc
names_done (suc groups) set b steps p past e = at (some_field (λ f. kind_names (brand_names groups set) f.field.kind f.type) (fields_of set b) p) refl e
  where
    by_field : (k : ℕ) (f : TypedField) → k < length (fields_of set b) → slice_get (fields_of set b) k ≡ Some f → field_names groups set f p ≡ true → Done set b steps p
    by_field k f lt is named = of_kind (member_at set b k) refl
      where
        names : Names set b k p
        names = record { groups = groups; names = ap (λ o. entry_names groups set o p) is ∙ named }

        of_kind : (m : Bool) → member_at set b k ≡ m → Done set b steps p
        of_kind false m = among_non_union (by_non_union k m (omega arith) names)
        of_kind true m = by_member k m (omega arith) names

    at : (c : Bool) → some_field (λ f. kind_names (brand_names groups set) f.field.kind f.type) (fields_of set b) p ≡ c → (c || discriminant_names (node_of set b) p) ≡ true → Done set b steps p
    at true is h = let r = some_field_at (λ f. kind_names (brand_names groups set) f.field.kind f.type) (fields_of set b) p is in by_field r.0 r.2.0 r.1 r.2.1 r.2.2
    at false is h = among_non_union (by_discriminant h)

-- what a group field names
group_done : (set : Schemas) (b i g steps : ℕ) (p : Spot) → group_target set b i ≡ Some g → length (fields_of set g) + length (fields_of set g) ≤ steps → Names set b i p → Done set g steps p
group_done set b i g steps p target past n = at (slice_get (fields_of set b) i) target n.names
  where
    of_kind : (k : FieldKind) (t : SchemaType) → kind_target k t ≡ Some g → kind_names (brand_names n.groups set) k t p ≡ true → Done set g steps p
    of_kind (Slot offset default) t e h = cc
    of_kind (Group node) t e h = names_done n.groups set g steps p past (ap (λ o. group_names (brand_names n.groups set) o p) (sym e) ∙ h)

    at : (o : Option TypedField) → entry_target o ≡ Some g → entry_names n.groups set o p ≡ true → Done set g steps p
    at None e h = cc
    at (Some f) e h = of_kind f.field.kind f.type e h

-- the tour of which all of a level is past
pub record IsLeft (set : Schemas) (old new : Tour) : Type 0 where
  pub claims : new.claims ≡ old.claims
  pub below : new.below ≡ old.below
  pub now : new.now ≡ old.now
  pub done : DoneStand set new.done.items

pub all_clear : (set : Schemas) (mark : Spot → ℕ) (now : ℕ) (l : Level) → length (fields_of set l.brand) + length (fields_of set l.brand) ≤ l.steps → LevelStands set mark now l → AreClear set l.brand
all_clear set mark now l past s i lt = at (member_at set l.brand i) refl
  where
    at : (m : Bool) → member_at set l.brand i ≡ m → IsClear set l.brand i
    at false m = s.clear_non_union i m (omega arith)
    at true m = s.clear_members i m (omega arith)

pub done_more : (set : Schemas) (done : List Bool) (b : ℕ) → DoneStand set done → AreClear set b → DoneStand set (set_at done b true)
done_more set done b d clear = record {
  counted = length-set done b true ∙ d.counted;
  clear = λ k e. ⊎_elim
      (λ lt. d.clear k (sym (get_or-set_other done b k true false (λ q. absurd (omega arith))) ∙ e))
      (λ le. ⊎_elim
      (λ lt. d.clear k (sym (get_or-set_other done b k true false (λ q. absurd (omega arith))) ∙ e))
      (λ ge. let same : b ≡ k = omega arith in subst (AreClear set) same clear)
      (cases_lt b k))
      (cases_lt k b);
}

module _ (set : Schemas) (old : Tour) (top : Level) (t : TourStands set old top) (past : length (fields_of set top.brand) + length (fields_of set top.brand) ≤ top.steps) where
  pub left_done : DoneStand set (set_at old.done.items top.brand true)
  left_done = done_more set old.done.items top.brand t.done (all_clear set (mark_at old.claims) old.now top past (t.levels.each (length old.below.items) top (slice_get_last old.below.items top)))

  pub is_left : (new : Tour) (done : Vec Bool Global) → new ≡ record { claims = old.claims; below = old.below; done = done; now = old.now } → DoneStand set done.items → IsLeft set old new
  is_left new done is d = record {
    claims = ap (λ (x : Tour). x.claims) is;
    below = ap (λ (x : Tour). x.below) is;
    now = ap (λ (x : Tour). x.now) is;
    done = subst (DoneStand set) (ap (λ (x : Tour). x.done.items) (sym is)) d;
  }

  pub left_to_rest : (new : Tour) (below : Vec Level Global) → IsLeft set old new → new.below.items ≡ below.items ++ [] → 0 ≡ length below.items → TourRests set (record { claims = new.claims; below = below; done = new.done; now = new.now })
  left_to_rest new below left is none = record {
    below = empty below.items none;
    fresh = λ p. subst (λ x. mark_at new.claims p < x) (sym left.now) (subst (λ (c : Claims). mark_at c p < old.now) (sym left.claims) (t.levels.fresh p));
    done = left.done;
  }
    where
      empty : (xs : List Level) → 0 ≡ length xs → xs ≡ []
      empty [] e = refl
      empty (x ∷ xs) e = absurd (omega arith)

  pub left_to_level : (new : Tour) (below : Vec Level Global) (level next : Level) (late : Bool) → IsLeft set old new → new.below.items ≡ below.items ++ level ∷ []
      → (late ≡ true → length (fields_of set level.brand) ≤ level.steps) → (late ≡ false → level.steps < length (fields_of set level.brand))
      → next ≡ record { brand = level.brand; steps = level.steps + 1; start = level.start; non_union_end = cond late level.non_union_end new.now }
      → TourStands set (record { claims = new.claims; below = below; done = new.done; now = new.now }) next
  left_to_level new below level next late left is is_late is_early next_is = record { levels = stands; done = left.done }
    where
      mark : Spot → ℕ
      mark = mark_at old.claims

      under : List Level
      under = below.items ++ level ∷ []

      same : old.below.items ≡ under
      same = ap (λ (v : Vec Level Global). v.items) (sym left.below) ∙ is

      all : LevelsStand set mark old.now (under ++ top ∷ [])
      all = subst (λ (xs : List Level). LevelsStand set mark old.now (xs ++ top ∷ [])) same t.levels

      at_top : AtTop set mark old.now under top
      at_top = top_stands set mark old.now under top top all

      rest : LevelsStand set mark old.now under
      rest = pop_stands set mark old.now under top all

      here : AtTop set mark old.now below.items level
      here = top_stands set mark old.now below.items level level rest

      there : slice_get under (length below.items) ≡ Some level
      there = slice_get_last below.items level

      above : IsAbove set level top
      above = at_top.1 (length below.items) level there

      long : length under ≡ length below.items + 1
      long = length_push below.items level

      at : IsCurrentGroup set level top.brand
      at = all.entered (length below.items) level top (pushed under top level (length below.items) there) (ap (slice_get (under ++ top ∷ [])) (sym long) ∙ slice_get_last under top)

      down : (p : Spot) → Names set level.brand at.index p → Done set top.brand top.steps p
      down p n = group_done set level.brand at.index top.brand top.steps p at.target past n

      end : ℕ
      end = cond late level.non_union_end old.now

      ends : (level.non_union_end ≤ end) × (end ≤ old.now)
      ends = of late
        where
          of : (b : Bool) → (level.non_union_end ≤ cond b level.non_union_end old.now) × (cond b level.non_union_end old.now ≤ old.now)
          of true = let e = here.0.ended in (omega arith, omega arith)
          of false = let e = here.0.ended in (omega arith, omega arith)

      early : IsCurrent set level.brand level.steps at.index → member_at set level.brand at.index ≡ false → late ≡ false
      early (non_union m lt e) n = of late refl
        where
          of : (b : Bool) → late ≡ b → late ≡ false
          of true q = absurd (let h = is_late q in omega arith)
          of false q = q
      early (member m e) n = absurd (cc)

      taken : NewStands set mark below.items level.brand level.start end at.index
      taken = record {
        clear = clear_current set level.brand level.steps at.index at.current (λ p n d. above.apart p (down p n) d);
        started = λ p n. let a = here.0.ordered in let b = above.later in let c = at_top.0.started p (down p n) in omega arith;
        non_union = λ p n m. let f = t.levels.fresh p in subst (λ b. mark p < cond b level.non_union_end old.now) (sym (early at.current m)) f;
        apart = λ p n k l e d. (at_top.1 k l (pushed below.items level l k e)).apart p (down p n) d;
      }

      on_top : AtTop set mark old.now below.items next
      on_top = subst (AtTop set mark old.now below.items) (sym (next_is ∙ ap (λ x. record { brand = level.brand; steps = level.steps + 1; start = level.start; non_union_end = cond late level.non_union_end x }) left.now))
          (more_stands set mark old.now below.items level end here (new_current set mark below.items level.brand level.steps level.start end at.index at.current taken) ends.0 ends.1)

      stands : LevelsStand set (mark_at new.claims) new.now (below.items ++ next ∷ [])
      stands = subst (λ x. LevelsStand set (mark_at new.claims) x (below.items ++ next ∷ [])) (sym left.now)
          (subst (λ (c : Claims). LevelsStand set (mark_at c) old.now (below.items ++ next ∷ [])) (sym left.claims)
          (next_stands set mark old.now below.items level next rest (ap (λ (x : Level). x.brand) next_is) on_top))

-- ---- the rules ----

module _ (set : Schemas) (b : ℕ) (clear : AreClear set b) where
  names_of : (i : ℕ) (p : Spot) → i < length (fields_of set b) → footprint set (field_at set b i) p ≡ true → Names set b i p
  names_of i p lt e = record { groups = length set.brands; names = ap (λ o. entry_names (length set.brands) set o p) (field_is set b i lt) ∙ e }

  pub fields_apart : (i j : ℕ) (p : Spot) → i < length (fields_of set b) → j < length (fields_of set b) → i ≢ j → member_at set b i ≡ false → footprint set (field_at set b i) p ≡ true → footprint set (field_at set b j) p ≡ true → ⊥
  fields_apart i j p hi hj ne m ei ej = at (member_at set b j) refl
    where
      at : (c : Bool) → member_at set b j ≡ c → ⊥
      at true n = (clear j hj).member n p (names_of j p hj ej) (by_non_union i m hi (names_of i p hi ei))
      at false n = ⊎_elim
          (λ lt. (clear j hj).non_union n p (names_of j p hj ej) (by_non_union i m lt (names_of i p hi ei)))
          (λ le. (clear i hi).non_union m p (names_of i p hi ei) (by_non_union j n (⊎_elim (λ lt. lt) (λ ge. absurd (ne (omega arith))) (cases_lt j i)) (names_of j p hj ej)))
          (cases_lt i j)

  pub discriminant_apart : (i : ℕ) (p : Spot) → i < length (fields_of set b) → discriminant_names (node_of set b) p ≡ true → footprint set (field_at set b i) p ≡ true → ⊥
  discriminant_apart i p hi d e = at (member_at set b i) refl
    where
      at : (c : Bool) → member_at set b i ≡ c → ⊥
      at true m = (clear i hi).member m p (names_of i p hi e) (by_discriminant d)
      at false m = (clear i hi).non_union m p (names_of i p hi e) (by_discriminant d)

not_true : (b : Bool) → (b ≡ true → ⊥) → b ≡ false
not_true true h = absurd (h refl)
not_true false h = refl

pub rules_of_clear : (set : Schemas) → ((b : ℕ) → b < length set.brands → AreClear set b) → Rule11 set × Rule12 set
rules_of_clear set clear = (
  (λ b i hb hi j p hj ne m e. not_true (footprint set (field_at set b j) p) (fields_apart set b (clear b hb) i j p hi hj ne m e)),
  (λ b i hb hi p d. not_true (footprint set (field_at set b i) p) (discriminant_apart set b (clear b hb) i p hi d)),
)
