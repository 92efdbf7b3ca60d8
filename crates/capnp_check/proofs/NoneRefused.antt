-- Where a text is there, none of the parts that it shows is refused.
use Rattle.std.proofs.Common.{ℕ, zero, suc, ◌+◌, ◌<◌, ◌≡◌, ◌==◌, refl, List, [], ◌∷◌, ◌++◌, length, map, codes, Bool, true, false, not, ◌&&◌, ◌||◌, nat_lt, cond, slice_get, Option, Some, None, ap, ap₂, sym, subst, arith, ◌∙◌}
use Rattle.std.proofs.lemmas.Bool.Decides.{nat_tests}
use Rattle.std.specs.Option.{unwrap_or}
use Rattle.capnp_device.specs.declared.error.ErrorKind.{ErrorKind}
use Rattle.capnp_schema.specs.Schema.{Schemas, TypedField, VoidValue, default_of, field_at, fields_of, is_member, no_field}
use Rattle.capnp_schema.specs.Types.{SchemaType}
use Rattle.capnp_records.specs.Default.{read_of}
use Rattle.capnp_records.specs.Part.{active_value, is_active, nth_value, part_at, value_count}
use Rattle.capnp_records.specs.Record as value
use Rattle.capnp_records.specs.Record.{Active, MoreValues, NoUnion, NoValues, Parts, Record, Union, Unknown, Value, Values, is_there}
use Rattle.capnp_records.specs.Text.{Inner, Member, Out, before, element_texts, item, item_if, later, member, part_text, record_text, shown, struct_text, text_within}
use Rattle.capnp_check.specs.Faults.{ShownPart, behind_step, if_shown, is_step_shown, parts_behind, parts_from, parts_within, refused_parts, step_at, with_refused}
use Rattle.capnp_check.specs.Places.{ElementParts, NoParts, RecordParts, RefusedAs, TextParts, element_parts, field_parts, part_word, parts_after}
use Rattle.capnp_check.specs.Refusals.{text_refusal}
use Rattle.capnp_check.specs.ShownFields.{is_shown}
use Rattle.capnp_check.specs.Steps.PlaceSteps.{parts_refusal}
use Rattle.capnp_check.specs.Steps.Walks.{first_refusal, or_later}
use Rattle.capnp_check.specs.declared.place.PlaceStep.{PlaceStep}
use Rattle.capnp_check.proofs.OpenValues.{part_refusal, value_refusal}
use Rattle.capnp_check.proofs.Refused.{bracketed_refusal, first_append, item_refusal, list_refusal}

some_none : {kind : ErrorKind} → Some kind ≡ None → ⊥
some_none e = cc

false_true : false ≡ true → ⊥
false_true e = cc

-- ---- none of two ----

both_none : (a b : Option ErrorKind) → or_later a b ≡ None → (a ≡ None) × (b ≡ None)
both_none None b e = (refl, e)
both_none (Some kind) b e = absurd (some_none e)

parts_none : (xs ys : List Out) → first_refusal (xs ++ ys) ≡ None → (first_refusal xs ≡ None) × (first_refusal ys ≡ None)
parts_none xs ys e = both_none (first_refusal xs) (first_refusal ys) (sym (first_append xs ys) ∙ e)

item_none : (q : Bool) (f : TypedField) (text : Out) → q ≡ true → first_refusal (item_if q (item f text)) ≡ None → text_refusal text ≡ None
item_none true f text is e = sym (item_refusal true f text) ∙ e
item_none false f text is e = absurd (false_true is)

-- ---- the items of a struct ----

-- what stands elsewhere has a text
within_elsewhere : (set : Schemas) (left : ℕ) (t : SchemaType) → text_refusal (text_within set left None t value.Elsewhere) ≡ None
within_elsewhere set zero t = refl
within_elsewhere set (suc left) t = refl

module _ (set : Schemas) (inner : Inner) (elsewhere : (t : SchemaType) → text_refusal (inner None t value.Elsewhere) ≡ None) where
  -- the active member is among them
  member_none : (fs : List TypedField) (i j : ℕ) (vs : Values) (xs : List Out) → first_refusal (shown set inner None fs i vs (Some (j, xs))) ≡ None → first_refusal xs ≡ None
  member_none fs i j NoValues xs e = e
  member_none [] i j (MoreValues v vs) xs e = e
  member_none (f ∷ fs) i j (MoreValues v vs) xs e = go (is_member f.field) (nat_lt j i) (member_none fs (suc i) j vs xs) e
    where
      own : List Out
      own = item_if (is_there v) (item f (part_text set inner None (default_of f.field) f.type v))

      go : (q p : Bool) → (first_refusal (shown set inner None fs (suc i) vs (Some (j, xs))) ≡ None → first_refusal xs ≡ None) →
          first_refusal (elim q as (λ _. List Out) [
            | true ↦ shown set inner None fs (suc i) vs (Some (j, xs))
            | false ↦ cond p xs [] ++ item_if (is_there v) (item f (part_text set inner None (default_of f.field) f.type v)) ++ shown set inner None fs (suc i) vs (cond p None (Some (j, xs)))
          ]) ≡ None → first_refusal xs ≡ None
      go true p ih e = ih e
      go false true ih e = (parts_none xs own (parts_none (xs ++ own) (shown set inner None fs (suc i) vs None) e).0).0
      go false false ih e = ih (parts_none own (shown set inner None fs (suc i) vs (Some (j, xs))) e).1

  -- and each non-union field that is there
  plain_none : (fs : List TypedField) (k : ℕ) (vs : Values) (m : Member) (i : ℕ) → first_refusal (shown set inner None fs k vs m) ≡ None → i < length fs →
      is_member (unwrap_or (slice_get fs i) no_field).field ≡ false → is_there (nth_value vs i) ≡ true →
      text_refusal (part_text set inner None (default_of (unwrap_or (slice_get fs i) no_field).field) (unwrap_or (slice_get fs i) no_field).type (nth_value vs i)) ≡ None
  plain_none fs k NoValues m i e lt is there = elsewhere (unwrap_or (slice_get fs i) no_field).type
  plain_none [] k (MoreValues v vs) m i e lt is there = absurd (omega (arith, lt))
  plain_none (f ∷ fs) k (MoreValues v vs) m zero e lt is there = go (is_member f.field) is e
    where
      own : List Out
      own = item_if (is_there v) (item f (part_text set inner None (default_of f.field) f.type v))

      go : (q : Bool) → q ≡ false →
          first_refusal (elim q as (λ _. List Out) [
            | true ↦ shown set inner None fs (suc k) vs m
            | false ↦ before m k ++ item_if (is_there v) (item f (part_text set inner None (default_of f.field) f.type v)) ++ shown set inner None fs (suc k) vs (later m k)
          ]) ≡ None → text_refusal (part_text set inner None (default_of f.field) f.type v) ≡ None
      go true is e = absurd (false_true (sym is))
      go false is e =
          item_none (is_there v) f (part_text set inner None (default_of f.field) f.type v) there
          (parts_none (before m k) own (parts_none (before m k ++ own) (shown set inner None fs (suc k) vs (later m k)) e).0).1
  plain_none (f ∷ fs) k (MoreValues v vs) m (suc i) e lt is there = go (λ m' h. plain_none fs (suc k) vs m' i h (omega (arith, lt)) is there) (is_member f.field) e
    where
      own : List Out
      own = item_if (is_there v) (item f (part_text set inner None (default_of f.field) f.type v))

      go : ((m' : Member) → first_refusal (shown set inner None fs (suc k) vs m') ≡ None →
          text_refusal (part_text set inner None (default_of (unwrap_or (slice_get fs i) no_field).field) (unwrap_or (slice_get fs i) no_field).type (nth_value vs i)) ≡ None) →
          (q : Bool) →
          first_refusal (elim q as (λ _. List Out) [
            | true ↦ shown set inner None fs (suc k) vs m
            | false ↦ before m k ++ item_if (is_there v) (item f (part_text set inner None (default_of f.field) f.type v)) ++ shown set inner None fs (suc k) vs (later m k)
          ]) ≡ None →
          text_refusal (part_text set inner None (default_of (unwrap_or (slice_get fs i) no_field).field) (unwrap_or (slice_get fs i) no_field).type (nth_value vs i)) ≡ None
      go ih true e = ih m e
      go ih false e = ih (later m k) (parts_none (before m k ++ own) (shown set inner None fs (suc k) vs (later m k)) e).1

  items_none : (fs : List TypedField) (i : ℕ) (items : List Out) → i < length fs → text_refusal (struct_text None fs items) ≡ None → first_refusal items ≡ None
  items_none [] i items lt e = absurd (omega (arith, lt))
  items_none (f ∷ fs) i items lt e = sym (bracketed_refusal (codes "(") (codes ")") None items) ∙ e

  or_left : (a : Bool) → (a || false) ≡ true → a ≡ true
  or_left true e = refl
  or_left false e = e

  same_index : (i j : ℕ) → (i == j) ≡ true → j ≡ i
  same_index i j e = grind (arith, nat_tests, e)

  active_none : (b i : ℕ) (vs : Values) (u : Union) → first_refusal (shown set inner None (fields_of set b) 0 vs (member set inner None b u)) ≡ None →
      (not (not (is_active u i)) && (is_there (active_value u) || not ((field_at set b i).field.discriminant_value == 0))) ≡ true →
      text_refusal (part_text set inner None (default_of (field_at set b i).field) (field_at set b i).type (active_value u)) ≡ None
  active_none b i vs NoUnion e there = absurd (false_true there)
  active_none b i vs (Unknown d) e there = absurd (false_true there)
  active_none b i vs (Active j v) e there = go (i == j) refl there
    where
      own : ℕ → Out
      own k = part_text set inner None (default_of (field_at set b k).field) (field_at set b k).type v

      items : first_refusal (item_if (is_there v || not ((field_at set b j).field.discriminant_value == 0)) (item (field_at set b j) (part_text set inner None (default_of (field_at set b j).field) (field_at set b j).type v))) ≡ None
      items = member_none (fields_of set b) 0 j vs (item_if (is_there v || not ((field_at set b j).field.discriminant_value == 0)) (item (field_at set b j) (own j))) e

      go : (q : Bool) → (i == j) ≡ q → (not (not q) && (is_there v || not ((field_at set b i).field.discriminant_value == 0))) ≡ true → text_refusal (part_text set inner None (default_of (field_at set b i).field) (field_at set b i).type v) ≡ None
      go false is there = absurd (false_true there)
      go true is there =
          subst (λ (k : ℕ). text_refusal (part_text set inner None (default_of (field_at set b k).field) (field_at set b k).type v) ≡ None) (same_index i j is)
          (item_none (is_there v || not ((field_at set b j).field.discriminant_value == 0)) (field_at set b j) (own j)
          (ap (λ (k : ℕ). is_there v || not ((field_at set b k).field.discriminant_value == 0)) (same_index i j is) ∙ there) items)

  field_none : (b : ℕ) (r : Record) (i : ℕ) → i < length (fields_of set b) → text_refusal (record_text set inner None b r) ≡ None → is_shown r (field_at set b i).field i ≡ true →
      text_refusal (part_text set inner None (default_of (field_at set b i).field) (field_at set b i).type (part_at r (field_at set b i).field i)) ≡ None
  field_none b (Parts vs u) i lt e there = go (is_member (field_at set b i).field) refl there
    where
      none : first_refusal (shown set inner None (fields_of set b) 0 vs (member set inner None b u)) ≡ None
      none = items_none (fields_of set b) i (shown set inner None (fields_of set b) 0 vs (member set inner None b u)) lt e

      go : (q : Bool) → is_member (field_at set b i).field ≡ q →
          (not (q && not (is_active u i)) && (is_there (elim q as (λ _. Value) [ true ↦ active_value u | false ↦ nth_value vs i ]) || (q && not ((field_at set b i).field.discriminant_value == 0)))) ≡ true →
          text_refusal (part_text set inner None (default_of (field_at set b i).field) (field_at set b i).type (elim q as (λ _. Value) [ true ↦ active_value u | false ↦ nth_value vs i ])) ≡ None
      go true is there = active_none b i vs u none there
      go false is there = plain_none (fields_of set b) 0 vs (member set inner None b u) i none lt is (or_left (is_there (nth_value vs i)) there)

  element_none : (t : SchemaType) (vs : Values) (i : ℕ) → i < value_count vs → first_refusal (element_texts set inner None t vs) ≡ None → text_refusal (inner None t (read_of set VoidValue t (nth_value vs i))) ≡ None
  element_none t NoValues i lt e = absurd (omega (arith, lt))
  element_none t (MoreValues v vs) zero lt e = (both_none (text_refusal (inner None t (read_of set VoidValue t v))) (first_refusal (element_texts set inner None t vs)) e).0
  element_none t (MoreValues v vs) (suc i) lt e = element_none t vs i (omega (arith, lt)) (both_none (text_refusal (inner None t (read_of set VoidValue t v))) (first_refusal (element_texts set inner None t vs)) e).1

-- ---- refused parts among others ----

pub refused_append : (xs ys : List ShownPart) → refused_parts (xs ++ ys) ≡ refused_parts xs ++ refused_parts ys
refused_append [] ys = refl
refused_append (x ∷ xs) ys = ap (with_refused x.refusal x) (refused_append xs ys) ∙ more x.refusal (refused_parts xs)
  where
    more : (o : Option ErrorKind) (zs : List ShownPart) → with_refused o x (zs ++ refused_parts ys) ≡ with_refused o x zs ++ refused_parts ys
    more None zs = refl
    more (Some kind) zs = refl

pub refused_behind : (step : PlaceStep) (word : List ℕ) (xs : List ShownPart) → refused_parts (map (behind_step step word) xs) ≡ map (behind_step step word) (refused_parts xs)
refused_behind step word [] = refl
refused_behind step word (x ∷ xs) = ap (with_refused x.refusal (behind_step step word x)) (refused_behind step word xs) ∙ more x.refusal
  where
    more : (o : Option ErrorKind) → with_refused o (behind_step step word x) (map (behind_step step word) (refused_parts xs)) ≡ map (behind_step step word) (with_refused o x (refused_parts xs))
    more None = refl
    more (Some kind) = refl

-- none behind a step
pub none_behind : (set : Schemas) (within : TextParts → List ShownPart) (parts : TextParts) (i : ℕ) → (is_step_shown set parts i ≡ true → refused_parts (within (parts_after set parts (step_at parts i))) ≡ []) →
    refused_parts (if_shown (is_step_shown set parts i) (parts_behind set within parts (step_at parts i))) ≡ []
none_behind set within parts i h = go (is_step_shown set parts i) h
  where
    go : (q : Bool) → (q ≡ true → refused_parts (within (parts_after set parts (step_at parts i))) ≡ []) → refused_parts (if_shown q (parts_behind set within parts (step_at parts i))) ≡ []
    go false h = refl
    go true h =
        refused_behind (step_at parts i) (part_word set parts (step_at parts i)) (within (parts_after set parts (step_at parts i)))
        ∙ ap (map (behind_step (step_at parts i) (part_word set parts (step_at parts i)))) (h refl)

none_from : (set : Schemas) (within : TextParts → List ShownPart) (parts : TextParts) (i count : ℕ) → ((j : ℕ) → j < i + count → is_step_shown set parts j ≡ true → refused_parts (within (parts_after set parts (step_at parts j))) ≡ []) →
    refused_parts (parts_from set within parts i count) ≡ []
unfolding parts_from
none_from set within parts i zero h = refl
none_from set within parts i (suc more) h =
    refused_append (if_shown (is_step_shown set parts i) (parts_behind set within parts (step_at parts i))) (parts_from set within parts (suc i) more)
    ∙ ap₂ (λ (xs ys : List ShownPart). xs ++ ys) (none_behind set within parts i (h i (omega arith))) (none_from set within parts (suc i) more (λ j lt. h j (omega (arith, lt))))

pub none_refused : (set : Schemas) (n : ℕ) (parts : TextParts) → parts_refusal set parts ≡ None → refused_parts (parts_within set n parts) ≡ []
unfolding parts_within parts_from
none_refused set zero NoParts e = refl
none_refused set (suc n) NoParts e = refl
none_refused set n (RefusedAs kind) e = absurd (some_none e)
none_refused set zero (RecordParts left b r) e = refl
none_refused set (suc n) (RecordParts left b r) e =
    none_from set (parts_within set n) (RecordParts left b r) 0 (length (fields_of set b))
    (λ j lt there.
    none_refused set n (field_parts set left b r j)
    (sym (part_refusal set left (default_of (field_at set b j).field) (field_at set b j).type (part_at r (field_at set b j).field j)) ∙ field_none set (text_within set left) (within_elsewhere set left) b r j (omega (arith, lt)) e there))
none_refused set zero (ElementParts left t vs) e = refl
none_refused set (suc n) (ElementParts left t vs) e =
    none_from set (parts_within set n) (ElementParts left t vs) 0 (value_count vs)
    (λ j lt there.
    none_refused set n (element_parts set left t vs j)
    (sym (value_refusal set left t (read_of set VoidValue t (nth_value vs j))) ∙ element_none set (text_within set left) (within_elsewhere set left) t vs j (omega (arith, lt)) (sym (list_refusal None (element_texts set (text_within set left) None t vs)) ∙ e)))
