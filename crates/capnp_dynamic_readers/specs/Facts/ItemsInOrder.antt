-- The items of a struct by index: those from a field on are its own, and those from the next one on.
use Rattle.std.proofs.Common.{ℕ, zero, suc, ◌+◌, ◌<◌, ◌≤◌, ◌≡◌, ◌==◌, refl, List, [], ◌∷◌, ◌++◌, Bool, true, false, ◌&&◌, drop, length, slice_get, Some, None, ap, append-nil, append_assoc, arith, sym, subst, ◌∙◌}
use Rattle.std.proofs.lemmas.Bool.{and_parts, eq-eqb}
use Rattle.std.specs.Option.{unwrap_or}
use Rattle.capnp_wire.specs.Standing.{struct_of}
use Rattle.capnp_schema.specs.Schema.{Schemas, TypedField, default_of, is_member, no_field, node_of}
use Rattle.capnp_schema.specs.StructHandles.{number_of, set_of, struct_field, struct_fields}
use Rattle.capnp_records.specs.Part.{is_active}
use Rattle.capnp_records.specs.Reading.{active_among, discriminant, non_union_parts}
use Rattle.capnp_records.specs.Record.{Active, MoreValues, NoUnion, NoValues, Union, Unknown, Value, Values, is_there}
use Rattle.capnp_records.specs.Text.{Inner, Layout, Member, Out, before, item, item_if, later, member, part_text, member_rest, shown}
use Rattle.capnp_dynamic_readers.specs.Steps.GroupTexts.{item_by, is_item, items_from}
use Rattle.capnp_dynamic_readers.specs.Handles.{reader_of, schema_of}
use Rattle.capnp_dynamic_readers.specs.Steps.Shown.{field_item, is_member_shown, member_items, part_seen, record_items, still_pending, union_seen, unless_member, within_struct}
use Rattle.capnp_dynamic_readers.specs.declared.dynamic_struct.Reader.{Reader as StructHandle}
use Rattle.capnp_dynamic_readers.specs.Facts.ItemsShown.{IsActivePart, active_part, before_none, before_some, drop_end, drop_next, later_none, later_some, member_at, shown_next, suc_is}

-- ---- by index ----

-- once a member's place is past, its items stand first
pub shown_member : (set : Schemas) (inner : Inner) (at : Layout) (fs : List TypedField) (j i : ℕ) (vs : Values) (xs : List Out) → i < j →
    shown set inner at fs j vs (Some (i, xs)) ≡ xs ++ shown set inner at fs j vs None
shown_member set inner at fs j i NoValues xs lt = sym (append-nil xs)
shown_member set inner at [] j i (MoreValues v vs) xs lt = sym (append-nil xs)
shown_member set inner at (f ∷ fs) j i (MoreValues v vs) xs lt = go (is_member f.field) (shown_member set inner at fs (suc j) i vs xs (omega (arith, lt)))
  where
    own : List Out
    own = item_if (is_there v) (item f (part_text set inner at (default_of f.field) f.type v))

    go : (q : Bool) → shown set inner at fs (suc j) vs (Some (i, xs)) ≡ xs ++ shown set inner at fs (suc j) vs None →
        (elim q as (λ _. List Out) [ true ↦ shown set inner at fs (suc j) vs (Some (i, xs)) | false ↦ before (Some (i, xs)) j ++ item_if (is_there v) (item f (part_text set inner at (default_of f.field) f.type v)) ++ shown set inner at fs (suc j) vs (later (Some (i, xs)) j) ])
        ≡ xs ++ (elim q as (λ _. List Out) [ true ↦ shown set inner at fs (suc j) vs None | false ↦ before None j ++ item_if (is_there v) (item f (part_text set inner at (default_of f.field) f.type v)) ++ shown set inner at fs (suc j) vs (later None j) ])
    go true e = e
    go false e =
        ap (λ (ys : List Out). ys ++ own ++ shown set inner at fs (suc j) vs (later (Some (i, xs)) j)) (before_some i j xs lt)
        ∙ (ap (λ (m : Member). xs ++ own ++ shown set inner at fs (suc j) vs m) (later_some i j xs lt)
        ∙ append_assoc xs own (shown set inner at fs (suc j) vs None))

pub active_same : {i j : ℕ} {v w : Value} → Active i v ≡ Active j w → i ≡ j
active_same e = cc

pub no_active : {i : ℕ} {v : Value} → NoUnion ≡ Active i v → ⊥
no_active e = cc

-- the active member is one of the fields, and a member
pub record IsMemberAt (fs : List TypedField) (k j : ℕ) : Type 0 where
  pub at : ℕ
  pub index : j ≡ k + at
  pub inside : at < length fs
  pub member : is_member (unwrap_or (slice_get fs at) no_field).field ≡ true

pub unknown_active : {d i : ℕ} {v : Value} → Unknown d ≡ Active i v → ⊥
unknown_active e = cc

pub member_found : (v : TypedField → Value) (fs : List TypedField) (k d j : ℕ) (w : Value) → active_among v fs k d ≡ Active j w → IsMemberAt fs k j
member_found v [] k d j w e = absurd (unknown_active e)
member_found v (f ∷ fs) k d j w e = go (is_member f.field && (f.field.discriminant_value == d)) refl e (member_found v fs (suc k) d j w)
  where
    go : (q : Bool) → (is_member f.field && (f.field.discriminant_value == d)) ≡ q → (elim q as (λ _. Union) [ true ↦ Active k (v f) | false ↦ active_among v fs (suc k) d ]) ≡ Active j w →
        (active_among v fs (suc k) d ≡ Active j w → IsMemberAt fs (suc k) j) → IsMemberAt (f ∷ fs) k j
    go true is e later = record {
      at = 0;
      index = (let same = active_same e in omega (arith, same));
      inside = omega arith;
      member = (and_parts (is_member f.field) (f.field.discriminant_value == d) is).0;
    }
    go false is e later =
        let found = later e in
        record {
          at = suc found.at;
          index = (let same = found.index in omega (arith, same));
          inside = (let lt = found.inside in omega (arith, lt));
          member = found.member;
        }

-- before, at, and behind
pub by_order : {P : Type 0} (j i : ℕ) → (j < i → P) → (j ≡ i → P) → (i < j → P) → P
by_order zero zero l e g = e refl
by_order zero (suc i) l e g = l (omega arith)
by_order (suc j) zero l e g = g (omega arith)
by_order (suc j) (suc i) l e g = by_order j i (λ h. l (omega (arith, h))) (λ h. e (ap suc h)) (λ h. g (omega (arith, h)))

pub eq_not : (i j : ℕ) → (i ≡ j → ⊥) → (i == j) ≡ false
eq_not i j h = grind (arith, h)

-- the item of a field, where it has one
abbrev pub own_items : ℕ → Layout → StructHandle → ℕ → List Out
own_items left at h i = item_if (is_item h (struct_field (schema_of h) i) i) (field_item left at h (struct_field (schema_of h) i))

abbrev pub from_here : ℕ → Layout → StructHandle → ℕ → List Out
from_here left at h i = items_from left (set_of (schema_of h)) (reader_of h) at (number_of (schema_of h)) i

module _ (left : ℕ) (at : Layout) (h : StructHandle) where
  abbrev member_seen : Union → Member
  member_seen u = member (set_of (schema_of h)) (within_struct left h) at (number_of (schema_of h)) u

  abbrev rest_shown : ℕ → ℕ → Member → List Out
  rest_shown i j m = shown (set_of (schema_of h)) (within_struct left h) at (drop (i + 1) (struct_fields (schema_of h))) j (non_union_parts (part_seen h) (drop (i + 1) (struct_fields (schema_of h)))) m

  abbrev IsMemberIndex : Union → Type 0
  IsMemberIndex u = (j : ℕ) (v : Value) → u ≡ Active j v → IsMemberAt (struct_fields (schema_of h)) 0 j

  seen_member : IsMemberIndex (union_seen h)
  seen_member j v e = go ((node_of (set_of (schema_of h)) (number_of (schema_of h))).discriminant_count == 0) e
    where
      d : ℕ
      d = discriminant (node_of (set_of (schema_of h)) (number_of (schema_of h))) (struct_of (reader_of h)).bytes

      go : (q : Bool) → (elim q as (λ _. Union) [ true ↦ NoUnion | false ↦ active_among (part_seen h) (struct_fields (schema_of h)) 0 (discriminant (node_of (set_of (schema_of h)) (number_of (schema_of h))) (struct_of (reader_of h)).bytes) ]) ≡ Active j v → IsMemberAt (struct_fields (schema_of h)) 0 j
      go true e = absurd (no_active e)
      go false e = member_found (part_seen h) (struct_fields (schema_of h)) 0 d j v e

  -- the items of a field in the definition's order, and then those of the fields after it
  abbrev ItemsAt : ℕ → TypedField → Bool → Union → Type 0
  ItemsAt i f q u =
      unless_member q (before (later (member_seen u) i) i ++ item_if (is_there (part_seen h f)) (field_item left at h f)) ++ rest_shown i (suc i) (still_pending q (later (member_seen u) i) i)
      ≡ item_if (item_by q (is_active u i) (is_member_shown h f) (is_there (part_seen h f))) (field_item left at h f) ++ rest_shown i (i + 1) (later (member_seen u) (i + 1))

  no_member : (i : ℕ) (f : TypedField) (q : Bool) →
      unless_member q (before None i ++ item_if (is_there (part_seen h f)) (field_item left at h f)) ++ rest_shown i (suc i) (still_pending q None i)
      ≡ item_if (item_by q false (is_member_shown h f) (is_there (part_seen h f))) (field_item left at h f) ++ rest_shown i (i + 1) None
  no_member i f true = ap (λ (k : ℕ). rest_shown i k None) (suc_is i)
  no_member i f false = ap (λ (k : ℕ). item_if (is_there (part_seen h f)) (field_item left at h f) ++ rest_shown i k None) (suc_is i)

  -- a member that is still to come
  member_later : (i j : ℕ) (f : TypedField) (xs : List Out) (q : Bool) → i < j →
      unless_member q (before (Some (j, xs)) i ++ item_if (is_there (part_seen h f)) (field_item left at h f)) ++ rest_shown i (suc i) (still_pending q (Some (j, xs)) i)
      ≡ item_if (item_by q false (is_member_shown h f) (is_there (part_seen h f))) (field_item left at h f) ++ rest_shown i (i + 1) (Some (j, xs))
  member_later i j f xs true lt = ap (λ (k : ℕ). rest_shown i k (Some (j, xs))) (suc_is i)
  member_later i j f xs false lt =
      ap (λ (ys : List Out). (ys ++ item_if (is_there (part_seen h f)) (field_item left at h f)) ++ rest_shown i (suc i) (later (Some (j, xs)) i)) (before_none j i xs (omega (arith, lt)))
      ∙ (ap (λ (m : Member). item_if (is_there (part_seen h f)) (field_item left at h f) ++ rest_shown i (suc i) m) (later_none j i xs (omega (arith, lt)))
      ∙ ap (λ (k : ℕ). item_if (is_there (part_seen h f)) (field_item left at h f) ++ rest_shown i k (Some (j, xs))) (suc_is i))

  -- whether the active member is the field
  abbrev items_by : ℕ → TypedField → Bool → Bool → Member → Member → Type 0
  items_by i f q active m next =
      unless_member q (before m i ++ item_if (is_there (part_seen h f)) (field_item left at h f)) ++ rest_shown i (suc i) (still_pending q m i)
      ≡ item_if (item_by q active (is_member_shown h f) (is_there (part_seen h f))) (field_item left at h f) ++ rest_shown i (i + 1) next

  carried : (i : ℕ) (f : TypedField) (q a b : Bool) (m m' next next' : Member) → a ≡ b → m ≡ m' → next ≡ next' → items_by i f q b m' next' → items_by i f q a m next
  carried i f q a b m m' next next' ea em en h =
      subst (λ (z : Bool). items_by i f q z m next) (sym ea) (subst (λ (z : Member). items_by i f q b z next) (sym em) (subst (λ (z : Member). items_by i f q b m' z) (sym en) h))

  own_member : (i : ℕ) (f : TypedField) (xs : List Out) → xs ≡ item_if (is_member_shown h f) (field_item left at h f) →
      items_by i f true true (Some (i, xs)) None
  own_member i f xs e =
      shown_member (set_of (schema_of h)) (within_struct left h) at (drop (i + 1) (struct_fields (schema_of h))) (suc i) i (non_union_parts (part_seen h) (drop (i + 1) (struct_fields (schema_of h)))) xs (omega arith)
      ∙ (ap (λ (ys : List Out). ys ++ rest_shown i (suc i) None) e
      ∙ ap (λ (k : ℕ). item_if (is_member_shown h f) (field_item left at h f) ++ rest_shown i k None) (suc_is i))

  some_member : (i j : ℕ) (q : Bool) → is_member (struct_field (schema_of h) i).field ≡ q → (xs : List Out) → xs ≡ member_items left at h (struct_field (schema_of h) j) →
      is_member (struct_field (schema_of h) j).field ≡ true →
      items_by i (struct_field (schema_of h) i) q (i == j) (later (Some (j, xs)) i) (later (Some (j, xs)) (i + 1))
  some_member i j q is xs e member = by_order j i
      (λ lt. carried i (struct_field (schema_of h) i) q (i == j) false (later (Some (j, xs)) i) None (later (Some (j, xs)) (i + 1)) None
      (eq_not i j (λ k. omega (arith, lt, k))) (later_some j i xs lt) (later_some j (i + 1) xs (omega (arith, lt))) (no_member i (struct_field (schema_of h) i) q))
      (λ k. here q is k)
      (λ lt. carried i (struct_field (schema_of h) i) q (i == j) false (later (Some (j, xs)) i) (Some (j, xs)) (later (Some (j, xs)) (i + 1)) (Some (j, xs))
      (eq_not i j (λ k. omega (arith, lt, k))) (later_none j i xs (omega (arith, lt))) (later_none j (i + 1) xs (omega (arith, lt))) (member_later i j (struct_field (schema_of h) i) xs q lt))
    where
      true_false : true ≡ false → ⊥
      true_false e = cc

      here : (q : Bool) → is_member (struct_field (schema_of h) i).field ≡ q → j ≡ i → items_by i (struct_field (schema_of h) i) q (i == j) (later (Some (j, xs)) i) (later (Some (j, xs)) (i + 1))
      here false is k = absurd (true_false (sym member ∙ (ap (λ (n : ℕ). is_member (struct_field (schema_of h) n).field) k ∙ is)))
      here true is k = carried i (struct_field (schema_of h) i) true (i == j) true (later (Some (j, xs)) i) (Some (i, xs)) (later (Some (j, xs)) (i + 1)) None
          (eq-eqb i j (sym k)) (later_none j i xs (omega (arith, k)) ∙ ap (λ (n : ℕ). Some (n, xs)) k) (later_some j (i + 1) xs (omega (arith, k)))
          (own_member i (struct_field (schema_of h) i) xs (e ∙ ap (λ (n : ℕ). member_items left at h (struct_field (schema_of h) n)) k))

  by_union : (i : ℕ) (q : Bool) → is_member (struct_field (schema_of h) i).field ≡ q → (u : Union) → IsActivePart h u → IsMemberIndex u → ItemsAt i (struct_field (schema_of h) i) q u
  by_union i q is NoUnion part index = no_member i (struct_field (schema_of h) i) q
  by_union i q is (Unknown d) part index = no_member i (struct_field (schema_of h) i) q
  by_union i q is (Active j v) part index =
      let found = index j v refl in
      let same : found.at ≡ j = (let e = found.index in omega (arith, e)) in
      some_member i j q is _ (member_at left at h j v (part_seen h (struct_field (schema_of h) j)) (part j v refl))
      (subst (λ (n : ℕ). is_member (struct_field (schema_of h) n).field ≡ true) same found.member)

  pub from_next : (i : ℕ) → i < length (struct_fields (schema_of h)) → from_here left at h i ≡ own_items left at h i ++ from_here left at h (i + 1)
  from_next i lt =
      ap (λ (fs : List TypedField). shown (set_of (schema_of h)) (within_struct left h) at fs i (non_union_parts (part_seen h) fs) (later (member_seen (union_seen h)) i)) (drop_next (struct_fields (schema_of h)) i lt)
      ∙ (shown_next left at h (struct_field (schema_of h) i) (drop (i + 1) (struct_fields (schema_of h))) i (later (member_seen (union_seen h)) i)
      ∙ by_union i (is_member (struct_field (schema_of h) i).field) refl (union_seen h) (active_part h) seen_member)

  -- past the last field nothing is left
  pub from_end : (i : ℕ) → length (struct_fields (schema_of h)) ≤ i → from_here left at h i ≡ []
  from_end i le =
      ap (λ (fs : List TypedField). shown (set_of (schema_of h)) (within_struct left h) at fs i (non_union_parts (part_seen h) fs) (later (member_seen (union_seen h)) i)) (drop_end (struct_fields (schema_of h)) i le)
      ∙ go (union_seen h) seen_member
    where
      go : (u : Union) → IsMemberIndex u → member_rest (later (member_seen u) i) ≡ []
      go NoUnion index = refl
      go (Unknown d) index = refl
      go (Active j v) index =
          let found = index j v refl in
          let lt : j < i = (let e = found.index in let inside = found.inside in omega (arith, e, inside, le)) in
          ap member_rest (later_some j i _ lt)

  pub from_start : from_here left at h 0 ≡ record_items left at h
  from_start = ap (λ (m : Member). shown (set_of (schema_of h)) (within_struct left h) at (struct_fields (schema_of h)) 0 (non_union_parts (part_seen h) (struct_fields (schema_of h))) m) (go (member_seen (union_seen h)))
    where
      go : (m : Member) → later m 0 ≡ m
      go None = refl
      go (Some (j, xs)) = later_none j 0 xs (omega arith)
