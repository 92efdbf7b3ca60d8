-- The items of a struct, from a field on.
use Rattle.std.proofs.Common.{ℕ, zero, suc, ◌+◌, ◌<◌, ◌≤◌, ◌≡◌, ◌==◌, refl, List, [], ◌∷◌, ◌++◌, Bool, true, false, not, ◌&&◌, ◌||◌, nat_lt, cond, length, drop, slice_get, Some, None, ap, sym, subst, ◌∙◌, arith}
use Rattle.std.proofs.lemmas.Bool.{eq-eqb}
use Rattle.std.specs.Option.{unwrap_or}
use Rattle.capnp_schema.specs.FieldLists.{IsFieldOf, index_of, typed_of}
use Rattle.capnp_schema.specs.Schema.{Field as FieldRecord, Schemas, TypedField, default_of, is_member, no_field, node_of}
use Rattle.capnp_schema.specs.StructHandles.{number_of, set_of, struct_field, struct_fields}
use Rattle.capnp_schema.specs.declared.schema.fields.Field.{Field}
use Rattle.capnp_schema.specs.declared.schema.structs.StructSchema.{StructSchema}
use Rattle.capnp_records.specs.Facts.Frame.{chosen_first, second_of}
use Rattle.capnp_records.specs.Facts.PartRead.{found_active, nth_plain_parts}
use Rattle.capnp_records.specs.Part.{active_value, has_of, is_active, nth_value, which_of}
use Rattle.capnp_records.specs.Reading.{active_among, discriminant, non_union_parts}
use Rattle.capnp_records.specs.Record as value
use Rattle.capnp_records.specs.Record.{Active, NoUnion, Parts, Union, Unknown, Value, Values, is_there}
use Rattle.capnp_records.specs.Text.{Layout, Member, Out, before, item, item_if, later, part_text, shown}
use Rattle.capnp_wire.specs.Standing.{struct_of}
use Rattle.capnp_dynamic_readers.specs.Facts.HasWhich.{not_zero}
use Rattle.capnp_dynamic_readers.specs.Handles.{reader_of, schema_of}
use Rattle.capnp_dynamic_readers.specs.Steps.PartsRead.{field_in}
use Rattle.capnp_dynamic_readers.specs.Reads.{BelongsTo}
use Rattle.capnp_dynamic_readers.specs.Seen.{record_seen}
use Rattle.capnp_dynamic_readers.specs.Steps.Shown.{field_item, field_items, is_member_shown, part_seen, still_pending, union_seen, unless_member, within_struct}
use Rattle.capnp_dynamic_readers.specs.declared.dynamic_struct.Reader.{Reader as StructHandle}

-- ---- a field of a struct ----

pub belongs : (s : StructSchema) (i : ℕ) (f : Field) → IsFieldOf s i f → BelongsTo f s
belongs s i f h = record { set = ap set_of h.schema; number = ap number_of h.schema }

-- ---- the active member ----

pub some_same : {i j : ℕ} → Some i ≡ Some j → i ≡ j
some_same e = cc

no_active : {i : ℕ} {v : Value} → NoUnion ≡ Active i v → ⊥
no_active e = cc

-- what the active member has is the field's part
abbrev pub IsActivePart : StructHandle → Union → Type 0
IsActivePart r u = (i : ℕ) (v : Value) → u ≡ Active i v → v ≡ part_seen r (struct_field (schema_of r) i)

pub active_part : (r : StructHandle) → IsActivePart r (union_seen r)
active_part r i v e = go ((node_of (set_of (schema_of r)) (number_of (schema_of r))).discriminant_count == 0) refl e
  where
    fs : List TypedField
    fs = struct_fields (schema_of r)

    d : ℕ
    d = discriminant (node_of (set_of (schema_of r)) (number_of (schema_of r))) (struct_of (reader_of r)).bytes

    u : Union
    u = active_among (part_seen r) (struct_fields (schema_of r)) 0 (discriminant (node_of (set_of (schema_of r)) (number_of (schema_of r))) (struct_of (reader_of r)).bytes)

    go : (q : Bool) → ((node_of (set_of (schema_of r)) (number_of (schema_of r))).discriminant_count == 0) ≡ q → (elim q as (λ _. Union) [ true ↦ NoUnion | false ↦ u ]) ≡ Active i v → v ≡ part_seen r (struct_field (schema_of r) i)
    go true is e = absurd (no_active e)
    go false is e =
        let found = found_active (part_seen r) (struct_fields (schema_of r)) 0 i (discriminant (node_of (set_of (schema_of r)) (number_of (schema_of r))) (struct_of (reader_of r)).bytes)
        (subst (λ n. is_active u n ≡ true) (omega arith) (ap (λ (w : Union). is_active w i) e ∙ eq-eqb i i refl)) in
        sym (ap active_value e) ∙ found.part_is

module _ (left : ℕ) (at : Layout) (r : StructHandle) where
  pub member_at : (i : ℕ) (v w : Value) → v ≡ w →
      item_if (is_there v || not ((struct_field (schema_of r) i).field.discriminant_value == 0)) (item (struct_field (schema_of r) i) (part_text (set_of (schema_of r)) (within_struct left r) at (default_of (struct_field (schema_of r) i).field) (struct_field (schema_of r) i).type v))
      ≡ item_if (is_there w || not ((struct_field (schema_of r) i).field.discriminant_value == 0)) (item (struct_field (schema_of r) i) (part_text (set_of (schema_of r)) (within_struct left r) at (default_of (struct_field (schema_of r) i).field) (struct_field (schema_of r) i).type w))
  member_at i v w e = ap (λ (z : Value). item_if (is_there z || not ((struct_field (schema_of r) i).field.discriminant_value == 0)) (item (struct_field (schema_of r) i) (part_text (set_of (schema_of r)) (within_struct left r) at (default_of (struct_field (schema_of r) i).field) (struct_field (schema_of r) i).type z))) e

-- ---- whether a field is there ----

pub plain_has : (r : StructHandle) (i : ℕ) → i < length (struct_fields (schema_of r)) → is_member (struct_field (schema_of r) i).field ≡ false →
    has_of (record_seen r) (struct_field (schema_of r) i).field i ≡ is_there (part_seen r (struct_field (schema_of r) i))
plain_has r i h plain =
    ap (λ q. not (q && not (is_active (union_seen r) i)) && is_there (elim q as (λ _. Value) [ true ↦ active_value (union_seen r) | false ↦ nth_value (non_union_parts (part_seen r) (struct_fields (schema_of r))) i ])) plain
    ∙ ap is_there (nth_plain_parts (part_seen r) (struct_fields (schema_of r)) i h plain)

pub member_has : (r : StructHandle) (i : ℕ) → i < length (struct_fields (schema_of r)) → which_of (record_seen r) ≡ Some i →
    has_of (record_seen r) (struct_field (schema_of r) i).field i ≡ is_there (part_seen r (struct_field (schema_of r) i))
member_has r i h w = go (union_seen r) (active_part r) w (is_member (struct_field (schema_of r) i).field) refl
  where
    vs : Values
    vs = non_union_parts (part_seen r) (struct_fields (schema_of r))

    none_some : {j : ℕ} → None ≡ Some j → ⊥
    none_some e = cc

    here : (q : Bool) (j : ℕ) → j ≡ i → not (q && not (i == j)) ≡ true
    here true j e = ap (λ q. not (not q)) (eq-eqb i j (sym e))
    here false j e = refl

    go : (u : Union) → IsActivePart r u → which_of (Parts (non_union_parts (part_seen r) (struct_fields (schema_of r))) u) ≡ Some i → (q : Bool) → is_member (struct_field (schema_of r) i).field ≡ q →
        (not (is_member (struct_field (schema_of r) i).field && not (is_active u i)) && is_there (elim (is_member (struct_field (schema_of r) i).field) as (λ _. Value) [ true ↦ active_value u | false ↦ nth_value (non_union_parts (part_seen r) (struct_fields (schema_of r))) i ])) ≡ is_there (part_seen r (struct_field (schema_of r) i))
    go NoUnion a w q e = absurd (none_some w)
    go (Unknown n) a w q e = absurd (none_some w)
    go (Active j v) a w true e =
        ap (λ q. q && is_there (elim (is_member (struct_field (schema_of r) i).field) as (λ _. Value) [ true ↦ v | false ↦ nth_value (non_union_parts (part_seen r) (struct_fields (schema_of r))) i ])) (here (is_member (struct_field (schema_of r) i).field) j (some_same w))
        ∙ (ap is_there (chosen_first (is_member (struct_field (schema_of r) i).field) v _ e)
        ∙ (ap is_there (a j v refl) ∙ ap (λ k. is_there (part_seen r (struct_field (schema_of r) k))) (some_same w)))
    go (Active j v) a w false e =
        ap (λ q. q && is_there (elim (is_member (struct_field (schema_of r) i).field) as (λ _. Value) [ true ↦ v | false ↦ nth_value (non_union_parts (part_seen r) (struct_fields (schema_of r))) i ])) (here (is_member (struct_field (schema_of r) i).field) j (some_same w))
        ∙ (ap is_there (second_of (is_member (struct_field (schema_of r) i).field) v _ e)
        ∙ ap is_there (nth_plain_parts (part_seen r) (struct_fields (schema_of r)) i h e))

-- ---- from field to field ----

pub drop_next : (fs : List TypedField) (i : ℕ) → i < length fs → drop i fs ≡ unwrap_or (slice_get fs i) no_field ∷ drop (i + 1) fs
drop_next [] i h = absurd (omega (arith, h))
drop_next (f ∷ fs) zero h = refl
drop_next (f ∷ fs) (suc i) h =
    let e : suc i + 1 ≡ suc (i + 1) = omega arith in
    drop_next fs i (omega (arith, h)) ∙ ap (λ n. unwrap_or (slice_get fs i) no_field ∷ drop n (f ∷ fs)) (sym e)

pub drop_end : (fs : List TypedField) (i : ℕ) → length fs ≤ i → drop i fs ≡ []
drop_end [] zero h = refl
drop_end [] (suc i) h = refl
drop_end (f ∷ fs) zero h = absurd (omega (arith, h))
drop_end (f ∷ fs) (suc i) h = drop_end fs i (omega (arith, h))

pub suc_is : (i : ℕ) → suc i ≡ i + 1
suc_is i = omega arith

module _ (left : ℕ) (at : Layout) (r : StructHandle) where
  set : Schemas
  set = set_of (schema_of r)

  -- what is shown of a field, and then of those after it
  pub shown_next : (f : TypedField) (fs : List TypedField) (i : ℕ) (m : Member) →
      shown (set_of (schema_of r)) (within_struct left r) at (f ∷ fs) i (non_union_parts (part_seen r) (f ∷ fs)) m
      ≡ field_items left at r f i m ++ shown (set_of (schema_of r)) (within_struct left r) at fs (suc i) (non_union_parts (part_seen r) fs) (still_pending (is_member f.field) m i)
  shown_next f fs i m = go (is_member f.field)
    where
      go : (q : Bool) →
          (elim q as (λ _. List Out) [
            | true ↦ shown (set_of (schema_of r)) (within_struct left r) at fs (suc i) (non_union_parts (part_seen r) fs) m
            | false ↦ before m i ++ item_if (is_there (elim q as (λ _. Value) [ true ↦ value.Elsewhere | false ↦ part_seen r f ])) (item f (part_text (set_of (schema_of r)) (within_struct left r) at (default_of f.field) f.type (elim q as (λ _. Value) [ true ↦ value.Elsewhere | false ↦ part_seen r f ])))
                ++ shown (set_of (schema_of r)) (within_struct left r) at fs (suc i) (non_union_parts (part_seen r) fs) (later m i)
          ])
          ≡ unless_member q (before m i ++ item_if (is_there (part_seen r f)) (field_item left at r f)) ++ shown (set_of (schema_of r)) (within_struct left r) at fs (suc i) (non_union_parts (part_seen r) fs) (still_pending q m i)
      go true = refl
      go false = refl

-- ---- the member before a non-union field ----

pub before_some : (i j : ℕ) (xs : List Out) → i < j → before (Some (i, xs)) j ≡ xs
before_some i j xs h = ap (λ q. cond q xs []) (lt_true i j h)
  where
    lt_true : (i j : ℕ) → i < j → nat_lt i j ≡ true
    lt_true i j h = grind (arith, h)

pub before_none : (i j : ℕ) (xs : List Out) → j ≤ i → before (Some (i, xs)) j ≡ []
before_none i j xs h = ap (λ q. cond q xs []) (lt_false i j h)
  where
    lt_false : (i j : ℕ) → j ≤ i → nat_lt i j ≡ false
    lt_false i j h = grind (arith, h)

pub later_some : (i j : ℕ) (xs : List Out) → i < j → later (Some (i, xs)) j ≡ None
later_some i j xs h = ap (λ q. cond q None (Some (i, xs))) (lt_true i j h)
  where
    lt_true : (i j : ℕ) → i < j → nat_lt i j ≡ true
    lt_true i j h = grind (arith, h)

pub later_none : (i j : ℕ) (xs : List Out) → j ≤ i → later (Some (i, xs)) j ≡ Some (i, xs)
later_none i j xs h = ap (λ q. cond q None (Some (i, xs))) (lt_false i j h)
  where
    lt_false : (i j : ℕ) → j ≤ i → nat_lt i j ≡ false
    lt_false i j h = grind (arith, h)

-- ---- what a printer asks of a field ----

-- the discriminant value of a field's record
pub discriminant_in : (r : StructHandle) (f : Field) → IsFieldOf (schema_of r) (index_of f) f → (p : FieldRecord) → p ≡ (typed_of f).field → p.discriminant_value ≡ (field_in r f).field.discriminant_value
discriminant_in r f field p e = ap (λ (x : FieldRecord). x.discriminant_value) (e ∙ ap (λ (s : StructSchema). (struct_field s (index_of f)).field) field.schema)

pub or_true : (b q : Bool) → q ≡ true → true ≡ (b || q)
or_true true q e = refl
or_true false q e = sym e

pub or_false : (b q : Bool) → q ≡ false → b ≡ (b || q)
or_false true q e = refl
or_false false q e = sym e

pub shown_of_another : (r : StructHandle) (f : Field) (d : ℕ) → d ≡ (field_in r f).field.discriminant_value → (d ≡ 0 → ⊥) → true ≡ is_member_shown r (field_in r f)
shown_of_another r f d e h = or_true (is_there (part_seen r (field_in r f))) _ (ap not (ap (λ n. n == 0) (sym e) ∙ not_zero d h))

pub shown_of_first : (r : StructHandle) (f : Field) (d : ℕ) (b : Bool) → d ≡ (field_in r f).field.discriminant_value → d ≡ 0 → b ≡ is_there (part_seen r (field_in r f)) → b ≡ is_member_shown r (field_in r f)
shown_of_first r f d b e h is = is ∙ or_false (is_there (part_seen r (field_in r f))) _ (ap not (ap (λ n. n == 0) (sym e) ∙ ap (λ n. n == 0) h))
