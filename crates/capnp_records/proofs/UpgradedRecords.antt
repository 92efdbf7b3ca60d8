-- Records under an older schema and a newer one, where lists became lists of structs.
use Rattle.std.proofs.Common.{ℕ, zero, suc, ◌+◌, ◌*◌, ◌<◌, ◌≤◌, ◌≡◌, refl, List, [], ◌∷◌, Bool, true, false, not, ◌&&◌, ◌==◌, nat_lt, IsTrue, length, slice_get, arith, ap, ap₂, sym, subst, ◌∙◌}
use Rattle.std.specs.Option.{unwrap_or}
use Rattle.std.proofs.lemmas.Bool.{true≢false}
use Rattle.capnp_schema.specs.Accepted.{GroupFits}
use Rattle.capnp_schema.specs.Ranges.{HasWidths}
use Rattle.capnp_schema.specs.Schema.{FieldKind, Group, Schemas, Slot, TypedField, field_at, fields_of, is_member, no_field, node_of, Value as SchemaValue}
use Rattle.capnp_schema.specs.SlotValue.{bits_at, slot_number}
use Rattle.capnp_schema.specs.Types.{BoolType, EnumType, IntType, SchemaType, StructType, UIntType, VoidType, is_pointer}
use Rattle.capnp_records.specs.Compatible.{Pairs, Related, SameDefault, SameKind, SharedStruct, projected, projected_fields, projected_union, projection_of}
use Rattle.capnp_records.specs.Facts.Frame.{and_left, and_right, chosen_first, second_of}
use Rattle.capnp_records.specs.Reading.{Reading, active_among, discriminant, kind_value, null, number_value, non_union_parts, record_within, slot_value, union_of}
use Rattle.capnp_records.specs.Record.{Active, MoreValues, Levels, NoValues, NoUnion, Parts, Record, Union, Value}
use Rattle.capnp_records.specs.Record as value
use Rattle.capnp_records.specs.Upgrades.{field_lists_read, lists_read, record_lists_read, union_lists_read, unleveled, unleveled_record, unleveled_union, unleveled_values}
use Rattle.capnp_records.proofs.Projects.{late_unknown, projected_number}
use Rattle.capnp_records.proofs.Readings.{AllReadings, nth_reading_is}
use Rattle.capnp_records.proofs.RelatedTypes.{is_below, is_pointer_related, number_value_related, slot_number_related}

-- numbers carry no levels
pub number_unleveled : (t : SchemaType) (n : ℕ) → unleveled (number_value t n) ≡ number_value t n
number_unleveled VoidType n = refl
number_unleveled BoolType n = refl
number_unleveled (IntType k) n = refl
number_unleveled (UIntType k) n = refl
number_unleveled (EnumType k) n = refl
number_unleveled _ n = refl

active_unleveled : (w : TypedField → Value) (ys : List TypedField) (i d : ℕ) → unleveled_union (active_among w ys i d) ≡ active_among (λ f. unleveled (w f)) ys i d
active_unleveled w [] i d = refl
active_unleveled w (y ∷ ys) i d = go (is_member y.field && (y.field.discriminant_value == d)) (active_unleveled w ys (suc i) d)
  where
    go : (q : Bool) → unleveled_union (active_among w ys (suc i) d) ≡ active_among (λ f. unleveled (w f)) ys (suc i) d →
        unleveled_union (elim q as (λ _. Union) [ true ↦ Active i (w y) | false ↦ active_among w ys (suc i) d ]) ≡ (elim q as (λ _. Union) [ true ↦ Active i (unleveled (w y)) | false ↦ active_among (λ f. unleveled (w f)) ys (suc i) d ])
    go true later = refl
    go false later = later

module _ (set : Schemas) (pairs : Pairs) where
  -- what an older schema has and what a newer one has, where the lists are read as what they were: the older is the
  -- projection of the newer, but for the levels of missing parts
  abbrev pub Sees : SchemaType → SchemaType → Value → Value → Type 0
  Sees s t v w = lists_read set s t (unleveled v) (unleveled w) ≡ true → unleveled v ≡ projected set s t (unleveled w)

  pub sees_moved : (s t : SchemaType) (v v' w w' : Value) → v ≡ v' → w ≡ w' → Sees s t v' w' → Sees s t v w
  sees_moved s t v v' w w' e f h = subst (λ (x : Value). Sees s t x w) (sym e) (subst (λ (y : Value). Sees s t v' y) (sym f) h)

  pub sees_typed : (s s' t t' : SchemaType) (v w : Value) → s ≡ s' → t ≡ t' → Sees s' t' v w → Sees s t v w
  sees_typed s s' t t' v w e f h = subst (λ (x : SchemaType). Sees x t v w) (sym e) (subst (λ (y : SchemaType). Sees s' y v w) (sym f) h)

  abbrev pub Upgrades : Reading → Type 0
  Upgrades r = (l : Levels) (s t : SchemaType) → Related true set pairs s t → HasWidths s → Sees s t (r l s) (r l t)

  pub null_upgrades : Upgrades null
  null_upgrades l s t h k u = refl

  pub slot_sees : (l : Levels) (bytes : List ℕ) (rs : List Reading) → AllReadings Upgrades rs → (o : ℕ) (c d : SchemaValue) (s t : SchemaType) → Related true set pairs s t → HasWidths s → SameDefault c d →
      Sees s t (slot_value l bytes rs o c s) (slot_value l bytes rs o d t)
  slot_sees l bytes rs all o c d s t h k e = go (is_pointer s) (is_pointer t) refl refl
    where
      go : (p q : Bool) → is_pointer s ≡ p → is_pointer t ≡ q → Sees s t (slot_value l bytes rs o c s) (slot_value l bytes rs o d t)
      go true true a b = sees_moved s t _ _ _ _ (chosen_first (is_pointer s) _ _ a) (chosen_first (is_pointer t) _ _ b) (nth_reading_is Upgrades null_upgrades rs all o l s t h k)
      go false false a b = λ u. ap unleveled (second_of (is_pointer s) _ _ a)
          ∙ (number_unleveled s (slot_number bytes o c s)
          ∙ (number_value_related true set pairs s t h (slot_number bytes o c s)
          ∙ (ap (number_value t) (slot_number_related true set pairs bytes o c d s t h e)
          ∙ (sym (projected_number set pairs s t t (slot_number bytes o d t))
          ∙ (ap (projected set s t) (sym (number_unleveled t (slot_number bytes o d t)))
          ∙ ap (λ (x : Value). projected set s t (unleveled x)) (sym (second_of (is_pointer t) _ _ b)))))))
      go true false a b = absurd (true≢false (sym a ∙ (is_pointer_related true set pairs s t h ∙ b)))
      go false true a b = absurd (true≢false (sym b ∙ (sym (is_pointer_related true set pairs s t h) ∙ a)))

  -- two fields of equal discriminant value, of which the one sees the other's part
  pub record SeenPart (v w : TypedField → Value) (f g : TypedField) : Type 0 where
    pub sees : Sees f.type g.type (v f) (w g)
    pub discriminant_value : f.field.discriminant_value ≡ g.field.discriminant_value

  pub plain_sees : (v w : TypedField → Value) (xs ys : List TypedField) → length xs ≤ length ys →
      ((i : ℕ) → i < length xs → SeenPart v w (unwrap_or (slice_get xs i) no_field) (unwrap_or (slice_get ys i) no_field)) →
      field_lists_read set xs ys (unleveled_values (non_union_parts v xs)) (unleveled_values (non_union_parts w ys)) ≡ true → unleveled_values (non_union_parts v xs) ≡ projected_fields set xs ys (unleveled_values (non_union_parts w ys))
  plain_sees v w [] ys le h u = refl
  plain_sees v w (x ∷ xs) [] le h u = absurd (omega arith)
  plain_sees v w (x ∷ xs) (y ∷ ys) le h u =
      ap₂ MoreValues (go (is_member x.field) (is_member y.field) (ap (λ d. not (d == 65535)) (h 0 (omega arith)).discriminant_value) (and_left _ _ u))
      (plain_sees v w xs ys (omega arith) (λ i a. h (suc i) (omega arith)) (and_right (lists_read set x.type y.type (unleveled (elim (is_member x.field) as (λ _. Value) [ true ↦ value.Elsewhere | false ↦ v x ])) (unleveled (elim (is_member y.field) as (λ _. Value) [ true ↦ value.Elsewhere | false ↦ w y ]))) _ u))
    where
      go : (p q : Bool) → p ≡ q → Sees x.type y.type (elim p as (λ _. Value) [ true ↦ value.Elsewhere | false ↦ v x ]) (elim q as (λ _. Value) [ true ↦ value.Elsewhere | false ↦ w y ])
      go true true e = λ u. refl
      go false false e = (h 0 (omega arith)).sees
      go true false e = absurd (true≢false e)
      go false true e = absurd (true≢false (sym e))

  -- ---- unions ----

  abbrev pub UnionSees : ℕ → ℕ → Union → Union → Type 0
  UnionSees a b x y = union_lists_read set a b (unleveled_union x) (unleveled_union y) ≡ true → unleveled_union x ≡ projected_union set a b (unleveled_union y)

  pub union_moved : (a b : ℕ) (x x' y y' : Union) → x ≡ x' → y ≡ y' → UnionSees a b x' y' → UnionSees a b x y
  union_moved a b x x' y y' e f h = subst (λ (z : Union). UnionSees a b z y) (sym e) (subst (λ (z : Union). UnionSees a b x' z) (sym f) h)

  pub active_sees : (v w : TypedField → Value) (older newer : ℕ) (xs ys : List TypedField) (i d : ℕ) → length xs ≤ length ys → length (fields_of set older) ≡ i + length xs →
      ((j : ℕ) → j < length xs → SeenPart v w (unwrap_or (slice_get xs j) no_field) (unwrap_or (slice_get ys j) no_field)) →
      ((j : ℕ) → field_at set older (i + j) ≡ unwrap_or (slice_get xs j) no_field) → ((j : ℕ) → field_at set newer (i + j) ≡ unwrap_or (slice_get ys j) no_field) →
      UnionSees older newer (active_among v xs i d) (active_among w ys i d)
  active_sees v w older newer [] ys i d le len h o n = λ u. sym (ap (projected_union set older newer) (active_unleveled w ys i d) ∙ late_unknown set pairs (λ f. unleveled (w f)) older newer ys i d (omega arith) n)
  active_sees v w older newer (x ∷ xs) [] i d le len h o n = absurd (omega arith)
  active_sees v w older newer (x ∷ xs) (y ∷ ys) i d le len h o n =
      go (active_sees v w older newer xs ys (suc i) d (omega arith) (omega arith) (λ j a. h (suc j) (omega arith))
      (λ j. ap (λ k. field_at set older k) (omega arith) ∙ o (suc j)) (λ j. ap (λ k. field_at set newer k) (omega arith) ∙ n (suc j)))
      (is_member x.field && (x.field.discriminant_value == d)) (is_member y.field && (y.field.discriminant_value == d)) refl refl
      (ap (λ k. not (k == 65535) && (k == d)) (h 0 (omega arith)).discriminant_value)
    where
      at_older : field_at set older i ≡ x
      at_older = ap (λ k. field_at set older k) (omega arith) ∙ o 0

      at_newer : field_at set newer i ≡ y
      at_newer = ap (λ k. field_at set newer k) (omega arith) ∙ n 0

      member : Sees (field_at set older i).type (field_at set newer i).type (v x) (w y)
      member = sees_typed _ _ _ _ (v x) (w y) (ap (λ (f : TypedField). f.type) at_older) (ap (λ (f : TypedField). f.type) at_newer) (h 0 (omega arith)).sees

      shared : UnionSees older newer (Active i (v x)) (Active i (w y))
      shared u = ap (Active i) (member u) ∙ sym (chosen_first (nat_lt i (length (fields_of set older))) _ _ (is_below i (length (fields_of set older)) (omega arith)))

      go : UnionSees older newer (active_among v xs (suc i) d) (active_among w ys (suc i) d) →
          (p q : Bool) → (is_member x.field && (x.field.discriminant_value == d)) ≡ p → (is_member y.field && (y.field.discriminant_value == d)) ≡ q →
          (is_member x.field && (x.field.discriminant_value == d)) ≡ (is_member y.field && (y.field.discriminant_value == d)) →
          UnionSees older newer (active_among v (x ∷ xs) i d) (active_among w (y ∷ ys) i d)
      go later true true e f same = union_moved older newer _ _ _ _ (chosen_first (is_member x.field && (x.field.discriminant_value == d)) _ _ e) (chosen_first (is_member y.field && (y.field.discriminant_value == d)) _ _ f) shared
      go later false false e f same = union_moved older newer _ _ _ _ (second_of (is_member x.field && (x.field.discriminant_value == d)) _ _ e) (second_of (is_member y.field && (y.field.discriminant_value == d)) _ _ f) later
      go later true false e f same = absurd (true≢false (sym e ∙ (same ∙ f)))
      go later false true e f same = absurd (true≢false (sym f ∙ (sym same ∙ e)))

  -- ---- records ----

  abbrev pub RecordSees : ℕ → ℕ → Record → Record → Type 0
  RecordSees a b r q = record_lists_read set a b (unleveled_record r) (unleveled_record q) ≡ true → unleveled_record r ≡ projection_of set a b (unleveled_record q)

  module _ (l : Levels) (bytes : List ℕ) (rs : List Reading) (all : AllReadings Upgrades rs) where
    abbrev pub RecordsSee : ℕ → Type 0
    RecordsSee g = (a b : ℕ) → IsTrue (pairs a b) → RecordSees a b (record_within g set l bytes rs a) (record_within g set l bytes rs b)

    pub kind_sees : (g : ℕ) → RecordsSee g → (j k : FieldKind) (s t : SchemaType) → SameKind j k → GroupFits set j s → Related true set pairs s t → HasWidths s →
        Sees s t (kind_value (record_within g set l bytes rs) l bytes rs j s) (kind_value (record_within g set l bytes rs) l bytes rs k t)
    kind_sees g groups (Slot o c) (Slot p d) s t e f h k =
        subst (λ (x : ℕ). Sees s t (slot_value l bytes rs o c s) (slot_value l bytes rs x d t)) e.0 (slot_sees l bytes rs all o c d s t h k e.1)
    kind_sees g groups (Slot o c) (Group n) s t e f h k = absurd e
    kind_sees g groups (Group m) (Slot p d) s t e f h k = absurd e
    kind_sees g groups (Group m) (Group n) (StructType a i) (StructType b j) e f h k = λ u. ap value.Group (groups a b h u)
    kind_sees g groups (Group m) (Group n) (StructType a i) t e f h k = absurd h
    kind_sees g groups (Group m) (Group n) s t e f h k = absurd f

    module _ (closed : (a b : ℕ) → IsTrue (pairs a b) → SharedStruct true set pairs a b)
        (fits : (b i : ℕ) → i < length (fields_of set b) → GroupFits set (field_at set b i).field.kind (field_at set b i).type)
        (widths : (b i : ℕ) → i < length (fields_of set b) → HasWidths (field_at set b i).type) where
      pub record_sees : (g : ℕ) → RecordsSee g
      record_sees zero a b p = λ u. ap₂ Parts (none (fields_of set a)) (both ((node_of set a).discriminant_count == 0))
        where
          none : (xs : List TypedField) → NoValues ≡ projected_fields set xs (fields_of set b) NoValues
          none [] = refl
          none (x ∷ xs) = refl

          both : (q : Bool) → NoUnion ≡ (elim q as (λ _. Union) [ true ↦ NoUnion | false ↦ NoUnion ])
          both true = refl
          both false = refl
      record_sees (suc g) a b p = go (record_sees g) (closed a b p)
        where
          positive : (n : ℕ) → (n == 0) ≡ false → 0 < n
          positive n e = grind arith

          counted : (m n : ℕ) → 0 < m → m ≤ n → (n == 0) ≡ false
          counted m n p q = grind arith

          v : TypedField → Value
          v f = kind_value (record_within g set l bytes rs) l bytes rs f.field.kind f.type

          go : RecordsSee g → SharedStruct true set pairs a b → RecordSees a b (record_within (suc g) set l bytes rs a) (record_within (suc g) set l bytes rs b)
          go groups shared u =
              let same : (i : ℕ) → i < length (fields_of set a) → SeenPart v v (field_at set a i) (field_at set b i) = λ i i_in. record {
                sees = kind_sees g groups (field_at set a i).field.kind (field_at set b i).field.kind (field_at set a i).type (field_at set b i).type
                    (shared.fields i i_in).kind (fits a i i_in) (shared.fields i i_in).type (widths a i i_in);
                discriminant_value = (shared.fields i i_in).discriminant_value;
              } in
              ap₂ Parts (plain_sees v v (fields_of set a) (fields_of set b) shared.beginning same (and_left _ _ u))
              (unions ((node_of set a).discriminant_count == 0) refl same (and_right (field_lists_read set (fields_of set a) (fields_of set b) (unleveled_values (non_union_parts v (fields_of set a))) (unleveled_values (non_union_parts v (fields_of set b)))) _ u))
            where
              ua : Union
              ua = union_of v (node_of set a) (fields_of set a) bytes

              ub : Union
              ub = union_of v (node_of set b) (fields_of set b) bytes

              unions : (q : Bool) → ((node_of set a).discriminant_count == 0) ≡ q → ((i : ℕ) → i < length (fields_of set a) → SeenPart v v (field_at set a i) (field_at set b i)) →
                  union_lists_read set a b (unleveled_union ua) (unleveled_union ub) ≡ true → unleveled_union ua ≡ (elim ((node_of set a).discriminant_count == 0) as (λ _. Union) [ true ↦ NoUnion | false ↦ projected_union set a b (unleveled_union ub) ])
              unions true e same u = ap unleveled_union (chosen_first ((node_of set a).discriminant_count == 0) _ _ e) ∙ sym (chosen_first ((node_of set a).discriminant_count == 0) _ _ e)
              unions false e same u =
                  let grown = shared.union (positive _ e) in
                  let d : ℕ = discriminant (node_of set a) bytes in
                  let one : ua ≡ active_among v (fields_of set a) 0 d = second_of ((node_of set a).discriminant_count == 0) _ _ e in
                  let other : ub ≡ active_among v (fields_of set b) 0 d =
                  second_of ((node_of set b).discriminant_count == 0) _ _ (counted _ _ (positive _ e) grown.1) ∙ ap (λ o. active_among v (fields_of set b) 0 (bits_at bytes (16 * o) 16)) (sym grown.0) in
                  union_moved a b ua _ ub _ one other
                  (active_sees v v a b (fields_of set a) (fields_of set b) 0 d shared.beginning (omega arith) same (λ j. ap (λ k. field_at set a k) (omega arith)) (λ j. ap (λ k. field_at set b k) (omega arith))) u
                  ∙ sym (second_of ((node_of set a).discriminant_count == 0) _ _ e)
