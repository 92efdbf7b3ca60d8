-- What a new record has: nothing behind its pointers, and its first member active.
use Rattle.std.specs.Prelude.{⊤}
use Rattle.std.proofs.Common.{ℕ, zero, suc, ◌+◌, ◌*◌, ◌<◌, ◌≡◌, refl, List, [], ◌∷◌, get_or, length, map, slice_get, true, false, ◌==◌, Some, arith, ap, ap₂, sym, ◌∙◌, subst}
use Rattle.std.proofs.lemmas.List.Quantifiers.{position-Some}
use Rattle.std.specs.Option.{unwrap_or}
use Rattle.capnp_schema.specs.Query.{is_member_of, member_of, records_of}
use Rattle.capnp_schema.specs.Schema.{FieldKind, Group, Schemas, Slot, TypedField, field_at, fields_of, is_member, no_field, node_of}
use Rattle.capnp_schema.specs.Types.{SchemaType, is_pointer}
use Rattle.capnp_records.specs.Facts.Frame.{chosen_first, second_of}
use Rattle.capnp_records.specs.Facts.GroupWrite.{bits_at_empty}
use Rattle.capnp_records.specs.Reading.{active_among, discriminant, kind_value, non_union_parts, part_of, record_within, union_of}
use Rattle.capnp_records.specs.Record as value
use Rattle.capnp_records.specs.Record.{Active, Endless, Left, MoreValues, NoUnion, NoValues, Record, Union, Value, Values}
use Rattle.capnp_value_laws.specs.Whole.{IsNull}

-- what a new struct has behind a pointer
abbrev pub IsNew : FieldKind → SchemaType → Value → Type 0
IsNew (Slot offset default) t e = is_pointer t ≡ true → e ≡ value.Missing Endless
IsNew (Group node) t e = ⊤

-- the values of a new struct from a field on
abbrev pub AreNew : Schemas → (brand index : ℕ) → Values → Type 0
AreNew set b i NoValues = length (fields_of set b) ≡ i
AreNew set b i (MoreValues e es) =
    (i < length (fields_of set b))
    × (is_member (field_at set b i).field ≡ true → e ≡ value.Elsewhere)
    × (is_member (field_at set b i).field ≡ false → IsNew (field_at set b i).field.kind (field_at set b i).type e)
    × AreNew set b (suc i) es

-- a null is as a new struct has it
pub null_new : (kind : FieldKind) (t : SchemaType) (v e : Value) → IsNull kind t v → IsNew kind t e → e ≡ v
null_new (Slot offset d) t (value.Missing Endless) e null new = new null
null_new (Slot offset d) t (value.Missing (Left n)) e null new = absurd null
null_new kind t v e null new = absurd null

module _ (set : Schemas) where
  abbrev pub part : TypedField → Value
  part = part_of set Endless [] []

  kind_new : (group : ℕ → Record) (kind : FieldKind) (t : SchemaType) → IsNew kind t (kind_value group Endless [] [] kind t)
  kind_new group (Slot offset d) t = λ pointer. chosen_first (is_pointer t) (value.Missing Endless) _ pointer
  kind_new group (Group node) t = tt

  part_new : (f : TypedField) → IsNew f.field.kind f.type (part f)
  part_new f = kind_new (record_within (length set.brands) set Endless [] []) f.field.kind f.type

  module _ (b : ℕ) where
    new_from : (fs : List TypedField) (i : ℕ) → ((j k : ℕ) → k ≡ i + j → j < length fs → field_at set b k ≡ unwrap_or (slice_get fs j) no_field) → length (fields_of set b) ≡ i + length fs → AreNew set b i (non_union_parts part fs)
    new_from [] i at all = omega (arith, all)
    new_from (f ∷ fs) i at all = (
      omega (arith, all),
      λ member. chosen_first (is_member f.field) value.Elsewhere (part f) (sym (ap (λ (x : TypedField). is_member x.field) here) ∙ member),
      λ plain. subst (IsNew (field_at set b i).field.kind (field_at set b i).type) (sym (second_of (is_member f.field) value.Elsewhere (part f) (sym (ap (λ (x : TypedField). is_member x.field) here) ∙ plain)))
          (subst (λ (x : TypedField). IsNew x.field.kind x.type (part f)) (sym here) (part_new f)),
      new_from fs (suc i) (λ j k e h. at (suc j) k (omega (arith, e)) (omega (arith, h))) (omega (arith, all)),
    )
      where
        here : field_at set b i ≡ f
        here = at 0 i (omega arith) (omega arith)

    pub fields_new : AreNew set b 0 (non_union_parts part (fields_of set b))
    fields_new = new_from (fields_of set b) 0 (λ j k e h. ap (field_at set b) (omega (arith, e))) (omega arith)

    -- ---- the union ----

    abbrev pub union : Union
    union = union_of part (node_of set b) (fields_of set b) []

    pub no_union_new : ((node_of set b).discriminant_count == 0) ≡ true → union ≡ NoUnion
    no_union_new e = chosen_first ((node_of set b).discriminant_count == 0) NoUnion _ e

    abbrev at : List TypedField → ℕ → TypedField
    at fs i = unwrap_or (slice_get fs i) no_field

    first_among : (fs : List TypedField) (k i d : ℕ) → i < length fs → is_member_of d (at fs i).field ≡ true → ((j : ℕ) → j < i → is_member_of d (at fs j).field ≡ false) → active_among part fs k d ≡ Active (k + i) (part (at fs i))
    first_among [] k i d inside is before = absurd (omega (arith, inside))
    first_among (f ∷ fs) k zero d inside is before = chosen_first (is_member_of d f.field) (Active k (part f)) (active_among part fs (suc k) d) is ∙ ap (λ n. Active n (part f)) (omega arith)
    first_among (f ∷ fs) k (suc i) d inside is before =
        second_of (is_member_of d f.field) (Active k (part f)) (active_among part fs (suc k) d) (before 0 (omega arith))
        ∙ (first_among fs (suc k) i d (omega (arith, inside)) is (λ j h. before (suc j) (omega (arith, h)))
        ∙ ap (λ n. Active n (part (at fs i))) (omega arith))

    at_map : (fs : List TypedField) (i : ℕ) → get_or (map (λ (f : TypedField). f.field) fs) i no_field.field ≡ (at fs i).field
    at_map [] i = refl
    at_map (f ∷ fs) zero = refl
    at_map (f ∷ fs) (suc i) = at_map fs i

    pub first_new : (i : ℕ) (v : Value) → i < length (fields_of set b) → IsNull (field_at set b i).field.kind (field_at set b i).type v → ((node_of set b).discriminant_count == 0) ≡ false → member_of (records_of set b) 0 ≡ Some i → union ≡ Active i v
    first_new i v inside null counted first =
        let found = position-Some (is_member_of 0) (records_of set b) i no_field.field first in
        second_of ((node_of set b).discriminant_count == 0) NoUnion (active_among part (fields_of set b) 0 (discriminant (node_of set b) [])) counted
        ∙ (ap (active_among part (fields_of set b) 0) (bits_at_empty (16 * (node_of set b).discriminant_offset) 16)
        ∙ (first_among (fields_of set b) 0 i 0 inside (sym (ap (is_member_of 0) (at_map (fields_of set b) i)) ∙ found.1) (λ j h. sym (ap (is_member_of 0) (at_map (fields_of set b) j)) ∙ found.2 j h)
        ∙ ap₂ Active (omega arith) (null_new (field_at set b i).field.kind (field_at set b i).type v (part (field_at set b i)) null (part_new (field_at set b i)))))
