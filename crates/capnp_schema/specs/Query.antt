-- What a set answers to a query: filters of its lists.
use Rattle.std.specs.Prelude.{ℕ, suc, ◌≡◌, List, [], ◌∷◌, Bool, true, false, not, ◌&&◌, ◌==◌, map, position, slice_get, bytes_eq, Option}
use Rattle.capnp_schema.specs.Schema.{Schemas, Field, TypedField, Annotation, fields_of, is_member}

-- a brand's fields without their types, none past the end of the brands
abbrev pub records_of : Schemas → ℕ → List Field
records_of set b = map (λ (f : TypedField). f.field) (fields_of set b)

-- the index of the field of a name
abbrev pub field_named : List Field → List ℕ → Option ℕ
field_named fields name = position (λ (f : Field). bytes_eq f.name name) fields

-- whether a field is the member of that discriminant value
abbrev pub is_member_of : ℕ → Field → Bool
is_member_of number f = is_member f && (f.discriminant_value == number)

-- the index of the member of a discriminant value
abbrev pub member_of : List Field → ℕ → Option ℕ
member_of fields number = position (is_member_of number) fields

-- the indices of the members, by discriminant value
abbrev pub AreMembers : List Field → List ℕ → Type 0
AreMembers fields indices = (number : ℕ) → slice_get indices number ≡ member_of fields number

abbrev pub keep_index : Bool → ℕ → List ℕ → List ℕ
keep_index true i indices = i ∷ indices
keep_index false i indices = indices

-- the indices, from the first on, of the entries that pass
abbrev pub indices_from : {A : Type 0} → ℕ → (A → Bool) → List A → List ℕ
indices_from first passes [] = []
indices_from first passes (x ∷ xs) = keep_index (passes x) first (indices_from (suc first) passes xs)

abbrev pub is_non_union : Field → Bool
is_non_union f = not (is_member f)

-- the non-union fields, by index
abbrev pub non_union_fields : List Field → List ℕ
non_union_fields fields = indices_from 0 is_non_union fields

-- the index of the first annotation of an id
abbrev pub annotation_of : List Annotation → ℕ → Option ℕ
annotation_of annotations id = position (λ (a : Annotation). a.id == id) annotations
