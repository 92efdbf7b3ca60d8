-- The non-union fields of a struct on both sides, from an index on.
use Rattle.std.specs.Prelude.{⊤}
use Rattle.std.proofs.Common.{ℕ, zero, suc, ◌+◌, ◌<◌, ◌≤◌, ◌≡◌, ◌∙◌, refl, [], ◌∷◌, List, drop, length, slice_get, Bool, true, false, arith, ap, ap₂, sym, subst}
use Rattle.std.proofs.lemmas.Bool.{true≢false}
use Rattle.std.proofs.lemmas.List.{drop_all}
use Rattle.std.specs.Option.{unwrap_or}
use Rattle.capnp_wire.specs.declared.struct_reader.StructReader.{StructReader}
use Rattle.capnp_schema.specs.FieldLists.{IsFieldOf, field_schema, index_of, typed_of}
use Rattle.capnp_schema.specs.Schema.{Schemas, TypedField, field_at, fields_of, is_member, no_field}
use Rattle.capnp_schema.specs.StructHandles.{number_of, set_of, struct_field}
use Rattle.capnp_schema.specs.declared.schema.fields.Field.{Field}
use Rattle.capnp_schema.specs.declared.schema.structs.StructSchema.{StructSchema}
use Rattle.capnp_records.specs.Call.{FieldNumber}
use Rattle.capnp_records.specs.Facts.Frame.{chosen_first, second_of}
use Rattle.capnp_records.specs.Reading.{non_union_parts}
use Rattle.capnp_records.specs.Record as value
use Rattle.capnp_records.specs.Record.{MoreValues, NoValues, Parts, Record, Value, Values}
use Rattle.capnp_call.specs.declared.calls.Step.{Step}
use Rattle.capnp_diffs.specs.Changes.{AreElsewhere, AreFieldsTold, ByKind, Either, IsGroupTold, IsTold, field_changes, union_changes, value_changes}
use Rattle.capnp_diffs.specs.Steps.Adding.{Adds, AreFieldsFound, IsPartFound, IsRecordFound, IsUnionFound, fields_held, whole_part, whole_record}
use Rattle.capnp_diffs.specs.declared.change.Change.{Change as FoundChange}
use Rattle.capnp_diffs.proofs.Added.{adds_both, adds_none}
use Rattle.capnp_diffs.proofs.Equal.{nothing_elsewhere}

-- ---- the parts from an index on ----

abbrev pub parts_from : Schemas → ℕ → StructReader → ℕ → Values
parts_from set b r i = non_union_parts (whole_part set r) (drop i (fields_of set b))

abbrev placed : Schemas → StructReader → TypedField → Value
placed set r f = elim (is_member f.field) as (λ _. Value) [ true ↦ value.Elsewhere | false ↦ whole_part set r f ]

drop_next : (fs : List TypedField) (i : ℕ) → i < length fs → drop i fs ≡ (unwrap_or (slice_get fs i) no_field ∷ drop (suc i) fs)
drop_next [] i inside = absurd (omega (arith, inside))
drop_next (f ∷ fs) zero inside = refl
drop_next (f ∷ fs) (suc i) inside = drop_next fs i (omega (arith, inside))

parts_next : (set : Schemas) (b : ℕ) (r : StructReader) (i : ℕ) → i < length (fields_of set b) → parts_from set b r i ≡ MoreValues (placed set r (field_at set b i)) (parts_from set b r (suc i))
parts_next set b r i inside = ap (non_union_parts (whole_part set r)) (drop_next (fields_of set b) i inside)

parts_end : (set : Schemas) (b : ℕ) (r : StructReader) (i : ℕ) → length (fields_of set b) ≤ i → parts_from set b r i ≡ NoValues
parts_end set b r i past = ap (non_union_parts (whole_part set r)) (drop_all i (fields_of set b) past)

parts_all : (set : Schemas) (b : ℕ) (r : StructReader) → fields_held (whole_record set r b) ≡ parts_from set b r 0
unfolding whole_record whole_part
parts_all set b r = refl

-- ---- their changes ----

pub record IsRestFound (set : Schemas) (b : ℕ) (old new : StructReader) (path : List Step) (i : ℕ) (out found : List FoundChange) : Type 0 where
  pub adds : Adds set path out found (field_changes set b i (parts_from set b old i) (parts_from set b new i))
  pub told : AreFieldsTold set b i (parts_from set b old i) (parts_from set b new i)

module _ (set : Schemas) (b : ℕ) (old new : StructReader) (path : List Step) where
  rest_at : (i : ℕ) (out found : List FoundChange) (vs ws : Values) → parts_from set b old i ≡ vs → parts_from set b new i ≡ ws →
      Adds set path out found (field_changes set b i vs ws) → AreFieldsTold set b i vs ws → IsRestFound set b old new path i out found
  rest_at i out found vs ws e h adds told = record {
    adds = subst (λ x. Adds set path out found (field_changes set b i x (parts_from set b new i))) (sym e) (subst (λ y. Adds set path out found (field_changes set b i vs y)) (sym h) adds);
    told = subst (λ x. AreFieldsTold set b i x (parts_from set b new i)) (sym e) (subst (λ y. AreFieldsTold set b i vs y) (sym h) told);
  }

  -- none is left
  pub rest_none : (i : ℕ) (out : List FoundChange) → length (fields_of set b) ≤ i → IsRestFound set b old new path i out out
  rest_none i out past = rest_at i out out NoValues NoValues (parts_end set b old i past) (parts_end set b new i past) (adds_none set path out) tt

  module _ (i : ℕ) (out mid found : List FoundChange) (inside : i < length (fields_of set b)) where
    abbrev f : TypedField
    f = field_at set b i

    -- one more, whatever stands in the two rows for it
    one_more : (v w : Value) → placed set old f ≡ v → placed set new f ≡ w → Adds set path out mid (value_changes set (FieldNumber i) f.type v w) →
        Either (is_member f.field) (AreElsewhere v w) (ByKind f.field.kind (IsTold set f.type v w) (IsGroupTold set f.type v w)) →
        IsRestFound set b old new path (suc i) mid found → IsRestFound set b old new path i out found
    one_more v w is_v is_w adds told rest = rest_at i out found (MoreValues v vs) (MoreValues w ws)
        (parts_next set b old i inside ∙ ap (λ x. MoreValues x vs) is_v)
        (parts_next set b new i inside ∙ ap (λ x. MoreValues x ws) is_w)
        (adds_both set path out mid found (value_changes set (FieldNumber i) f.type v w) (field_changes set b (suc i) vs ws) adds rest.adds)
        (inside, told, rest.told)
      where
        vs : Values
        vs = parts_from set b old (suc i)

        ws : Values
        ws = parts_from set b new (suc i)

    either_first : (q : Bool) (P Q : Type 0) → q ≡ true → P → Either q P Q
    either_first true P Q e p = p
    either_first false P Q e p = absurd (true≢false (sym e))

    either_second : (q : Bool) (P Q : Type 0) → q ≡ false → Q → Either q P Q
    either_second true P Q e q = absurd (true≢false e)
    either_second false P Q e q = q

    pub rest_plain : is_member f.field ≡ false → IsPartFound set f i (whole_part set old f) (whole_part set new f) path out mid →
        IsRestFound set b old new path (suc i) mid found → IsRestFound set b old new path i out found
    rest_plain plain part rest = one_more (whole_part set old f) (whole_part set new f)
        (second_of (is_member f.field) value.Elsewhere (whole_part set old f) plain) (second_of (is_member f.field) value.Elsewhere (whole_part set new f) plain) part.adds
        (either_second (is_member f.field) (AreElsewhere (whole_part set old f) (whole_part set new f)) (ByKind f.field.kind (IsTold set f.type (whole_part set old f) (whole_part set new f)) (IsGroupTold set f.type (whole_part set old f) (whole_part set new f))) plain part.told)
        rest

  pub rest_member : (i : ℕ) (out found : List FoundChange) → i < length (fields_of set b) → is_member (field_at set b i).field ≡ true →
      IsRestFound set b old new path (suc i) out found → IsRestFound set b old new path i out found
  rest_member i out found inside member rest = one_more i out out found inside value.Elsewhere value.Elsewhere
      (chosen_first (is_member f.field) value.Elsewhere (whole_part set old f) member) (chosen_first (is_member f.field) value.Elsewhere (whole_part set new f) member)
      (subst (Adds set path out out) (sym (nothing_elsewhere set f.type (FieldNumber i))) (adds_none set path out))
      (either_first i out out found inside (is_member f.field) ⊤ (ByKind f.field.kind (IsTold set f.type value.Elsewhere value.Elsewhere) (IsGroupTold set f.type value.Elsewhere value.Elsewhere)) member tt)
      rest
    where
      f : TypedField
      f = field_at set b i

  pub all_found : (out found : List FoundChange) → IsRestFound set b old new path 0 out found → AreFieldsFound set b (whole_record set old b) (whole_record set new b) path out found
  all_found out found rest = record {
    adds = subst (λ x. Adds set path out found (field_changes set b 0 x (fields_held (whole_record set new b)))) (sym (parts_all set b old))
        (subst (λ y. Adds set path out found (field_changes set b 0 (parts_from set b old 0) y)) (sym (parts_all set b new)) rest.adds);
    told = subst (λ x. AreFieldsTold set b 0 x (fields_held (whole_record set new b))) (sym (parts_all set b old))
        (subst (λ y. AreFieldsTold set b 0 (parts_from set b old 0) y) (sym (parts_all set b new)) rest.told);
  }

-- ---- in a loop ----

-- the changes of the fields from an index on are all that is left
abbrev pub IsLeft : StructSchema → StructReader → StructReader → List Step → List FoundChange → ℕ → List FoundChange → Type 0
IsLeft s old new path out i now = (found : List FoundChange) → IsRestFound (set_of s) (number_of s) old new path i now found → IsRestFound (set_of s) (number_of s) old new path 0 out found

module _ (s : StructSchema) (old new : StructReader) (path : List Step) (out : List FoundChange) (i : ℕ) (now : List FoundChange) where
  next_is : suc i ≡ i + 1
  next_is = omega arith

  pub left_start : IsLeft s old new path out 0 out
  left_start found rest = rest

  module _ (left : IsLeft s old new path out i now) (f : Field) (list : StructSchema) (is_list : list ≡ s) (here : IsFieldOf list i f) where
    here_in : IsFieldOf s i f
    here_in = subst (λ (z : StructSchema). IsFieldOf z i f) is_list here

    field_is : typed_of f ≡ field_at (set_of s) (number_of s) i
    field_is = ap₂ (λ (z : StructSchema) (n : ℕ). struct_field z n) here_in.schema here_in.index

    pub left_member : is_member (typed_of f).field ≡ true → IsLeft s old new path out (i + 1) now
    left_member member found rest =
        left found (rest_member (set_of s) (number_of s) old new path i now found here_in.inside (ap (λ (x : TypedField). is_member x.field) (sym field_is) ∙ member)
        (subst (λ n. IsRestFound (set_of s) (number_of s) old new path n now found) (sym next_is) rest))

    pub left_plain : is_member (typed_of f).field ≡ false → (inner : List Step) → inner ≡ path → (next : List FoundChange) →
        IsPartFound (set_of (field_schema f)) (typed_of f) (index_of f) (whole_part (set_of (field_schema f)) old (typed_of f)) (whole_part (set_of (field_schema f)) new (typed_of f)) inner now next →
        IsLeft s old new path out (i + 1) next
    left_plain plain inner is_path next part found rest =
        left found (rest_plain (set_of s) (number_of s) old new path i now next found here_in.inside (ap (λ (x : TypedField). is_member x.field) (sym field_is) ∙ plain)
        (subst (λ xs. IsPartFound (set_of s) (struct_field s i) i (whole_part (set_of s) old (struct_field s i)) (whole_part (set_of s) new (struct_field s i)) xs now next) is_path part_here)
        (subst (λ n. IsRestFound (set_of s) (number_of s) old new path n next found) (sym next_is) rest))
      where
        part_here : IsPartFound (set_of s) (struct_field s i) i (whole_part (set_of s) old (struct_field s i)) (whole_part (set_of s) new (struct_field s i)) inner now next
        part_here =
            subst (λ (n : ℕ). IsPartFound (set_of s) (struct_field s n) n (whole_part (set_of s) old (struct_field s n)) (whole_part (set_of s) new (struct_field s n)) inner now next) here_in.index
            (subst (λ (z : StructSchema). IsPartFound (set_of z) (struct_field z (index_of f)) (index_of f) (whole_part (set_of z) old (struct_field z (index_of f))) (whole_part (set_of z) new (struct_field z (index_of f))) inner now next) here_in.schema part)

  pub left_end : IsLeft s old new path out i now → length (fields_of (set_of s) (number_of s)) ≤ i →
      AreFieldsFound (set_of s) (number_of s) (whole_record (set_of s) old (number_of s)) (whole_record (set_of s) new (number_of s)) path out now
  left_end left past = all_found (set_of s) (number_of s) old new path out now (left now (rest_none (set_of s) (number_of s) old new path i now past))

-- ---- a record ----

pub record_found : (set : Schemas) (b : ℕ) (r q : Record) (path : List Step) (out mid found : List FoundChange) → AreFieldsFound set b r q path out mid → IsUnionFound set b r q path mid found → IsRecordFound set b r q path out found
record_found set b (Parts vs u) (Parts ws w) path out mid found fields union = record {
  adds = adds_both set path out mid found (field_changes set b 0 vs ws) (union_changes set b u w) fields.adds union.adds;
  told = (fields.told, union.told);
}
