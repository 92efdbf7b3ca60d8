-- The elements of two lists of the same length, one after another.
use Rattle.std.proofs.Common.{ℕ, suc, ◌+◌, ◌-◌, ◌<◌, ◌≡◌, refl, [], ◌∷◌, ◌++◌, List, Bool, true, false, ◌==◌, cond, Result, Ok, Err, Some, None, arith, ap, ap₂, sym, subst, ◌∙◌}
use Rattle.std.proofs.lemmas.Bool.{true≢false}
use Rattle.capnp_wire.specs.Tree.{StructTree, Tree}
use Rattle.capnp_wire.specs.Reading.{element_pointer, element_struct, list_length, with_level}
use Rattle.capnp_wire.specs.Standing.{list_of, struct_of}
use Rattle.capnp_wire.specs.declared.list_reader.ListReader.{ListReader}
use Rattle.capnp_wire.specs.declared.struct_reader.StructReader.{StructReader}
use Rattle.capnp_device.specs.declared.error.ErrorKind.{ErrorKind}
use Rattle.capnp_device.specs.declared.error.ErrorKind.TheVariants.{TooDeep}
use Rattle.capnp_schema.specs.Schema.{Schemas}
use Rattle.capnp_schema.specs.Types.{BoolType, EnumType, IntType, SchemaType, StructType, UIntType, VoidType, is_pointer, struct_brand}
use Rattle.capnp_records.specs.Facts.ListValues.{below_of, element_seen}
use Rattle.capnp_records.specs.Reading.{element_value, reads, value_of}
use Rattle.capnp_records.specs.Record as value
use Rattle.capnp_records.specs.Record.{Endless, MoreValues, NoValues, Value, Values, values_from}
use Rattle.capnp_records.specs.Steps.Stand.{seen_element}
use Rattle.capnp_call.specs.Seen.{step_seen}
use Rattle.capnp_call.specs.declared.calls.Step.{Step}
use Rattle.capnp_call.specs.declared.calls.Step.TheVariants as step
use Rattle.capnp_diffs.specs.Changes.{AreElements, Change, IsRowTold, IsTold, row_changes, value_changes}
use Rattle.capnp_diffs.specs.Steps.Adding.{Adds, IsFoundAt, IsRecordFound, IsRowFound, elements_in, whole_record}
use Rattle.capnp_diffs.specs.declared.change.Change.{Change as FoundChange}
use Rattle.capnp_diffs.proofs.Added.{adds_behind, adds_both, adds_none}

-- ---- elements as they are read ----

-- a struct that was entered is the element
pub entered_struct : (n : ℕ) (s y : StructTree) → Ok s ≡ with_level n (Ok y) → s ≡ y
entered_struct n s y e = by_level (n == 0) e
  where
    entered : StructTree → Result StructTree ErrorKind
    entered z = Ok z

    ok_same : entered s ≡ entered y → s ≡ y
    ok_same e = cc

    never : entered s ≡ Err TooDeep → ⊥
    never e = cc

    by_level : (q : Bool) → entered s ≡ cond q (Err TooDeep) (entered y) → s ≡ y
    by_level true e = absurd (never e)
    by_level false e = ok_same e

-- ---- what is left of two lists from an index on ----

module _ (set : Schemas) (e : SchemaType) where
  abbrev pub element_at : ListReader → ℕ → Value
  element_at l = element_value set (list_of l) (below_of set (list_of l)) Endless e

  abbrev pub rest_of : ListReader → ℕ → Values
  rest_of l i = values_from (element_at l) i (list_length (list_of l) - i)

  pub whole_rest : (l : ListReader) → elements_in set l e ≡ rest_of l 0
  unfolding elements_in
  whole_rest l = ap (values_from (element_at l) 0) (omega arith)

  first_rest : (l : ListReader) (i : ℕ) → i < list_length (list_of l) → rest_of l i ≡ MoreValues (element_at l i) (rest_of l (suc i))
  first_rest l i h =
      let one_more : list_length (list_of l) - i ≡ suc (list_length (list_of l) - suc i) = omega (arith, h) in
      ap (values_from (element_at l) i) one_more

  pub no_rest : (l : ListReader) (i : ℕ) → i ≡ list_length (list_of l) → rest_of l i ≡ NoValues
  no_rest l i h =
      let none : list_length (list_of l) - i ≡ 0 = omega (arith, h) in
      ap (values_from (element_at l) i) none

  module _ (l m : ListReader) where
    abbrev pub changes_left : ℕ → List Change
    changes_left i = row_changes set e i (rest_of l i) (rest_of m i)

    abbrev pub told_left : ℕ → Type 0
    told_left i = IsRowTold set e (rest_of l i) (rest_of m i)

    abbrev pub element_changes : ℕ → List Change
    element_changes i = value_changes set (step_seen (step.Element i)) e (element_at l i) (element_at m i)

    module _ (i : ℕ) (inside : i < list_length (list_of l)) (same : list_length (list_of l) ≡ list_length (list_of m)) where
      pub changes_first : changes_left i ≡ element_changes i ++ changes_left (i + 1)
      changes_first =
          ap₂ (row_changes set e i) (first_rest l i inside) (first_rest m i (omega (arith, inside, same)))
          ∙ ap (λ (j : ℕ). element_changes i ++ changes_left j) (omega arith)

      told_first : AreElements e (element_at l i) (element_at m i) → IsTold set e (element_at l i) (element_at m i) → told_left (i + 1) → told_left i
      told_first are told rest =
          subst (λ (vs : Values). IsRowTold set e vs (rest_of m i)) (sym (first_rest l i inside))
          (subst (λ (ws : Values). IsRowTold set e (MoreValues (element_at l i) (rest_of l (suc i))) ws) (sym (first_rest m i (omega (arith, inside, same))))
          (are, told, subst told_left (omega arith) rest))

    module _ (path : List Step) (old : List FoundChange) where
      -- what is found of the elements left is found of all
      abbrev pub Onward : ℕ → List FoundChange → Type 0
      Onward i now = (end : List FoundChange) → IsRowFound set e i (rest_of l i) (rest_of m i) path now end → IsRowFound set e 0 (elements_in set l e) (elements_in set m e) path old end

      pub onward_start : (now : List FoundChange) → now ≡ old → Onward 0 now
      onward_start now is end found =
          subst (λ (xs : List FoundChange). IsRowFound set e 0 (elements_in set l e) (elements_in set m e) path xs end) is
          (subst (λ (vs : Values). IsRowFound set e 0 vs (elements_in set m e) path now end) (sym (whole_rest l))
          (subst (λ (ws : Values). IsRowFound set e 0 (rest_of l 0) ws path now end) (sym (whole_rest m)) found))

      pub onward_next : (i : ℕ) (now next : List FoundChange) → i < list_length (list_of l) → list_length (list_of l) ≡ list_length (list_of m) → AreElements e (element_at l i) (element_at m i) →
          IsFoundAt set (step.Element i) e (element_at l i) (element_at m i) path now next → Onward i now → Onward (i + 1) next
      onward_next i now next inside same are found onward end rest =
          onward end (record {
            adds = subst (Adds set path now end) (sym (changes_first i inside same)) (adds_both set path now next end (element_changes i) (changes_left (i + 1)) found.adds rest.adds);
            told = told_first i inside same are found.told rest.told;
          })

      pub onward_end : (i : ℕ) (now : List FoundChange) → i ≡ list_length (list_of m) → list_length (list_of l) ≡ list_length (list_of m) → Onward i now → IsRowFound set e 0 (elements_in set l e) (elements_in set m e) path old now
      onward_end i now at same onward =
          onward now
          (subst (λ (vs : Values). IsRowFound set e i vs (rest_of m i) path now now) (sym (no_rest l i (at ∙ sym same)))
          (subst (λ (ws : Values). IsRowFound set e i NoValues ws path now now) (sym (no_rest m i at)) (record { adds = adds_none set path now; told = tt })))

-- ---- structs in a row ----

struct_at : (set : Schemas) (b g : ℕ) (l : ListReader) (i : ℕ) (r : StructReader) → struct_of r ≡ element_struct (list_of l) i → element_at set (StructType b g) l i ≡ value.Struct (whole_record set r b)
unfolding whole_record
struct_at set b g l i r e = element_seen set (list_of l) (StructType b g) i ∙ ap (λ (s : StructTree). value.Struct (reads set s b)) (sym e)

module _ (set : Schemas) (b g : ℕ) (l m : ListReader) (i : ℕ) (r q : StructReader) (at_l : struct_of r ≡ element_struct (list_of l) i) (at_m : struct_of q ≡ element_struct (list_of m) i) where
  pub structs_elements : AreElements (StructType b g) (element_at set (StructType b g) l i) (element_at set (StructType b g) m i)
  structs_elements =
      subst (λ v. AreElements (StructType b g) v (element_at set (StructType b g) m i)) (sym (struct_at set b g l i r at_l))
      (subst (λ w. AreElements (StructType b g) (value.Struct (whole_record set r b)) w) (sym (struct_at set b g m i q at_m)) tt)

  pub struct_found : (path inner : List Step) (old new : List FoundChange) → inner ≡ (path ++ step.Element i ∷ []) → IsRecordFound set b (whole_record set r b) (whole_record set q b) inner old new →
      IsFoundAt set (step.Element i) (StructType b g) (element_at set (StructType b g) l i) (element_at set (StructType b g) m i) path old new
  struct_found path inner old new is found =
      subst (λ v. IsFoundAt set (step.Element i) (StructType b g) v (element_at set (StructType b g) m i) path old new) (sym (struct_at set b g l i r at_l))
      (subst (λ w. IsFoundAt set (step.Element i) (StructType b g) (value.Struct (whole_record set r b)) w path old new) (sym (struct_at set b g m i q at_m))
      (record { adds = adds_behind set path inner (step.Element i) old new _ is found.adds; told = found.told }))

-- ---- pointers in a row ----

module _ (set : Schemas) (e : SchemaType) (pointer : is_pointer e ≡ true) (plain : struct_brand e ≡ None) where
  pub pointers_elements : (v w : Value) → AreElements e v w
  pointers_elements v w = by_type e plain
    where
      by_type : (e : SchemaType) → struct_brand e ≡ None → AreElements e v w
      by_type (StructType b g) plain = absurd (some_none plain)
        where
          some_none : {n : ℕ} → Some n ≡ None → ⊥
          some_none e = cc
      by_type e plain = tt {0}

  pointer_at : (l : ListReader) (i : ℕ) (x : Tree) → x ≡ element_pointer (list_of l) i 1 → element_at set e l i ≡ value_of set x Endless e
  pointer_at l i x is = element_seen set (list_of l) e i ∙ (by_type e pointer plain ∙ ap (λ y. value_of set y Endless e) (sym is))
    where
      by_type : (e : SchemaType) → is_pointer e ≡ true → struct_brand e ≡ None → seen_element set (list_of l) e i ≡ value_of set (element_pointer (list_of l) i 1) Endless e
      by_type VoidType pointer plain = absurd (true≢false (sym pointer))
      by_type BoolType pointer plain = absurd (true≢false (sym pointer))
      by_type (IntType n) pointer plain = absurd (true≢false (sym pointer))
      by_type (UIntType n) pointer plain = absurd (true≢false (sym pointer))
      by_type (EnumType n) pointer plain = absurd (true≢false (sym pointer))
      by_type (StructType b g) pointer plain = absurd (some_none plain)
        where
          some_none : {n : ℕ} → Some n ≡ None → ⊥
          some_none e = cc
      by_type e pointer plain = refl

  pub pointer_found : (l m : ListReader) (i : ℕ) (x y : Tree) → x ≡ element_pointer (list_of l) i 1 → y ≡ element_pointer (list_of m) i 1 → (path : List Step) (old new : List FoundChange) →
      IsFoundAt set (step.Element i) e (value_of set x Endless e) (value_of set y Endless e) path old new → IsFoundAt set (step.Element i) e (element_at set e l i) (element_at set e m i) path old new
  pointer_found l m i x y at_l at_m path old new found =
      subst (λ v. IsFoundAt set (step.Element i) e v (element_at set e m i) path old new) (sym (pointer_at l i x at_l))
      (subst (λ w. IsFoundAt set (step.Element i) e (value_of set x Endless e) w path old new) (sym (pointer_at m i y at_m)) found)
