-- The elements of two lists of what stands behind no pointer.
use Rattle.std.proofs.Common.{ℕ, zero, suc, ◌+◌, ◌<◌, ◌≡◌, refl, [], ◌∷◌, ◌++◌, List, Bool, true, false, not, ap, ap₂, sym, subst, ◌∙◌}
use Rattle.std.specs.Prelude.{⊤}
use Rattle.std.proofs.lemmas.Bool.{true≢false}
use Rattle.capnp_wire.specs.Reading.{element_number, list_length}
use Rattle.capnp_wire.specs.Standing.{list_levels, list_of}
use Rattle.capnp_wire.specs.declared.list_reader.ListReader.{ListReader}
use Rattle.capnp_device.specs.declared.error.ErrorKind.{ErrorKind}
use Rattle.capnp_base.specs.declared.introspect.«Type».{«Type» as TypeHandle}
use Rattle.capnp_schema.specs.Schema.{Schemas, VoidValue}
use Rattle.capnp_schema.specs.Types.{BoolType, EnumType, IntType, SchemaType, UIntType, VoidType, is_pointer, seen_type}
use Rattle.capnp_records.specs.Default.{read_of}
use Rattle.capnp_records.specs.Facts.ListValues.{below_of}
use Rattle.capnp_records.specs.Reading.{element_value}
use Rattle.capnp_records.specs.Record as value
use Rattle.capnp_records.specs.Record.{Left, values_from}
use Rattle.capnp_dynamic_readers.specs.Handles.{list_reader_of, list_set, type_of}
use Rattle.capnp_dynamic_readers.specs.Reads as reads
use Rattle.capnp_dynamic_readers.specs.Seen.{value_seen}
use Rattle.capnp_dynamic_readers.specs.Typed.{IsValueUnder}
use Rattle.capnp_dynamic_readers.specs.declared.dynamic_list.Reader.{Reader as ListHandle}
use Rattle.capnp_dynamic_readers.specs.declared.dynamic_value.Reader.{Reader as DynamicValue}
use Rattle.capnp_call.specs.Seen.{step_seen}
use Rattle.capnp_call.specs.declared.calls.Step.TheVariants as step
use Rattle.capnp_diffs.specs.Changes.{AreElements, Change, IsRowTold, IsTold, OnlyIf, row_changes, same_leaf, unless_same, whole_change}
use Rattle.capnp_diffs.specs.Found.{type_held}
use Rattle.capnp_diffs.specs.Steps.Adding.{elements_in}
use Rattle.capnp_diffs.specs.Steps.Leaves.{AreAlike}
use Rattle.capnp_diffs.proofs.Alike.{alike, held_under}
use Rattle.capnp_diffs.proofs.Slots.{fault_truth, never_number}
use Rattle.capnp_diffs.proofs.RowsFound.{changes_first, changes_left, element_at, element_changes, no_rest, whole_rest}

either_way : (q : Bool) → OnlyIf q ⊤
either_way true = tt
either_way false = tt

-- what the read of an element answers is its value, whatever levels are left
number_read : (set : Schemas) (e : SchemaType) (l : ListReader) (i n : ℕ) → is_pointer e ≡ false →
    read_of set VoidValue e (element_value set (list_of l) (below_of set (list_of l)) (Left n) e i) ≡ element_at set e l i
number_read set VoidType l i n bare = refl
number_read set BoolType l i n bare = refl
number_read set (IntType k) l i n bare = refl
number_read set (UIntType k) l i n bare = refl
number_read set (EnumType k) l i n bare = refl
number_read set e l i n bare = absurd (true≢false bare)

no_fault : (set : Schemas) (e : SchemaType) (l : ListReader) (i : ℕ) (k : ErrorKind) → is_pointer e ≡ false → value.Fault k ≡ element_at set e l i → ⊥
no_fault set VoidType l i k bare is = never_number VoidType 0 k is
no_fault set BoolType l i k bare is = fault_truth is
no_fault set (IntType n) l i k bare is = never_number (IntType n) (element_number n (list_of l) i) k is
no_fault set (UIntType n) l i k bare is = never_number (UIntType n) (element_number n (list_of l) i) k is
no_fault set (EnumType n) l i k bare is = never_number (EnumType n) (element_number 2 (list_of l) i) k is
no_fault set e l i k bare is = absurd (true≢false bare)

-- a list's handle that was made of these parts
pub record IsHandle (h : ListHandle) (set : Schemas) (t : TypeHandle) (l : ListReader) : Type 0 where
  pub at_set : list_set h ≡ set
  pub at_element : type_of h ≡ t
  pub at_reader : list_reader_of h ≡ l

module _ (set : Schemas) (t : TypeHandle) (bare : is_pointer (seen_type t) ≡ false) where
  seen_is : (h : ListHandle) (l : ListReader) → IsHandle h set t l → (i : ℕ) → reads.element_seen h i ≡ element_at set (seen_type t) l i
  seen_is h l is i =
      number_read (list_set h) (seen_type (type_of h)) (list_reader_of h) i (list_levels (list_reader_of h)) (ap (λ (x : TypeHandle). is_pointer (seen_type x)) is.at_element ∙ bare)
      ∙ (ap (λ (s : Schemas). element_at s (seen_type (type_of h)) (list_reader_of h) i) is.at_set
      ∙ (ap (λ (x : TypeHandle). element_at set (seen_type x) (list_reader_of h) i) is.at_element
      ∙ ap (λ (r : ListReader). element_at set (seen_type t) r i) is.at_reader))

  pub read_is : (h : ListHandle) (l : ListReader) → IsHandle h set t l → (i : ℕ) (v : DynamicValue) → value_seen v ≡ reads.element_seen h i → value_seen v ≡ element_at set (seen_type t) l i
  read_is h l is i v e = e ∙ seen_is h l is i

  -- the read of a number is never refused
  pub never_refused : (h : ListHandle) (l : ListReader) → IsHandle h set t l → (i : ℕ) (k : ErrorKind) → value.Fault k ≡ reads.element_seen h i → ⊥
  never_refused h l is i k e = no_fault set (seen_type t) l i k bare (e ∙ seen_is h l is i)

  held : (h : ListHandle) (l : ListReader) → IsHandle h set t l → (v : DynamicValue) → IsValueUnder (list_set h) (seen_type (type_of h)) v → type_held v ≡ seen_type t
  held h l is v under = held_under (list_set h) (seen_type (type_of h)) v (ap (λ (x : TypeHandle). is_pointer (seen_type x)) is.at_element ∙ bare) under ∙ ap seen_type is.at_element

  pub read_alike : (h k : ListHandle) (l m : ListReader) → IsHandle h set t l → IsHandle k set t m → (v w : DynamicValue) →
      IsValueUnder (list_set h) (seen_type (type_of h)) v → IsValueUnder (list_set k) (seen_type (type_of k)) w → AreAlike v w
  read_alike h k l m is_h is_k v w under_v under_w =
      alike v w (held h l is_h v under_v ∙ sym (held k m is_k w under_w)) (ap is_pointer (held h l is_h v under_v) ∙ bare)

-- ---- changes of numbers ----

abbrev pub number_rows : Schemas → SchemaType → ListReader → ListReader → List Change
number_rows set e l m = row_changes set e 0 (elements_in set l e) (elements_in set m e)

module _ (set : Schemas) (l m : ListReader) where
  number_changes : (e : SchemaType) → is_pointer e ≡ false → (i : ℕ) →
      element_changes set e l m i ≡ unless_same (same_leaf (element_at set e l i) (element_at set e m i)) (whole_change (step_seen (step.Element i)) e (element_at set e m i))
  number_changes VoidType bare i = refl
  number_changes BoolType bare i = refl
  number_changes (IntType k) bare i = refl
  number_changes (UIntType k) bare i = refl
  number_changes (EnumType k) bare i = refl
  number_changes e bare i = absurd (true≢false bare)

  number_told : (e : SchemaType) → is_pointer e ≡ false → (i : ℕ) → AreElements e (element_at set e l i) (element_at set e m i) × IsTold set e (element_at set e l i) (element_at set e m i)
  number_told VoidType bare i = (tt, (tt, tt, tt))
  number_told BoolType bare i = (tt, (tt, either_way (not (same_leaf (element_at set BoolType l i) (element_at set BoolType m i))), tt))
  number_told (IntType k) bare i = (tt, (tt, either_way (not (same_leaf (element_at set (IntType k) l i) (element_at set (IntType k) m i))), tt))
  number_told (UIntType k) bare i = (tt, (tt, either_way (not (same_leaf (element_at set (UIntType k) l i) (element_at set (UIntType k) m i))), tt))
  number_told (EnumType k) bare i = (tt, (tt, either_way (not (same_leaf (element_at set (EnumType k) l i) (element_at set (EnumType k) m i))), tt))
  number_told e bare i = absurd (true≢false bare)

  module _ (e : SchemaType) (bare : is_pointer e ≡ false) (same : list_length (list_of l) ≡ list_length (list_of m)) where
    -- numbers can be told, whatever they are
    pub numbers_told : IsRowTold set e (elements_in set l e) (elements_in set m e)
    unfolding elements_in
    numbers_told =
        subst (λ (n : ℕ). IsRowTold set e (elements_in set l e) (values_from (element_at set e m) 0 n)) same (row 0 (list_length (list_of l)))
      where
        row : (i n : ℕ) → IsRowTold set e (values_from (element_at set e l) i n) (values_from (element_at set e m) i n)
        row i zero = tt
        row i (suc n) = let (are, told) = number_told e bare i in (are, told, row (suc i) n)

    abbrev rows : List Change
    rows = number_rows set e l m

    pub numbers_start : rows ≡ changes_left set e l m 0
    numbers_start = ap₂ (row_changes set e 0) (whole_rest set e l) (whole_rest set e m)

    module _ (i : ℕ) (inside : i < list_length (list_of l)) (v w : DynamicValue) (at_v : value_seen v ≡ element_at set e l i) (at_w : value_seen w ≡ element_at set e m i) where
      by_leaf : (q : Bool) → q ≡ same_leaf (value_seen v) (value_seen w) →
          changes_left set e l m i ≡ unless_same q (whole_change (step_seen (step.Element i)) e (element_at set e m i)) ++ changes_left set e l m (i + 1)
      by_leaf q is =
          changes_first set e l m i inside same
          ∙ ap (λ (cs : List Change). cs ++ changes_left set e l m (i + 1))
          (number_changes e bare i
          ∙ ap (λ (x : Bool). unless_same x (whole_change (step_seen (step.Element i)) e (element_at set e m i))) (ap₂ same_leaf (sym at_v) (sym at_w) ∙ sym is))

      pub numbers_next : rows ≡ changes_left set e l m i → true ≡ same_leaf (value_seen v) (value_seen w) → rows ≡ changes_left set e l m (i + 1)
      numbers_next before is = before ∙ by_leaf true is

      pub numbers_differ : rows ≡ changes_left set e l m i → false ≡ same_leaf (value_seen v) (value_seen w) → rows ≡ [] → ⊥
      numbers_differ before is none = some_none (sym (before ∙ by_leaf false is) ∙ none)
        where
          some_none : {A : Type 0} {x : A} {xs : List A} → (x ∷ xs) ≡ [] → ⊥
          some_none e = cc

    pub numbers_end : (i : ℕ) → i ≡ list_length (list_of m) → rows ≡ changes_left set e l m i → rows ≡ []
    numbers_end i at before = before ∙ ap₂ (row_changes set e i) (no_rest set e l i (at ∙ sym same)) (no_rest set e m i at)
