-- Where a step leads, by what its tests and its read found.
use Rattle.std.proofs.Common.{ℕ, ◌<◌, ◌≤◌, nat_lt, Bool, true, false, not, length, ◌≡◌, refl, ap, sym, subst, arith, ◌∙◌, Result, Ok, Err, IfOk}
use Rattle.std.proofs.lemmas.Bool.{true≢false}
use Rattle.capnp_device.specs.declared.error.Error.{Error}
use Rattle.capnp_device.specs.declared.error.ErrorKind.{ErrorKind}
use Rattle.capnp_device.specs.declared.error.ErrorKind.TheVariants.{NoSuchElement}
use Rattle.capnp_wire.specs.Reading.{list_length}
use Rattle.capnp_wire.specs.Standing.{list_levels, list_of, struct_levels, struct_of}
use Rattle.capnp_wire.specs.Tree.{StructTree}
use Rattle.capnp_schema.specs.Schema.{FieldKind, Group, Schemas, Slot, TypedField, VoidValue, field_at, fields_of}
use Rattle.capnp_schema.specs.FieldLists.{IsFieldOf, index_of, typed_of}
use Rattle.capnp_schema.specs.StructHandles.{number_of, set_of, struct_field, struct_fields}
use Rattle.capnp_schema.specs.Types.{SchemaType}
use Rattle.capnp_schema.specs.declared.schema.fields.Field.{Field}
use Rattle.capnp_schema.specs.declared.schema.structs.StructSchema.{StructSchema}
use Rattle.capnp_records.specs.Call.{ElementAt, PathStep}
use Rattle.capnp_records.specs.Default.{read_field, read_of}
use Rattle.capnp_records.specs.Facts.Frame.{chosen_first, second_of}
use Rattle.capnp_records.specs.Facts.ListValues.{below_of, count_values_from, nth_values_from}
use Rattle.capnp_records.specs.Part.{is_inactive, part_at, value_count}
use Rattle.capnp_records.specs.Reading.{element_value, struct_record}
use Rattle.capnp_records.specs.Record as value
use Rattle.capnp_records.specs.Record.{Left, Levels, Record, Value, values_from}
use Rattle.capnp_records.specs.Step.{Found, StepTarget, element_target, field_target, in_list, in_record, is_group_field}
use Rattle.capnp_dynamic_readers.specs.Handles.{element_of, list_reader_of, list_set, reader_of, schema_of}
use Rattle.capnp_dynamic_readers.specs.Reads.{element_seen, field_read, field_seen, handed_out}
use Rattle.capnp_dynamic_readers.specs.Seen.{answered_value, record_seen}
use Rattle.capnp_dynamic_readers.specs.Typed.{IsOf}
use Rattle.capnp_dynamic_readers.specs.declared.dynamic_list.Reader.{Reader as ListHandle}
use Rattle.capnp_dynamic_readers.specs.declared.dynamic_struct.Reader.{Reader as StructHandle}
use Rattle.capnp_dynamic_readers.specs.declared.dynamic_value.Reader.{Reader as DynamicValue}
use Rattle.capnp_dynamic_readers.specs.declared.dynamic_value.Reader.TheVariants.{List as ListOf, Struct as StructOf}
use Rattle.capnp_patch.specs.Gets.{handed_value, value_part_seen, reached_value, seen_read, step_read, target_read, tested_step, tested_found, tested_type}
use Rattle.capnp_patch.proofs.Parts.{part_is}
use Rattle.capnp_patch.proofs.Reached.{read_reached}

-- one that isn't an inactive member, by the test of its type
is_tested : (set : Schemas) (is_last : Bool) (x : StepTarget) → x.inactive ≡ false → target_read set (tested_step is_last x) ≡ target_read set (tested_type is_last x x.type)
is_tested set is_last x e = ap (target_read set) (second_of x.inactive _ _ e)

-- a group is handed out as a struct
handed_is : (k : FieldKind) (v : Value) → handed_value (is_group_field k) v ≡ handed_out k v
handed_is (Slot offset d) v = refl
handed_is (Group node) v = refl

false_not : (q : Bool) → true ≡ not q → q ≡ false
false_not true e = absurd (true≢false e)
false_not false e = refl

-- ---- a field ----

module _ (set : Schemas) (l : Levels) (s : StructTree) (b i : ℕ) (is_last : Bool) where
  abbrev r : Record
  r = struct_record set l s b

  abbrev f : TypedField
  f = field_at set b i

  abbrev x : StepTarget
  x = field_target value.Struct r f i

  -- what is read of it, where it isn't an inactive member
  pub field_reached : i < length (fields_of set b) → is_inactive r f.field i ≡ false → (res : Result DynamicValue Error) → IfOk res (IsOf set f.type) → answered_value res ≡ field_read set l s f →
      seen_read res ≡ target_read set (Ok x)
  field_reached inside active res typed is =
      read_reached set f.type res typed
      ∙ (ap (reached_value f.type) is
      ∙ (ap (λ (v : Value). reached_value f.type (handed_out f.field.kind (read_field set f v))) (sym (part_is set l s b i inside active))
      ∙ ap (reached_value f.type) (sym (handed_is f.field.kind (read_field set f (part_at r f.field i))))))

-- ---- an element ----

module _ (set : Schemas) (e : SchemaType) (g : ℕ → Value) (n i : ℕ) where
  -- past the end
  pub no_element : n ≤ i → in_list e (values_from g 0 n) (ElementAt i) ≡ Err NoSuchElement
  no_element past = second_of (nat_lt i (value_count (values_from g 0 n))) _ _ (ap (nat_lt i) (count_values_from g 0 n) ∙ not_below n i past)
    where
      not_below : (n i : ℕ) → n ≤ i → nat_lt i n ≡ false
      not_below n i past = grind (arith, past)

  -- inside
  pub an_element : i < n → in_list e (values_from g 0 n) (ElementAt i) ≡ Ok (element_target e (values_from g 0 n) i)
  an_element inside = chosen_first (nat_lt i (value_count (values_from g 0 n))) _ _ (ap (nat_lt i) (count_values_from g 0 n) ∙ below n i inside)
    where
      below : (n i : ℕ) → i < n → nat_lt i n ≡ true
      below n i inside = grind (arith, inside)

  pub element_reached : i < n → (res : Result DynamicValue Error) → IfOk res (IsOf set e) → answered_value res ≡ read_of set VoidValue e (g i) →
      seen_read res ≡ target_read set (Ok (element_target e (values_from g 0 n) i))
  element_reached inside res typed is =
      read_reached set e res typed
      ∙ (ap (reached_value e) is
      ∙ ap (λ (v : Value). reached_value e (read_of set VoidValue e v)) (sym (nth_values_from g 0 n i inside ∙ ap g (omega arith))))

-- ---- steps of handles ----

module _ (reader : StructHandle) (step : PathStep) (is_last : Bool) (schema : StructSchema) (h : Field) where
  abbrev seen : Record
  seen = record_seen reader

  abbrev named : StepTarget
  named = field_target value.Struct seen (typed_of h) (index_of h)

  abbrev IsNamed : Type 0
  IsNamed = Ok named ≡ in_record (set_of schema) value.Struct seen (number_of schema) step

  -- a step names a field that is active, by a test
  pub record NamesActive (q : Bool) : Type 0 where
    -- the schema is the reader's, and the step names this field of it
    pub same : schema ≡ schema_of reader
    pub named_by : IsNamed
    pub field : IsFieldOf schema (index_of h) h
    -- the test of whether it is active says so
    pub tested : q ≡ not (is_inactive seen (struct_field (schema_of reader) (index_of h)).field (index_of h))
    pub active : q ≡ true

  -- what a step that names an active field leads to, by the test of its type
  field_found : (q : Bool) → NamesActive q →
      step_read (set_of (schema_of reader)) is_last (value_part_seen (StructOf reader)) step ≡ target_read (set_of (schema_of reader)) (tested_type is_last named (typed_of h).type)
  field_found q names =
      ap (λ (y : Found). target_read (set_of (schema_of reader)) (tested_found is_last y)) (ap (λ (s : StructSchema). in_record (set_of s) value.Struct seen (number_of s) step) (sym names.same) ∙ sym names.named_by)
      ∙ is_tested (set_of (schema_of reader)) is_last named
      (ap (λ (s : StructSchema). is_inactive seen (struct_field s (index_of h)).field (index_of h)) (names.field.schema ∙ names.same) ∙ false_not _ (sym names.active ∙ names.tested))

  pub field_refused : (q : Bool) → NamesActive q →
      (t : SchemaType) → t ≡ (typed_of h).type → (kind : ErrorKind) → Err kind ≡ tested_type is_last named t →
      Err kind ≡ step_read (set_of (schema_of reader)) is_last (value_part_seen (StructOf reader)) step
  field_refused q names t type kind test =
      sym (field_found q names ∙ ap (target_read (set_of (schema_of reader))) (ap (tested_type is_last named) (sym type) ∙ sym test))

  pub field_read_there : (q : Bool) → NamesActive q →
      (t : SchemaType) → t ≡ (typed_of h).type → Ok named ≡ tested_type is_last named t →
      (res : Result DynamicValue Error) → IfOk res (IsOf (set_of (schema_of reader)) (struct_field (schema_of reader) (index_of h)).type) → answered_value res ≡ field_seen reader (index_of h) →
      seen_read res ≡ step_read (set_of (schema_of reader)) is_last (value_part_seen (StructOf reader)) step
  field_read_there q names t type test res typed found =
      field_reached (set_of (schema_of reader)) (Left (struct_levels (reader_of reader))) (struct_of (reader_of reader)) (number_of (schema_of reader)) (index_of h) is_last
      (subst (λ (s : StructSchema). index_of h < length (struct_fields s)) names.same names.field.inside) (false_not _ (sym names.active ∙ names.tested)) res typed found
      ∙ (ap (λ (s : StructSchema). target_read (set_of (schema_of reader)) (Ok (field_target value.Struct seen (struct_field s (index_of h)) (index_of h)))) (sym (names.field.schema ∙ names.same))
      ∙ sym (field_found q names ∙ ap (target_read (set_of (schema_of reader))) (ap (tested_type is_last named) (sym type) ∙ sym test)))

module _ (l : ListHandle) (i : ℕ) (is_last : Bool) where
  abbrev element_at : ℕ → Value
  element_at = element_value (list_set l) (list_of (list_reader_of l)) (below_of (list_set l) (list_of (list_reader_of l))) (Left (list_levels (list_reader_of l))) (element_of l)

  abbrev element_named : StepTarget
  element_named = element_target (element_of l) (values_from element_at 0 (list_length (list_of (list_reader_of l)))) i

  pub element_past : list_length (list_of (list_reader_of l)) ≤ i → Err NoSuchElement ≡ step_read (list_set l) is_last (value_part_seen (ListOf l)) (ElementAt i)
  element_past past = sym (ap (λ (y : Found). target_read (list_set l) (tested_found is_last y)) (no_element (list_set l) (element_of l) element_at (list_length (list_of (list_reader_of l))) i past))

  element_found : i < list_length (list_of (list_reader_of l)) →
      step_read (list_set l) is_last (value_part_seen (ListOf l)) (ElementAt i) ≡ target_read (list_set l) (tested_type is_last element_named (element_of l))
  element_found inside = ap (λ (y : Found). target_read (list_set l) (tested_found is_last y)) (an_element (list_set l) (element_of l) element_at (list_length (list_of (list_reader_of l))) i inside)

  pub element_refused : i < list_length (list_of (list_reader_of l)) → (t : SchemaType) → t ≡ element_of l → (kind : ErrorKind) → Err kind ≡ tested_type is_last element_named t →
      Err kind ≡ step_read (list_set l) is_last (value_part_seen (ListOf l)) (ElementAt i)
  element_refused inside t type kind test = sym (element_found inside ∙ ap (target_read (list_set l)) (ap (tested_type is_last element_named) (sym type) ∙ sym test))

  pub element_read_there : i < list_length (list_of (list_reader_of l)) → (t : SchemaType) → t ≡ element_of l → Ok element_named ≡ tested_type is_last element_named t →
      (res : Result DynamicValue Error) → IfOk res (IsOf (list_set l) (element_of l)) → answered_value res ≡ element_seen l i →
      seen_read res ≡ step_read (list_set l) is_last (value_part_seen (ListOf l)) (ElementAt i)
  element_read_there inside t type test res typed found =
      element_reached (list_set l) (element_of l) element_at (list_length (list_of (list_reader_of l))) i inside res typed found
      ∙ sym (element_found inside ∙ ap (target_read (list_set l)) (ap (tested_type is_last element_named) (sym type) ∙ sym test))
