-- What is read under a field or at an index is printed as the definition has it.
use Rattle.std.specs.Prelude.{ℕ, zero, suc, ◌≡◌, refl, Bool, length, Option, Some, None, Err}
use Rattle.std.proofs.Common.{ap, sym, subst, ◌∙◌}
use Rattle.std.specs.Option.{unwrap_or}
use Rattle.capnp_device.specs.declared.error.ErrorKind.{ErrorKind}
use Rattle.capnp_wire.specs.Standing.{struct_levels, struct_of}
use Rattle.capnp_wire.specs.Tree.{StructTree}
use Rattle.capnp_schema.specs.Accepted.{GroupFits, IsAccepted}
use Rattle.capnp_schema.specs.Facts.Fields.{brand_there}
use Rattle.capnp_schema.specs.FieldLists.{IsFieldOf, index_of}
use Rattle.capnp_schema.specs.Schema.{FieldKind, Group, Schemas, Slot, kind_default, kind_target, Value as SchemaValue}
use Rattle.capnp_schema.specs.StructHandles.{IsStruct, number_of, set_of}
use Rattle.capnp_schema.specs.declared.schema.fields.Field.{Field}
use Rattle.capnp_schema.specs.declared.schema.structs.StructSchema.{StructSchema}
use Rattle.capnp_schema.specs.Types.{SchemaType, StructType, struct_brand, struct_number}
use Rattle.capnp_records.specs.Facts.Groups.{part_of_group}
use Rattle.capnp_records.specs.Default.{read_of}
use Rattle.capnp_records.specs.Reading.{kind_value, record_of, record_within, slot_value, struct_record, values_of}
use Rattle.capnp_records.specs.Record as value
use Rattle.capnp_records.specs.Record.{Left, Levels, Record, Value}
use Rattle.capnp_records.specs.Text.{Layout}
use Rattle.capnp_float_texts.specs.Texts.{Inner, part_text, record_text, text_within, value_text}
use Rattle.capnp_json_fields.specs.Marks.{is_float}
use Rattle.capnp_dynamic_readers.specs.Facts.PartsShown.{IsNoGroup, group_named, no_group_slot, some_none, under_of}
use Rattle.capnp_dynamic_readers.specs.Handles.{list_set, reader_of, schema_of}
use Rattle.capnp_dynamic_readers.specs.Steps.PartsRead.{fault_at, field_in}
use Rattle.capnp_dynamic_readers.specs.Reads.{field_seen, handed_out}
use Rattle.capnp_dynamic_readers.specs.Seen.{record_seen, value_seen}
use Rattle.capnp_dynamic_readers.specs.Shown.{no_schemas, set_seen}
use Rattle.capnp_float_texts.specs.Steps.Shown.{field_shown, record_shown, value_shown}
use Rattle.capnp_dynamic_readers.specs.Typed.{IsOf, IsValueUnder}
use Rattle.capnp_dynamic_readers.specs.declared.dynamic_struct.Reader.{Reader as StructHandle}
use Rattle.capnp_dynamic_readers.specs.declared.dynamic_value.Reader.{Reader as DynamicValue}
use Rattle.capnp_dynamic_readers.specs.declared.dynamic_value.Reader.TheVariants as dynamic

-- ---- values under types ----

-- a value that needs no set, under any two
any_set : (set other : Schemas) (floats : Bool) (left : ℕ) (at : Layout) (own t : SchemaType) (v : Value) → own ≡ t →
    ((inner further : Option Inner) → value_text set inner floats at own v ≡ value_text other further floats at own v) → text_within set left floats at t v ≡ text_within other left floats at own v
any_set set other floats left at own t v e h = subst (λ (z : SchemaType). text_within set left floats at z v ≡ text_within other left floats at own v) e (go left)
  where
    go : (left : ℕ) → text_within set left floats at own v ≡ text_within other left floats at own v
    go zero = h None None
    go (suc n) = h (Some (text_within set n)) (Some (text_within other n))

struct_under : (set : Schemas) (floats : Bool) (left : ℕ) (at : Layout) (t : SchemaType) (b g : ℕ) (r : Record) → struct_brand t ≡ Some b → text_within set left floats at t (value.Struct r) ≡ text_within set left floats at (StructType b g) (value.Struct r)
struct_under set floats zero at t b g r e = refl
struct_under set floats (suc n) at t b g r e = ap (λ m. record_text set (text_within set n) at m r) (ap (λ o. unwrap_or o 0) e)

-- a value is printed as it stands under its type
pub text_under : (set : Schemas) (t : SchemaType) (floats : Bool) (left : ℕ) (at : Layout) (v : DynamicValue) → IsValueUnder set t v → text_within set left floats at t (value_seen v) ≡ value_shown floats left at v
text_under set t floats left at dynamic.Void e = any_set set no_schemas floats left at _ t _ e (λ inner further. refl)
text_under set t floats left at (dynamic.Bool b) e = any_set set no_schemas floats left at _ t _ e (λ inner further. refl)
text_under set t floats left at (dynamic.Int8 x) e = any_set set no_schemas floats left at _ t _ e (λ inner further. refl)
text_under set t floats left at (dynamic.Int16 x) e = any_set set no_schemas floats left at _ t _ e (λ inner further. refl)
text_under set t floats left at (dynamic.Int32 x) e = any_set set no_schemas floats left at _ t _ e (λ inner further. refl)
text_under set t floats left at (dynamic.Int64 x) e = any_set set no_schemas floats left at _ t _ e (λ inner further. refl)
text_under set t floats left at (dynamic.UInt8 x) e = any_set set no_schemas floats left at _ t _ e (λ inner further. refl)
text_under set t floats left at (dynamic.UInt16 x) e = any_set set no_schemas floats left at _ t _ e (λ inner further. refl)
text_under set t floats left at (dynamic.UInt32 x) e = any_set set no_schemas floats left at _ t _ e (λ inner further. refl)
text_under set t floats left at (dynamic.UInt64 x) e = any_set set no_schemas floats left at _ t _ e (λ inner further. refl)
text_under set t floats left at (dynamic.Text text) e = any_set set no_schemas floats left at _ t _ e (λ inner further. refl)
text_under set t floats left at (dynamic.«Data» bytes) e = any_set set no_schemas floats left at _ t _ e (λ inner further. refl)
text_under set t floats left at (dynamic.AnyPointer p) e = any_set set no_schemas floats left at _ t _ e (λ inner further. refl)
text_under set t floats left at (dynamic.Enum x) h =
    subst (λ (z : Schemas). text_within z left floats at t (value_seen (dynamic.Enum x)) ≡ value_shown floats left at (dynamic.Enum x)) h.0
    (subst (λ (z : SchemaType). text_within (set_seen (dynamic.Enum x)) left floats at z (value_seen (dynamic.Enum x)) ≡ value_shown floats left at (dynamic.Enum x)) h.1 refl)
text_under set t floats left at (dynamic.Struct s) h =
    subst (λ (z : Schemas). text_within z left floats at t (value.Struct (record_seen s)) ≡ value_shown floats left at (dynamic.Struct s)) h.0
    (struct_under (set_of (schema_of s)) floats left at t (number_of (schema_of s)) _ (record_seen s) h.1)
text_under set t floats left at (dynamic.List l) h =
    subst (λ (z : Schemas). text_within z left floats at t (value_seen (dynamic.List l)) ≡ value_shown floats left at (dynamic.List l)) h.0
    (subst (λ (z : SchemaType). text_within (list_set l) left floats at z (value_seen (dynamic.List l)) ≡ value_shown floats left at (dynamic.List l)) h.1 refl)

pub fault_text : (set : Schemas) (floats : Bool) (left : ℕ) (at : Layout) (t : SchemaType) (kind : ErrorKind) → text_within set left floats at t (value.Fault kind) ≡ Err (fault_at left t kind)
fault_text set floats zero at t kind = refl
fault_text set floats (suc n) at t kind = refl

-- ---- a slot has no group ----

no_group_text : (set : Schemas) (inner : Inner) (floats : Bool) (at : Layout) (d : SchemaValue) (t : SchemaType) (v : Value) → IsNoGroup v → part_text set inner floats at d t v ≡ inner floats at t (read_of set d t v)
no_group_text set inner floats at d t (value.Group r) h = absurd h
no_group_text set inner floats at d t value.Void h = refl
no_group_text set inner floats at d t (value.Truth b) h = refl
no_group_text set inner floats at d t (value.Number n) h = refl
no_group_text set inner floats at d t (value.Enum n) h = refl
no_group_text set inner floats at d t (value.Text bs) h = refl
no_group_text set inner floats at d t (value.Data bs) h = refl
no_group_text set inner floats at d t (value.Struct r) h = refl
no_group_text set inner floats at d t (value.Elements vs) h = refl
no_group_text set inner floats at d t (value.Untyped x) h = refl
no_group_text set inner floats at d t (value.Fault kind) h = refl
no_group_text set inner floats at d t (value.Missing l) h = refl
no_group_text set inner floats at d t value.Elsewhere h = refl

-- ---- what stands under a field ----

module _ (set : Schemas) (group : ℕ → Record) (l : Levels) (s : StructTree) where
  pub slot_shown : (floats : Bool) (left : ℕ) (at : Layout) (k : FieldKind) (t : SchemaType) (v : DynamicValue) → GroupFits set k t → kind_target k t ≡ None →
      value_seen v ≡ handed_out k (read_of set (kind_default k) t (kind_value group l s.bytes (values_of set s.pointers) k t)) → IsValueUnder set t v →
      part_text set (text_within set left) floats at (kind_default k) t (kind_value group l s.bytes (values_of set s.pointers) k t) ≡ value_shown floats left at v
  slot_shown floats left at (Slot o d) t v fits e is under =
      no_group_text set (text_within set left) floats at d t (slot_value l s.bytes (values_of set s.pointers) o d t) (no_group_slot set l s o d t)
      ∙ (ap (text_within set left floats at t) (sym is) ∙ text_under set t floats left at v under)
  slot_shown floats left at (Group n) (StructType b g) v fits e is under = absurd (some_none e)
  slot_shown floats left at (Group n) t v fits e is under = absurd fits

  pub refused_shown : (floats : Bool) (left : ℕ) (at : Layout) (k : FieldKind) (t : SchemaType) (kind : ErrorKind) →
      value.Fault kind ≡ handed_out k (read_of set (kind_default k) t (kind_value group l s.bytes (values_of set s.pointers) k t)) →
      part_text set (text_within set left) floats at (kind_default k) t (kind_value group l s.bytes (values_of set s.pointers) k t) ≡ Err (fault_at left t kind)
  refused_shown floats left at (Slot o d) t kind is =
      no_group_text set (text_within set left) floats at d t (slot_value l s.bytes (values_of set s.pointers) o d t) (no_group_slot set l s o d t)
      ∙ (ap (text_within set left floats at t) (sym is) ∙ fault_text set floats left at t kind)
  refused_shown floats left at (Group n) t kind is = absurd (fault_struct is)
    where
      fault_struct : {kind : ErrorKind} {r : Record} → value.Fault kind ≡ value.Struct r → ⊥
      fault_struct e = cc

-- the text of a group's field is that of its record
group_text : (set : Schemas) (l : Levels) (s : StructTree) (floats : Bool) (left : ℕ) (at : Layout) (g : ℕ) (k : FieldKind) (t : SchemaType) → kind_target k t ≡ Some g →
    kind_value (record_within (length set.brands) set l s.bytes (values_of set s.pointers)) l s.bytes (values_of set s.pointers) k t ≡ value.Group (record_of set l s.bytes (values_of set s.pointers) g) →
    part_text set (text_within set left) floats at (kind_default k) t (kind_value (record_within (length set.brands) set l s.bytes (values_of set s.pointers)) l s.bytes (values_of set s.pointers) k t)
    ≡ record_text set (text_within set left) at g (record_of set l s.bytes (values_of set s.pointers) g)
group_text set l s floats left at g k t e is =
    ap (part_text set (text_within set left) floats at (kind_default k) t) is
    ∙ ap (λ n. record_text set (text_within set left) at n (record_of set l s.bytes (values_of set s.pointers) g)) (number k t e)
  where
    number : (k : FieldKind) (t : SchemaType) → kind_target k t ≡ Some g → struct_number t ≡ g
    number (Slot o d) t e = cc
    number (Group m) t e = ap (λ o. unwrap_or o 0) e

module _ (r : StructHandle) (f : Field) (field : IsFieldOf (schema_of r) (index_of f) f) where
  pub part_refused : (kind : ErrorKind) → value.Fault kind ≡ field_seen r (index_of f) → (left : ℕ) (at : Layout) → field_shown left at r (field_in r f) ≡ Err (fault_at left (field_in r f).type kind)
  part_refused kind is left at =
      refused_shown (set_of (schema_of r)) (record_within (length (set_of (schema_of r)).brands) (set_of (schema_of r)) (Left (struct_levels (reader_of r))) (struct_of (reader_of r)).bytes (values_of (set_of (schema_of r)) (struct_of (reader_of r)).pointers)) (Left (struct_levels (reader_of r))) (struct_of (reader_of r)) (is_float (field_in r f)) left at
      (field_in r f).field.kind (field_in r f).type kind is

  pub part_value : IsStruct (schema_of r) → (v : DynamicValue) → value_seen v ≡ field_seen r (index_of f) → IsOf (set_of (schema_of r)) (field_in r f).type v →
      None ≡ kind_target (field_in r f).field.kind (field_in r f).type → (left : ℕ) (at : Layout) → field_shown left at r (field_in r f) ≡ value_shown (is_float (field_in r f)) left at v
  part_value stands v is typed none left at =
      slot_shown (set_of (schema_of r)) (record_within (length (set_of (schema_of r)).brands) (set_of (schema_of r)) (Left (struct_levels (reader_of r))) (struct_of (reader_of r)).bytes (values_of (set_of (schema_of r)) (struct_of (reader_of r)).pointers)) (Left (struct_levels (reader_of r))) (struct_of (reader_of r)) (is_float (field_in r f)) left at
      (field_in r f).field.kind (field_in r f).type v (stands.accepted.rule7 (number_of (schema_of r)) (index_of f) stands.number field.inside) (sym none) is (under_of (set_of (schema_of r)) (field_in r f).type v typed)

  -- a group is printed as the same struct under the group's schema
  pub part_group : IsAccepted (set_of (schema_of r)) → (g : StructSchema) → Some (number_of g) ≡ kind_target (field_in r f).field.kind (field_in r f).type → set_of g ≡ set_of (schema_of r) →
      (left : ℕ) (at : Layout) → field_shown left at r (field_in r f) ≡ record_shown left at (record { reader = reader_of r; schema = g })
  part_group accepted g some same left at =
      group_text (set_of (schema_of r)) (Left (struct_levels (reader_of r))) (struct_of (reader_of r)) (is_float (field_in r f)) left at (number_of g)
      (field_in r f).field.kind (field_in r f).type (sym some)
      (part_of_group (set_of (schema_of r)) accepted (Left (struct_levels (reader_of r))) (struct_of (reader_of r)).bytes (values_of (set_of (schema_of r)) (struct_of (reader_of r)).pointers) (number_of (schema_of r)) (index_of f) (number_of g) (brand_there (set_of (schema_of r)) (number_of (schema_of r)) (index_of f) field.inside) field.inside
      (group_named (field_in r f).field.kind (field_in r f).type (number_of g) (sym some)))
      ∙ ap (λ (z : Schemas). record_text z (text_within z left) at (number_of g) (struct_record z (Left (struct_levels (reader_of r))) (struct_of (reader_of r)) (number_of g))) (sym same)
