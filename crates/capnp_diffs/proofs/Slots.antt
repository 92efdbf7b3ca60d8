-- Slots of the data section: what is read there, compared and put.
use Rattle.std.specs.Prelude.{⊤, IsOk}
use Rattle.std.proofs.Common.{ℕ, ℤ, ◌<◌, ◌+◌, ◌≡◌, ◌∙◌, refl, [], ◌∷◌, List, length, Bool, true, false, not, ◌==◌, Some, None, Result, Ok, Err, IfOk, ap, ap₂, sym, subst}
use Rattle.std.proofs.lemmas.Bool.{eq-eqb, true≢false}
use Rattle.capnp_device.specs.declared.error.Error.{Error}
use Rattle.capnp_device.specs.declared.error.ErrorKind.{ErrorKind}
use Rattle.capnp_wire.specs.Standing.{struct_levels, struct_of}
use Rattle.capnp_wire.specs.declared.struct_reader.StructReader.{StructReader}
use Rattle.capnp_schema.specs.Accepted.{IsAccepted, IsGroupOf}
use Rattle.capnp_schema.specs.Facts.Groups.{group_fields_name_brands}
use Rattle.capnp_schema.specs.FieldLists.{IsFieldOf, field_schema, index_of, typed_of}
use Rattle.capnp_schema.specs.Schema.{FieldKind, Group, Schemas, Slot, TypedField, default_of, field_at, fields_of, Value as SchemaValue}
use Rattle.capnp_schema.specs.SlotValue.{slot_number}
use Rattle.capnp_schema.specs.StructHandles.{IsStruct, number_of, set_of, struct_field}
use Rattle.capnp_schema.specs.Types.{AnyPointerType, BoolType, DataType, EnumType, IntType, ListType, SchemaType, StructType, TextType, UIntType, VoidType, is_pointer, struct_brand, struct_number}
use Rattle.capnp_schema.specs.declared.schema.fields.Field.{Field}
use Rattle.capnp_schema.specs.declared.schema.structs.StructSchema.{StructSchema}
use Rattle.capnp_records.specs.Call.{FieldNumber}
use Rattle.capnp_records.specs.Default.{read_of}
use Rattle.capnp_records.specs.Facts.Frame.{second_of}
use Rattle.capnp_records.specs.Reading.{Reading, kind_value, nth_reading, number_value, record_within, values_of}
use Rattle.capnp_records.specs.Record as value
use Rattle.capnp_records.specs.Record.{Endless, Left, Levels, Record, Value}
use Rattle.capnp_dynamic_readers.specs.Handles.{reader_of, schema_of}
use Rattle.capnp_dynamic_readers.specs.Reads.{BelongsTo, field_read, field_seen, handed_out}
use Rattle.capnp_dynamic_readers.specs.Seen.{answered_value, value_seen}
use Rattle.capnp_dynamic_readers.specs.Typed.{IsOf}
use Rattle.capnp_dynamic_readers.specs.declared.dynamic_struct.Reader.{Reader as StructHandle}
use Rattle.capnp_dynamic_readers.specs.declared.dynamic_value.Reader.{Reader as DynamicValue}
use Rattle.capnp_dynamic_readers.specs.declared.dynamic_value.Reader.TheVariants as dynamic
use Rattle.capnp_call.specs.declared.calls.Op.TheVariants as op
use Rattle.capnp_call.specs.declared.calls.Step.{Step}
use Rattle.capnp_call.specs.declared.calls.Step.TheVariants as step
use Rattle.capnp_diffs.specs.Changes.{ByKind, CanStand, Goal, IsGroupTold, IsTold, OnlyIf, Puts, goal_of, same_leaf, unless_same, value_changes, whole_change}
use Rattle.capnp_diffs.specs.Found.{IsReady, goal_seen, type_held, whole_seen}
use Rattle.capnp_diffs.specs.Steps.Adding.{Adds, IsPartFound, one_change, whole_part}
use Rattle.capnp_diffs.specs.Steps.Leaves.{AreAlike}
use Rattle.capnp_diffs.specs.declared.change.Change.{Change as FoundChange}
use Rattle.capnp_diffs.proofs.Added.{other_added, same_added}

-- ---- kinds of fields ----

none_some : {g : ℕ} → None ≡ Some g → ⊥
none_some e = cc

-- values that stand behind no pointer are of no group
no_brand : (t : SchemaType) (g : ℕ) → is_pointer t ≡ false → struct_brand t ≡ Some g → ⊥
no_brand VoidType g h e = none_some e
no_brand BoolType g h e = none_some e
no_brand (IntType k) g h e = none_some e
no_brand (UIntType k) g h e = none_some e
no_brand (EnumType n) g h e = none_some e
no_brand TextType g h e = true≢false h
no_brand DataType g h e = true≢false h
no_brand (StructType b n) g h e = true≢false h
no_brand (ListType t) g h e = true≢false h
no_brand AnyPointerType g h e = true≢false h

abbrev pub IsNoGroup : FieldKind → Type 0
IsNoGroup k = (node : ℕ) → k ≡ Group node → ⊥

pub number_slot : (set : Schemas) → IsAccepted set → (b i : ℕ) → b < length set.brands → i < length (fields_of set b) → is_pointer (field_at set b i).type ≡ false → IsNoGroup (field_at set b i).field.kind
number_slot set accepted b i b_in i_in number node e =
    no_brand (field_at set b i).type (struct_number (field_at set b i).type) number
    (subst (λ k. IsGroupOf k (field_at set b i).type (struct_number (field_at set b i).type)) e (group_fields_name_brands set accepted b i node b_in i_in e))

pub by_slot : (k : FieldKind) (P Q : Type 0) → IsNoGroup k → P → ByKind k P Q
by_slot (Slot offset d) P Q none p = p
by_slot (Group node) P Q none p = absurd (none node refl)

-- ---- the number of a slot ----

number_read : (set : Schemas) (d : SchemaValue) (t : SchemaType) (n : ℕ) → read_of set d t (number_value t n) ≡ number_value t n
number_read set d VoidType n = refl
number_read set d BoolType n = refl
number_read set d (IntType k) n = refl
number_read set d (UIntType k) n = refl
number_read set d (EnumType e) n = refl
number_read set d TextType n = refl
number_read set d DataType n = refl
number_read set d (StructType b g) n = refl
number_read set d (ListType t) n = refl
number_read set d AnyPointerType n = refl

-- a slot of numbers has its number, whatever levels are left
pub record HasNumber (t : SchemaType) (v : Value) : Type 0 where
  pub number : ℕ
  pub is : v ≡ number_value t number

module _ (group : Levels → ℕ → Record) (bytes : List ℕ) (pointers : List Reading) where
  has_number : (k : FieldKind) (t : SchemaType) → is_pointer t ≡ false → IsNoGroup k → HasNumber t (kind_value (group Endless) Endless bytes pointers k t)
  has_number (Slot o d) t h none = record { number = slot_number bytes o d t; is = second_of (is_pointer t) (nth_reading pointers o Endless t) (number_value t (slot_number bytes o d t)) h }
  has_number (Group node) t h none = absurd (none node refl)

  number_handed : (set : Schemas) (l : Levels) (d : SchemaValue) (k : FieldKind) (t : SchemaType) → is_pointer t ≡ false → IsNoGroup k →
      handed_out k (read_of set d t (kind_value (group l) l bytes pointers k t)) ≡ kind_value (group Endless) Endless bytes pointers k t
  number_handed set l d (Slot o dv) t h none =
      ap (read_of set d t) (second_of (is_pointer t) (nth_reading pointers o l t) (number_value t (slot_number bytes o dv t)) h)
      ∙ (number_read set d t (slot_number bytes o dv t)
      ∙ sym (second_of (is_pointer t) (nth_reading pointers o Endless t) (number_value t (slot_number bytes o dv t)) h))
  number_handed set l d (Group node) t h none = absurd (none node refl)

abbrev within : Schemas → StructReader → Levels → ℕ → Record
within set r l b = record_within (length set.brands) set l (struct_of r).bytes (values_of set (struct_of r).pointers) b

data_seen : (set : Schemas) (r : StructReader) (l : ℕ) (f : TypedField) → is_pointer f.type ≡ false → IsNoGroup f.field.kind → field_read set (Left l) (struct_of r) f ≡ whole_part set r f
unfolding whole_part
data_seen set r l f number none = number_handed (within set r) (struct_of r).bytes (values_of set (struct_of r).pointers) set (Left l) (default_of f.field) f.field.kind f.type number none

part_number : (set : Schemas) (r : StructReader) (f : TypedField) → is_pointer f.type ≡ false → IsNoGroup f.field.kind → HasNumber f.type (whole_part set r f)
unfolding whole_part
part_number set r f number none = has_number (within set r) (struct_of r).bytes (values_of set (struct_of r).pointers) f.field.kind f.type number none

-- ---- reads ----

answered : (answer : Result DynamicValue Error) (w : Value) → answered_value answer ≡ w → IfOk answer (λ v. value_seen v ≡ w)
answered (Ok v) w e = e
answered (Err x) w e = tt {0}

fault_void : {k : ErrorKind} → value.Fault k ≡ value.Void → ⊥
fault_void e = cc

pub fault_truth : {k : ErrorKind} {b : Bool} → value.Fault k ≡ value.Truth b → ⊥
fault_truth e = cc

fault_number : {k : ErrorKind} {x : ℤ} → value.Fault k ≡ value.Number x → ⊥
fault_number e = cc

fault_enum : {k : ErrorKind} {n : ℕ} → value.Fault k ≡ value.Enum n → ⊥
fault_enum e = cc

-- a number is no fault
pub never_number : (t : SchemaType) (n : ℕ) (k : ErrorKind) → value.Fault k ≡ number_value t n → ⊥
never_number VoidType n k e = fault_void e
never_number BoolType n k e = fault_truth e
never_number (IntType bytes) n k e = fault_number e
never_number (UIntType bytes) n k e = fault_number e
never_number (EnumType number) n k e = fault_enum e
never_number TextType n k e = fault_void e
never_number DataType n k e = fault_void e
never_number (StructType b g) n k e = fault_void e
never_number (ListType t) n k e = fault_void e
never_number AnyPointerType n k e = fault_void e

number_answers : (t : SchemaType) (n : ℕ) (answer : Result DynamicValue Error) → answered_value answer ≡ number_value t n → IsOk answer
number_answers t n (Ok v) e = refl
number_answers t n (Err x) e = absurd (never_number t n x.kind e)

module _ (f : Field) (h : StructHandle) (r : StructReader) (s : StructSchema) (is_here : s ≡ field_schema f) (stands : IsStruct s) (here : IsFieldOf s (index_of f) f) (is_schema : schema_of h ≡ s) where
  stands_here : IsStruct (field_schema f)
  stands_here = subst IsStruct is_here stands

  inside_here : index_of f < length (fields_of (set_of (field_schema f)) (number_of (field_schema f)))
  inside_here = subst (λ (z : StructSchema). index_of f < length (fields_of (set_of z) (number_of z))) is_here here.inside

  slot_kind : is_pointer (typed_of f).type ≡ false → IsNoGroup (typed_of f).field.kind
  slot_kind number = number_slot (set_of (field_schema f)) stands_here.accepted (number_of (field_schema f)) (index_of f) stands_here.number inside_here number

  slot_seen : reader_of h ≡ r → is_pointer (typed_of f).type ≡ false → field_seen h (index_of f) ≡ whole_part (set_of (field_schema f)) r (typed_of f)
  slot_seen is_reader number =
      ap₂ (λ (z : StructSchema) (x : StructReader). field_read (set_of z) (Left (struct_levels x)) (struct_of x) (struct_field z (index_of f))) (is_schema ∙ is_here) is_reader
      ∙ data_seen (set_of (field_schema f)) r (struct_levels r) (typed_of f) number (slot_kind number)

  pub slot_read : reader_of h ≡ r → is_pointer (typed_of f).type ≡ false → (answer : Result DynamicValue Error) → answered_value answer ≡ field_seen h (index_of f) →
      IfOk answer (λ v. value_seen v ≡ whole_part (set_of (field_schema f)) r (typed_of f))
  slot_read is_reader number answer is = answered answer (whole_part (set_of (field_schema f)) r (typed_of f)) (is ∙ slot_seen is_reader number)

  -- the read of a number is answered
  pub slot_answers : reader_of h ≡ r → is_pointer (typed_of f).type ≡ false → (answer : Result DynamicValue Error) → answered_value answer ≡ field_seen h (index_of f) → IsOk answer
  slot_answers is_reader number answer is =
      let has = part_number (set_of (field_schema f)) r (typed_of f) number (slot_kind number) in
      number_answers (typed_of f).type has.number answer (is ∙ (slot_seen is_reader number ∙ has.is))

  pub slot_typed : (answer : Result DynamicValue Error) → IfOk answer (IsOf (set_of (schema_of h)) (struct_field (schema_of h) (index_of f)).type) →
      IfOk answer (IsOf (set_of (field_schema f)) (typed_of f).type)
  slot_typed answer typed = subst (λ (z : StructSchema). IfOk answer (IsOf (set_of z) (struct_field z (index_of f)).type)) (is_schema ∙ is_here) typed

-- ---- values of one type ----

abbrev type_tag : SchemaType → ℕ
type_tag VoidType = 0
type_tag BoolType = 1
type_tag (EnumType n) = 2
type_tag TextType = 3
type_tag DataType = 4
type_tag (StructType b g) = 5
type_tag (ListType t) = 6
type_tag AnyPointerType = 7
type_tag (IntType k) = 10 + k
type_tag (UIntType k) = 20 + k

-- the type of a value that is of a type
held_is : (set : Schemas) (t : SchemaType) (v : DynamicValue) → IsOf set t v → type_held v ≡ t
held_is set t dynamic.Void is = is
held_is set t (dynamic.Bool b) is = is
held_is set t (dynamic.Int8 x) is = is
held_is set t (dynamic.Int16 x) is = is
held_is set t (dynamic.Int32 x) is = is
held_is set t (dynamic.Int64 x) is = is
held_is set t (dynamic.UInt8 x) is = is
held_is set t (dynamic.UInt16 x) is = is
held_is set t (dynamic.UInt32 x) is = is
held_is set t (dynamic.UInt64 x) is = is
held_is set t (dynamic.Enum e) is = is.2
held_is set t (dynamic.Text text) is = is
held_is set t (dynamic.«Data» bytes) is = is
held_is set t (dynamic.Struct s) is = is.2
held_is set t (dynamic.List l) is = is.1
held_is set t (dynamic.AnyPointer p) is = is

tags_alike : (v w : DynamicValue) → is_pointer (type_held v) ≡ false → (type_tag (type_held v) == type_tag (type_held w)) ≡ true → AreAlike v w
tags_alike dynamic.Void dynamic.Void h e = tt
tags_alike (dynamic.Bool a) (dynamic.Bool b) h e = tt
tags_alike (dynamic.Int8 x) (dynamic.Int8 y) h e = tt
tags_alike (dynamic.Int16 x) (dynamic.Int16 y) h e = tt
tags_alike (dynamic.Int32 x) (dynamic.Int32 y) h e = tt
tags_alike (dynamic.Int64 x) (dynamic.Int64 y) h e = tt
tags_alike (dynamic.UInt8 x) (dynamic.UInt8 y) h e = tt
tags_alike (dynamic.UInt16 x) (dynamic.UInt16 y) h e = tt
tags_alike (dynamic.UInt32 x) (dynamic.UInt32 y) h e = tt
tags_alike (dynamic.UInt64 x) (dynamic.UInt64 y) h e = tt
tags_alike (dynamic.Enum x) (dynamic.Enum y) h e = tt
tags_alike (dynamic.Text x) w h e = absurd (true≢false h)
tags_alike (dynamic.«Data» x) w h e = absurd (true≢false h)
tags_alike (dynamic.Struct x) w h e = absurd (true≢false h)
tags_alike (dynamic.List x) w h e = absurd (true≢false h)
tags_alike (dynamic.AnyPointer x) w h e = absurd (true≢false h)
tags_alike v w h e = absurd (true≢false (sym e))

pub alike : (set : Schemas) (t : SchemaType) (v w : DynamicValue) → is_pointer t ≡ false → IsOf set t v → IsOf set t w → AreAlike v w
alike set t v w number of_v of_w =
    tags_alike v w (ap is_pointer (held_is set t v of_v) ∙ number) (eq-eqb (type_tag (type_held v)) (type_tag (type_held w)) (ap type_tag (held_is set t v of_v ∙ sym (held_is set t w of_w))))

-- a number is put as it stands
record PutsSeen (set : Schemas) (v : DynamicValue) : Type 0 where
  ready : IsReady set (op.Set v)
  seen : whole_seen v ≡ value_seen v

puts_seen : (set : Schemas) (v : DynamicValue) → is_pointer (type_held v) ≡ false → PutsSeen set v
puts_seen set dynamic.Void h = record { ready = refl; seen = refl }
puts_seen set (dynamic.Bool b) h = record { ready = refl; seen = refl }
puts_seen set (dynamic.Int8 x) h = record { ready = refl; seen = refl }
puts_seen set (dynamic.Int16 x) h = record { ready = refl; seen = refl }
puts_seen set (dynamic.Int32 x) h = record { ready = refl; seen = refl }
puts_seen set (dynamic.Int64 x) h = record { ready = refl; seen = refl }
puts_seen set (dynamic.UInt8 x) h = record { ready = refl; seen = refl }
puts_seen set (dynamic.UInt16 x) h = record { ready = refl; seen = refl }
puts_seen set (dynamic.UInt32 x) h = record { ready = refl; seen = refl }
puts_seen set (dynamic.UInt64 x) h = record { ready = refl; seen = refl }
puts_seen set (dynamic.Enum e) h = record { ready = refl; seen = refl }
puts_seen set (dynamic.Text x) h = absurd (true≢false h)
puts_seen set (dynamic.«Data» x) h = absurd (true≢false h)
puts_seen set (dynamic.Struct x) h = absurd (true≢false h)
puts_seen set (dynamic.List x) h = absurd (true≢false h)
puts_seen set (dynamic.AnyPointer x) h = absurd (true≢false h)

-- ---- the change of a slot ----

either_way : (q : Bool) → OnlyIf q ⊤
either_way true = tt
either_way false = tt

pub number_stands : (t : SchemaType) (n : ℕ) → CanStand t (number_value t n)
number_stands VoidType n = tt
number_stands BoolType n = tt
number_stands (IntType k) n = tt
number_stands (UIntType k) n = tt
number_stands (EnumType e) n = tt
number_stands TextType n = tt
number_stands DataType n = tt
number_stands (StructType b g) n = tt
number_stands (ListType t) n = tt
number_stands AnyPointerType n = tt

number_goal : (t : SchemaType) (n : ℕ) → goal_of t (number_value t n) ≡ Puts t (number_value t n)
number_goal VoidType n = refl
number_goal BoolType n = refl
number_goal (IntType k) n = refl
number_goal (UIntType k) n = refl
number_goal (EnumType e) n = refl
number_goal TextType n = refl
number_goal DataType n = refl
number_goal (StructType b g) n = refl
number_goal (ListType t) n = refl
number_goal AnyPointerType n = refl

module _ (set : Schemas) (i : ℕ) where
  number_changes : (t : SchemaType) (m n : ℕ) → is_pointer t ≡ false →
      value_changes set (FieldNumber i) t (number_value t m) (number_value t n) ≡ unless_same (same_leaf (number_value t m) (number_value t n)) (whole_change (FieldNumber i) t (number_value t n))
  number_changes VoidType m n h = refl
  number_changes BoolType m n h = refl
  number_changes (IntType k) m n h = refl
  number_changes (UIntType k) m n h = refl
  number_changes (EnumType e) m n h = refl
  number_changes TextType m n h = absurd (true≢false h)
  number_changes DataType m n h = absurd (true≢false h)
  number_changes (StructType b g) m n h = absurd (true≢false h)
  number_changes (ListType t) m n h = absurd (true≢false h)
  number_changes AnyPointerType m n h = absurd (true≢false h)

  number_told : (t : SchemaType) (m n : ℕ) → is_pointer t ≡ false → IsTold set t (number_value t m) (number_value t n)
  number_told VoidType m n h = (tt, tt, tt)
  number_told BoolType m n h = (tt, either_way (not (same_leaf (number_value BoolType m) (number_value BoolType n))), tt)
  number_told (IntType k) m n h = (tt, either_way (not (same_leaf (number_value (IntType k) m) (number_value (IntType k) n))), tt)
  number_told (UIntType k) m n h = (tt, either_way (not (same_leaf (number_value (UIntType k) m) (number_value (UIntType k) n))), tt)
  number_told (EnumType e) m n h = (tt, either_way (not (same_leaf (number_value (EnumType e) m) (number_value (EnumType e) n))), tt)
  number_told TextType m n h = absurd (true≢false h)
  number_told DataType m n h = absurd (true≢false h)
  number_told (StructType b g) m n h = absurd (true≢false h)
  number_told (ListType t) m n h = absurd (true≢false h)
  number_told AnyPointerType m n h = absurd (true≢false h)

  module _ (path : List Step) (old new : List FoundChange) (f : TypedField) (number : is_pointer f.type ≡ false) (none : IsNoGroup f.field.kind) (v w : Value) (has_v : HasNumber f.type v) (has_w : HasNumber f.type w) where
    slot_told : ByKind f.field.kind (IsTold set f.type v w) (IsGroupTold set f.type v w)
    slot_told = by_slot f.field.kind (IsTold set f.type v w) (IsGroupTold set f.type v w) none
        (subst (λ x. IsTold set f.type x w) (sym has_v.is) (subst (λ y. IsTold set f.type (number_value f.type has_v.number) y) (sym has_w.is) (number_told f.type has_v.number has_w.number number)))

    slot_changes : value_changes set (FieldNumber i) f.type v w ≡ unless_same (same_leaf v w) (whole_change (FieldNumber i) f.type w)
    slot_changes =
        ap₂ (value_changes set (FieldNumber i) f.type) has_v.is has_w.is
        ∙ (number_changes f.type has_v.number has_w.number number
        ∙ sym (ap₂ (λ (x y : Value). unless_same (same_leaf x y) (whole_change (FieldNumber i) f.type y)) has_v.is has_w.is))

    slot_same : same_leaf v w ≡ true → IsPartFound set f i v w path old old
    slot_same e = record {
      adds = subst (Adds set path old old) (sym slot_changes) (same_added set path old v w (whole_change (FieldNumber i) f.type w) e);
      told = slot_told;
    }

    slot_other : same_leaf v w ≡ false → Adds set path old new (whole_change (FieldNumber i) f.type w ∷ []) → IsPartFound set f i v w path old new
    slot_other e adds = record {
      adds = subst (Adds set path old new) (sym slot_changes) (other_added set path old new v w (whole_change (FieldNumber i) f.type w) e adds);
      told = slot_told;
    }

  -- a number that is put
  pub slot_put : (path : List Step) (old new : List FoundChange) (t : SchemaType) (w : Value) (target : DynamicValue) (k : ℕ) → is_pointer t ≡ false → HasNumber t w → IsOf set t target → value_seen target ≡ w → k ≡ i →
      ((s : Schemas) → IsReady s (op.Set target) → Adds s path old new (one_change (step.Field k) (goal_seen (op.Set target)))) →
      Adds set path old new (whole_change (FieldNumber i) t w ∷ [])
  slot_put path old new t w target k number has of is index added =
      subst (λ (n : ℕ). Adds set path old new (record { path = []; last = FieldNumber n; goal = goal_of t w } ∷ [])) index
      (subst (λ (g : Goal). Adds set path old new (record { path = []; last = FieldNumber k; goal = g } ∷ [])) goal_is (added set puts.ready))
    where
      puts : PutsSeen set target
      puts = puts_seen set target (ap is_pointer (held_is set t target of) ∙ number)

      goal_is : Puts (type_held target) (whole_seen target) ≡ goal_of t w
      goal_is =
          ap₂ Puts (held_is set t target of) (puts.seen ∙ (is ∙ has.is))
          ∙ (sym (number_goal t has.number) ∙ ap (goal_of t) (sym has.is))

-- ---- a slot of a handle ----

pub stands_of : (f : Field) (s : StructSchema) → s ≡ field_schema f → IsStruct s → IsStruct (field_schema f)
stands_of f s is stands = subst IsStruct is stands

module _ (f : Field) (stands : IsStruct (field_schema f)) (inside : index_of f < length (fields_of (set_of (field_schema f)) (number_of (field_schema f)))) (number : is_pointer (typed_of f).type ≡ false) where
  abbrev set : Schemas
  set = set_of (field_schema f)

  none : IsNoGroup (typed_of f).field.kind
  none = number_slot set stands.accepted (number_of (field_schema f)) (index_of f) stands.number inside number

  has : (r : StructReader) → HasNumber (typed_of f).type (whole_part set r (typed_of f))
  has r = part_number set r (typed_of f) number none

  module _ (old_reader new_reader : StructReader) (source target : DynamicValue) (path : List Step) (old new : List FoundChange)
      (source_is : value_seen source ≡ whole_part set old_reader (typed_of f)) (target_is : value_seen target ≡ whole_part set new_reader (typed_of f)) where
    pub field_same : same_leaf (value_seen source) (value_seen target) ≡ true →
        IsPartFound set (typed_of f) (index_of f) (whole_part set old_reader (typed_of f)) (whole_part set new_reader (typed_of f)) path old old
    field_same e =
        slot_same set (index_of f) path old old (typed_of f) number none (whole_part set old_reader (typed_of f)) (whole_part set new_reader (typed_of f)) (has old_reader) (has new_reader)
        (sym (ap₂ same_leaf source_is target_is) ∙ e)

    pub field_other : same_leaf (value_seen source) (value_seen target) ≡ false → (k : ℕ) → k ≡ index_of f → IsOf set (typed_of f).type target →
        ((s : Schemas) → IsReady s (op.Set target) → Adds s path old new (one_change (step.Field k) (goal_seen (op.Set target)))) →
        IsPartFound set (typed_of f) (index_of f) (whole_part set old_reader (typed_of f)) (whole_part set new_reader (typed_of f)) path old new
    field_other e k index of added =
        slot_other set (index_of f) path old new (typed_of f) number none (whole_part set old_reader (typed_of f)) (whole_part set new_reader (typed_of f)) (has old_reader) (has new_reader)
        (sym (ap₂ same_leaf source_is target_is) ∙ e)
        (slot_put set (index_of f) path old new (typed_of f).type (whole_part set new_reader (typed_of f)) target k number (has new_reader) of target_is index added)

  -- a member that becomes active is put
  module _ (reader : StructReader) (target : DynamicValue) (path : List Step) (old new : List FoundChange) (is : value_seen target ≡ whole_part set reader (typed_of f)) where
    pub field_put : (k : ℕ) → k ≡ index_of f → IsOf set (typed_of f).type target →
        ((s : Schemas) → IsReady s (op.Set target) → Adds s path old new (one_change (step.Field k) (goal_seen (op.Set target)))) →
        Adds set path old new (whole_change (FieldNumber (index_of f)) (typed_of f).type (whole_part set reader (typed_of f)) ∷ [])
    field_put k index of added = slot_put set (index_of f) path old new (typed_of f).type (whole_part set reader (typed_of f)) target k number (has reader) of is index added

    pub field_stands : CanStand (typed_of f).type (whole_part set reader (typed_of f))
    field_stands = subst (CanStand (typed_of f).type) (sym (has reader).is) (number_stands (typed_of f).type (has reader).number)

    pub field_no_group : IsNoGroup (typed_of f).field.kind
    field_no_group = none

-- a field belongs to its own schema
pub belongs_own : (f : Field) (s : StructSchema) → s ≡ field_schema f → BelongsTo f s
belongs_own f s is = record { set = ap set_of (sym is); number = ap number_of (sym is) }
