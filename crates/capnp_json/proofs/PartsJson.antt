-- What is read under a field or at an index has the JSON that the definition gives it.
use Rattle.std.specs.Prelude.{ℕ, zero, suc, ◌≡◌, ◌==◌, refl, [], Bool, true, false, not, codes, length, Option, Some, None, Result, Ok, Err, ⊤, IfOk, IfErr}
use Rattle.std.proofs.Common.{ap, sym, subst, ◌∙◌}
use Rattle.std.specs.Option.{unwrap_or}
use Rattle.std.proofs.lemmas.Bool.{true≢false}
use Rattle.capnp_device.specs.declared.error.ErrorKind.{ErrorKind}
use Rattle.capnp_device.specs.declared.error.ErrorKind.TheVariants.{TooDeep}
use Rattle.capnp_device.specs.declared.error.Error.{Error}
use Rattle.capnp_wire.specs.Standing.{list_levels, list_of, struct_levels, struct_of}
use Rattle.capnp_wire.specs.Tree as tree
use Rattle.capnp_wire.specs.Tree.{StructTree, Tree, nth_tree}
use Rattle.capnp_wire.specs.Reading.{as_data, as_list, as_struct, as_text, element_levels, element_pointer}
use Rattle.capnp_schema.specs.Accepted.{GroupFits}
use Rattle.capnp_schema.specs.FieldLists.{IsFieldOf, index_of, typed_of}
use Rattle.capnp_schema.specs.Schema.{FieldKind, Group, Schemas, Slot, VoidValue, kind_default, kind_target, Value as SchemaValue}
use Rattle.capnp_schema.specs.SlotValue.{slot_number}
use Rattle.capnp_schema.specs.StructHandles.{IsStruct, number_of, set_of, struct_field}
use Rattle.capnp_schema.specs.declared.schema.fields.Field.{Field}
use Rattle.capnp_schema.specs.declared.schema.structs.StructSchema.{StructSchema}
use Rattle.capnp_schema.specs.Types.{SchemaType, VoidType, BoolType, IntType, UIntType, EnumType, TextType, DataType, StructType, ListType, AnyPointerType, element_size, is_pointer, struct_brand}
use Rattle.capnp_records.specs.Facts.ListValues.{below_of}
use Rattle.capnp_records.specs.Facts.Pointers.{values_of_nth}
use Rattle.capnp_records.specs.Facts.Readers.{element_is_read}
use Rattle.capnp_records.specs.Default.{read_of}
use Rattle.capnp_records.specs.Reading.{Below, Reading, bodies_of, bytes_below, element_value, entered_value, kind_value, nth_reading, number_value, of_read, pointers_below, record_of, record_within, slot_value, struct_below, structs_below, tree_value, value_of, values_of}
use Rattle.capnp_records.specs.Record as value
use Rattle.capnp_records.specs.Record.{Left, Levels, Record, Value, is_there, levels_asked, one_less}
use Rattle.capnp_records.specs.Text.{Layout}
use Rattle.capnp_dynamic_readers.specs.Handles.{element_of, list_reader_of, list_set, reader_of, schema_of}
use Rattle.capnp_dynamic_readers.specs.Reads.{element_seen, field_seen, handed_out}
use Rattle.capnp_dynamic_readers.specs.Seen.{answered_value, record_seen, value_seen}
use Rattle.capnp_dynamic_readers.specs.Shown.{no_schemas, set_seen}
use Rattle.capnp_dynamic_readers.specs.Steps.PartsRead.{fault_at, field_in}
use Rattle.capnp_dynamic_readers.specs.Steps.Shown.{part_seen}
use Rattle.capnp_dynamic_readers.specs.Typed.{IsOf, IsValueUnder}
use Rattle.capnp_dynamic_readers.specs.declared.dynamic_list.Reader.{Reader as ListHandle}
use Rattle.capnp_dynamic_readers.specs.declared.dynamic_struct.Reader.{Reader as StructHandle}
use Rattle.capnp_dynamic_readers.specs.declared.dynamic_value.Reader.{Reader as DynamicValue}
use Rattle.capnp_dynamic_readers.specs.declared.dynamic_value.Reader.TheVariants as dynamic
use Rattle.capnp_json.specs.Json.{Inner, form_of, json_within, part_json, record_json, value_json}
use Rattle.capnp_json.specs.Pieces.{said}
use Rattle.capnp_json.specs.Steps.Shown.{IsElement, IsElementRefused, IsPart, IsPartRefused, element_shown, element_there, field_shown, value_shown}
use Rattle.capnp_json.specs.declared.error.JsonError.TheVariants.{Read}
use Rattle.capnp_json.specs.declared.forms.Form.{Form}
use Rattle.capnp_dynamic_readers.specs.Facts.PartsShown.{under_of}

-- ---- values under types ----

-- a value that needs no set, under any two
any_set : (set other : Schemas) (left : ℕ) (at : Layout) (form : Form) (own t : SchemaType) (v : Value) → own ≡ t →
    ((inner further : Option Inner) → value_json set inner at form own v ≡ value_json other further at form own v) → json_within set left at form t v ≡ json_within other left at form own v
any_set set other left at form own t v e h = subst (λ (z : SchemaType). json_within set left at form z v ≡ json_within other left at form own v) e (go left)
  where
    go : (left : ℕ) → json_within set left at form own v ≡ json_within other left at form own v
    go zero = h None None
    go (suc n) = h (Some (json_within set n)) (Some (json_within other n))

struct_under : (set : Schemas) (left : ℕ) (at : Layout) (form : Form) (t : SchemaType) (b g : ℕ) (r : Record) → struct_brand t ≡ Some b → json_within set left at form t (value.Struct r) ≡ json_within set left at form (StructType b g) (value.Struct r)
struct_under set zero at form t b g r e = refl
struct_under set (suc n) at form t b g r e = ap (λ m. record_json set (json_within set n) at m r) (ap (λ o. unwrap_or o 0) e)

-- a value is written as it stands under its type
pub json_under : (set : Schemas) (t : SchemaType) (left : ℕ) (at : Layout) (form : Form) (v : DynamicValue) → IsValueUnder set t v → json_within set left at form t (value_seen v) ≡ value_shown left at form v
json_under set t left at form dynamic.Void e = any_set set no_schemas left at form _ t _ e (λ inner further. refl)
json_under set t left at form (dynamic.Bool b) e = any_set set no_schemas left at form _ t _ e (λ inner further. refl)
json_under set t left at form (dynamic.Int8 x) e = any_set set no_schemas left at form _ t _ e (λ inner further. refl)
json_under set t left at form (dynamic.Int16 x) e = any_set set no_schemas left at form _ t _ e (λ inner further. refl)
json_under set t left at form (dynamic.Int32 x) e = any_set set no_schemas left at form _ t _ e (λ inner further. refl)
json_under set t left at form (dynamic.Int64 x) e = any_set set no_schemas left at form _ t _ e (λ inner further. refl)
json_under set t left at form (dynamic.UInt8 x) e = any_set set no_schemas left at form _ t _ e (λ inner further. refl)
json_under set t left at form (dynamic.UInt16 x) e = any_set set no_schemas left at form _ t _ e (λ inner further. refl)
json_under set t left at form (dynamic.UInt32 x) e = any_set set no_schemas left at form _ t _ e (λ inner further. refl)
json_under set t left at form (dynamic.UInt64 x) e = any_set set no_schemas left at form _ t _ e (λ inner further. refl)
json_under set t left at form (dynamic.Text text) e = any_set set no_schemas left at form _ t _ e (λ inner further. refl)
json_under set t left at form (dynamic.«Data» bytes) e = any_set set no_schemas left at form _ t _ e (λ inner further. refl)
json_under set t left at form (dynamic.AnyPointer p) e = any_set set no_schemas left at form _ t _ e (λ inner further. refl)
json_under set t left at form (dynamic.Enum x) h =
    subst (λ (z : Schemas). json_within z left at form t (value_seen (dynamic.Enum x)) ≡ value_shown left at form (dynamic.Enum x)) h.0
    (subst (λ (z : SchemaType). json_within (set_seen (dynamic.Enum x)) left at form z (value_seen (dynamic.Enum x)) ≡ value_shown left at form (dynamic.Enum x)) h.1 refl)
json_under set t left at form (dynamic.Struct s) h =
    subst (λ (z : Schemas). json_within z left at form t (value.Struct (record_seen s)) ≡ value_shown left at form (dynamic.Struct s)) h.0
    (struct_under (set_of (schema_of s)) left at form t (number_of (schema_of s)) _ (record_seen s) h.1)
json_under set t left at form (dynamic.List l) h =
    subst (λ (z : Schemas). json_within z left at form t (value_seen (dynamic.List l)) ≡ value_shown left at form (dynamic.List l)) h.0
    (subst (λ (z : SchemaType). json_within (list_set l) left at form z (value_seen (dynamic.List l)) ≡ value_shown left at form (dynamic.List l)) h.1 refl)

-- ---- a slot has no group and no placeholder ----

abbrev pub IsOwn : Value → Type 0
IsOwn (value.Group r) = ⊥
IsOwn value.Elsewhere = ⊥
IsOwn v = ⊤

own_number : (t : SchemaType) (n : ℕ) → IsOwn (number_value t n)
own_number VoidType n = tt {0}
own_number BoolType n = tt {0}
own_number (IntType bytes) n = tt {0}
own_number (UIntType bytes) n = tt {0}
own_number (EnumType number) n = tt {0}
own_number TextType n = tt {0}
own_number DataType n = tt {0}
own_number (StructType number generic) n = tt {0}
own_number (ListType element) n = tt {0}
own_number AnyPointerType n = tt {0}

own_read : {A : Type 0} (f : A → Value) (r : Result A ErrorKind) → ((a : A) → IsOwn (f a)) → IsOwn (of_read f r)
own_read f (Ok a) h = h a
own_read f (Err kind) h = tt {0}

own_tree : (set : Schemas) (x : Tree) (below : Below) (l : Levels) (t : SchemaType) → IsOwn (tree_value set x below l t)
own_tree set x below l VoidType = tt {0}
own_tree set x below l BoolType = tt {0}
own_tree set x below l (IntType k) = tt {0}
own_tree set x below l (UIntType k) = tt {0}
own_tree set x below l (EnumType m) = tt {0}
own_tree set x below l TextType = own_read value.Text (as_text x) (λ a. tt {0})
own_tree set x below l DataType = own_read value.Data (as_data x) (λ a. tt {0})
own_tree set x below l (StructType b g) = own_read _ (as_struct x (levels_asked l)) (λ a. tt {0})
own_tree set x below l (ListType e) = own_read _ (as_list (element_size e) x (levels_asked l)) (λ a. tt {0})
own_tree set x below l AnyPointerType = tt {0}

own_value : (set : Schemas) (x : Tree) (l : Levels) (t : SchemaType) → IsOwn (value_of set x l t)
own_value set tree.Null l t = tt {0}
own_value set (tree.Struct bytes ps) l t = own_tree set (tree.Struct bytes ps) (struct_below (values_of set ps)) l t
own_value set (tree.Voids n) l t = own_tree set (tree.Voids n) (bytes_below (tree.Voids n)) l t
own_value set (tree.Bits bs) l t = own_tree set (tree.Bits bs) (bytes_below (tree.Bits bs)) l t
own_value set (tree.Numbers w bytes) l t = own_tree set (tree.Numbers w bytes) (bytes_below (tree.Numbers w bytes)) l t
own_value set (tree.Pointers ps) l t = own_tree set (tree.Pointers ps) (pointers_below (values_of set ps)) l t
own_value set (tree.Composite d p es) l t = own_tree set (tree.Composite d p es) (structs_below set (bodies_of set es)) l t
own_value set (tree.FaultLeaf k) l t = own_tree set (tree.FaultLeaf k) (struct_below []) l t

pub own_slot : (set : Schemas) (l : Levels) (s : StructTree) (o : ℕ) (d : SchemaValue) (t : SchemaType) → IsOwn (slot_value l s.bytes (values_of set s.pointers) o d t)
own_slot set l s o d t = go (is_pointer t)
  where
    go : (q : Bool) → IsOwn (elim q as (λ _. Value) [ true ↦ nth_reading (values_of set s.pointers) o l t | false ↦ number_value t (slot_number s.bytes o d t) ])
    go true = subst (λ (r : Reading). IsOwn (r l t)) (sym (values_of_nth set s.pointers o)) (own_value set (nth_tree s.pointers o) l t)
    go false = own_number t _

-- what is there is read as it stands
there_read : (set : Schemas) (d : SchemaValue) (t : SchemaType) (v : Value) → is_there v ≡ true → read_of set d t v ≡ v
there_read set d t value.Void h = refl
there_read set d t (value.Truth b) h = refl
there_read set d t (value.Number n) h = refl
there_read set d t (value.Enum n) h = refl
there_read set d t (value.Text bs) h = refl
there_read set d t (value.Data bs) h = refl
there_read set d t (value.Struct r) h = refl
there_read set d t (value.Group r) h = refl
there_read set d t (value.Elements vs) h = refl
there_read set d t (value.Untyped x) h = refl
there_read set d t (value.Fault kind) h = refl
there_read set d t (value.Missing l) h = absurd (true≢false (sym h))
there_read set d t value.Elsewhere h = refl

own_json : (set : Schemas) (inner : Inner) (at : Layout) (form : Form) (t : SchemaType) (v : Value) → IsOwn v → part_json set inner at form t v ≡ inner at form t v
own_json set inner at form t (value.Group r) h = absurd h
own_json set inner at form t value.Void h = refl
own_json set inner at form t (value.Truth b) h = refl
own_json set inner at form t (value.Number n) h = refl
own_json set inner at form t (value.Enum n) h = refl
own_json set inner at form t (value.Text bs) h = refl
own_json set inner at form t (value.Data bs) h = refl
own_json set inner at form t (value.Struct r) h = refl
own_json set inner at form t (value.Elements vs) h = refl
own_json set inner at form t (value.Untyped x) h = refl
own_json set inner at form t (value.Fault kind) h = refl
own_json set inner at form t (value.Missing l) h = refl
own_json set inner at form t value.Elsewhere h = absurd h

pub fault_json : (set : Schemas) (left : ℕ) (at : Layout) (form : Form) (t : SchemaType) (kind : ErrorKind) → json_within set left at form t (value.Fault kind) ≡ Err (Read (fault_at left t kind))
fault_json set zero at form t kind = refl
fault_json set (suc n) at form t kind = refl

null_json : (set : Schemas) (left : ℕ) (at : Layout) (form : Form) (t : SchemaType) (v : Value) → IsOwn v → is_there v ≡ false → json_within set left at form t v ≡ said (codes "null")
null_json set zero at form t (value.Missing l) own h = refl
null_json set (suc n) at form t (value.Missing l) own h = refl
null_json set left at form t value.Elsewhere own h = absurd own
null_json set left at form t value.Void own h = absurd (true≢false h)
null_json set left at form t (value.Truth b) own h = absurd (true≢false h)
null_json set left at form t (value.Number n) own h = absurd (true≢false h)
null_json set left at form t (value.Enum n) own h = absurd (true≢false h)
null_json set left at form t (value.Text bs) own h = absurd (true≢false h)
null_json set left at form t (value.Data bs) own h = absurd (true≢false h)
null_json set left at form t (value.Struct r) own h = absurd (true≢false h)
null_json set left at form t (value.Group r) own h = absurd own
null_json set left at form t (value.Elements vs) own h = absurd (true≢false h)
null_json set left at form t (value.Untyped x) own h = absurd (true≢false h)
null_json set left at form t (value.Fault kind) own h = absurd (true≢false h)

-- ---- what stands under a field ----

some_none : {n : ℕ} → Some n ≡ None → ⊥
some_none e = cc

module _ (set : Schemas) (group : ℕ → Record) (l : Levels) (s : StructTree) (left : ℕ) (at : Layout) (form : Form) where
  slot_shown : (k : FieldKind) (t : SchemaType) (v : DynamicValue) → GroupFits set k t → kind_target k t ≡ None →
      is_there (kind_value group l s.bytes (values_of set s.pointers) k t) ≡ true →
      value_seen v ≡ handed_out k (read_of set (kind_default k) t (kind_value group l s.bytes (values_of set s.pointers) k t)) → IsValueUnder set t v →
      part_json set (json_within set left) at form t (kind_value group l s.bytes (values_of set s.pointers) k t) ≡ value_shown left at form v
  slot_shown (Slot o d) t v fits e there is under =
      own_json set (json_within set left) at form t (slot_value l s.bytes (values_of set s.pointers) o d t) (own_slot set l s o d t)
      ∙ (ap (json_within set left at form t) (sym (is ∙ there_read set d t (slot_value l s.bytes (values_of set s.pointers) o d t) there)) ∙ json_under set t left at form v under)
  slot_shown (Group n) (StructType b g) v fits e there is under = absurd (some_none e)
  slot_shown (Group n) t v fits e there is under = absurd fits

  refused_shown : (k : FieldKind) (t : SchemaType) (kind : ErrorKind) →
      is_there (kind_value group l s.bytes (values_of set s.pointers) k t) ≡ true →
      value.Fault kind ≡ handed_out k (read_of set (kind_default k) t (kind_value group l s.bytes (values_of set s.pointers) k t)) →
      part_json set (json_within set left) at form t (kind_value group l s.bytes (values_of set s.pointers) k t) ≡ Err (Read (fault_at left t kind))
  refused_shown (Slot o d) t kind there is =
      own_json set (json_within set left) at form t (slot_value l s.bytes (values_of set s.pointers) o d t) (own_slot set l s o d t)
      ∙ (ap (json_within set left at form t) (sym (is ∙ there_read set d t (slot_value l s.bytes (values_of set s.pointers) o d t) there)) ∙ fault_json set left at form t kind)
  refused_shown (Group n) t kind there is = absurd (fault_struct is)
    where
      fault_struct : {kind : ErrorKind} {r : Record} → value.Fault kind ≡ value.Struct r → ⊥
      fault_struct e = cc

  null_shown : (k : FieldKind) (t : SchemaType) → GroupFits set k t → kind_target k t ≡ None → is_there (kind_value group l s.bytes (values_of set s.pointers) k t) ≡ false →
      part_json set (json_within set left) at form t (kind_value group l s.bytes (values_of set s.pointers) k t) ≡ said (codes "null")
  null_shown (Slot o d) t fits e none =
      own_json set (json_within set left) at form t (slot_value l s.bytes (values_of set s.pointers) o d t) (own_slot set l s o d t)
      ∙ null_json set left at form t (slot_value l s.bytes (values_of set s.pointers) o d t) (own_slot set l s o d t) none
  null_shown (Group n) (StructType b g) fits e none = absurd (some_none e)
  null_shown (Group n) t fits e none = absurd fits

-- ---- elements ----

own_entered : (l : Levels) (v : Value) → IsOwn v → IsOwn (entered_value l v)
own_entered l v h = go (levels_asked l == 0)
  where
    go : (q : Bool) → IsOwn (elim q as (λ _. Value) [ true ↦ value.Fault TooDeep | false ↦ v ])
    go true = tt {0}
    go false = h

own_element : (set : Schemas) (x : Tree) (n : ℕ) (t : SchemaType) (i : ℕ) → IsOwn (element_value set x (below_of set x) (Left n) t i)
own_element set x n VoidType i = tt {0}
own_element set x n BoolType i = tt {0}
own_element set x n (IntType k) i = tt {0}
own_element set x n (UIntType k) i = tt {0}
own_element set x n (EnumType m) i = tt {0}
own_element set x n (StructType b g) i = own_entered (Left n) (value.Struct (record_of set (one_less (Left n)) ((below_of set x).element_body i).bytes ((below_of set x).element_body i).pointers b)) (tt {0})
own_element set x n TextType i = subst IsOwn (sym (element_is_read set x n TextType i)) (own_value set (element_pointer x i n) (Left (element_levels x n)) TextType)
own_element set x n DataType i = subst IsOwn (sym (element_is_read set x n DataType i)) (own_value set (element_pointer x i n) (Left (element_levels x n)) DataType)
own_element set x n (ListType e) i = subst IsOwn (sym (element_is_read set x n (ListType e) i)) (own_value set (element_pointer x i n) (Left (element_levels x n)) (ListType e))
own_element set x n AnyPointerType i = subst IsOwn (sym (element_is_read set x n AnyPointerType i)) (own_value set (element_pointer x i n) (Left (element_levels x n)) AnyPointerType)

pub null_element : (left : ℕ) (at : Layout) (form : Form) (l : ListHandle) (i : ℕ) → true ≡ not (is_there (element_there l i)) → element_shown left at form l i ≡ said (codes "null")
null_element left at form l i h = null_json (list_set l) left at form (element_of l) (element_there l i) (own_element (list_set l) (list_of (list_reader_of l)) (list_levels (list_reader_of l)) (element_of l) i) (not_true (is_there (element_there l i)) h)
  where
    not_true : (q : Bool) → true ≡ not q → q ≡ false
    not_true true e = e
    not_true false e = refl

-- ---- what was read ----

module _ (l : ListHandle) (i : ℕ) (there : is_there (element_there l i) ≡ true) where
  element_same : {v : Value} → v ≡ element_seen l i → v ≡ element_there l i
  element_same is = is ∙ there_read (list_set l) VoidValue (element_of l) (element_there l i) there

  pub element_read : (r : Result DynamicValue Error) → answered_value r ≡ element_seen l i → IfOk r (IsValueUnder (list_set l) (element_of l)) → IfOk r (IsElement l i)
  element_read (Ok v) is under = λ left at form. ap (json_within (list_set l) left at form (element_of l)) (sym (element_same is)) ∙ json_under (list_set l) (element_of l) left at form v under
  element_read (Err e) is under = tt {0}

  pub element_refused : (r : Result DynamicValue Error) → answered_value r ≡ element_seen l i → IfErr r (λ e. IsElementRefused l i e.kind)
  element_refused (Ok v) is = tt {0}
  element_refused (Err e) is = λ left at form. ap (json_within (list_set l) left at form (element_of l)) (sym (element_same is)) ∙ fault_json (list_set l) left at form (element_of l) e.kind

module _ (r : StructHandle) (f : Field) (field : IsFieldOf (schema_of r) (index_of f) f) where
  -- a fact of the field's own schema is one of the struct's
  pub target_in : (o : Option ℕ) → o ≡ kind_target (typed_of f).field.kind (typed_of f).type → o ≡ kind_target (field_in r f).field.kind (field_in r f).type
  target_in o e = e ∙ ap (λ (s : StructSchema). kind_target (struct_field s (index_of f)).field.kind (struct_field s (index_of f)).type) field.schema

  abbrev own_group : ℕ → Record
  own_group = record_within (length (set_of (schema_of r)).brands) (set_of (schema_of r)) (Left (struct_levels (reader_of r))) (struct_of (reader_of r)).bytes (values_of (set_of (schema_of r)) (struct_of (reader_of r)).pointers)

  pub part_read : IsStruct (schema_of r) → (answer : Result DynamicValue Error) → answered_value answer ≡ field_seen r (index_of f) → IfOk answer (IsOf (set_of (schema_of r)) (field_in r f).type) →
      None ≡ kind_target (field_in r f).field.kind (field_in r f).type → is_there (part_seen r (field_in r f)) ≡ true → IfOk answer (IsPart r f)
  part_read stands (Ok v) is typed none there = λ left at.
      slot_shown (set_of (schema_of r)) own_group (Left (struct_levels (reader_of r))) (struct_of (reader_of r)) left at (form_of (field_in r f))
      (field_in r f).field.kind (field_in r f).type v (stands.accepted.rule7 (number_of (schema_of r)) (index_of f) stands.number field.inside) (sym none) there is (under_of (set_of (schema_of r)) (field_in r f).type v typed)
  part_read stands (Err e) is typed none there = tt {0}

  pub part_unread : (answer : Result DynamicValue Error) → answered_value answer ≡ field_seen r (index_of f) → is_there (part_seen r (field_in r f)) ≡ true → IfErr answer (λ e. IsPartRefused r f e.kind)
  part_unread (Ok v) is there = tt {0}
  part_unread (Err e) is there = λ left at.
      refused_shown (set_of (schema_of r)) own_group (Left (struct_levels (reader_of r))) (struct_of (reader_of r)) left at (form_of (field_in r f))
      (field_in r f).field.kind (field_in r f).type e.kind there is

  pub part_null : IsStruct (schema_of r) → None ≡ kind_target (field_in r f).field.kind (field_in r f).type → is_there (part_seen r (field_in r f)) ≡ false → (left : ℕ) (at : Layout) → field_shown left at r (field_in r f) ≡ said (codes "null")
  part_null stands none gone left at =
      null_shown (set_of (schema_of r)) own_group (Left (struct_levels (reader_of r))) (struct_of (reader_of r)) left at (form_of (field_in r f))
      (field_in r f).field.kind (field_in r f).type (stands.accepted.rule7 (number_of (schema_of r)) (index_of f) stands.number field.inside) (sym none) gone
