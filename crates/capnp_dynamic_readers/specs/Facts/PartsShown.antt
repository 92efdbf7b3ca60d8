-- What is read under a field or at an index is printed as the definition has it.
use Rattle.std.specs.Prelude.{ℕ, zero, suc, ◌≡◌, refl, [], Bool, true, false, length, Option, Some, None, Result, Ok, Err, ⊤, IfOk, IfErr}
use Rattle.std.proofs.Common.{ap, sym, subst, ◌∙◌}
use Rattle.std.specs.Option.{unwrap_or}
use Rattle.capnp_device.specs.declared.error.ErrorKind.{ErrorKind}
use Rattle.capnp_device.specs.declared.error.Error.{Error}
use Rattle.capnp_wire.specs.Standing.{struct_levels, struct_of}
use Rattle.capnp_wire.specs.Tree as tree
use Rattle.capnp_wire.specs.Tree.{StructTree, Tree, nth_tree}
use Rattle.capnp_wire.specs.Reading.{as_data, as_list, as_struct, as_text}
use Rattle.capnp_schema.specs.Accepted.{GroupFits, IsAccepted, IsGroupOf}
use Rattle.capnp_schema.specs.Facts.Fields.{brand_there}
use Rattle.capnp_schema.specs.FieldLists.{IsFieldOf, index_of, typed_of}
use Rattle.capnp_schema.specs.Schema.{FieldKind, Group, Schemas, Slot, kind_default, kind_target, Value as SchemaValue}
use Rattle.capnp_schema.specs.StructHandles.{IsStruct, number_of, set_of, struct_field}
use Rattle.capnp_schema.specs.declared.schema.fields.Field.{Field}
use Rattle.capnp_schema.specs.declared.schema.structs.StructSchema.{StructSchema}
use Rattle.capnp_schema.specs.Types.{SchemaType, VoidType, BoolType, IntType, UIntType, EnumType, TextType, DataType, StructType, ListType, AnyPointerType, element_size, is_pointer, struct_brand, struct_number}
use Rattle.capnp_records.specs.Facts.Groups.{part_of_group}
use Rattle.capnp_records.specs.Facts.Pointers.{values_of_nth}
use Rattle.capnp_records.specs.Default.{read_of}
use Rattle.capnp_schema.specs.SlotValue.{slot_number}
use Rattle.capnp_records.specs.Reading.{Below, Reading, bodies_of, bytes_below, kind_value, nth_reading, number_value, of_read, pointers_below, record_of, record_within, slot_value, struct_below, struct_record, structs_below, tree_value, value_of, values_of}
use Rattle.capnp_records.specs.Record as value
use Rattle.capnp_records.specs.Record.{Left, Levels, Record, Value, levels_asked}
use Rattle.capnp_records.specs.Text.{Inner, Layout, part_text, record_text, text_within, value_text}
use Rattle.capnp_dynamic_readers.specs.Handles.{element_of, list_set, reader_of, schema_of}
use Rattle.capnp_dynamic_readers.specs.Steps.PartsRead.{IsElementRead, IsElementRefused, IsPart, IsPartRefused, fault_at, field_in}
use Rattle.capnp_dynamic_readers.specs.Reads.{element_seen, field_seen, handed_out}
use Rattle.capnp_dynamic_readers.specs.Seen.{answered_value, record_seen, value_seen}
use Rattle.capnp_dynamic_readers.specs.Shown.{no_schemas, set_seen}
use Rattle.capnp_dynamic_readers.specs.Steps.Shown.{field_shown, record_shown, value_shown}
use Rattle.capnp_dynamic_readers.specs.Typed.{IsOf, IsValueUnder}
use Rattle.capnp_dynamic_readers.specs.declared.dynamic_list.Reader.{Reader as ListHandle}
use Rattle.capnp_dynamic_readers.specs.declared.dynamic_struct.Reader.{Reader as StructHandle}
use Rattle.capnp_dynamic_readers.specs.declared.dynamic_value.Reader.{Reader as DynamicValue}
use Rattle.capnp_dynamic_readers.specs.declared.dynamic_value.Reader.TheVariants as dynamic

-- ---- values under types ----

pub under_of : (set : Schemas) (t : SchemaType) (v : DynamicValue) → IsOf set t v → IsValueUnder set t v
under_of set t (dynamic.Enum e) h = (h.1, h.2)
under_of set t (dynamic.Struct s) h = (h.1, ap struct_brand (sym h.2))
under_of set t (dynamic.List l) h = (h.0, h.1)
under_of set t dynamic.Void h = h
under_of set t (dynamic.Bool b) h = h
under_of set t (dynamic.Int8 x) h = h
under_of set t (dynamic.Int16 x) h = h
under_of set t (dynamic.Int32 x) h = h
under_of set t (dynamic.Int64 x) h = h
under_of set t (dynamic.UInt8 x) h = h
under_of set t (dynamic.UInt16 x) h = h
under_of set t (dynamic.UInt32 x) h = h
under_of set t (dynamic.UInt64 x) h = h
under_of set t (dynamic.Text text) h = h
under_of set t (dynamic.«Data» bytes) h = h
under_of set t (dynamic.AnyPointer p) h = h

-- a value that needs no set, under any two
any_set : (set other : Schemas) (left : ℕ) (at : Layout) (own t : SchemaType) (v : Value) → own ≡ t →
    ((inner further : Option Inner) → value_text set inner at own v ≡ value_text other further at own v) → text_within set left at t v ≡ text_within other left at own v
any_set set other left at own t v e h = subst (λ (z : SchemaType). text_within set left at z v ≡ text_within other left at own v) e (go left)
  where
    go : (left : ℕ) → text_within set left at own v ≡ text_within other left at own v
    go zero = h None None
    go (suc n) = h (Some (text_within set n)) (Some (text_within other n))

struct_under : (set : Schemas) (left : ℕ) (at : Layout) (t : SchemaType) (b g : ℕ) (r : Record) → struct_brand t ≡ Some b → text_within set left at t (value.Struct r) ≡ text_within set left at (StructType b g) (value.Struct r)
struct_under set zero at t b g r e = refl
struct_under set (suc n) at t b g r e = ap (λ m. record_text set (text_within set n) at m r) (ap (λ o. unwrap_or o 0) e)

-- a value is printed as it stands under its type
pub text_under : (set : Schemas) (t : SchemaType) (left : ℕ) (at : Layout) (v : DynamicValue) → IsValueUnder set t v → text_within set left at t (value_seen v) ≡ value_shown left at v
text_under set t left at dynamic.Void e = any_set set no_schemas left at _ t _ e (λ inner further. refl)
text_under set t left at (dynamic.Bool b) e = any_set set no_schemas left at _ t _ e (λ inner further. refl)
text_under set t left at (dynamic.Int8 x) e = any_set set no_schemas left at _ t _ e (λ inner further. refl)
text_under set t left at (dynamic.Int16 x) e = any_set set no_schemas left at _ t _ e (λ inner further. refl)
text_under set t left at (dynamic.Int32 x) e = any_set set no_schemas left at _ t _ e (λ inner further. refl)
text_under set t left at (dynamic.Int64 x) e = any_set set no_schemas left at _ t _ e (λ inner further. refl)
text_under set t left at (dynamic.UInt8 x) e = any_set set no_schemas left at _ t _ e (λ inner further. refl)
text_under set t left at (dynamic.UInt16 x) e = any_set set no_schemas left at _ t _ e (λ inner further. refl)
text_under set t left at (dynamic.UInt32 x) e = any_set set no_schemas left at _ t _ e (λ inner further. refl)
text_under set t left at (dynamic.UInt64 x) e = any_set set no_schemas left at _ t _ e (λ inner further. refl)
text_under set t left at (dynamic.Text text) e = any_set set no_schemas left at _ t _ e (λ inner further. refl)
text_under set t left at (dynamic.«Data» bytes) e = any_set set no_schemas left at _ t _ e (λ inner further. refl)
text_under set t left at (dynamic.AnyPointer p) e = any_set set no_schemas left at _ t _ e (λ inner further. refl)
text_under set t left at (dynamic.Enum x) h =
    subst (λ (z : Schemas). text_within z left at t (value_seen (dynamic.Enum x)) ≡ value_shown left at (dynamic.Enum x)) h.0
    (subst (λ (z : SchemaType). text_within (set_seen (dynamic.Enum x)) left at z (value_seen (dynamic.Enum x)) ≡ value_shown left at (dynamic.Enum x)) h.1 refl)
text_under set t left at (dynamic.Struct s) h =
    subst (λ (z : Schemas). text_within z left at t (value.Struct (record_seen s)) ≡ value_shown left at (dynamic.Struct s)) h.0
    (struct_under (set_of (schema_of s)) left at t (number_of (schema_of s)) _ (record_seen s) h.1)
text_under set t left at (dynamic.List l) h =
    subst (λ (z : Schemas). text_within z left at t (value_seen (dynamic.List l)) ≡ value_shown left at (dynamic.List l)) h.0
    (subst (λ (z : SchemaType). text_within (list_set l) left at z (value_seen (dynamic.List l)) ≡ value_shown left at (dynamic.List l)) h.1 refl)

pub fault_text : (set : Schemas) (left : ℕ) (at : Layout) (t : SchemaType) (kind : ErrorKind) → text_within set left at t (value.Fault kind) ≡ Err (fault_at left t kind)
fault_text set zero at t kind = refl
fault_text set (suc n) at t kind = refl

-- ---- a slot has no group ----

abbrev pub IsNoGroup : Value → Type 0
IsNoGroup (value.Group r) = ⊥
IsNoGroup v = ⊤

no_group_number : (t : SchemaType) (n : ℕ) → IsNoGroup (number_value t n)
no_group_number VoidType n = tt {0}
no_group_number BoolType n = tt {0}
no_group_number (IntType bytes) n = tt {0}
no_group_number (UIntType bytes) n = tt {0}
no_group_number (EnumType number) n = tt {0}
no_group_number TextType n = tt {0}
no_group_number DataType n = tt {0}
no_group_number (StructType number generic) n = tt {0}
no_group_number (ListType element) n = tt {0}
no_group_number AnyPointerType n = tt {0}

no_group_read : {A : Type 0} (f : A → Value) (r : Result A ErrorKind) → ((a : A) → IsNoGroup (f a)) → IsNoGroup (of_read f r)
no_group_read f (Ok a) h = h a
no_group_read f (Err kind) h = tt {0}

no_group_tree : (set : Schemas) (x : Tree) (below : Below) (l : Levels) (t : SchemaType) → IsNoGroup (tree_value set x below l t)
no_group_tree set x below l VoidType = tt {0}
no_group_tree set x below l BoolType = tt {0}
no_group_tree set x below l (IntType k) = tt {0}
no_group_tree set x below l (UIntType k) = tt {0}
no_group_tree set x below l (EnumType m) = tt {0}
no_group_tree set x below l TextType = no_group_read value.Text (as_text x) (λ a. tt {0})
no_group_tree set x below l DataType = no_group_read value.Data (as_data x) (λ a. tt {0})
no_group_tree set x below l (StructType b g) = no_group_read _ (as_struct x (levels_asked l)) (λ a. tt {0})
no_group_tree set x below l (ListType e) = no_group_read _ (as_list (element_size e) x (levels_asked l)) (λ a. tt {0})
no_group_tree set x below l AnyPointerType = tt {0}

no_group_value : (set : Schemas) (x : Tree) (l : Levels) (t : SchemaType) → IsNoGroup (value_of set x l t)
no_group_value set tree.Null l t = tt {0}
no_group_value set (tree.Struct bytes ps) l t = no_group_tree set (tree.Struct bytes ps) (struct_below (values_of set ps)) l t
no_group_value set (tree.Voids n) l t = no_group_tree set (tree.Voids n) (bytes_below (tree.Voids n)) l t
no_group_value set (tree.Bits bs) l t = no_group_tree set (tree.Bits bs) (bytes_below (tree.Bits bs)) l t
no_group_value set (tree.Numbers w bytes) l t = no_group_tree set (tree.Numbers w bytes) (bytes_below (tree.Numbers w bytes)) l t
no_group_value set (tree.Pointers ps) l t = no_group_tree set (tree.Pointers ps) (pointers_below (values_of set ps)) l t
no_group_value set (tree.Composite d p es) l t = no_group_tree set (tree.Composite d p es) (structs_below set (bodies_of set es)) l t
no_group_value set (tree.FaultLeaf k) l t = no_group_tree set (tree.FaultLeaf k) (struct_below []) l t

pub no_group_slot : (set : Schemas) (l : Levels) (s : StructTree) (o : ℕ) (d : SchemaValue) (t : SchemaType) → IsNoGroup (slot_value l s.bytes (values_of set s.pointers) o d t)
no_group_slot set l s o d t = go (is_pointer t)
  where
    go : (q : Bool) → IsNoGroup (elim q as (λ _. Value) [ true ↦ nth_reading (values_of set s.pointers) o l t | false ↦ number_value t (slot_number s.bytes o d t) ])
    go true = subst (λ (r : Reading). IsNoGroup (r l t)) (sym (values_of_nth set s.pointers o)) (no_group_value set (nth_tree s.pointers o) l t)
    go false = no_group_number t _

no_group_text : (set : Schemas) (inner : Inner) (at : Layout) (d : SchemaValue) (t : SchemaType) (v : Value) → IsNoGroup v → part_text set inner at d t v ≡ inner at t (read_of set d t v)
no_group_text set inner at d t (value.Group r) h = absurd h
no_group_text set inner at d t value.Void h = refl
no_group_text set inner at d t (value.Truth b) h = refl
no_group_text set inner at d t (value.Number n) h = refl
no_group_text set inner at d t (value.Enum n) h = refl
no_group_text set inner at d t (value.Text bs) h = refl
no_group_text set inner at d t (value.Data bs) h = refl
no_group_text set inner at d t (value.Struct r) h = refl
no_group_text set inner at d t (value.Elements vs) h = refl
no_group_text set inner at d t (value.Untyped x) h = refl
no_group_text set inner at d t (value.Fault kind) h = refl
no_group_text set inner at d t (value.Missing l) h = refl
no_group_text set inner at d t value.Elsewhere h = refl

-- ---- what stands under a field ----

pub some_none : {n : ℕ} → Some n ≡ None → ⊥
some_none e = cc

module _ (set : Schemas) (group : ℕ → Record) (l : Levels) (s : StructTree) where
  pub slot_shown : (left : ℕ) (at : Layout) (k : FieldKind) (t : SchemaType) (v : DynamicValue) → GroupFits set k t → kind_target k t ≡ None →
      value_seen v ≡ handed_out k (read_of set (kind_default k) t (kind_value group l s.bytes (values_of set s.pointers) k t)) → IsValueUnder set t v →
      part_text set (text_within set left) at (kind_default k) t (kind_value group l s.bytes (values_of set s.pointers) k t) ≡ value_shown left at v
  slot_shown left at (Slot o d) t v fits e is under =
      no_group_text set (text_within set left) at d t (slot_value l s.bytes (values_of set s.pointers) o d t) (no_group_slot set l s o d t)
      ∙ (ap (text_within set left at t) (sym is) ∙ text_under set t left at v under)
  slot_shown left at (Group n) (StructType b g) v fits e is under = absurd (some_none e)
  slot_shown left at (Group n) t v fits e is under = absurd fits

  pub refused_shown : (left : ℕ) (at : Layout) (k : FieldKind) (t : SchemaType) (kind : ErrorKind) →
      value.Fault kind ≡ handed_out k (read_of set (kind_default k) t (kind_value group l s.bytes (values_of set s.pointers) k t)) →
      part_text set (text_within set left) at (kind_default k) t (kind_value group l s.bytes (values_of set s.pointers) k t) ≡ Err (fault_at left t kind)
  refused_shown left at (Slot o d) t kind is =
      no_group_text set (text_within set left) at d t (slot_value l s.bytes (values_of set s.pointers) o d t) (no_group_slot set l s o d t)
      ∙ (ap (text_within set left at t) (sym is) ∙ fault_text set left at t kind)
  refused_shown left at (Group n) t kind is = absurd (fault_struct is)
    where
      fault_struct : {kind : ErrorKind} {r : Record} → value.Fault kind ≡ value.Struct r → ⊥
      fault_struct e = cc

-- ---- what was read ----

module _ (l : ListHandle) (i : ℕ) where
  pub element_read : (r : Result DynamicValue Error) → answered_value r ≡ element_seen l i → IfOk r (IsValueUnder (list_set l) (element_of l)) → IfOk r (IsElementRead l i)
  element_read (Ok v) is under = λ left at. ap (text_within (list_set l) left at (element_of l)) (sym is) ∙ text_under (list_set l) (element_of l) left at v under
  element_read (Err e) is under = tt {0}

  pub element_refused : (r : Result DynamicValue Error) → answered_value r ≡ element_seen l i → IfErr r (λ e. IsElementRefused l i e.kind)
  element_refused (Ok v) is = tt {0}
  element_refused (Err e) is = λ left at. ap (text_within (list_set l) left at (element_of l)) (sym is) ∙ fault_text (list_set l) left at (element_of l) e.kind

-- the text of a group's field is that of its record
pub group_named : (k : FieldKind) (t : SchemaType) (g : ℕ) → kind_target k t ≡ Some g → IsGroupOf k t g
group_named (Slot o d) t g e = cc
group_named (Group m) t g e = e

group_text : (set : Schemas) (l : Levels) (s : StructTree) (left : ℕ) (at : Layout) (g : ℕ) (k : FieldKind) (t : SchemaType) → kind_target k t ≡ Some g →
    kind_value (record_within (length set.brands) set l s.bytes (values_of set s.pointers)) l s.bytes (values_of set s.pointers) k t ≡ value.Group (record_of set l s.bytes (values_of set s.pointers) g) →
    part_text set (text_within set left) at (kind_default k) t (kind_value (record_within (length set.brands) set l s.bytes (values_of set s.pointers)) l s.bytes (values_of set s.pointers) k t)
    ≡ record_text set (text_within set left) at g (record_of set l s.bytes (values_of set s.pointers) g)
group_text set l s left at g k t e is =
    ap (part_text set (text_within set left) at (kind_default k) t) is
    ∙ ap (λ n. record_text set (text_within set left) at n (record_of set l s.bytes (values_of set s.pointers) g)) (number k t e)
  where
    number : (k : FieldKind) (t : SchemaType) → kind_target k t ≡ Some g → struct_number t ≡ g
    number (Slot o d) t e = cc
    number (Group m) t e = ap (λ o. unwrap_or o 0) e

module _ (r : StructHandle) (f : Field) (field : IsFieldOf (schema_of r) (index_of f) f) where
  -- a fact of the field's own schema is one of the struct's
  pub target_in : (o : Option ℕ) → o ≡ kind_target (typed_of f).field.kind (typed_of f).type → o ≡ kind_target (field_in r f).field.kind (field_in r f).type
  target_in o e = e ∙ ap (λ (s : StructSchema). kind_target (struct_field s (index_of f)).field.kind (struct_field s (index_of f)).type) field.schema

  pub part_refused : (kind : ErrorKind) → value.Fault kind ≡ field_seen r (index_of f) → IsPartRefused r f kind
  part_refused kind is = λ left at.
      refused_shown (set_of (schema_of r)) (record_within (length (set_of (schema_of r)).brands) (set_of (schema_of r)) (Left (struct_levels (reader_of r))) (struct_of (reader_of r)).bytes (values_of (set_of (schema_of r)) (struct_of (reader_of r)).pointers)) (Left (struct_levels (reader_of r))) (struct_of (reader_of r)) left at
      (field_in r f).field.kind (field_in r f).type kind is

  pub part_value : IsStruct (schema_of r) → (v : DynamicValue) → value_seen v ≡ field_seen r (index_of f) → IsOf (set_of (schema_of r)) (field_in r f).type v →
      None ≡ kind_target (field_in r f).field.kind (field_in r f).type → IsPart r f v
  part_value stands v is typed none = λ left at.
      slot_shown (set_of (schema_of r)) (record_within (length (set_of (schema_of r)).brands) (set_of (schema_of r)) (Left (struct_levels (reader_of r))) (struct_of (reader_of r)).bytes (values_of (set_of (schema_of r)) (struct_of (reader_of r)).pointers)) (Left (struct_levels (reader_of r))) (struct_of (reader_of r)) left at
      (field_in r f).field.kind (field_in r f).type v (stands.accepted.rule7 (number_of (schema_of r)) (index_of f) stands.number field.inside) (sym none) is (under_of (set_of (schema_of r)) (field_in r f).type v typed)

  -- a group is printed as the same struct under the group's schema
  pub part_group : IsAccepted (set_of (schema_of r)) → (g : StructSchema) → Some (number_of g) ≡ kind_target (field_in r f).field.kind (field_in r f).type → set_of g ≡ set_of (schema_of r) →
      (left : ℕ) (at : Layout) → field_shown left at r (field_in r f) ≡ record_shown left at (record { reader = reader_of r; schema = g })
  part_group accepted g some same left at =
      group_text (set_of (schema_of r)) (Left (struct_levels (reader_of r))) (struct_of (reader_of r)) left at (number_of g)
      (field_in r f).field.kind (field_in r f).type (sym some)
      (part_of_group (set_of (schema_of r)) accepted (Left (struct_levels (reader_of r))) (struct_of (reader_of r)).bytes (values_of (set_of (schema_of r)) (struct_of (reader_of r)).pointers) (number_of (schema_of r)) (index_of f) (number_of g) (brand_there (set_of (schema_of r)) (number_of (schema_of r)) (index_of f) field.inside) field.inside
      (group_named (field_in r f).field.kind (field_in r f).type (number_of g) (sym some)))
      ∙ ap (λ (z : Schemas). record_text z (text_within z left) at (number_of g) (struct_record z (Left (struct_levels (reader_of r))) (struct_of (reader_of r)) (number_of g))) (sym same)

  pub part_read : IsStruct (schema_of r) → (answer : Result DynamicValue Error) → answered_value answer ≡ field_seen r (index_of f) → IfOk answer (IsOf (set_of (schema_of r)) (field_in r f).type) →
      None ≡ kind_target (field_in r f).field.kind (field_in r f).type → IfOk answer (IsPart r f)
  part_read stands (Ok v) is typed none = part_value stands v is typed none
  part_read stands (Err e) is typed none = tt {0}

  pub part_unread : (answer : Result DynamicValue Error) → answered_value answer ≡ field_seen r (index_of f) → IfErr answer (λ e. IsPartRefused r f e.kind)
  part_unread (Ok v) is = tt {0}
  part_unread (Err e) is = part_refused e.kind is
