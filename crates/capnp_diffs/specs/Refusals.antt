-- Why the changes from one struct to another are not answered: what of both is compared, and what of it refuses.
use Rattle.std.specs.Prelude.{ℕ, ◌+◌, ◌^◌, ◌<◌, ◌≤◌, ◌≡◌, ◌≢◌, ◌⊎◌, ⊤, [], false, true, Some, None, Ok, Err, length, option_map}
use Rattle.capnp_device.specs.declared.error.ErrorKind.{ErrorKind}
use Rattle.capnp_device.specs.declared.error.ErrorKind.TheVariants as kind
use Rattle.capnp_wire.specs.Reading.{as_data, as_list, as_struct, as_text, element_levels, element_pointer, element_struct, is_null_tree, list_length, refusal}
use Rattle.capnp_wire.specs.Standing.{struct_levels, struct_of}
use Rattle.capnp_wire.specs.Tree.{FaultLeaf, StructTree, Tree, empty_struct, nth_tree}
use Rattle.capnp_wire.specs.Words.{first_fault, words_of}
use Rattle.capnp_wire.specs.declared.fault.Fault.TheVariants as fault
use Rattle.capnp_wire.specs.declared.size.ElementSize.{ElementSize}
use Rattle.capnp_schema.specs.Discriminant.{discriminant_of}
use Rattle.capnp_schema.specs.Schema.{Group, Schemas, Slot, TypedField, field_at, fields_of, is_member, node_of, Value as SchemaValue}
use Rattle.capnp_schema.specs.SlotValue.{bits_at}
use Rattle.capnp_schema.specs.StructHandles.{number_of, set_of}
use Rattle.capnp_schema.specs.Types.{AnyPointerType, DataType, ListType, SchemaType, StructType, TextType, element_size, is_pointer, struct_brand, struct_number}
use Rattle.capnp_records.specs.Facts.ListValues.{below_of}
use Rattle.capnp_records.specs.Part.{which_of}
use Rattle.capnp_records.specs.Reading.{element_value, reads}
use Rattle.capnp_records.specs.Record.{Endless, Values, values_from}
use Rattle.capnp_dynamic_readers.specs.Handles.{reader_of, schema_of}
use Rattle.capnp_dynamic_readers.specs.declared.dynamic_struct.Reader.{Reader as StructHandle}
use Rattle.capnp_diffs.specs.Changes.{row_changes}

-- two structs under one brand of a set, with the levels that their readers have left
pub record Pair : Type 0 where
  pub set : Schemas
  pub brand : ℕ
  pub old : StructTree
  pub old_levels : ℕ
  pub new : StructTree
  pub new_levels : ℕ

-- the structs that two handles of one schema stand on
abbrev pub pair_of : StructHandle → StructHandle → Pair
pair_of old new = record {
  set = set_of (schema_of new);
  brand = number_of (schema_of new);
  old = struct_of (reader_of old);
  old_levels = struct_levels (reader_of old);
  new = struct_of (reader_of new);
  new_levels = struct_levels (reader_of new);
}

-- ---- what is compared ----

-- Structs under a brand, a field of two structs, what stands behind two pointers of a type, or lists of elements of a type; each
-- with the levels that are left. And of the new struct alone a member that becomes active, or the pointer of one.
pub data Compared : Type 0 where
  Structs : (brand : ℕ) → (old : StructTree) → (old_levels : ℕ) → (new : StructTree) → (new_levels : ℕ) → Compared
  Fields : (field : TypedField) → (old : StructTree) → (old_levels : ℕ) → (new : StructTree) → (new_levels : ℕ) → Compared
  Pointers : (type : SchemaType) → (old : Tree) → (old_levels : ℕ) → (new : Tree) → (new_levels : ℕ) → Compared
  Lists : (element : SchemaType) → (old : Tree) → (old_levels : ℕ) → (new : Tree) → (new_levels : ℕ) → Compared
  NewField : (field : TypedField) → (new : StructTree) → (new_levels : ℕ) → Compared
  NewPointer : (type : SchemaType) → (new : Tree) → (new_levels : ℕ) → Compared

-- a pointer is no null, and the struct or list behind it is entered
abbrev pub IsEntered : Tree → ℕ → StructTree → ℕ → Type 0
IsEntered x l s n = (is_null_tree x ≡ false) × (as_struct x l ≡ Ok s) × (n + 1 ≡ l)

abbrev pub IsListEntered : ElementSize → Tree → ℕ → Tree → ℕ → Type 0
IsListEntered size x l z n = (is_null_tree x ≡ false) × (as_list size x l ≡ Ok z) × (n + 1 ≡ l)

-- how many groups are gone into on the way to a part
abbrev pub most_groups : ℕ
most_groups = 64

-- The two structs themselves, and of what is compared the parts that stand on both sides: non-union fields, a member that is
-- active in both, structs behind pointers, and elements of lists of one length. A group that becomes active is compared with an
-- empty struct. The number is that of the groups on the way.
pub data IsCompared (p : Pair) : ℕ → Compared → Type 0 where
  Both : IsCompared p 0 (Structs p.brand p.old p.old_levels p.new p.new_levels)
  Plain : (c b : ℕ) (s : StructTree) (l : ℕ) (q : StructTree) (m : ℕ) → IsCompared p c (Structs b s l q m) →
      (i : ℕ) → i < length (fields_of p.set b) → is_member (field_at p.set b i).field ≡ false → IsCompared p c (Fields (field_at p.set b i) s l q m)
  Member : (c b : ℕ) (s : StructTree) (l : ℕ) (q : StructTree) (m : ℕ) → IsCompared p c (Structs b s l q m) →
      (i : ℕ) → which_of (reads p.set s b) ≡ Some i → which_of (reads p.set q b) ≡ Some i → IsCompared p c (Fields (field_at p.set b i) s l q m)
  NewMember : (c b : ℕ) (s : StructTree) (l : ℕ) (q : StructTree) (m : ℕ) → IsCompared p c (Structs b s l q m) →
      (i : ℕ) → (which_of (reads p.set s b) ≡ Some i → ⊥) → which_of (reads p.set q b) ≡ Some i → IsCompared p c (NewField (field_at p.set b i) q m)
  InGroup : (c : ℕ) (f : TypedField) (s : StructTree) (l : ℕ) (q : StructTree) (m : ℕ) → IsCompared p c (Fields f s l q m) →
      (node : ℕ) → f.field.kind ≡ Group node → IsCompared p (c + 1) (Structs (struct_number f.type) s l q m)
  InNewGroup : (c : ℕ) (f : TypedField) (q : StructTree) (m : ℕ) → IsCompared p c (NewField f q m) →
      (node : ℕ) → f.field.kind ≡ Group node → IsCompared p (c + 1) (Structs (struct_number f.type) empty_struct 0 q m)
  InSlot : (c : ℕ) (f : TypedField) (s : StructTree) (l : ℕ) (q : StructTree) (m : ℕ) → IsCompared p c (Fields f s l q m) →
      (offset : ℕ) (default : SchemaValue) → f.field.kind ≡ Slot offset default → is_pointer f.type ≡ true →
      IsCompared p c (Pointers f.type (nth_tree s.pointers offset) l (nth_tree q.pointers offset) m)
  InNewSlot : (c : ℕ) (f : TypedField) (q : StructTree) (m : ℕ) → IsCompared p c (NewField f q m) →
      (offset : ℕ) (default : SchemaValue) → f.field.kind ≡ Slot offset default → is_pointer f.type ≡ true → IsCompared p c (NewPointer f.type (nth_tree q.pointers offset) m)
  Behind : (c b g : ℕ) (x : Tree) (l : ℕ) (y : Tree) (m : ℕ) → IsCompared p c (Pointers (StructType b g) x l y m) →
      (s : StructTree) (n : ℕ) (q : StructTree) (k : ℕ) → IsEntered x l s n → IsEntered y m q k → IsCompared p c (Structs b s n q k)
  ListBehind : (c : ℕ) (e : SchemaType) (x : Tree) (l : ℕ) (y : Tree) (m : ℕ) → IsCompared p c (Pointers (ListType e) x l y m) →
      (z : Tree) (n : ℕ) (w : Tree) (k : ℕ) → IsListEntered (element_size e) x l z n → IsListEntered (element_size e) y m w k → IsCompared p c (Lists e z n w k)
  Element : (c b g : ℕ) (x : Tree) (l : ℕ) (y : Tree) (m : ℕ) → IsCompared p c (Lists (StructType b g) x l y m) →
      (i n k : ℕ) → list_length x ≡ list_length y → i < list_length x → n + 1 ≡ l → k + 1 ≡ m → IsCompared p c (Structs b (element_struct x i) n (element_struct y i) k)
  PointerElement : (c : ℕ) (e : SchemaType) (x : Tree) (l : ℕ) (y : Tree) (m : ℕ) → IsCompared p c (Lists e x l y m) →
      (i : ℕ) → list_length x ≡ list_length y → i < list_length x → is_pointer e ≡ true → struct_brand e ≡ None →
      IsCompared p c (Pointers e (element_pointer x i l) (element_levels x l) (element_pointer y i m) (element_levels y m))

-- ---- what refuses ----

-- what stands at a pointer of a type, and is no null, is refused with this number
abbrev pub IsUnread : SchemaType → Tree → ℕ → ErrorKind → Type 0
IsUnread TextType x l k = (is_null_tree x ≡ false) × (as_text x ≡ Err k)
IsUnread DataType x l k = (is_null_tree x ≡ false) × (as_data x ≡ Err k)
IsUnread (StructType b g) x l k = (is_null_tree x ≡ false) × (as_struct x l ≡ Err k)
IsUnread (ListType e) x l k = (is_null_tree x ≡ false) × (as_list (element_size e) x l ≡ Err k)
IsUnread t x l k = ⊥

-- the total size of what a pointer leads to is refused with this number, and so is a copy
abbrev pub IsUncopied : Tree → ErrorKind → Type 0
IsUncopied y k = (k ≡ kind.TooLarge → 2 ^ 64 ≤ words_of y) × (k ≢ kind.TooLarge → option_map refusal (first_fault y) ≡ Some k)

-- what is copied where it is put
abbrev pub IsCopied : SchemaType → Type 0
IsCopied (StructType b g) = ⊤
IsCopied (ListType e) = ⊤
IsCopied t = ⊥

-- the elements of a list
abbrev pub elements_of : Schemas → SchemaType → Tree → Values
elements_of set e x = values_from (element_value set x (below_of set x) Endless e) 0 (list_length x)

-- lists that are put whole: of other lengths, or of elements that are no structs, of which one is another
abbrev pub AreUnlike : Schemas → SchemaType → Tree → Tree → Type 0
AreUnlike set e x y = (list_length x ≡ list_length y → ⊥) ⊎ ((struct_brand e ≡ None) × (row_changes set e 0 (elements_of set e x) (elements_of set e y) ≡ [] → ⊥))

-- A refusal has its cause in what is compared: a read that is refused, a list whose elements are too deep, one group too many on
-- the way, a discriminant that names no member, an untyped pointer that is another, or what is put whole and can't be copied. Or
-- there was no memory.
pub data IsRefusal (p : Pair) : ErrorKind → Type 0 where
  NoMemory : IsRefusal p kind.OutOfMemory
  OldUnread : (c : ℕ) (t : SchemaType) (x : Tree) (l : ℕ) (y : Tree) (m : ℕ) → IsCompared p c (Pointers t x l y m) → (k : ErrorKind) → IsUnread t x l k → IsRefusal p k
  NewUnread : (c : ℕ) (t : SchemaType) (x : Tree) (l : ℕ) (y : Tree) (m : ℕ) → IsCompared p c (Pointers t x l y m) → (k : ErrorKind) → IsUnread t y m k → IsRefusal p k
  MemberUnread : (c : ℕ) (t : SchemaType) (y : Tree) (m : ℕ) → IsCompared p c (NewPointer t y m) → (k : ErrorKind) → IsUnread t y m k → IsRefusal p k
  OldTooDeep : (c : ℕ) (b g : ℕ) (x y : Tree) (m : ℕ) → IsCompared p c (Lists (StructType b g) x 0 y m) → (i : ℕ) → list_length x ≡ list_length y → i < list_length x → IsRefusal p kind.TooDeep
  NewTooDeep : (c : ℕ) (b g : ℕ) (x : Tree) (l : ℕ) (y : Tree) → IsCompared p c (Lists (StructType b g) x l y 0) → (i : ℕ) → list_length x ≡ list_length y → i < list_length x → IsRefusal p kind.TooDeep
  OldPointerTooDeep : (c : ℕ) (e : SchemaType) (x : Tree) (l : ℕ) (y : Tree) (m : ℕ) → IsCompared p c (Lists e x l y m) →
      (i : ℕ) → list_length x ≡ list_length y → i < list_length x → element_pointer x i l ≡ FaultLeaf fault.TooDeep → IsRefusal p kind.TooDeep
  NewPointerTooDeep : (c : ℕ) (e : SchemaType) (x : Tree) (l : ℕ) (y : Tree) (m : ℕ) → IsCompared p c (Lists e x l y m) →
      (i : ℕ) → list_length x ≡ list_length y → i < list_length x → element_pointer y i m ≡ FaultLeaf fault.TooDeep → IsRefusal p kind.TooDeep
  TooManyGroups : (c : ℕ) (f : TypedField) (s : StructTree) (l : ℕ) (q : StructTree) (m : ℕ) → IsCompared p c (Fields f s l q m) → (node : ℕ) → f.field.kind ≡ Group node → most_groups ≤ c → IsRefusal p kind.TooDeep
  TooManyNewGroups : (c : ℕ) (f : TypedField) (q : StructTree) (m : ℕ) → IsCompared p c (NewField f q m) → (node : ℕ) → f.field.kind ≡ Group node → most_groups ≤ c → IsRefusal p kind.TooDeep
  NoMember : (c : ℕ) (b : ℕ) (s : StructTree) (l : ℕ) (q : StructTree) (m : ℕ) → IsCompared p c (Structs b s l q m) → which_of (reads p.set q b) ≡ None →
      (first : ℕ) → discriminant_of (node_of p.set b) ≡ Some first → (bits_at s.bytes first 16 ≡ bits_at q.bytes first 16 → ⊥) → IsRefusal p kind.FieldNotFound
  OtherUntyped : (c : ℕ) (x : Tree) (l : ℕ) (y : Tree) (m : ℕ) → IsCompared p c (Pointers AnyPointerType x l y m) → (x ≡ y → ⊥) → is_null_tree y ≡ false →
      IsRefusal p kind.CannotSetAnyPointerFieldToAPrimitiveValue
  NewUntyped : (c : ℕ) (y : Tree) (m : ℕ) → IsCompared p c (NewPointer AnyPointerType y m) → is_null_tree y ≡ false → IsRefusal p kind.CannotSetAnyPointerFieldToAPrimitiveValue
  Uncopied : (c : ℕ) (t : SchemaType) (x : Tree) (l : ℕ) (y : Tree) (m : ℕ) → IsCompared p c (Pointers t x l y m) → IsCopied t → is_null_tree x ≡ true → (k : ErrorKind) → IsUncopied y k → IsRefusal p k
  MemberUncopied : (c : ℕ) (t : SchemaType) (y : Tree) (m : ℕ) → IsCompared p c (NewPointer t y m) → IsCopied t → (k : ErrorKind) → IsUncopied y k → IsRefusal p k
  ListUncopied : (c : ℕ) (e : SchemaType) (x : Tree) (l : ℕ) (y : Tree) (m : ℕ) → IsCompared p c (Lists e x l y m) → AreUnlike p.set e x y → (k : ErrorKind) → IsUncopied y k → IsRefusal p k
