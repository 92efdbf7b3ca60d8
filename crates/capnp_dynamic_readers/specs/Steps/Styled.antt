-- How the walk of a print makes the text of a whole of the texts of its parts, in each style; and the plain style.
use Rattle.std.specs.Prelude.{ℕ, suc, decimal, ◌+◌, ◌<◌, ◌≤◌, ◌≡◌, List, [], ◌∷◌, ◌++◌, true, false, length, Err, Some, None}
use Rattle.capnp_device.specs.declared.error.ErrorKind.{ErrorKind}
use Rattle.capnp_device.specs.declared.error.ErrorKind.TheVariants.{TooDeep}
use Rattle.capnp_schema.specs.Accepted.{IsAccepted}
use Rattle.capnp_schema.specs.FieldLists.{IsFieldOf, index_of}
use Rattle.capnp_schema.specs.Schema.{TypedField, kind_target, node_of}
use Rattle.capnp_schema.specs.StructHandles.{IsStruct, number_of, set_of, struct_field, struct_fields}
use Rattle.capnp_schema.specs.declared.schema.fields.Field.{Field}
use Rattle.capnp_schema.specs.declared.schema.structs.StructSchema.{StructSchema}
use Rattle.capnp_records.specs.Record as value
use Rattle.capnp_records.specs.Text.{Layout, Out, deeper, item, item_if, list_text, said_text, struct_text}
use Rattle.capnp_dynamic_readers.specs.Handles.{element_of, list_set, reader_of, schema_of}
use Rattle.capnp_dynamic_readers.specs.Reads.{element_seen, field_seen}
use Rattle.capnp_dynamic_readers.specs.Seen.{value_seen}
use Rattle.capnp_dynamic_readers.specs.Steps.GroupTexts.{is_item, items_from}
use Rattle.capnp_dynamic_readers.specs.Steps.Leaf.{IsLeaf, leaf_text}
use Rattle.capnp_dynamic_readers.specs.Steps.PartsRead.{fault_at, field_in}
use Rattle.capnp_dynamic_readers.specs.Steps.Shown.{count_of, element_items, element_shown, field_shown, root_shown, value_shown}
use Rattle.capnp_dynamic_readers.specs.Styles.{Texts}
use Rattle.capnp_dynamic_readers.specs.Typed.{IsOf, IsValueUnder}
use Rattle.capnp_dynamic_readers.specs.declared.dynamic_list.Reader.{Reader as ListHandle}
use Rattle.capnp_dynamic_readers.specs.declared.dynamic_struct.Reader.{Reader as StructHandle}
use Rattle.capnp_dynamic_readers.specs.declared.dynamic_value.Reader.{Reader as DynamicValue}
use Rattle.capnp_dynamic_readers.specs.declared.dynamic_value.Reader.TheVariants as dynamic

-- a value that is no struct and no list: only numbers differ
abbrev pub leaf_in : Texts → DynamicValue → Out
leaf_in x (dynamic.UInt32 n) = said_text (x.narrow n)
leaf_in x (dynamic.UInt64 n) = said_text (x.wide n)
leaf_in x v = leaf_text v

-- a list, whose elements have so many levels
abbrev pub list_in : Texts → ℕ → Layout → ListHandle → Out
list_in x left at l = list_text at (x.elements left (deeper at) l 0 (count_of l))

-- the items of a struct from a field on, and that of one field, where it has one
abbrev pub items_in : Texts → ℕ → Layout → StructHandle → ℕ → List Out
items_in x left at h i = x.items left (set_of (schema_of h)) (reader_of h) at (number_of (schema_of h)) i

abbrev pub own_in : Texts → ℕ → Layout → StructHandle → ℕ → List Out
own_in x left at h i = item_if (is_item h (struct_field (schema_of h) i) i) (item (struct_field (schema_of h) i) (x.field left at h (struct_field (schema_of h) i)))

-- a struct or group, whose parts have so many levels
abbrev pub record_in : Texts → ℕ → Layout → StructHandle → Out
record_in x left at h = struct_text at (struct_fields (schema_of h)) (items_in x left (deeper at) h 0)

-- how texts are made of one another; what stands under a field has those of its own style
pub record IsTexts (x : Texts) (under : TypedField → Texts) : Type 0 where
  pub root_group : (at : Layout) (v : DynamicValue) (s : StructHandle) → v ≡ dynamic.Struct s → (node_of (set_of (schema_of s)) (number_of (schema_of s))).is_group ≡ true → x.root at v ≡ record_in x 64 at s
  pub root_struct : (at : Layout) (v : DynamicValue) (s : StructHandle) → v ≡ dynamic.Struct s → (node_of (set_of (schema_of s)) (number_of (schema_of s))).is_group ≡ false → x.root at v ≡ x.value 64 at v
  pub root_other : (at : Layout) (v : DynamicValue) → ((s : StructHandle) → v ≡ dynamic.Struct s → ⊥) → x.root at v ≡ x.value 64 at v
  pub struct_flat : (at : Layout) (s : StructHandle) → x.value 0 at (dynamic.Struct s) ≡ Err TooDeep
  pub struct_deep : (left : ℕ) (at : Layout) (s : StructHandle) → x.value (suc left) at (dynamic.Struct s) ≡ record_in x left at s
  pub list_flat : (at : Layout) (l : ListHandle) → x.value 0 at (dynamic.List l) ≡ Err TooDeep
  pub list_deep : (left : ℕ) (at : Layout) (l : ListHandle) → x.value (suc left) at (dynamic.List l) ≡ list_in x left at l
  pub leaf : (left : ℕ) (at : Layout) (v : DynamicValue) → IsLeaf v → x.value left at v ≡ leaf_in x v
  pub elements_none : (left : ℕ) (at : Layout) (l : ListHandle) (i : ℕ) → x.elements left at l i 0 ≡ []
  pub elements_next : (left : ℕ) (at : Layout) (l : ListHandle) (i n : ℕ) → x.elements left at l i (suc n) ≡ x.element left at l i ∷ x.elements left at l (suc i) n
  pub element_read : (l : ListHandle) (i : ℕ) (v : DynamicValue) → value_seen v ≡ element_seen l i → IsValueUnder (list_set l) (element_of l) v → (left : ℕ) (at : Layout) → x.element left at l i ≡ x.value left at v
  pub element_refused : (l : ListHandle) (i : ℕ) (kind : ErrorKind) → value.Fault kind ≡ element_seen l i → (left : ℕ) (at : Layout) → x.element left at l i ≡ Err (fault_at left (element_of l) kind)
  pub field_read : (h : StructHandle) (f : Field) → IsFieldOf (schema_of h) (index_of f) f → IsStruct (schema_of h) → (v : DynamicValue) → value_seen v ≡ field_seen h (index_of f) → IsOf (set_of (schema_of h)) (field_in h f).type v →
      None ≡ kind_target (field_in h f).field.kind (field_in h f).type → (left : ℕ) (at : Layout) → x.field left at h (field_in h f) ≡ (under (field_in h f)).value left at v
  pub field_refused : (h : StructHandle) (f : Field) → IsFieldOf (schema_of h) (index_of f) f → (kind : ErrorKind) → value.Fault kind ≡ field_seen h (index_of f) →
      (left : ℕ) (at : Layout) → x.field left at h (field_in h f) ≡ Err (fault_at left (field_in h f).type kind)
  pub field_group : (h : StructHandle) (f : Field) → IsFieldOf (schema_of h) (index_of f) f → IsAccepted (set_of (schema_of h)) → (g : StructSchema) →
      Some (number_of g) ≡ kind_target (field_in h f).field.kind (field_in h f).type → set_of g ≡ set_of (schema_of h) → (left : ℕ) (at : Layout) →
      x.field left at h (field_in h f) ≡ record_in x left at (record { reader = reader_of h; schema = g })
  pub items_next : (left : ℕ) (at : Layout) (h : StructHandle) (i : ℕ) → i < length (struct_fields (schema_of h)) → items_in x left at h i ≡ own_in x left at h i ++ items_in x left at h (i + 1)
  pub items_end : (left : ℕ) (at : Layout) (h : StructHandle) (i : ℕ) → length (struct_fields (schema_of h)) ≤ i → items_in x left at h i ≡ []

-- the plain style: the texts of records
abbrev pub plain_texts : Texts
plain_texts = record {
  root = root_shown;
  value = value_shown;
  element = λ (left : ℕ) (at : Layout) (l : ListHandle) (i : ℕ). element_shown left at l (element_seen l i);
  elements = element_items;
  field = field_shown;
  items = items_from;
  narrow = decimal;
  wide = decimal;
}
