-- The plain texts are made of one another as the walk of a print goes.
use Rattle.std.specs.Prelude.{ℕ, zero, suc, ◌≡◌, refl, List, Option, Some, None}
use Rattle.std.proofs.Common.{ap, sym, ◌∙◌}
use Rattle.capnp_schema.specs.Schema.{Schemas, TypedField}
use Rattle.capnp_schema.specs.StructHandles.{struct_fields}
use Rattle.capnp_schema.specs.Types.{SchemaType}
use Rattle.capnp_records.specs.Record.{Value}
use Rattle.capnp_records.specs.Text.{Inner, Layout, Out, deeper, struct_text, text_within, value_text}
use Rattle.capnp_dynamic_readers.specs.Facts.ItemsInOrder.{from_end, from_next, from_start}
use Rattle.capnp_dynamic_readers.specs.Facts.PartsShown.{fault_text, part_group, part_refused, part_value, text_under}
use Rattle.capnp_dynamic_readers.specs.Facts.Roots.{group_root, other_root, struct_root}
use Rattle.capnp_dynamic_readers.specs.Handles.{element_of, list_set, reader_of, schema_of}
use Rattle.capnp_dynamic_readers.specs.Seen.{value_seen}
use Rattle.capnp_dynamic_readers.specs.Shown.{set_seen, type_seen}
use Rattle.capnp_dynamic_readers.specs.Steps.Leaf.{IsLeaf}
use Rattle.capnp_dynamic_readers.specs.Steps.Shown.{record_shown, value_shown}
use Rattle.capnp_dynamic_readers.specs.Steps.Styled.{IsTexts, leaf_in, plain_texts, record_in}
use Rattle.capnp_dynamic_readers.specs.declared.dynamic_struct.Reader.{Reader as StructHandle}
use Rattle.capnp_dynamic_readers.specs.declared.dynamic_value.Reader.{Reader as DynamicValue}
use Rattle.capnp_dynamic_readers.specs.declared.dynamic_value.Reader.TheVariants as dynamic

-- a struct's items are those from its first field on
record_is : (left : ℕ) (at : Layout) (s : StructHandle) → record_shown left at s ≡ record_in plain_texts left at s
record_is left at s = ap (λ (items : List Out). struct_text at (struct_fields (schema_of s)) items) (sym (from_start left (deeper at) s))

by_levels : (set : Schemas) (left : ℕ) (at : Layout) (t : SchemaType) (v : Value) (o : Out) → ((inner : Option Inner) → value_text set inner at t v ≡ o) → text_within set left at t v ≡ o
by_levels set zero at t v o h = h None
by_levels set (suc n) at t v o h = h (Some (text_within set n))

leaf_is : (left : ℕ) (at : Layout) (v : DynamicValue) → IsLeaf v → value_shown left at v ≡ leaf_in plain_texts v
leaf_is left at dynamic.Void h = by_levels (set_seen dynamic.Void) left at (type_seen dynamic.Void) (value_seen dynamic.Void) (leaf_in plain_texts dynamic.Void) (λ inner. refl)
leaf_is left at (dynamic.Bool b) h = by_levels (set_seen (dynamic.Bool b)) left at (type_seen (dynamic.Bool b)) (value_seen (dynamic.Bool b)) (leaf_in plain_texts (dynamic.Bool b)) (λ inner. refl)
leaf_is left at (dynamic.Int8 x) h = by_levels (set_seen (dynamic.Int8 x)) left at (type_seen (dynamic.Int8 x)) (value_seen (dynamic.Int8 x)) (leaf_in plain_texts (dynamic.Int8 x)) (λ inner. refl)
leaf_is left at (dynamic.Int16 x) h = by_levels (set_seen (dynamic.Int16 x)) left at (type_seen (dynamic.Int16 x)) (value_seen (dynamic.Int16 x)) (leaf_in plain_texts (dynamic.Int16 x)) (λ inner. refl)
leaf_is left at (dynamic.Int32 x) h = by_levels (set_seen (dynamic.Int32 x)) left at (type_seen (dynamic.Int32 x)) (value_seen (dynamic.Int32 x)) (leaf_in plain_texts (dynamic.Int32 x)) (λ inner. refl)
leaf_is left at (dynamic.Int64 x) h = by_levels (set_seen (dynamic.Int64 x)) left at (type_seen (dynamic.Int64 x)) (value_seen (dynamic.Int64 x)) (leaf_in plain_texts (dynamic.Int64 x)) (λ inner. refl)
leaf_is left at (dynamic.UInt8 x) h = by_levels (set_seen (dynamic.UInt8 x)) left at (type_seen (dynamic.UInt8 x)) (value_seen (dynamic.UInt8 x)) (leaf_in plain_texts (dynamic.UInt8 x)) (λ inner. refl)
leaf_is left at (dynamic.UInt16 x) h = by_levels (set_seen (dynamic.UInt16 x)) left at (type_seen (dynamic.UInt16 x)) (value_seen (dynamic.UInt16 x)) (leaf_in plain_texts (dynamic.UInt16 x)) (λ inner. refl)
leaf_is left at (dynamic.UInt32 x) h = by_levels (set_seen (dynamic.UInt32 x)) left at (type_seen (dynamic.UInt32 x)) (value_seen (dynamic.UInt32 x)) (leaf_in plain_texts (dynamic.UInt32 x)) (λ inner. refl)
leaf_is left at (dynamic.UInt64 x) h = by_levels (set_seen (dynamic.UInt64 x)) left at (type_seen (dynamic.UInt64 x)) (value_seen (dynamic.UInt64 x)) (leaf_in plain_texts (dynamic.UInt64 x)) (λ inner. refl)
leaf_is left at (dynamic.Enum e) h = by_levels (set_seen (dynamic.Enum e)) left at (type_seen (dynamic.Enum e)) (value_seen (dynamic.Enum e)) (leaf_in plain_texts (dynamic.Enum e)) (λ inner. refl)
leaf_is left at (dynamic.Text t) h = by_levels (set_seen (dynamic.Text t)) left at (type_seen (dynamic.Text t)) (value_seen (dynamic.Text t)) (leaf_in plain_texts (dynamic.Text t)) (λ inner. refl)
leaf_is left at (dynamic.«Data» bytes) h = by_levels (set_seen (dynamic.«Data» bytes)) left at (type_seen (dynamic.«Data» bytes)) (value_seen (dynamic.«Data» bytes)) (leaf_in plain_texts (dynamic.«Data» bytes)) (λ inner. refl)
leaf_is left at (dynamic.AnyPointer p) h = by_levels (set_seen (dynamic.AnyPointer p)) left at (type_seen (dynamic.AnyPointer p)) (value_seen (dynamic.AnyPointer p)) (leaf_in plain_texts (dynamic.AnyPointer p)) (λ inner. refl)
leaf_is left at (dynamic.Struct s) h = absurd h
leaf_is left at (dynamic.List l) h = absurd h

pub plain_lawful : IsTexts plain_texts (λ (field : TypedField). plain_texts)
plain_lawful = record {
  root_group = λ at v s e h. group_root at v s e h ∙ record_is 64 at s;
  root_struct = struct_root;
  root_other = other_root;
  struct_flat = λ at s. refl;
  struct_deep = record_is;
  list_flat = λ at l. refl;
  list_deep = λ left at l. refl;
  leaf = leaf_is;
  elements_none = λ left at l i. refl;
  elements_next = λ left at l i n. refl;
  element_read = λ l i v is under left at. ap (text_within (list_set l) left at (element_of l)) (sym is) ∙ text_under (list_set l) (element_of l) left at v under;
  element_refused = λ l i kind is left at. ap (text_within (list_set l) left at (element_of l)) (sym is) ∙ fault_text (list_set l) left at (element_of l) kind;
  field_read = λ h f field stands v is typed none. part_value h f field stands v is typed none;
  field_refused = λ h f field kind is. part_refused h f field kind is;
  field_group = λ h f field accepted g some same left at. part_group h f field accepted g some same left at ∙ record_is left at (record { reader = reader_of h; schema = g });
  items_next = from_next;
  items_end = from_end;
}
