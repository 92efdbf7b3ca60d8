-- The texts of what is read, as a printer appends them: steps of the code.
use Rattle.std.specs.Prelude.{ℕ, [], ◌++◌, ◌≡◌, List, Bool, true, false, not, ◌||◌, ◌==◌, ⊤, Option, Some, None}
use Rattle.capnp_wire.specs.Standing.{list_levels, list_of, struct_levels, struct_of}
use Rattle.capnp_wire.specs.Reading.{list_length}
use Rattle.capnp_schema.specs.FieldLists.{IsFieldOf, index_of}
use Rattle.capnp_schema.specs.Schema.{TypedField, VoidValue, default_of, is_member, node_of}
use Rattle.capnp_schema.specs.StructHandles.{number_of, set_of, struct_fields}
use Rattle.capnp_schema.specs.declared.schema.fields.Field.{Field}
use Rattle.capnp_records.specs.Facts.ListValues.{below_of}
use Rattle.capnp_records.specs.Part.{which_of}
use Rattle.capnp_records.specs.Reading.{element_value, part_of, non_union_parts, union_of, values_of}
use Rattle.capnp_records.specs.Record.{Left, Union, Value, Values, is_there, values_from}
use Rattle.capnp_records.specs.Text.{Inner, Layout, Member, Out, before, deeper, element_texts, item, item_if, later, list_text, member, part_text, print_levels, record_text, shown, text_within}
use Rattle.capnp_dynamic_readers.specs.Handles.{element_of, list_reader_of, list_set, reader_of, schema_of}
use Rattle.capnp_dynamic_readers.specs.Seen.{record_seen, value_seen}
use Rattle.capnp_dynamic_readers.specs.declared.dynamic_list.Reader.{Reader as ListHandle}
use Rattle.capnp_dynamic_readers.specs.declared.dynamic_struct.Reader.{Reader as StructHandle}
use Rattle.capnp_dynamic_readers.specs.declared.dynamic_value.Reader.{Reader as DynamicValue}
use Rattle.capnp_dynamic_readers.specs.Shown.{set_seen, type_seen, value_printed}

-- the text of a value that stands alone
abbrev pub root_shown : Layout → DynamicValue → Out
root_shown at v = part_text (set_seen v) (text_within (set_seen v) print_levels) at VoidValue (type_seen v) (value_printed v)

-- ---- the text of a value where so many levels are left ----

abbrev pub value_shown : ℕ → Layout → DynamicValue → Out
value_shown left at v = text_within (set_seen v) left at (type_seen v) (value_seen v)

-- ---- lists ----

-- the elements from an index on, so many
abbrev pub elements_from : ListHandle → ℕ → ℕ → Values
elements_from l first count =
    values_from (element_value (list_set l) (list_of (list_reader_of l)) (below_of (list_set l) (list_of (list_reader_of l))) (Left (list_levels (list_reader_of l))) (element_of l)) first count

abbrev pub element_items : ℕ → Layout → ListHandle → ℕ → ℕ → List Out
element_items left at l first count = element_texts (list_set l) (text_within (list_set l) left) at (element_of l) (elements_from l first count)

abbrev pub count_of : ListHandle → ℕ
count_of l = list_length (list_of (list_reader_of l))

-- a list, whose elements have so many levels
abbrev pub list_shown : ℕ → Layout → ListHandle → Out
list_shown left at l = list_text at (element_items left (deeper at) l 0 (count_of l))

-- an element, under the list's type
abbrev pub element_shown : ℕ → Layout → ListHandle → Value → Out
element_shown left at l v = text_within (list_set l) left at (element_of l) v

-- ---- structs ----

-- what stands under a struct's parts
abbrev pub within_struct : ℕ → StructHandle → Inner
within_struct left r = text_within (set_of (schema_of r)) left

-- a struct or group, whose parts have so many levels
abbrev pub record_shown : ℕ → Layout → StructHandle → Out
record_shown left at r = record_text (set_of (schema_of r)) (within_struct left r) at (number_of (schema_of r)) (record_seen r)

-- what a struct has under a field
abbrev pub part_seen : StructHandle → TypedField → Value
part_seen r f = part_of (set_of (schema_of r)) (Left (struct_levels (reader_of r))) (struct_of (reader_of r)).bytes (values_of (set_of (schema_of r)) (struct_of (reader_of r)).pointers) f

abbrev pub union_seen : StructHandle → Union
union_seen r = union_of (part_seen r) (node_of (set_of (schema_of r)) (number_of (schema_of r))) (struct_fields (schema_of r)) (struct_of (reader_of r)).bytes

-- the text of what a struct has under a field, and the item of it
abbrev pub field_shown : ℕ → Layout → StructHandle → TypedField → Out
field_shown left at r f = part_text (set_of (schema_of r)) (within_struct left r) at (default_of f.field) f.type (part_seen r f)

abbrev pub field_item : ℕ → Layout → StructHandle → TypedField → Out
field_item left at r f = item f (field_shown left at r f)

-- whether the active member is shown, and its item where it is
abbrev pub is_member_shown : StructHandle → TypedField → Bool
is_member_shown r f = is_there (part_seen r f) || not (f.field.discriminant_value == 0)

abbrev pub member_items : ℕ → Layout → StructHandle → TypedField → List Out
member_items left at r f = item_if (is_member_shown r f) (field_item left at r f)

-- all items of a struct
abbrev pub record_items : ℕ → Layout → StructHandle → List Out
record_items left at r =
    shown (set_of (schema_of r)) (within_struct left r) at (struct_fields (schema_of r)) 0 (non_union_parts (part_seen r) (struct_fields (schema_of r)))
    (member (set_of (schema_of r)) (within_struct left r) at (number_of (schema_of r)) (union_seen r))

-- the active member of a struct, where its place is still to come
abbrev pub IsPending : StructHandle → Option Field → Type 0
IsPending r None = ⊤
IsPending r (Some f) = IsFieldOf (schema_of r) (index_of f) f × (which_of (record_seen r) ≡ Some (index_of f))

-- the items of a non-union field with the member before it, and of a member none: it has its place among the non-union fields
abbrev pub unless_member : (is_member : Bool) → List Out → List Out
unless_member true items = []
unless_member false items = items

abbrev pub field_items : ℕ → Layout → StructHandle → TypedField → ℕ → Member → List Out
field_items left at r f i m = unless_member (is_member f.field) (before m i ++ item_if (is_there (part_seen r f)) (field_item left at r f))

-- the member that is still to come after a field
abbrev pub still_pending : (is_member : Bool) → Member → ℕ → Member
still_pending true m i = m
still_pending false m i = later m i
