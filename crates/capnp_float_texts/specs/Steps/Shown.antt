-- The texts of what is read, as the walk of a print appends them: steps of the code.
use Rattle.std.specs.Prelude.{ℕ, ◌++◌, List, Bool, drop}
use Rattle.capnp_wire.specs.declared.struct_reader.StructReader.{StructReader}
use Rattle.capnp_schema.specs.Schema.{Schemas, TypedField, VoidValue, default_of, fields_of, is_member}
use Rattle.capnp_schema.specs.StructHandles.{number_of, set_of, struct_fields}
use Rattle.capnp_records.specs.Reading.{non_union_parts}
use Rattle.capnp_records.specs.Record.{Value, is_there}
use Rattle.capnp_records.specs.Text.{Layout, Member, Out, before, deeper, element_texts, item, item_if, later, list_text, print_levels}
use Rattle.capnp_json_fields.specs.Marks.{is_float}
use Rattle.capnp_dynamic_readers.specs.Handles.{element_of, list_set, schema_of}
use Rattle.capnp_dynamic_readers.specs.Seen.{record_seen, value_seen}
use Rattle.capnp_dynamic_readers.specs.Shown.{set_seen, type_seen, value_printed}
use Rattle.capnp_dynamic_readers.specs.Steps.GroupTexts.{read_part_at, union_at}
use Rattle.capnp_dynamic_readers.specs.Steps.Shown.{count_of, elements_from, is_member_shown, part_seen, union_seen, unless_member}
use Rattle.capnp_dynamic_readers.specs.declared.dynamic_list.Reader.{Reader as ListHandle}
use Rattle.capnp_dynamic_readers.specs.declared.dynamic_struct.Reader.{Reader as StructHandle}
use Rattle.capnp_dynamic_readers.specs.declared.dynamic_value.Reader.{Reader as DynamicValue}
use Rattle.capnp_float_texts.specs.Texts.{Inner, member, part_text, record_text, shown, text_within}

-- the text of a value that stands alone
abbrev pub root_shown : (floats : Bool) → Layout → DynamicValue → Out
root_shown floats at v = part_text (set_seen v) (text_within (set_seen v) print_levels) floats at VoidValue (type_seen v) (value_printed v)

-- ---- the text of a value where so many levels are left ----

abbrev pub value_shown : (floats : Bool) → ℕ → Layout → DynamicValue → Out
value_shown floats left at v = text_within (set_seen v) left floats at (type_seen v) (value_seen v)

-- ---- lists ----

-- the elements from an index on, so many
abbrev pub element_items : (floats : Bool) → ℕ → Layout → ListHandle → ℕ → ℕ → List Out
element_items floats left at l first count = element_texts (list_set l) (text_within (list_set l) left floats) at (element_of l) (elements_from l first count)

-- a list, whose elements have so many levels
abbrev pub list_shown : (floats : Bool) → ℕ → Layout → ListHandle → Out
list_shown floats left at l = list_text at (element_items floats left (deeper at) l 0 (count_of l))

-- an element, under the list's type
abbrev pub element_shown : (floats : Bool) → ℕ → Layout → ListHandle → Value → Out
element_shown floats left at l v = text_within (list_set l) left floats at (element_of l) v

-- ---- structs ----

-- what stands under a struct's parts
abbrev pub within_struct : ℕ → StructHandle → Inner
within_struct left r = text_within (set_of (schema_of r)) left

-- a struct or group, whose parts have so many levels
abbrev pub record_shown : ℕ → Layout → StructHandle → Out
record_shown left at r = record_text (set_of (schema_of r)) (within_struct left r) at (number_of (schema_of r)) (record_seen r)

-- the text of what a struct has under a field, and the item of it
abbrev pub field_shown : ℕ → Layout → StructHandle → TypedField → Out
field_shown left at r f = part_text (set_of (schema_of r)) (within_struct left r) (is_float f) at (default_of f.field) f.type (part_seen r f)

abbrev pub field_item : ℕ → Layout → StructHandle → TypedField → Out
field_item left at r f = item f (field_shown left at r f)

-- the active member's item where it is shown
abbrev pub member_items : ℕ → Layout → StructHandle → TypedField → List Out
member_items left at r f = item_if (is_member_shown r f) (field_item left at r f)

-- all items of a struct
abbrev pub record_items : ℕ → Layout → StructHandle → List Out
record_items left at r =
    shown (set_of (schema_of r)) (within_struct left r) at (struct_fields (schema_of r)) 0 (non_union_parts (part_seen r) (struct_fields (schema_of r)))
    (member (set_of (schema_of r)) (within_struct left r) at (number_of (schema_of r)) (union_seen r))

-- the items of a non-union field with the member before it, and of a member none: it has its place among the non-union fields
abbrev pub field_items : ℕ → Layout → StructHandle → TypedField → ℕ → Member → List Out
field_items left at r f i m = unless_member (is_member f.field) (before m i ++ item_if (is_there (part_seen r f)) (field_item left at r f))

-- the items of a brand from a field on
abbrev pub items_from : ℕ → Schemas → StructReader → Layout → ℕ → ℕ → List Out
items_from left set r at b i =
    shown set (text_within set left) at (drop i (fields_of set b)) i (non_union_parts (read_part_at set r) (drop i (fields_of set b))) (later (member set (text_within set left) at b (union_at set r b)) i)
