-- The JSON of what is read, where so many levels are left.
use Rattle.std.specs.Prelude.{ℕ, ◌-◌, ◌≡◌, List, Bool, true, false, codes, Err}
use Rattle.capnp_device.specs.declared.error.ErrorKind.{ErrorKind}
use Rattle.capnp_wire.specs.Standing.{list_levels, list_of}
use Rattle.capnp_schema.specs.Schema.{TypedField}
use Rattle.capnp_schema.specs.Types.{SchemaType, VoidType, BoolType, IntType, UIntType, EnumType, TextType, DataType, StructType, ListType, AnyPointerType}
use Rattle.capnp_schema.specs.StructHandles.{number_of, set_of}
use Rattle.capnp_schema.specs.declared.schema.fields.Field.{Field}
use Rattle.capnp_records.specs.Facts.ListValues.{below_of}
use Rattle.capnp_records.specs.Reading.{element_value}
use Rattle.capnp_records.specs.Record.{Left, Value}
use Rattle.capnp_records.specs.Text.{Layout, deeper}
use Rattle.capnp_dynamic_readers.specs.Handles.{element_of, list_reader_of, list_set, schema_of}
use Rattle.capnp_dynamic_readers.specs.Seen.{record_seen, value_seen}
use Rattle.capnp_dynamic_readers.specs.Shown.{set_seen, type_seen, value_printed}
use Rattle.capnp_dynamic_readers.specs.Steps.PartsRead.{fault_at, field_in}
use Rattle.capnp_dynamic_readers.specs.Steps.Shown.{count_of, elements_from, part_seen}
use Rattle.capnp_dynamic_readers.specs.declared.dynamic_list.Reader.{Reader as ListHandle}
use Rattle.capnp_dynamic_readers.specs.declared.dynamic_struct.Reader.{Reader as StructHandle}
use Rattle.capnp_dynamic_readers.specs.declared.dynamic_value.Reader.{Reader as DynamicValue}
use Rattle.capnp_json.specs.Json.{element_jsons, form_of, json_levels, json_within, part_json, record_json}
use Rattle.capnp_json.specs.Pieces.{Out, array, items_left}
use Rattle.capnp_json.specs.declared.error.JsonError.{JsonError}
use Rattle.capnp_json.specs.declared.error.JsonError.TheVariants.{Read}
use Rattle.capnp_json.specs.declared.forms.Form.{Form}

-- a value, by its handles
abbrev pub value_shown : ℕ → Layout → Form → DynamicValue → Out
value_shown left at form v = json_within (set_seen v) left at form (type_seen v) (value_seen v)

-- a struct or group, whose parts have so many levels
abbrev pub record_shown : ℕ → Layout → StructHandle → Out
record_shown left at r = record_json (set_of (schema_of r)) (json_within (set_of (schema_of r)) left) at (number_of (schema_of r)) (record_seen r)

-- what stands under a field
abbrev pub field_shown : ℕ → Layout → StructHandle → TypedField → Out
field_shown left at r f = part_json (set_of (schema_of r)) (json_within (set_of (schema_of r)) left) at (form_of f) f.type (part_seen r f)

abbrev pub IsPart : StructHandle → Field → DynamicValue → Type 0
IsPart r f v = (left : ℕ) (at : Layout) → field_shown left at r (field_in r f) ≡ value_shown left at (form_of (field_in r f)) v

abbrev pub IsPartRefused : StructHandle → Field → ErrorKind → Type 0
IsPartRefused r f kind = (left : ℕ) (at : Layout) → field_shown left at r (field_in r f) ≡ Err (Read (fault_at left (field_in r f).type kind))

-- an element as it stands in the list, and its JSON
abbrev pub element_there : ListHandle → ℕ → Value
element_there l i = element_value (list_set l) (list_of (list_reader_of l)) (below_of (list_set l) (list_of (list_reader_of l))) (Left (list_levels (list_reader_of l))) (element_of l) i

abbrev pub element_shown : ℕ → Layout → Form → ListHandle → ℕ → Out
element_shown left at form l i = json_within (list_set l) left at form (element_of l) (element_there l i)

abbrev pub IsElement : ListHandle → ℕ → DynamicValue → Type 0
IsElement l i v = (left : ℕ) (at : Layout) (form : Form) → element_shown left at form l i ≡ value_shown left at form v

abbrev pub IsElementRefused : ListHandle → ℕ → ErrorKind → Type 0
IsElementRefused l i kind = (left : ℕ) (at : Layout) (form : Form) → element_shown left at form l i ≡ Err (Read (fault_at left (element_of l) kind))

-- the elements from an index on, so many, and a list, whose elements have so many levels
abbrev pub element_items : ℕ → Layout → Form → ListHandle → ℕ → ℕ → List Out
element_items left at form l first count = element_jsons (json_within (list_set l) left) at form (element_of l) (elements_from l first count)

abbrev pub list_shown : ℕ → Layout → Form → ListHandle → Out
list_shown left at form l = array at (element_items left (deeper at) form l 0 (count_of l))

-- what is left of a list from an element on, and its closing bracket
abbrev pub elements_onward : ℕ → Layout → Form → ListHandle → (first : Bool) → ℕ → Out
elements_onward left at form l first i = items_left (codes "]") at first (element_items left at form l i (count_of l - i))

-- a value that stands alone
abbrev pub root_shown : Layout → Form → DynamicValue → Out
root_shown at form v = part_json (set_seen v) (json_within (set_seen v) json_levels) at form (type_seen v) (value_printed v)

-- whether elements of a type stand behind pointers of their own, which may be null
abbrev pub has_null : SchemaType → Bool
has_null VoidType = false
has_null BoolType = false
has_null (IntType bytes) = false
has_null (UIntType bytes) = false
has_null (EnumType number) = false
has_null TextType = true
has_null DataType = true
has_null (StructType number generic) = false
has_null (ListType element) = true
has_null AnyPointerType = true

-- the refusal of a read, where so many levels are left
abbrev pub read_refusal : ℕ → SchemaType → ErrorKind → JsonError
read_refusal left t kind = Read (fault_at left t kind)
