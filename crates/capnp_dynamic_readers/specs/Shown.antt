-- The texts of what is read, as a printer appends them.
use Rattle.std.specs.Prelude.{[], Bool, true, false}
use Rattle.capnp_schema.specs.Enums.{enum_number, enum_set}
use Rattle.capnp_schema.specs.Schema.{Schemas, node_of}
use Rattle.capnp_schema.specs.StructHandles.{number_of, set_of}
use Rattle.capnp_schema.specs.Types.{SchemaType, VoidType, BoolType, IntType, UIntType, EnumType, TextType, DataType, ListType, AnyPointerType}
use Rattle.capnp_records.specs.Record as value
use Rattle.capnp_records.specs.Record.{Value}
use Rattle.capnp_records.specs.Text.{Out, text_of}
use Rattle.capnp_dynamic_readers.specs.Handles.{element_of, enum_of, list_set, schema_of}
use Rattle.capnp_dynamic_readers.specs.Seen.{record_seen, value_seen}
use Rattle.capnp_dynamic_readers.specs.Typed.{struct_type}
use Rattle.capnp_dynamic_readers.specs.declared.dynamic_struct.Reader.{Reader as StructHandle}
use Rattle.capnp_dynamic_readers.specs.declared.dynamic_value.Reader.{Reader as DynamicValue}
use Rattle.capnp_dynamic_readers.specs.declared.dynamic_value.Reader.TheVariants as dynamic

-- ---- what a value says of itself ----

-- the set of a value's handle; a value without one needs none
abbrev pub no_schemas : Schemas
no_schemas = record { nodes = []; brands = []; enums = [] }

abbrev pub set_seen : DynamicValue → Schemas
set_seen (dynamic.Enum e) = enum_set (enum_of e)
set_seen (dynamic.Struct s) = set_of (schema_of s)
set_seen (dynamic.List l) = list_set l
set_seen v = no_schemas

-- the type of a value: the variant's own, and that of its handle
abbrev pub type_seen : DynamicValue → SchemaType
type_seen dynamic.Void = VoidType
type_seen (dynamic.Bool b) = BoolType
type_seen (dynamic.Int8 x) = IntType 1
type_seen (dynamic.Int16 x) = IntType 2
type_seen (dynamic.Int32 x) = IntType 4
type_seen (dynamic.Int64 x) = IntType 8
type_seen (dynamic.UInt8 x) = UIntType 1
type_seen (dynamic.UInt16 x) = UIntType 2
type_seen (dynamic.UInt32 x) = UIntType 4
type_seen (dynamic.UInt64 x) = UIntType 8
type_seen (dynamic.Enum e) = EnumType (enum_number (enum_of e))
type_seen (dynamic.Text t) = TextType
type_seen (dynamic.«Data» bytes) = DataType
type_seen (dynamic.Struct s) = struct_type (schema_of s)
type_seen (dynamic.List l) = ListType (element_of l)
type_seen (dynamic.AnyPointer p) = AnyPointerType

-- a struct under a group's schema is a group, every other value what it stands for
abbrev pub struct_printed : Bool → StructHandle → Value
struct_printed true s = value.Group (record_seen s)
struct_printed false s = value.Struct (record_seen s)

abbrev pub value_printed : DynamicValue → Value
value_printed (dynamic.Struct s) = struct_printed (node_of (set_of (schema_of s)) (number_of (schema_of s))).is_group s
value_printed v = value_seen v

abbrev pub printed_text : (indented : Bool) → DynamicValue → Out
printed_text indented v = text_of (set_seen v) indented (type_seen v) (value_printed v)
