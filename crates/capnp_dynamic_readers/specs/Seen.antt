-- What a dynamic value stands for: a value of the records, with the levels that its handles have left.
use Rattle.std.specs.Prelude.{Result, Ok, Err, pos}
use Rattle.capnp_device.specs.declared.error.Error.{Error}
use Rattle.capnp_wire.specs.Standing.{list_levels, list_of, struct_levels, struct_of, tree_of}
use Rattle.capnp_base.specs.AnyPointer.{pointer_of}
use Rattle.capnp_schema.specs.StructHandles.{number_of, set_of}
use Rattle.capnp_records.specs.Facts.ListValues.{below_of}
use Rattle.capnp_records.specs.Reading.{elements_value, struct_record}
use Rattle.capnp_records.specs.Record as value
use Rattle.capnp_records.specs.Record.{Left, Record, Value}
use Rattle.capnp_dynamic_readers.specs.Handles.{element_of, list_reader_of, list_set, enum_value_number, reader_of, schema_of}
use Rattle.capnp_dynamic_readers.specs.declared.dynamic_list.Reader.{Reader as ListHandle}
use Rattle.capnp_dynamic_readers.specs.declared.dynamic_struct.Reader.{Reader as StructHandle}
use Rattle.capnp_dynamic_readers.specs.declared.dynamic_value.Reader.{Reader as DynamicValue}
use Rattle.capnp_dynamic_readers.specs.declared.dynamic_value.Reader.TheVariants as dynamic

-- the record that a struct's reader stands on, with its levels
abbrev pub record_seen : StructHandle → Record
record_seen s = struct_record (set_of (schema_of s)) (Left (struct_levels (reader_of s))) (struct_of (reader_of s)) (number_of (schema_of s))

-- the elements that a list's reader stands on, with its levels
abbrev pub list_seen : ListHandle → Value
list_seen l = elements_value (list_set l) (list_of (list_reader_of l)) (below_of (list_set l) (list_of (list_reader_of l))) (Left (list_levels (list_reader_of l))) (element_of l)

-- the value that a dynamic value stands for; its handles are not looked at otherwise
abbrev pub value_seen : DynamicValue → Value
value_seen dynamic.Void = value.Void
value_seen (dynamic.Bool b) = value.Truth b
value_seen (dynamic.Int8 x) = value.Number x
value_seen (dynamic.Int16 x) = value.Number x
value_seen (dynamic.Int32 x) = value.Number x
value_seen (dynamic.Int64 x) = value.Number x
value_seen (dynamic.UInt8 x) = value.Number (pos x)
value_seen (dynamic.UInt16 x) = value.Number (pos x)
value_seen (dynamic.UInt32 x) = value.Number (pos x)
value_seen (dynamic.UInt64 x) = value.Number (pos x)
value_seen (dynamic.Enum e) = value.Enum (enum_value_number e)
value_seen (dynamic.Text t) = value.Text t.0.now
value_seen (dynamic.«Data» bytes) = value.Data bytes.now
value_seen (dynamic.Struct s) = value.Struct (record_seen s)
value_seen (dynamic.List l) = list_seen l
value_seen (dynamic.AnyPointer p) = value.Untyped (tree_of (pointer_of p))

-- what a read answers; a refusal is the fault of its number
abbrev pub answered_value : Result DynamicValue Error → Value
answered_value (Ok v) = value_seen v
answered_value (Err e) = value.Fault e.kind
