-- Values of records, as defaults and annotations have them, under a type.
use Rattle.std.specs.Prelude.{pos}
use Rattle.capnp_device.specs.declared.error.ErrorKind.TheVariants.{TypeMismatch}
use Rattle.capnp_wire.specs.Standing.{tree_of}
use Rattle.capnp_schema.specs.Schema.{Schemas, VoidValue}
use Rattle.capnp_schema.specs.Types.{SchemaType, VoidType, BoolType, IntType, UIntType, EnumType, TextType, DataType, StructType, ListType, AnyPointerType}
use Rattle.capnp_schema.specs.declared.value.Value.{Value as View}
use Rattle.capnp_schema.specs.declared.value.Value.TheVariants as view
use Rattle.capnp_records.specs.Record as value
use Rattle.capnp_records.specs.Record.{Value}
use Rattle.capnp_dynamic_readers.specs.Reads.{pointer_read}

-- what a view reads as: a void, a truth value, a number, a text and data whatever the type; an enum, a struct, a list and
-- an untyped pointer under their type alone
abbrev pub view_read : Schemas → View → SchemaType → Value
view_read set view.Void t = value.Void
view_read set (view.Bool b) t = value.Truth b
view_read set (view.Int8 x) t = value.Number x
view_read set (view.Int16 x) t = value.Number x
view_read set (view.Int32 x) t = value.Number x
view_read set (view.Int64 x) t = value.Number x
view_read set (view.UInt8 x) t = value.Number (pos x)
view_read set (view.UInt16 x) t = value.Number (pos x)
view_read set (view.UInt32 x) t = value.Number (pos x)
view_read set (view.UInt64 x) t = value.Number (pos x)
view_read set (view.Enum x) (EnumType number) = value.Enum x
view_read set (view.Enum x) t = value.Fault TypeMismatch
view_read set (view.Text x) t = value.Text x.0.now
view_read set (view.«Data» x) t = value.Data x.now
view_read set (view.Struct p) (StructType b g) = pointer_read set VoidValue (StructType b g) p
view_read set (view.Struct p) t = value.Fault TypeMismatch
view_read set (view.List p) (ListType element) = pointer_read set VoidValue (ListType element) p
view_read set (view.List p) t = value.Fault TypeMismatch
view_read set (view.AnyPointer p) AnyPointerType = value.Untyped (tree_of p)
view_read set (view.AnyPointer p) t = value.Fault TypeMismatch

-- the type that what is handed out is of
abbrev pub view_type : View → SchemaType → SchemaType
view_type view.Void t = VoidType
view_type (view.Bool b) t = BoolType
view_type (view.Int8 x) t = IntType 1
view_type (view.Int16 x) t = IntType 2
view_type (view.Int32 x) t = IntType 4
view_type (view.Int64 x) t = IntType 8
view_type (view.UInt8 x) t = UIntType 1
view_type (view.UInt16 x) t = UIntType 2
view_type (view.UInt32 x) t = UIntType 4
view_type (view.UInt64 x) t = UIntType 8
view_type (view.Enum x) t = t
view_type (view.Text x) t = TextType
view_type (view.«Data» x) t = DataType
view_type (view.Struct p) t = t
view_type (view.List p) t = t
view_type (view.AnyPointer p) t = t
