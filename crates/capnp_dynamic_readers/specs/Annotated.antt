-- The values of annotations, under their types.
use Rattle.std.specs.Prelude.{ℕ, List, pos}
use Rattle.capnp_device.specs.declared.error.ErrorKind.TheVariants.{TypeMismatch}
use Rattle.capnp_schema.specs.Accepted.{words_root}
use Rattle.capnp_schema.specs.AnnotationLists.{annotation_in, annotation_set}
use Rattle.capnp_schema.specs.Schema.{Schemas, VoidValue, BoolValue, IntValue, UIntValue, EnumValue, TextValue, DataValue, StructValue, ListValue, AnyPointerValue, Value as SchemaValue}
use Rattle.capnp_schema.specs.Types.{SchemaType, EnumType, StructType, ListType, AnyPointerType}
use Rattle.capnp_schema.specs.declared.schema.annotations.Annotation.{Annotation}
use Rattle.capnp_records.specs.Default.{own_levels, read_of}
use Rattle.capnp_records.specs.Reading.{value_of}
use Rattle.capnp_records.specs.Record as value
use Rattle.capnp_records.specs.Record.{Left, Value}

-- what the words of a value read as, from their root on with the levels of a default
abbrev pub words_read : Schemas → List ℕ → SchemaType → Value
words_read set words t = read_of set VoidValue t (value_of set (words_root words) (Left own_levels) t)

-- what a stored value reads as: a void, a truth value, a number, a text and data whatever the type; an enum, a struct, a
-- list and an untyped pointer under their type alone
abbrev pub stored_read : Schemas → SchemaValue → SchemaType → Value
stored_read set VoidValue t = value.Void
stored_read set (BoolValue b) t = value.Truth b
stored_read set (IntValue bytes x) t = value.Number x
stored_read set (UIntValue bytes x) t = value.Number (pos x)
stored_read set (EnumValue x) (EnumType number) = value.Enum x
stored_read set (EnumValue x) t = value.Fault TypeMismatch
stored_read set (TextValue bytes) t = value.Text bytes
stored_read set (DataValue bytes) t = value.Data bytes
stored_read set (StructValue words) (StructType b g) = words_read set words (StructType b g)
stored_read set (StructValue words) t = value.Fault TypeMismatch
stored_read set (ListValue words) (ListType element) = words_read set words (ListType element)
stored_read set (ListValue words) t = value.Fault TypeMismatch
stored_read set (AnyPointerValue words) AnyPointerType = value.Untyped (words_root words)
stored_read set (AnyPointerValue words) t = value.Fault TypeMismatch

-- the value of an annotation under its type
abbrev pub annotation_read : Annotation → Value
annotation_read x = stored_read (annotation_set x) (annotation_in x).annotation.value (annotation_in x).type
