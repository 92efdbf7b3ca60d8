-- Values of a set as text: the defaults of fields, and annotations.
use Rattle.std.specs.Prelude.{ℕ, ◌/◌, List, [], ◌∷◌, ◌++◌, Bool, true, false, not, Ok, Err, codes, decimal, length, pos}
use Rattle.std.specs.Fmt.{digits}
use Rattle.capnp_wire.specs.Reading.{is_null_tree}
use Rattle.capnp_schema.specs.Accepted.{words_root}
use Rattle.capnp_schema.specs.Annotated.{TypedAnnotation}
use Rattle.capnp_schema.specs.Schema.{Schemas, BoolValue, IntValue, UIntValue, EnumValue, TextValue, DataValue, StructValue, ListValue, AnyPointerValue, VoidValue, node_of, Value as SchemaValue}
use Rattle.capnp_schema.specs.Types.{SchemaType, BoolType, DataType, IntType, StructType, TextType, UIntType, VoidType}
use Rattle.capnp_records.specs.Record as value
use Rattle.capnp_records.specs.Record.{Record, Value}
use Rattle.capnp_records.specs.Text.{Out, after, enum_text, said_text, text_of}
use Rattle.capnp_dynamic_readers.specs.Annotated.{stored_read}
use Rattle.capnp_dynamic_readers.specs.Shown.{no_schemas}
use Rattle.capnp_float_texts.specs.Texts.{float_text_of}
use Rattle.capnp_structs.specs.declared.values.Numbers.{Numbers}
use Rattle.capnp_structs.specs.declared.values.Numbers.TheVariants.{Integers, Floats}

-- ---- a value ----

-- whether a type is a group's
abbrev pub is_group_type : Schemas → SchemaType → Bool
is_group_type set (StructType b g) = (node_of set b).is_group
is_group_type set t = false

-- a struct under a group's type is a group, as wherever a value is printed
abbrev pub struct_or_group : (is_group : Bool) → Record → Value
struct_or_group true r = value.Group r
struct_or_group false r = value.Struct r

abbrev pub as_printed : Schemas → SchemaType → Value → Value
as_printed set t (value.Struct r) = struct_or_group (is_group_type set t) r
as_printed set t v = v

-- the text of a value on one line: all its numbers as integers, or as floats those of marked fields, and its own where they are
-- floats
abbrev pub numbers_text : Numbers → Schemas → SchemaType → Value → Out
numbers_text Integers set t v = text_of set false t v
numbers_text (Floats own) set t v = float_text_of set own false t v

-- the text of a value that was read under a type of a set
unfoldable pub read_text : Numbers → Schemas → SchemaType → Value → Out
read_text numbers set t v = numbers_text numbers set t (as_printed set t v)

-- how many words there are, in the place of a text
abbrev pub words_text : List ℕ → List ℕ
words_text words = codes "words: " ++ decimal (length words / 8)

abbrev pub or_words : Out → List ℕ → Out
or_words (Ok pieces) words = Ok pieces
or_words (Err kind) words = said_text (words_text words)

-- A value of a set under a type, as it is read and then printed on one line; an enum past the enumerants, or under another type,
-- is told by its number. An untyped pointer is told by how many words there are, and so is a struct or list whose text is
-- refused, as that of one that leads back to itself.
abbrev pub stored_text : Numbers → Schemas → SchemaType → SchemaValue → Out
stored_text numbers set t VoidValue = numbers_text numbers no_schemas VoidType value.Void
stored_text numbers set t (BoolValue b) = numbers_text numbers no_schemas BoolType (value.Truth b)
stored_text numbers set t (IntValue bytes n) = numbers_text numbers no_schemas (IntType bytes) (value.Number n)
stored_text numbers set t (UIntValue bytes n) = numbers_text numbers no_schemas (UIntType bytes) (value.Number (pos n))
stored_text numbers set t (EnumValue n) = said_text (enum_text set t n)
stored_text numbers set t (TextValue bytes) = numbers_text numbers no_schemas TextType (value.Text bytes)
stored_text numbers set t (DataValue bytes) = numbers_text numbers no_schemas DataType (value.Data bytes)
stored_text numbers set t (StructValue words) = or_words (read_text numbers set t (stored_read set (StructValue words) t)) words
stored_text numbers set t (ListValue words) = or_words (read_text numbers set t (stored_read set (ListValue words) t)) words
stored_text numbers set t (AnyPointerValue words) = said_text (words_text words)

-- ---- a default ----

-- whether there is a default to be told: a void has none, and a null is none
abbrev pub is_told : SchemaValue → Bool
is_told VoidValue = false
is_told (StructValue words) = not (is_null_tree (words_root words))
is_told (ListValue words) = not (is_null_tree (words_root words))
is_told (AnyPointerValue words) = not (is_null_tree (words_root words))
is_told v = true

abbrev pub told_default : (is_told : Bool) → Out → Out
told_default true text = after (said_text (codes ", default ")) text
told_default false text = said_text []

-- one of a field whose numbers are floats or not
abbrev pub default_text : (floats : Bool) → Schemas → SchemaType → SchemaValue → Out
default_text floats set t v = told_default (is_told v) (stored_text (Floats floats) set t v)

-- ---- annotations ----

-- an id in hexadecimal, as the schema language writes ids
abbrev pub annotation_head : ℕ → List ℕ
annotation_head id = codes " $@0x" ++ (digits 16 false id ++ codes " = ")

-- an annotation: its id, and its value, a null one too; no mark says that its numbers are floats
abbrev pub annotation_text : Schemas → TypedAnnotation → Out
annotation_text set x = after (said_text (annotation_head x.annotation.id)) (stored_text Integers set x.type x.annotation.value)

-- those of one place, one after another
abbrev pub annotations_text : Schemas → List TypedAnnotation → Out
annotations_text set [] = said_text []
annotations_text set (x ∷ xs) = after (annotation_text set x) (annotations_text set xs)
