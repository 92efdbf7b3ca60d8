-- How many bytes the lists of a set have. As many at least has the message of a set that is written.
use Rattle.std.specs.Prelude.{ℕ, ◌+◌, List, length}
use Rattle.std.specs.List.{sum_by}
use Rattle.capnp_schema.specs.Schema.{Annotation, Enum, Enumerant, Field, Node, Schemas, Value, VoidValue, BoolValue, IntValue, UIntValue, EnumValue, TextValue, DataValue, StructValue, ListValue, AnyPointerValue, default_of}

-- Of a value, what is behind its pointer: the bytes of a text or of data, or the words of a struct or a list. Nothing of an
-- untyped pointer is written.
abbrev pub value_bytes : Value → ℕ
value_bytes VoidValue = 0
value_bytes (BoolValue b) = 0
value_bytes (IntValue bytes x) = 0
value_bytes (UIntValue bytes x) = 0
value_bytes (EnumValue x) = 0
value_bytes (TextValue bytes) = length bytes
value_bytes (DataValue bytes) = length bytes
value_bytes (StructValue words) = length words
value_bytes (ListValue words) = length words
value_bytes (AnyPointerValue words) = 0

-- Each record has a row in the message: an annotation with its value 40 bytes, a field 32, an enumerant 16, a node and an enum
-- 48 each. Beside it stand its names and values.
abbrev pub annotation_bytes : Annotation → ℕ
annotation_bytes a = 40 + value_bytes a.value

abbrev pub annotations_bytes : List Annotation → ℕ
annotations_bytes annotations = sum_by annotation_bytes annotations

abbrev pub field_bytes : Field → ℕ
field_bytes f = 32 + length f.name + annotations_bytes f.annotations + value_bytes (default_of f)

abbrev pub node_bytes : Node → ℕ
node_bytes n = 48 + length n.display_name + annotations_bytes n.annotations + sum_by field_bytes n.fields

abbrev pub enumerant_bytes : Enumerant → ℕ
enumerant_bytes e = 16 + length e.name + annotations_bytes e.annotations

abbrev pub enum_bytes : Enum → ℕ
enum_bytes e = 48 + length e.display_name + annotations_bytes e.annotations + sum_by enumerant_bytes e.enumerants

abbrev pub lists_bytes : Schemas → ℕ
lists_bytes set = sum_by node_bytes set.nodes + sum_by enum_bytes set.enums
