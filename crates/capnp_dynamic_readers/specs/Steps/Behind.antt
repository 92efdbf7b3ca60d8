-- What a default has behind a pointer, and the values of what is read there.
use Rattle.std.specs.Borrow.{Bor}
use Rattle.std.specs.Prelude.{ℕ, List, [], Option, Some, None, Result, Ok, Err}
use Rattle.capnp_device.specs.declared.error.Error.{Error}
use Rattle.capnp_wire.specs.Standing.{bytes_read, list_levels, list_of, struct_levels, struct_of}
use Rattle.capnp_wire.specs.declared.list_reader.ListReader.{ListReader}
use Rattle.capnp_wire.specs.declared.struct_reader.StructReader.{StructReader}
use Rattle.capnp_schema.specs.Schema.{Schemas, TextValue, DataValue, StructValue, ListValue, Value as SchemaValue}
use Rattle.capnp_schema.specs.Types.{SchemaType}
use Rattle.capnp_records.specs.Facts.ListValues.{below_of}
use Rattle.capnp_records.specs.Reading.{elements_value, of_read, struct_record}
use Rattle.capnp_records.specs.Record as value
use Rattle.capnp_records.specs.Record.{Left, Value}

-- ---- the bytes and words of a default, where it is of that kind ----

abbrev pub default_text_bytes : SchemaValue → List ℕ
default_text_bytes (TextValue bytes) = bytes
default_text_bytes d = []

abbrev pub data_of : SchemaValue → List ℕ
data_of (DataValue bytes) = bytes
data_of d = []

abbrev pub struct_words : SchemaValue → Option (List ℕ)
struct_words (StructValue words) = Some words
struct_words d = None

abbrev pub default_list_words : SchemaValue → Option (List ℕ)
default_list_words (ListValue words) = Some words
default_list_words d = None

-- ---- the values of answers ----

abbrev pub text_answered : Result (Bor (List ℕ)) Error → Value
text_answered r = of_read value.Text (bytes_read r)

abbrev pub data_answered : Result (Bor (List ℕ)) Error → Value
data_answered r = of_read value.Data (bytes_read r)

abbrev pub struct_answered : Schemas → ℕ → Result StructReader Error → Value
struct_answered set b (Ok r) = value.Struct (struct_record set (Left (struct_levels r)) (struct_of r) b)
struct_answered set b (Err e) = value.Fault e.kind

abbrev pub list_answered : Schemas → SchemaType → Result ListReader Error → Value
list_answered set t (Ok r) = elements_value set (list_of r) (below_of set (list_of r)) (Left (list_levels r)) t
list_answered set t (Err e) = value.Fault e.kind
