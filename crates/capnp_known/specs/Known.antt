-- Structs and their fields under a set that is known when the code is written.
use Rattle.std.specs.Borrow.{Bor}
use Rattle.std.specs.Prelude.{ℕ, ◌≡◌, ◌<◌, ◌⊎◌, List, Result, Ok, Err, Some, false, length}
use Rattle.capnp_device.specs.declared.error.Error.{Error}
use Rattle.capnp_wire.specs.Standing.{bytes_read, list_levels, list_of, struct_levels, struct_of}
use Rattle.capnp_wire.specs.declared.list_reader.ListReader.{ListReader}
use Rattle.capnp_wire.specs.declared.struct_reader.StructReader.{StructReader}
use Rattle.capnp_schema.specs.Schema.{Schemas, Slot, TypedField, field_at, fields_of, is_member, Value as SchemaValue}
use Rattle.capnp_schema.specs.Types.{SchemaType, StructType}
use Rattle.capnp_records.specs.Default.{read_field}
use Rattle.capnp_records.specs.Facts.ListValues.{below_of}
use Rattle.capnp_records.specs.Part.{part_at, which_of}
use Rattle.capnp_records.specs.Reading.{elements_value, of_read, struct_record}
use Rattle.capnp_records.specs.Record as value
use Rattle.capnp_records.specs.Record.{Left, Record, Value}
use Rattle.capnp_dynamic_readers.specs.Reads.{field_read, handed_out}

-- the record of a struct that is read as one of a brand
abbrev pub record_in : Schemas → ℕ → StructReader → Record
record_in set b s = struct_record set (Left (struct_levels s)) (struct_of s) b

-- the value of a list whose elements are read as of a type
abbrev pub list_in : Schemas → SchemaType → ListReader → Value
list_in set t l = elements_value set (list_of l) (below_of set (list_of l)) (Left (list_levels l)) t

-- the type of the structs of a brand, which is of the node of its number
abbrev pub struct_type : ℕ → SchemaType
struct_type number = StructType number number

-- what is read of a part under a field: its default in the place of a missing one, and a group as a struct
abbrev pub read_under : Schemas → TypedField → Value → Value
read_under set f v = handed_out f.field.kind (read_field set f v)

-- what is read of field i of a record of brand b
unfoldable pub read_at : Schemas → ℕ → ℕ → Record → Value
read_at set b i r = read_under set (field_at set b i) (part_at r (field_at set b i).field i)

-- the read of field i of a struct, whether it is active or not
abbrev pub field_in : Schemas → ℕ → ℕ → StructReader → Value
field_in set b i s = field_read set (Left (struct_levels s)) (struct_of s) (field_at set b i)

-- field i of such a struct is a non-union one, or the active member
abbrev pub IsActive : Schemas → ℕ → ℕ → StructReader → Type 0
IsActive set b i s = (is_member (field_at set b i).field ≡ false) ⊎ (which_of (record_in set b s) ≡ Some i)

abbrev pub IsField : Schemas → ℕ → ℕ → SchemaType → Type 0
IsField set b i t = (i < length (fields_of set b)) × ((field_at set b i).type ≡ t)

-- a slot at a place, in units of its width or among the pointers, with its default
abbrev pub IsSlot : Schemas → ℕ → ℕ → SchemaType → ℕ → SchemaValue → Type 0
IsSlot set b i t place default = IsField set b i t × ((field_at set b i).field.kind ≡ Slot place default)

-- ---- what a read answers, as a value: a refusal is a fault ----

abbrev pub text_value : Result (Bor (List ℕ)) Error → Value
text_value r = of_read value.Text (bytes_read r)

abbrev pub data_value : Result (Bor (List ℕ)) Error → Value
data_value r = of_read value.Data (bytes_read r)

abbrev pub struct_value : Schemas → ℕ → Result StructReader Error → Value
struct_value set b (Ok s) = value.Struct (record_in set b s)
struct_value set b (Err e) = value.Fault e.kind

abbrev pub list_value : Schemas → SchemaType → Result ListReader Error → Value
list_value set t (Ok l) = list_in set t l
list_value set t (Err e) = value.Fault e.kind
