-- Dynamic values without parts, as they are compared.
use Rattle.std.specs.Prelude.{ℕ, ⊤, ℤ, pos, negsuc, List, Bool, true, false, Option, Some, None}
use Rattle.std.specs.Borrow.{Bor}
use Rattle.capnp_wire.specs.Standing.{list_of, struct_of}
use Rattle.capnp_wire.specs.declared.list_reader.ListReader.{ListReader}
use Rattle.capnp_wire.specs.declared.struct_reader.StructReader.{StructReader}
use Rattle.capnp_schema.specs.Schema.{Schemas}
use Rattle.capnp_schema.specs.Types.{SchemaType}
use Rattle.capnp_records.specs.Facts.ListValues.{below_of}
use Rattle.capnp_records.specs.Reading.{elements_value, reads}
use Rattle.capnp_records.specs.Record as value
use Rattle.capnp_records.specs.Record.{Endless, Value}
use Rattle.capnp_dynamic_readers.specs.declared.dynamic_value.Reader.{Reader as DynamicValue}
use Rattle.capnp_dynamic_readers.specs.declared.dynamic_value.Reader.TheVariants as dynamic

-- an integer by whether it is below zero, and its number or how far it is below -1
abbrev pub integer_at : Bool → ℕ → ℤ
integer_at true k = negsuc k
integer_at false n = pos n

abbrev pub integer_seen : Bool × ℕ → ℤ
integer_seen p = integer_at p.0 p.1

-- whether a value is an integer
abbrev pub is_integer : DynamicValue → Bool
is_integer (dynamic.Int8 x) = true
is_integer (dynamic.Int16 x) = true
is_integer (dynamic.Int32 x) = true
is_integer (dynamic.Int64 x) = true
is_integer (dynamic.UInt8 x) = true
is_integer (dynamic.UInt16 x) = true
is_integer (dynamic.UInt32 x) = true
is_integer (dynamic.UInt64 x) = true
is_integer v = false

-- ---- what stands behind a pointer, where nothing may stand ----

abbrev pub text_value : Option (Bor (List ℕ)) → Value
text_value None = value.Missing Endless
text_value (Some bytes) = value.Text bytes.now

abbrev pub data_value : Option (Bor (List ℕ)) → Value
data_value None = value.Missing Endless
data_value (Some bytes) = value.Data bytes.now

abbrev pub struct_value : Schemas → ℕ → Option StructReader → Value
struct_value set b None = value.Missing Endless
struct_value set b (Some r) = value.Struct (reads set (struct_of r) b)

abbrev pub list_value : Schemas → SchemaType → Option ListReader → Value
list_value set e None = value.Missing Endless
list_value set e (Some l) = elements_value set (list_of l) (below_of set (list_of l)) Endless e

-- two values of one type of the data section
abbrev pub AreAlike : DynamicValue → DynamicValue → Type 0
AreAlike dynamic.Void dynamic.Void = ⊤
AreAlike (dynamic.Bool a) (dynamic.Bool b) = ⊤
AreAlike (dynamic.Int8 x) (dynamic.Int8 y) = ⊤
AreAlike (dynamic.Int16 x) (dynamic.Int16 y) = ⊤
AreAlike (dynamic.Int32 x) (dynamic.Int32 y) = ⊤
AreAlike (dynamic.Int64 x) (dynamic.Int64 y) = ⊤
AreAlike (dynamic.UInt8 x) (dynamic.UInt8 y) = ⊤
AreAlike (dynamic.UInt16 x) (dynamic.UInt16 y) = ⊤
AreAlike (dynamic.UInt32 x) (dynamic.UInt32 y) = ⊤
AreAlike (dynamic.UInt64 x) (dynamic.UInt64 y) = ⊤
AreAlike (dynamic.Enum e) (dynamic.Enum f) = ⊤
AreAlike v w = ⊥
