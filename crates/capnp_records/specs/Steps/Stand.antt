-- What a builder stands on while a path is walked, what it sees there, and what a step into a part leaves of the whole: steps of the code.
use Rattle.std.specs.Prelude.{ℕ}
use Rattle.capnp_wire.specs.Tree.{Tree}
use Rattle.capnp_wire.specs.Reading.{element_bit, element_number, element_pointer, element_struct}
use Rattle.capnp_schema.specs.Types.{SchemaType, VoidType, BoolType, IntType, UIntType, EnumType, TextType, DataType, StructType, ListType, AnyPointerType, struct_number}
use Rattle.capnp_schema.specs.Schema.{Schemas}
use Rattle.capnp_schema.specs.Accepted.{NamesEntries}
use Rattle.capnp_schema.specs.Laws.{struct_spots}
use Rattle.capnp_records.specs.Record as value
use Rattle.capnp_records.specs.Record.{Endless, Value}
use Rattle.capnp_records.specs.Reading.{number_value, value_of, reads}
use Rattle.capnp_records.specs.Writes.Slots.{Writes, Fits}
use Rattle.capnp_records.specs.Writes.Stand.{ListSound, OnGroup, OnList, OnStruct, Stand}

-- what a builder sees at an element of a list
abbrev pub seen_element : Schemas → Tree → SchemaType → ℕ → Value
seen_element set x VoidType i = value.Void
seen_element set x BoolType i = value.Truth (element_bit x i)
seen_element set x (IntType width) i = number_value (IntType width) (element_number width x i)
seen_element set x (UIntType width) i = number_value (UIntType width) (element_number width x i)
seen_element set x (EnumType number) i = number_value (EnumType number) (element_number 2 x i)
seen_element set x TextType i = value_of set (element_pointer x i 1) Endless TextType
seen_element set x DataType i = value_of set (element_pointer x i 1) Endless DataType
seen_element set x (StructType b g) i = value.Struct (reads set (element_struct x i) b)
seen_element set x (ListType element) i = value_of set (element_pointer x i 1) Endless (ListType element)
seen_element set x AnyPointerType i = value_of set (element_pointer x i 1) Endless AnyPointerType

abbrev pub StandSound : Schemas → SchemaType → Stand → Type 0
StandSound set (StructType b g) (OnStruct s) = Fits set b s
StandSound set (StructType b g) (OnGroup s) = Fits set b s
StandSound set (ListType e) (OnList x) = ListSound set e x
StandSound set t stand = ⊥

pub record Sound (set : Schemas) (t : SchemaType) (stand : Stand) : Type 0 where
  pub entries : NamesEntries set t
  pub fits : StandSound set t stand

-- what a call behind a part leaves of it: the same kind of part, a struct written inside what its brand names
abbrev pub Kept : Schemas → SchemaType → Stand → Stand → Type 0
Kept set t (OnStruct s) (OnStruct s') = Writes (struct_spots set (struct_number t)) s s'
Kept set t (OnGroup s) (OnGroup s') = Writes (struct_spots set (struct_number t)) s s'
Kept set (ListType e) (OnList x) (OnList x') = ListSound set e x'
Kept set t a b = ⊥
