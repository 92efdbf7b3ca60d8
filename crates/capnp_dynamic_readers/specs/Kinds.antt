-- The kinds of dynamic values: which variant a value is.
use Rattle.capnp_dynamic_readers.specs.declared.dynamic_struct.Reader.{Reader as StructHandle}
use Rattle.capnp_dynamic_readers.specs.declared.dynamic_value.Reader.{Reader as DynamicValue}
use Rattle.capnp_dynamic_readers.specs.declared.dynamic_value.Reader.TheVariants as dynamic

pub data Kind : Type 0 where
  VoidKind : Kind
  BoolKind : Kind
  Int8Kind : Kind
  Int16Kind : Kind
  Int32Kind : Kind
  Int64Kind : Kind
  UInt8Kind : Kind
  UInt16Kind : Kind
  UInt32Kind : Kind
  UInt64Kind : Kind
  EnumKind : Kind
  TextKind : Kind
  DataKind : Kind
  StructKind : Kind
  ListKind : Kind
  AnyPointerKind : Kind

abbrev pub kind_of : DynamicValue → Kind
kind_of dynamic.Void = VoidKind
kind_of (dynamic.Bool b) = BoolKind
kind_of (dynamic.Int8 x) = Int8Kind
kind_of (dynamic.Int16 x) = Int16Kind
kind_of (dynamic.Int32 x) = Int32Kind
kind_of (dynamic.Int64 x) = Int64Kind
kind_of (dynamic.UInt8 x) = UInt8Kind
kind_of (dynamic.UInt16 x) = UInt16Kind
kind_of (dynamic.UInt32 x) = UInt32Kind
kind_of (dynamic.UInt64 x) = UInt64Kind
kind_of (dynamic.Enum e) = EnumKind
kind_of (dynamic.Text t) = TextKind
kind_of (dynamic.«Data» bytes) = DataKind
kind_of (dynamic.Struct s) = StructKind
kind_of (dynamic.List l) = ListKind
kind_of (dynamic.AnyPointer p) = AnyPointerKind

-- a value is a struct, of which a fact holds
abbrev pub IsStructAnd : DynamicValue → (StructHandle → Type 0) → Type 0
IsStructAnd (dynamic.Struct s) P = P s
IsStructAnd v P = ⊥
