-- Values of records, as they are read.
use Rattle.std.specs.Prelude.{ℕ, ◌≡◌, ⊤, List}
use Rattle.capnp_wire.specs.Depth.{message_levels}
use Rattle.capnp_wire.specs.declared.pointer_reader.PointerReader.{PointerReader}
use Rattle.capnp_wire.specs.Standing.{levels_of, tree_of}
use Rattle.capnp_schema.specs.Schema.{Value, VoidValue, BoolValue, IntValue, UIntValue, EnumValue, TextValue, DataValue, StructValue, ListValue, AnyPointerValue}
use Rattle.capnp_schema.specs.Accepted.{words_root}
use Rattle.capnp_schema.specs.declared.value.Value.{Value as View}
use Rattle.capnp_schema.specs.declared.value.Value.TheVariants as view

-- a pointer stands on the tree of words, with the levels of a root
pub record StandsOnWords (words : List ℕ) (reader : PointerReader) : Type 0 where
  pub tree : tree_of reader ≡ words_root words
  pub levels : levels_of reader ≡ message_levels

-- the view of a value: the same number, the same bytes, or a pointer that stands on the words
abbrev pub IsViewOf : Value → View → Type 0
IsViewOf VoidValue view.Void = ⊤
IsViewOf (BoolValue x) (view.Bool y) = y ≡ x
IsViewOf (IntValue bytes x) (view.Int8 y) = (bytes ≡ 1) × (y ≡ x)
IsViewOf (IntValue bytes x) (view.Int16 y) = (bytes ≡ 2) × (y ≡ x)
IsViewOf (IntValue bytes x) (view.Int32 y) = (bytes ≡ 4) × (y ≡ x)
IsViewOf (IntValue bytes x) (view.Int64 y) = (bytes ≡ 8) × (y ≡ x)
IsViewOf (UIntValue bytes x) (view.UInt8 y) = (bytes ≡ 1) × (y ≡ x)
IsViewOf (UIntValue bytes x) (view.UInt16 y) = (bytes ≡ 2) × (y ≡ x)
IsViewOf (UIntValue bytes x) (view.UInt32 y) = (bytes ≡ 4) × (y ≡ x)
IsViewOf (UIntValue bytes x) (view.UInt64 y) = (bytes ≡ 8) × (y ≡ x)
IsViewOf (EnumValue x) (view.Enum y) = y ≡ x
IsViewOf (TextValue x) (view.Text y) = y.0.now ≡ x
IsViewOf (DataValue x) (view.«Data» y) = y.now ≡ x
IsViewOf (StructValue words) (view.Struct reader) = StandsOnWords words reader
IsViewOf (ListValue words) (view.List reader) = StandsOnWords words reader
IsViewOf (AnyPointerValue words) (view.AnyPointer reader) = StandsOnWords words reader
IsViewOf value other = ⊥
