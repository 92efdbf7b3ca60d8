-- The view of a stored value reads as the value.
use Rattle.std.proofs.Common.{ℕ, List, ◌≡◌, refl, pos, ap, ap₂}
use Rattle.capnp_wire.specs.Tree.{Tree}
use Rattle.capnp_schema.specs.Schema.{Schemas, VoidValue, BoolValue, IntValue, UIntValue, EnumValue, TextValue, DataValue, StructValue, ListValue, AnyPointerValue, Value as SchemaValue}
use Rattle.capnp_schema.specs.Types.{SchemaType, EnumType, StructType, ListType, AnyPointerType}
use Rattle.capnp_schema.specs.Views.{IsViewOf, StandsOnWords}
use Rattle.capnp_schema.specs.declared.value.Value.{Value as View}
use Rattle.capnp_schema.specs.declared.value.Value.TheVariants as view
use Rattle.capnp_wire.specs.declared.pointer_reader.PointerReader.{PointerReader}
use Rattle.capnp_records.specs.Default.{read_of}
use Rattle.capnp_records.specs.Reading.{value_of}
use Rattle.capnp_records.specs.Record as value
use Rattle.capnp_records.specs.Record.{Left}
use Rattle.capnp_dynamic_readers.specs.Annotated.{stored_read, words_read}
use Rattle.capnp_dynamic_readers.specs.Reads.{pointer_read}
use Rattle.capnp_dynamic_readers.specs.Viewed.{view_read}

words_are_read : (set : Schemas) (words : List ℕ) (p : PointerReader) (t : SchemaType) → StandsOnWords words p → pointer_read set VoidValue t p ≡ words_read set words t
words_are_read set words p t h = ap₂ (λ (x : Tree) (n : ℕ). read_of set VoidValue t (value_of set x (Left n) t)) h.tree h.levels

pub view_is_stored : (set : Schemas) (v : SchemaValue) (w : View) (t : SchemaType) → IsViewOf v w → view_read set w t ≡ stored_read set v t
view_is_stored set VoidValue view.Void t h = refl
view_is_stored set (BoolValue x) (view.Bool y) t h = ap value.Truth h
view_is_stored set (IntValue bytes x) (view.Int8 y) t h = ap value.Number h.1
view_is_stored set (IntValue bytes x) (view.Int16 y) t h = ap value.Number h.1
view_is_stored set (IntValue bytes x) (view.Int32 y) t h = ap value.Number h.1
view_is_stored set (IntValue bytes x) (view.Int64 y) t h = ap value.Number h.1
view_is_stored set (UIntValue bytes x) (view.UInt8 y) t h = ap (λ n. value.Number (pos n)) h.1
view_is_stored set (UIntValue bytes x) (view.UInt16 y) t h = ap (λ n. value.Number (pos n)) h.1
view_is_stored set (UIntValue bytes x) (view.UInt32 y) t h = ap (λ n. value.Number (pos n)) h.1
view_is_stored set (UIntValue bytes x) (view.UInt64 y) t h = ap (λ n. value.Number (pos n)) h.1
view_is_stored set (EnumValue x) (view.Enum y) (EnumType number) h = ap value.Enum h
view_is_stored set (EnumValue x) (view.Enum y) t h = refl
view_is_stored set (TextValue bytes) (view.Text y) t h = ap value.Text h
view_is_stored set (DataValue bytes) (view.«Data» y) t h = ap value.Data h
view_is_stored set (StructValue words) (view.Struct p) (StructType b g) h = words_are_read set words p (StructType b g) h
view_is_stored set (StructValue words) (view.Struct p) t h = refl
view_is_stored set (ListValue words) (view.List p) (ListType element) h = words_are_read set words p (ListType element) h
view_is_stored set (ListValue words) (view.List p) t h = refl
view_is_stored set (AnyPointerValue words) (view.AnyPointer p) AnyPointerType h = ap value.Untyped h.tree
view_is_stored set (AnyPointerValue words) (view.AnyPointer p) t h = refl
view_is_stored set v w t h = absurd h
