-- Values of one type of the data section are alike.
use Rattle.std.proofs.Common.{ℕ, ◌+◌, ◌≡◌, false, None, Some, arith, ap, sym, ◌∙◌}
use Rattle.std.proofs.lemmas.Bool.{true≢false}
use Rattle.capnp_schema.specs.Schema.{Schemas}
use Rattle.capnp_schema.specs.Types.{AnyPointerType, BoolType, DataType, EnumType, IntType, ListType, SchemaType, StructType, TextType, UIntType, VoidType, is_pointer, struct_brand}
use Rattle.capnp_dynamic_readers.specs.Typed.{IsOf, IsValueUnder}
use Rattle.capnp_dynamic_readers.specs.declared.dynamic_value.Reader.{Reader as DynamicValue}
use Rattle.capnp_dynamic_readers.specs.declared.dynamic_value.Reader.TheVariants as dynamic
use Rattle.capnp_diffs.specs.Found.{type_held}
use Rattle.capnp_diffs.specs.Steps.Leaves.{AreAlike}

none_some : {n : ℕ} → None ≡ Some n → ⊥
none_some e = cc

-- a type that names a struct stands behind a pointer
branded : {A : Type 0} (t : SchemaType) (n : ℕ) → struct_brand t ≡ Some n → is_pointer t ≡ false → A
branded VoidType n e bare = absurd (none_some e)
branded BoolType n e bare = absurd (none_some e)
branded (IntType k) n e bare = absurd (none_some e)
branded (UIntType k) n e bare = absurd (none_some e)
branded (EnumType k) n e bare = absurd (none_some e)
branded t n e bare = absurd (true≢false bare)

-- the type of a value by its variant is the type that it is read under
pub held_under : (set : Schemas) (t : SchemaType) (v : DynamicValue) → is_pointer t ≡ false → IsValueUnder set t v → type_held v ≡ t
held_under set t dynamic.Void bare e = e
held_under set t (dynamic.Bool b) bare e = e
held_under set t (dynamic.Int8 x) bare e = e
held_under set t (dynamic.Int16 x) bare e = e
held_under set t (dynamic.Int32 x) bare e = e
held_under set t (dynamic.Int64 x) bare e = e
held_under set t (dynamic.UInt8 x) bare e = e
held_under set t (dynamic.UInt16 x) bare e = e
held_under set t (dynamic.UInt32 x) bare e = e
held_under set t (dynamic.UInt64 x) bare e = e
held_under set t (dynamic.Enum x) bare e = e.1
held_under set t (dynamic.Text x) bare e = e
held_under set t (dynamic.«Data» x) bare e = e
held_under set t (dynamic.Struct s) bare e = branded t _ e.1 bare
held_under set t (dynamic.List l) bare e = e.1
held_under set t (dynamic.AnyPointer p) bare e = e

pub held_of : (set : Schemas) (t : SchemaType) (v : DynamicValue) → IsOf set t v → type_held v ≡ t
held_of set t dynamic.Void e = e
held_of set t (dynamic.Bool b) e = e
held_of set t (dynamic.Int8 x) e = e
held_of set t (dynamic.Int16 x) e = e
held_of set t (dynamic.Int32 x) e = e
held_of set t (dynamic.Int64 x) e = e
held_of set t (dynamic.UInt8 x) e = e
held_of set t (dynamic.UInt16 x) e = e
held_of set t (dynamic.UInt32 x) e = e
held_of set t (dynamic.UInt64 x) e = e
held_of set t (dynamic.Enum x) e = e.2
held_of set t (dynamic.Text x) e = e
held_of set t (dynamic.«Data» x) e = e
held_of set t (dynamic.Struct s) e = e.2
held_of set t (dynamic.List l) e = e.1
held_of set t (dynamic.AnyPointer p) e = e

-- a number for each type
abbrev kind_number : SchemaType → ℕ
kind_number VoidType = 0
kind_number BoolType = 1
kind_number (IntType bytes) = 10 + bytes
kind_number (UIntType bytes) = 20 + bytes
kind_number (EnumType number) = 2
kind_number TextType = 3
kind_number DataType = 4
kind_number (StructType b g) = 5
kind_number (ListType e) = 6
kind_number AnyPointerType = 7

pub alike : (v w : DynamicValue) → type_held v ≡ type_held w → is_pointer (type_held v) ≡ false → AreAlike v w
alike dynamic.Void dynamic.Void e h = tt
alike (dynamic.Bool a) (dynamic.Bool b) e h = tt
alike (dynamic.Int8 x) (dynamic.Int8 y) e h = tt
alike (dynamic.Int16 x) (dynamic.Int16 y) e h = tt
alike (dynamic.Int32 x) (dynamic.Int32 y) e h = tt
alike (dynamic.Int64 x) (dynamic.Int64 y) e h = tt
alike (dynamic.UInt8 x) (dynamic.UInt8 y) e h = tt
alike (dynamic.UInt16 x) (dynamic.UInt16 y) e h = tt
alike (dynamic.UInt32 x) (dynamic.UInt32 y) e h = tt
alike (dynamic.UInt64 x) (dynamic.UInt64 y) e h = tt
alike (dynamic.Enum x) (dynamic.Enum y) e h = tt
alike (dynamic.Text x) w e h = absurd (true≢false h)
alike (dynamic.«Data» x) w e h = absurd (true≢false h)
alike (dynamic.Struct x) w e h = absurd (true≢false h)
alike (dynamic.List x) w e h = absurd (true≢false h)
alike (dynamic.AnyPointer x) w e h = absurd (true≢false h)
alike v w e h = absurd (omega (arith, ap kind_number e))

-- two values that were read under one type of the data section
pub alike_under : (set : Schemas) (t : SchemaType) (v w : DynamicValue) → is_pointer t ≡ false → IsValueUnder set t v → IsValueUnder set t w → AreAlike v w
alike_under set t v w bare at_v at_w =
    let held = held_under set t v bare at_v in
    alike v w (held ∙ sym (held_under set t w bare at_w)) (ap is_pointer held ∙ bare)
