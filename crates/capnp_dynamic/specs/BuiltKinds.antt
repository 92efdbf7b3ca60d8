-- The kinds of dynamic values that are built: which variant a value is.
use Rattle.capnp_dynamic_readers.specs.Kinds.{Kind, VoidKind, BoolKind, Int8Kind, Int16Kind, Int32Kind, Int64Kind, UInt8Kind, UInt16Kind, UInt32Kind, UInt64Kind, EnumKind, TextKind, DataKind, StructKind, ListKind, AnyPointerKind}
use Rattle.capnp_dynamic.specs.declared.dynamic_struct.build.Builder.{Builder as StructHandle}
use Rattle.capnp_dynamic.specs.declared.dynamic_value.build.Builder.{Builder as BuiltValue}
use Rattle.capnp_dynamic.specs.declared.dynamic_value.build.Builder.TheVariants as built

abbrev pub built_kind : BuiltValue → Kind
built_kind built.Void = VoidKind
built_kind (built.Bool b) = BoolKind
built_kind (built.Int8 x) = Int8Kind
built_kind (built.Int16 x) = Int16Kind
built_kind (built.Int32 x) = Int32Kind
built_kind (built.Int64 x) = Int64Kind
built_kind (built.UInt8 x) = UInt8Kind
built_kind (built.UInt16 x) = UInt16Kind
built_kind (built.UInt32 x) = UInt32Kind
built_kind (built.UInt64 x) = UInt64Kind
built_kind (built.Enum e) = EnumKind
built_kind (built.Text t) = TextKind
built_kind (built.«Data» bytes) = DataKind
built_kind (built.Struct s) = StructKind
built_kind (built.List l) = ListKind
built_kind (built.AnyPointer p) = AnyPointerKind

-- a value is a struct, of which a fact holds
abbrev pub IsBuiltStructAnd : BuiltValue → (StructHandle → Type 0) → Type 0
IsBuiltStructAnd (built.Struct s) P = P s
IsBuiltStructAnd v P = ⊥
