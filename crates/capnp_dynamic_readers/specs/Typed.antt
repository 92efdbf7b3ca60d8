-- Values of a type of a set: which variant a read hands out, and that its handles are of that set.
use Rattle.std.specs.Prelude.{ℕ, ◌≡◌, Option, Some, None}
use Rattle.capnp_schema.specs.Accepted.{NamesEntries}
use Rattle.capnp_schema.specs.Enums.{IsEnum, enum_number, enum_set}
use Rattle.capnp_schema.specs.Schema.{Schemas}
use Rattle.capnp_schema.specs.StructHandles.{IsStruct, generic_of, number_of, set_of, struct_field}
use Rattle.capnp_schema.specs.Types.{SchemaType, VoidType, BoolType, IntType, UIntType, EnumType, TextType, DataType, StructType, ListType, AnyPointerType, struct_brand}
use Rattle.capnp_schema.specs.declared.schema.structs.StructSchema.{StructSchema}
use Rattle.capnp_dynamic_readers.specs.Handles.{element_of, enum_of, list_set, schema_of}
use Rattle.capnp_dynamic_readers.specs.declared.dynamic_struct.Reader.{Reader as StructHandle}
use Rattle.capnp_dynamic_readers.specs.declared.dynamic_value.Reader.{Reader as DynamicValue}
use Rattle.capnp_dynamic_readers.specs.declared.dynamic_value.Reader.TheVariants as dynamic

-- the type of the structs of a schema
abbrev pub struct_type : StructSchema → SchemaType
struct_type s = StructType (number_of s) (generic_of s)

abbrev pub IsOf : Schemas → SchemaType → DynamicValue → Type 0
IsOf set t dynamic.Void = VoidType ≡ t
IsOf set t (dynamic.Bool b) = BoolType ≡ t
IsOf set t (dynamic.Int8 x) = IntType 1 ≡ t
IsOf set t (dynamic.Int16 x) = IntType 2 ≡ t
IsOf set t (dynamic.Int32 x) = IntType 4 ≡ t
IsOf set t (dynamic.Int64 x) = IntType 8 ≡ t
IsOf set t (dynamic.UInt8 x) = UIntType 1 ≡ t
IsOf set t (dynamic.UInt16 x) = UIntType 2 ≡ t
IsOf set t (dynamic.UInt32 x) = UIntType 4 ≡ t
IsOf set t (dynamic.UInt64 x) = UIntType 8 ≡ t
IsOf set t (dynamic.Enum e) = IsEnum (enum_of e) × (enum_set (enum_of e) ≡ set) × (EnumType (enum_number (enum_of e)) ≡ t)
IsOf set t (dynamic.Text text) = TextType ≡ t
IsOf set t (dynamic.«Data» bytes) = DataType ≡ t
IsOf set t (dynamic.Struct s) = IsStruct (schema_of s) × (set_of (schema_of s) ≡ set) × (struct_type (schema_of s) ≡ t)
IsOf set t (dynamic.List l) = (list_set l ≡ set) × (ListType (element_of l) ≡ t) × NamesEntries set t
IsOf set t (dynamic.AnyPointer p) = AnyPointerType ≡ t

-- A value of a type that need not name entries of the set: the variant is the type's, and its handles are of the set and
-- of the type's number.
abbrev pub IsValueUnder : Schemas → SchemaType → DynamicValue → Type 0
IsValueUnder set t dynamic.Void = VoidType ≡ t
IsValueUnder set t (dynamic.Bool b) = BoolType ≡ t
IsValueUnder set t (dynamic.Int8 x) = IntType 1 ≡ t
IsValueUnder set t (dynamic.Int16 x) = IntType 2 ≡ t
IsValueUnder set t (dynamic.Int32 x) = IntType 4 ≡ t
IsValueUnder set t (dynamic.Int64 x) = IntType 8 ≡ t
IsValueUnder set t (dynamic.UInt8 x) = UIntType 1 ≡ t
IsValueUnder set t (dynamic.UInt16 x) = UIntType 2 ≡ t
IsValueUnder set t (dynamic.UInt32 x) = UIntType 4 ≡ t
IsValueUnder set t (dynamic.UInt64 x) = UIntType 8 ≡ t
IsValueUnder set t (dynamic.Enum e) = (enum_set (enum_of e) ≡ set) × (EnumType (enum_number (enum_of e)) ≡ t)
IsValueUnder set t (dynamic.Text text) = TextType ≡ t
IsValueUnder set t (dynamic.«Data» bytes) = DataType ≡ t
IsValueUnder set t (dynamic.Struct s) = (set_of (schema_of s) ≡ set) × (struct_brand t ≡ Some (number_of (schema_of s)))
IsValueUnder set t (dynamic.List l) = (list_set l ≡ set) × (ListType (element_of l) ≡ t)
IsValueUnder set t (dynamic.AnyPointer p) = AnyPointerType ≡ t

-- a value is of the type of a struct's field that was looked up
abbrev pub IsOfFound : StructHandle → Option ℕ → DynamicValue → Type 0
IsOfFound s None v = ⊥
IsOfFound s (Some i) v = IsOf (set_of (schema_of s)) (struct_field (schema_of s) i).type v
