-- Types as specs see them.
use Rattle.std.specs.Prelude.{ℕ, zero, suc, ◌*◌, Bool, true, false, Option, Some, None}
use Rattle.std.specs.Option.{unwrap_or}
use Rattle.capnp_wire.specs.declared.size.ElementSize.{ElementSize}
use Rattle.capnp_wire.specs.declared.size.ElementSize.TheVariants as size
use Rattle.capnp_base.specs.declared.introspect.«Type».{«Type» as TypeHandle}
use Rattle.capnp_base.specs.declared.introspect.TypeVariant.{TypeVariant}
use Rattle.capnp_base.specs.declared.introspect.TypeVariant.TheVariants as variant
use Rattle.capnp_base.specs.declared.introspect.BaseType.{BaseType}
use Rattle.capnp_base.specs.declared.introspect.BaseType.TheVariants as base
use Rattle.capnp_base.specs.Types.{base_of, list_depth}

-- A type: the integers by their bytes, with a sign and without; an enum by its number; a struct by the numbers of its
-- brand and of its node; a list by the type of its elements.
pub data SchemaType : Type 0 where
  VoidType : SchemaType
  BoolType : SchemaType
  IntType : (bytes : ℕ) → SchemaType
  UIntType : (bytes : ℕ) → SchemaType
  EnumType : (number : ℕ) → SchemaType
  TextType : SchemaType
  DataType : SchemaType
  StructType : (number generic : ℕ) → SchemaType
  ListType : (element : SchemaType) → SchemaType
  AnyPointerType : SchemaType
  deriving IsSet as SchemaType_is_set

-- what a type that is no list stands for
abbrev pub seen_base : BaseType → SchemaType
seen_base base.Void = VoidType
seen_base base.Bool = BoolType
seen_base base.Int8 = IntType 1
seen_base base.Int16 = IntType 2
seen_base base.Int32 = IntType 4
seen_base base.Int64 = IntType 8
seen_base base.UInt8 = UIntType 1
seen_base base.UInt16 = UIntType 2
seen_base base.UInt32 = UIntType 4
seen_base base.UInt64 = UIntType 8
seen_base base.Text = TextType
seen_base base.Data = DataType
seen_base (base.Struct schema) = StructType schema.number schema.generic
seen_base base.AnyPointer = AnyPointerType
seen_base (base.Enum schema) = EnumType schema.number

-- so many lists around a type
abbrev pub lists_of : ℕ → SchemaType → SchemaType
lists_of zero t = t
lists_of (suc count) t = ListType (lists_of count t)

-- the type that a value of the code stands for
abbrev pub seen_type : TypeHandle → SchemaType
seen_type t = lists_of (list_depth t) (seen_base (base_of t))

-- what one layer of a type stands for
abbrev pub seen_variant : TypeVariant → SchemaType
seen_variant variant.Void = VoidType
seen_variant variant.Bool = BoolType
seen_variant variant.Int8 = IntType 1
seen_variant variant.Int16 = IntType 2
seen_variant variant.Int32 = IntType 4
seen_variant variant.Int64 = IntType 8
seen_variant variant.UInt8 = UIntType 1
seen_variant variant.UInt16 = UIntType 2
seen_variant variant.UInt32 = UIntType 4
seen_variant variant.UInt64 = UIntType 8
seen_variant variant.Text = TextType
seen_variant variant.«Data» = DataType
seen_variant (variant.Struct schema) = StructType schema.number schema.generic
seen_variant variant.AnyPointer = AnyPointerType
seen_variant (variant.Enum schema) = EnumType schema.number
seen_variant (variant.List element) = ListType (seen_type element)

-- whether values of the type stand behind a pointer
abbrev pub is_pointer : SchemaType → Bool
is_pointer VoidType = false
is_pointer BoolType = false
is_pointer (IntType bytes) = false
is_pointer (UIntType bytes) = false
is_pointer (EnumType number) = false
is_pointer TextType = true
is_pointer DataType = true
is_pointer (StructType number generic) = true
is_pointer (ListType element) = true
is_pointer AnyPointerType = true

-- the bits of a data slot of the type; every other type takes a pointer or nothing
abbrev pub width : SchemaType → ℕ
width VoidType = 0
width BoolType = 1
width (IntType bytes) = 8 * bytes
width (UIntType bytes) = 8 * bytes
width (EnumType number) = 16
width TextType = 0
width DataType = 0
width (StructType number generic) = 0
width (ListType element) = 0
width AnyPointerType = 0

-- the brand that a struct type names, nothing for every other type
abbrev pub struct_brand : SchemaType → Option ℕ
struct_brand VoidType = None
struct_brand BoolType = None
struct_brand (IntType bytes) = None
struct_brand (UIntType bytes) = None
struct_brand (EnumType number) = None
struct_brand TextType = None
struct_brand DataType = None
struct_brand (StructType number generic) = Some number
struct_brand (ListType element) = None
struct_brand AnyPointerType = None

-- the same with 0 for every other type
abbrev pub struct_number : SchemaType → ℕ
struct_number t = unwrap_or (struct_brand t) 0

-- the size of the elements of a list of such values
abbrev pub integer_size : ℕ → ElementSize
integer_size zero = size.Byte
integer_size (suc zero) = size.Byte
integer_size (suc (suc zero)) = size.TwoBytes
integer_size (suc (suc (suc zero))) = size.FourBytes
integer_size (suc (suc (suc (suc zero)))) = size.FourBytes
integer_size (suc (suc (suc (suc (suc bytes))))) = size.EightBytes

abbrev pub element_size : SchemaType → ElementSize
element_size VoidType = size.Void
element_size BoolType = size.Bit
element_size (IntType bytes) = integer_size bytes
element_size (UIntType bytes) = integer_size bytes
element_size (EnumType number) = size.TwoBytes
element_size TextType = size.Pointer
element_size DataType = size.Pointer
element_size (StructType number generic) = size.InlineComposite
element_size (ListType element) = size.Pointer
element_size AnyPointerType = size.Pointer
