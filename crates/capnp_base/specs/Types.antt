-- types as values: a type that is no list, inside a number of lists
use Rattle.std.specs.Prelude.{ℕ, zero, suc, ◌+◌, ◌-◌, ◌^◌, min, Bool, true, false, ◌==◌, ◌&&◌}
use Rattle.capnp_wire.specs.declared.size.ElementSize.{ElementSize}
use Rattle.capnp_wire.specs.declared.size.ElementSize.TheVariants as size
use Rattle.capnp_base.specs.declared.introspect.«Type».{«Type» as TypeHandle}
use Rattle.capnp_base.specs.declared.introspect.TypeVariant.{TypeVariant}
use Rattle.capnp_base.specs.declared.introspect.TypeVariant.TheVariants as variant
use Rattle.capnp_base.specs.declared.introspect.BaseType.{BaseType}
use Rattle.capnp_base.specs.declared.introspect.BaseType.TheVariants as base

-- a type that is no list, as a variant
abbrev pub base_variant : BaseType → TypeVariant
base_variant base.Void = variant.Void
base_variant base.Bool = variant.Bool
base_variant base.Int8 = variant.Int8
base_variant base.Int16 = variant.Int16
base_variant base.Int32 = variant.Int32
base_variant base.Int64 = variant.Int64
base_variant base.UInt8 = variant.UInt8
base_variant base.UInt16 = variant.UInt16
base_variant base.UInt32 = variant.UInt32
base_variant base.UInt64 = variant.UInt64
base_variant base.Text = variant.Text
base_variant base.Data = variant.Data
base_variant (base.Struct s) = variant.Struct s
base_variant base.AnyPointer = variant.AnyPointer
base_variant (base.Enum e) = variant.Enum e

-- ---- what crates above speak of ----

-- how many lists a type is wrapped in
abbrev pub list_depth : TypeHandle → ℕ
list_depth t = t.list_count

-- what stands inside all its lists, which is no list
abbrev pub base_of : TypeHandle → BaseType
base_of t = t.base

abbrev pub innermost : TypeHandle → TypeVariant
innermost t = base_variant t.base

-- the lists of such values; the number of lists stays at its last value
abbrev pub list_type : TypeHandle → TypeHandle
list_type t = record { base = t.base; list_count = min (t.list_count + 1) (2 ^ 64 - 1) }

-- a type, of which one layer is looked at: a list of a type, or no list
abbrev pub variant_by : BaseType → ℕ → TypeVariant
variant_by b zero = base_variant b
variant_by b (suc n) = variant.List (record { base = b; list_count = n })

abbrev pub variant_of : TypeHandle → TypeVariant
variant_of t = variant_by t.base t.list_count

abbrev pub base_type : BaseType → TypeHandle
base_type b = record { base = b; list_count = 0 }

-- the type of a layer
abbrev pub type_from : TypeVariant → TypeHandle
type_from variant.Void = base_type base.Void
type_from variant.Bool = base_type base.Bool
type_from variant.Int8 = base_type base.Int8
type_from variant.Int16 = base_type base.Int16
type_from variant.Int32 = base_type base.Int32
type_from variant.Int64 = base_type base.Int64
type_from variant.UInt8 = base_type base.UInt8
type_from variant.UInt16 = base_type base.UInt16
type_from variant.UInt32 = base_type base.UInt32
type_from variant.UInt64 = base_type base.UInt64
type_from variant.Text = base_type base.Text
type_from variant.Data = base_type base.Data
type_from (variant.Struct s) = base_type (base.Struct s)
type_from variant.AnyPointer = base_type base.AnyPointer
type_from (variant.Enum e) = base_type (base.Enum e)
type_from (variant.List t) = list_type t

-- whether values of a variant stand behind pointers: lists, texts, data, structs, untyped pointers
abbrev pub is_pointer_variant : TypeVariant → Bool
is_pointer_variant variant.Void = false
is_pointer_variant variant.Bool = false
is_pointer_variant variant.Int8 = false
is_pointer_variant variant.Int16 = false
is_pointer_variant variant.Int32 = false
is_pointer_variant variant.Int64 = false
is_pointer_variant variant.UInt8 = false
is_pointer_variant variant.UInt16 = false
is_pointer_variant variant.UInt32 = false
is_pointer_variant variant.UInt64 = false
is_pointer_variant variant.Text = true
is_pointer_variant variant.Data = true
is_pointer_variant (variant.Struct s) = true
is_pointer_variant variant.AnyPointer = true
is_pointer_variant (variant.Enum e) = false
is_pointer_variant (variant.List t) = true

abbrev pub is_behind_pointer : TypeHandle → Bool
is_behind_pointer t = is_pointer_variant (variant_of t)

-- the size of the elements of a list of such values ("Lists" of the encoding)
abbrev pub variant_element_size : TypeVariant → ElementSize
variant_element_size variant.Void = size.Void
variant_element_size variant.Bool = size.Bit
variant_element_size variant.Int8 = size.Byte
variant_element_size variant.Int16 = size.TwoBytes
variant_element_size variant.Int32 = size.FourBytes
variant_element_size variant.Int64 = size.EightBytes
variant_element_size variant.UInt8 = size.Byte
variant_element_size variant.UInt16 = size.TwoBytes
variant_element_size variant.UInt32 = size.FourBytes
variant_element_size variant.UInt64 = size.EightBytes
variant_element_size variant.Text = size.Pointer
variant_element_size variant.Data = size.Pointer
variant_element_size (variant.Struct s) = size.InlineComposite
variant_element_size variant.AnyPointer = size.Pointer
variant_element_size (variant.Enum e) = size.TwoBytes
variant_element_size (variant.List t) = size.Pointer

-- which variant it is
abbrev pub variant_kind : TypeVariant → ℕ
variant_kind variant.Void = 0
variant_kind variant.Bool = 1
variant_kind variant.Int8 = 2
variant_kind variant.Int16 = 3
variant_kind variant.Int32 = 4
variant_kind variant.Int64 = 5
variant_kind variant.UInt8 = 6
variant_kind variant.UInt16 = 7
variant_kind variant.UInt32 = 8
variant_kind variant.UInt64 = 9
variant_kind variant.Text = 10
variant_kind variant.Data = 11
variant_kind (variant.Struct s) = 12
variant_kind variant.AnyPointer = 13
variant_kind (variant.Enum e) = 14
variant_kind (variant.List t) = 15

-- the number of its schema, 0 where it has none
abbrev pub schema_number : TypeVariant → ℕ
schema_number (variant.Struct s) = s.number
schema_number (variant.Enum e) = e.number
schema_number v = 0

-- the same, where a struct goes by its generic number
abbrev pub generic_number : TypeVariant → ℕ
generic_number (variant.Struct s) = s.generic
generic_number (variant.Enum e) = e.number
generic_number v = 0

-- whether two types are equal: as many lists of the same variant, structs and enums by their schema's number alone
abbrev pub equal_types : TypeHandle → TypeHandle → Bool
equal_types t u = (list_depth t == list_depth u) && (variant_kind (innermost t) == variant_kind (innermost u))
    && (schema_number (innermost t) == schema_number (innermost u))

-- the same, where structs go by their generic number
abbrev pub loosely_equal_types : TypeHandle → TypeHandle → Bool
loosely_equal_types t u = (list_depth t == list_depth u) && (variant_kind (innermost t) == variant_kind (innermost u))
    && (generic_number (innermost t) == generic_number (innermost u))
