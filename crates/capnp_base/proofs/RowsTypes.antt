-- Worked rows of types as values.
use Rattle.std.specs.Prelude.{◌≡◌, refl, ◌-◌, ◌^◌, ℕ, true, false, List, [], ◌∷◌, map}
use Rattle.capnp_wire.specs.declared.size.ElementSize.TheVariants as size
use Rattle.capnp_base.specs.declared.introspect.«Type».{«Type» as TypeHandle}
use Rattle.capnp_base.specs.declared.introspect.BaseType.TheVariants as base
use Rattle.capnp_base.specs.declared.introspect.TypeVariant.{TypeVariant}
use Rattle.capnp_base.specs.declared.introspect.TypeVariant.TheVariants as variant
use Rattle.capnp_base.specs.Types.{variant_element_size, equal_types, innermost, is_behind_pointer, variant_kind, list_depth, list_type, loosely_equal_types, type_from, variant_of}

abbrev pub struct_type : ℕ → ℕ → TypeHandle
struct_type number generic = type_from (variant.Struct (record { number = number; generic = generic }))

abbrev pub enum_type : ℕ → TypeHandle
enum_type number = type_from (variant.Enum (record { number = number }))

abbrev pub u8 : TypeHandle
u8 = type_from variant.UInt8

abbrev pub u32 : TypeHandle
u32 = type_from variant.UInt32

-- each variant but lists, with schemas of number 5, in the order of their declaration
abbrev pub each_variant : List TypeVariant
each_variant = variant.Void ∷ variant.Bool ∷ variant.Int8 ∷ variant.Int16 ∷ variant.Int32 ∷ variant.Int64 ∷ variant.UInt8 ∷ variant.UInt16 ∷ variant.UInt32 ∷ variant.UInt64
    ∷ variant.Text ∷ variant.Data ∷ variant.Struct (record { number = 5; generic = 2 }) ∷ variant.AnyPointer ∷ variant.Enum (record { number = 5 }) ∷ []

-- ---- equality ----

-- two brands of one struct: equal loosely, and not equal
pub two_brands : loosely_equal_types (struct_type 0 0) (struct_type 9 0) ∷ equal_types (struct_type 0 0) (struct_type 9 0) ∷ [] ≡ true ∷ false ∷ []
two_brands = refl

-- the same inside two lists
pub two_brands_in_lists : loosely_equal_types (list_type (list_type (struct_type 0 0))) (list_type (list_type (struct_type 9 0)))
    ∷ equal_types (list_type (list_type (struct_type 0 0))) (list_type (list_type (struct_type 9 0))) ∷ [] ≡ true ∷ false ∷ []
two_brands_in_lists = refl

-- one brand of two structs, as no set has it: equal by number, and not loosely
pub two_generics : loosely_equal_types (struct_type 7 0) (struct_type 7 1) ∷ equal_types (struct_type 7 0) (struct_type 7 1) ∷ [] ≡ false ∷ true ∷ []
two_generics = refl

-- two enums are equal neither way, and one enum both ways
pub two_enums : map (loosely_equal_types (enum_type 3)) (enum_type 3 ∷ enum_type 4 ∷ []) ≡ true ∷ false ∷ []
two_enums = refl

pub two_enums_equal : map (equal_types (enum_type 3)) (enum_type 3 ∷ enum_type 4 ∷ []) ≡ true ∷ false ∷ []
two_enums_equal = refl

-- a struct and an enum of one number are equal neither way
pub struct_is_no_enum : equal_types (struct_type 3 3) (enum_type 3) ∷ loosely_equal_types (struct_type 3 3) (enum_type 3) ∷ [] ≡ false ∷ false ∷ []
struct_is_no_enum = refl

-- the number of lists counts both ways
pub lists_count : equal_types u8 (list_type u8) ∷ loosely_equal_types u8 (list_type u8) ∷ equal_types (list_type u8) (list_type u8)
    ∷ equal_types (list_type (list_type u8)) (list_type u8) ∷ [] ≡ false ∷ false ∷ true ∷ false ∷ []
lists_count = refl

-- UInt32 is itself and no other variant
pub one_of_all : map (equal_types u32) (map type_from each_variant)
    ≡ false ∷ false ∷ false ∷ false ∷ false ∷ false ∷ false ∷ false ∷ true ∷ false ∷ false ∷ false ∷ false ∷ false ∷ false ∷ []
one_of_all = refl

-- the variants are told apart
pub variants_differ : map variant_kind each_variant ≡ 0 ∷ 1 ∷ 2 ∷ 3 ∷ 4 ∷ 5 ∷ 6 ∷ 7 ∷ 8 ∷ 9 ∷ 10 ∷ 11 ∷ 12 ∷ 13 ∷ 14 ∷ []
variants_differ = refl

-- ---- layers ----

-- each variant is the layer of its type
pub layers : map (λ v. variant_of (type_from v)) each_variant ≡ each_variant
layers = refl

-- a list of lists of UInt8: one layer, then the next, then what is inside
pub list_of_lists : variant_of (list_type (list_type u8)) ≡ variant.List (list_type u8)
list_of_lists = refl

pub inner_list : variant_of (list_type u8) ≡ variant.List u8
inner_list = refl

pub inside_lists : innermost (list_type (list_type u8)) ≡ variant.UInt8
inside_lists = refl

pub depth_of_lists : map list_depth (u8 ∷ list_type u8 ∷ list_type (list_type u8) ∷ []) ≡ 0 ∷ 1 ∷ 2 ∷ []
depth_of_lists = refl

-- the number of lists stays at its last value
pub deepest_list : map list_depth (map list_type (record { base = base.Bool; list_count = 2 ^ 64 - 2 } ∷ record { base = base.Bool; list_count = 2 ^ 64 - 1 } ∷ []))
    ≡ 18446744073709551615 ∷ 18446744073709551615 ∷ []
deepest_list = refl

-- the type of a list's layer is the list
pub type_of_list : type_from (variant.List (list_type u8)) ≡ list_type (list_type u8)
type_of_list = refl

-- ---- pointers and element sizes ----

-- texts, data, structs and untyped pointers stand behind pointers; enums and Void don't
pub pointers : map (λ v. is_behind_pointer (type_from v)) each_variant
    ≡ false ∷ false ∷ false ∷ false ∷ false ∷ false ∷ false ∷ false ∷ false ∷ false ∷ true ∷ true ∷ true ∷ true ∷ false ∷ []
pointers = refl

-- so does every list, of UInt8, of Void, of an enum and of lists
pub lists_are_pointers : map is_behind_pointer (list_type u8 ∷ list_type (type_from variant.Void) ∷ list_type (enum_type 1) ∷ list_type (list_type u8) ∷ [])
    ≡ true ∷ true ∷ true ∷ true ∷ []
lists_are_pointers = refl

pub element_sizes : map variant_element_size each_variant
    ≡ size.Void ∷ size.Bit ∷ size.Byte ∷ size.TwoBytes ∷ size.FourBytes ∷ size.EightBytes ∷ size.Byte ∷ size.TwoBytes ∷ size.FourBytes ∷ size.EightBytes
    ∷ size.Pointer ∷ size.Pointer ∷ size.InlineComposite ∷ size.Pointer ∷ size.TwoBytes ∷ []
element_sizes = refl

-- lists in a list are pointers
pub element_size_of_lists : variant_element_size (variant_of (list_type u8)) ≡ size.Pointer
element_size_of_lists = refl
