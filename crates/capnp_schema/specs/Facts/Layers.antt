-- What one layer of a type stands for, and the size of elements of a type.
use Rattle.std.specs.Prelude.{ℕ, zero, suc, ◌≡◌, refl}
use Rattle.capnp_base.specs.Types.{base_variant, variant_element_size as size_of_variant, variant_by, variant_of}
use Rattle.capnp_base.specs.declared.introspect.«Type».{«Type» as TypeHandle}
use Rattle.capnp_base.specs.declared.introspect.BaseType.{BaseType}
use Rattle.capnp_base.specs.declared.introspect.BaseType.TheVariants as base
use Rattle.capnp_schema.specs.Types.{element_size, lists_of, seen_base, seen_type, seen_variant}

pub seen_at_base : (b : BaseType) → seen_variant (base_variant b) ≡ seen_base b
seen_at_base base.Void = refl
seen_at_base base.Bool = refl
seen_at_base base.Int8 = refl
seen_at_base base.Int16 = refl
seen_at_base base.Int32 = refl
seen_at_base base.Int64 = refl
seen_at_base base.UInt8 = refl
seen_at_base base.UInt16 = refl
seen_at_base base.UInt32 = refl
seen_at_base base.UInt64 = refl
seen_at_base base.Text = refl
seen_at_base base.«Data» = refl
seen_at_base (base.Struct schema) = refl
seen_at_base base.AnyPointer = refl
seen_at_base (base.Enum schema) = refl

pub seen_by : (b : BaseType) (count : ℕ) → seen_variant (variant_by b count) ≡ lists_of count (seen_base b)
seen_by b zero = seen_at_base b
seen_by b (suc count) = refl

-- one layer of a type stands for what the type stands for
pub seen_which : (t : TypeHandle) → seen_variant (variant_of t) ≡ seen_type t
seen_which t = seen_by t.base t.list_count

size_by : (b : BaseType) (n : ℕ) → size_of_variant (variant_by b n) ≡ element_size (lists_of n (seen_base b))
size_by b (suc n) = refl
size_by base.Void zero = refl
size_by base.Bool zero = refl
size_by base.Int8 zero = refl
size_by base.Int16 zero = refl
size_by base.Int32 zero = refl
size_by base.Int64 zero = refl
size_by base.UInt8 zero = refl
size_by base.UInt16 zero = refl
size_by base.UInt32 zero = refl
size_by base.UInt64 zero = refl
size_by base.Text zero = refl
size_by base.«Data» zero = refl
size_by (base.Struct x) zero = refl
size_by base.AnyPointer zero = refl
size_by (base.Enum x) zero = refl

-- the size of elements, as the crate of types has it and as definitions do
pub elements_sized : (t : TypeHandle) → size_of_variant (variant_of t) ≡ element_size (seen_type t)
elements_sized t = size_by t.base t.list_count
