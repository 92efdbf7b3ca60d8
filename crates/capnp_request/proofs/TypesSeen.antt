-- Types as the definition sees them.
use Rattle.std.proofs.Common.{ℕ, ◌≡◌, zero, suc, refl, Bool, true, false}
use Rattle.capnp_base.specs.declared.introspect.«Type».{«Type» as TypeHandle}
use Rattle.capnp_base.specs.declared.introspect.TypeVariant.{TypeVariant}
use Rattle.capnp_base.specs.declared.introspect.TypeVariant.TheVariants as variant
use Rattle.capnp_base.specs.declared.introspect.BaseType.{BaseType}
use Rattle.capnp_base.specs.declared.introspect.BaseType.TheVariants as base
use Rattle.capnp_base.specs.Types.{variant_by, variant_of}
use Rattle.capnp_schema.specs.Types.{lists_of, seen_base, seen_type}
use Rattle.capnp_request.specs.Conversion.{is_untyped}

abbrev pub is_any : TypeVariant → Bool
is_any variant.AnyPointer = true
is_any v = false

any_by : (b : BaseType) (n : ℕ) → is_untyped (lists_of n (seen_base b)) ≡ is_any (variant_by b n)
any_by base.Void zero = refl
any_by base.Bool zero = refl
any_by base.Int8 zero = refl
any_by base.Int16 zero = refl
any_by base.Int32 zero = refl
any_by base.Int64 zero = refl
any_by base.UInt8 zero = refl
any_by base.UInt16 zero = refl
any_by base.UInt32 zero = refl
any_by base.UInt64 zero = refl
any_by base.Text zero = refl
any_by base.«Data» zero = refl
any_by (base.Struct s) zero = refl
any_by base.AnyPointer zero = refl
any_by (base.Enum e) zero = refl
any_by b (suc n) = refl

-- a type is an untyped pointer where its outermost layer is
pub untyped_is : (t : TypeHandle) → is_untyped (seen_type t) ≡ is_any (variant_of t)
untyped_is t = any_by t.base t.list_count

-- the same where it isn't that layer
pub not_any : (v : TypeVariant) → (v ≡ variant.AnyPointer → ⊥) → is_any v ≡ false
not_any variant.AnyPointer h = absurd (h refl)
not_any v h = refl
