-- What is said of two layers by their kinds.
use Rattle.std.proofs.Common.{◌≡◌, refl, Some, None, arith}
use Rattle.capnp_base.specs.declared.introspect.RawEnumSchema.{RawEnumSchema}
use Rattle.capnp_base.specs.declared.introspect.TypeVariant.{TypeVariant}
use Rattle.capnp_base.specs.declared.introspect.TypeVariant.TheVariants as variant
use Rattle.capnp_base.specs.Types.{variant_kind}
use Rattle.capnp_schema.specs.Schema.{Schemas}
use Rattle.capnp_schema.specs.Types.{seen_variant}
use Rattle.capnp_differences.specs.Differences.{type_change}
use Rattle.capnp_differences.specs.Steps.Comparing.{other_kind}
use Rattle.capnp_differences.specs.declared.differences.Cause.{Cause}

module _ (became : Cause) (set : Schemas) where
  -- their kinds differ
  pub other_kinds : (u v : TypeVariant) → (variant_kind u ≡ variant_kind v → ⊥) → Some (other_kind became v) ≡ type_change became set (seen_variant u) (seen_variant v)
  other_kinds variant.Void variant.Void h = absurd (h refl)
  other_kinds variant.Bool variant.Bool h = absurd (h refl)
  other_kinds variant.Int8 variant.Int8 h = absurd (h refl)
  other_kinds variant.Int16 variant.Int16 h = absurd (h refl)
  other_kinds variant.Int32 variant.Int32 h = absurd (h refl)
  other_kinds variant.Int64 variant.Int64 h = absurd (h refl)
  other_kinds variant.UInt8 variant.UInt8 h = absurd (h refl)
  other_kinds variant.UInt16 variant.UInt16 h = absurd (h refl)
  other_kinds variant.UInt32 variant.UInt32 h = absurd (h refl)
  other_kinds variant.UInt64 variant.UInt64 h = absurd (h refl)
  other_kinds variant.Text variant.Text h = absurd (h refl)
  other_kinds variant.«Data» variant.«Data» h = absurd (h refl)
  other_kinds variant.AnyPointer variant.AnyPointer h = absurd (h refl)
  other_kinds (variant.Struct x) (variant.Struct y) h = absurd (h refl)
  other_kinds (variant.Enum x) (variant.Enum y) h = absurd (h refl)
  other_kinds (variant.List x) (variant.List y) h = absurd (h refl)
  other_kinds u v h = refl

  -- they are of one kind, which is no enum
  pub one_kind : (u v : TypeVariant) → variant_kind u ≡ variant_kind v → (variant_kind u ≡ 15 → variant_kind v ≡ 15 → ⊥) → ((x : RawEnumSchema) → u ≡ variant.Enum x → ⊥) → None ≡ type_change became set (seen_variant u) (seen_variant v)
  one_kind variant.Void variant.Void e h n = refl
  one_kind variant.Bool variant.Bool e h n = refl
  one_kind variant.Int8 variant.Int8 e h n = refl
  one_kind variant.Int16 variant.Int16 e h n = refl
  one_kind variant.Int32 variant.Int32 e h n = refl
  one_kind variant.Int64 variant.Int64 e h n = refl
  one_kind variant.UInt8 variant.UInt8 e h n = refl
  one_kind variant.UInt16 variant.UInt16 e h n = refl
  one_kind variant.UInt32 variant.UInt32 e h n = refl
  one_kind variant.UInt64 variant.UInt64 e h n = refl
  one_kind variant.Text variant.Text e h n = refl
  one_kind variant.«Data» variant.«Data» e h n = refl
  one_kind variant.AnyPointer variant.AnyPointer e h n = refl
  one_kind (variant.Struct x) (variant.Struct y) e h n = refl
  one_kind (variant.Enum x) v e h n = absurd (n x refl)
  one_kind (variant.List x) (variant.List y) e h n = absurd (h refl refl)
  one_kind u v e h n = cc

-- an enum is of the kind of enums alone
pub enums_alone : (d : RawEnumSchema) (v : TypeVariant) → variant_kind (variant.Enum d) ≡ variant_kind v → ((x : RawEnumSchema) → v ≡ variant.Enum x → ⊥) → ⊥
enums_alone d (variant.Enum x) e n = n x refl
enums_alone d v e n = omega (arith, e)
