-- Types whose values are no structs.
use Rattle.std.proofs.Common.{◌≡◌, refl, ap, subst, ◌∙◌}
use Rattle.capnp_base.specs.Types.{variant_element_size, variant_of}
use Rattle.capnp_wire.specs.declared.size.ElementSize.{ElementSize}
use Rattle.capnp_base.specs.declared.introspect.RawBrandedStructSchema.{RawBrandedStructSchema}
use Rattle.capnp_base.specs.declared.introspect.«Type».{«Type» as TypeHandle}
use Rattle.capnp_base.specs.declared.introspect.TypeVariant.{TypeVariant}
use Rattle.capnp_base.specs.declared.introspect.TypeVariant.TheVariants as variant
use Rattle.capnp_schema.specs.Facts.Layers.{seen_which}
use Rattle.capnp_schema.specs.Schema.{Schemas}
use Rattle.capnp_schema.specs.Types.{AnyPointerType, BoolType, DataType, EnumType, IntType, ListType, SchemaType, StructType, TextType, UIntType, VoidType, element_size, seen_type, seen_variant}
use Rattle.capnp_edits.specs.Steps.Plain.{IsPlain}
use Rattle.capnp_edits.specs.Changes.{least_size}

plain_variant : (v : TypeVariant) → ((x : RawBrandedStructSchema) → v ≡ variant.Struct x → ⊥) → IsPlain (seen_variant v)
plain_variant (variant.Struct x) other = absurd (other x refl)
plain_variant v other = tt

pub plain_type : (t : TypeHandle) (v : TypeVariant) → v ≡ variant_of t → ((x : RawBrandedStructSchema) → v ≡ variant.Struct x → ⊥) → IsPlain (seen_type t)
plain_type t v e other = subst IsPlain (ap seen_variant e ∙ seen_which t) (plain_variant v other)

-- they have no sections of their own
pub plain_size : (set : Schemas) (t : SchemaType) → IsPlain t → record { data_words = 0; pointers = 0 } ≡ least_size set t
plain_size set VoidType p = refl
plain_size set BoolType p = refl
plain_size set (IntType k) p = refl
plain_size set (UIntType k) p = refl
plain_size set (EnumType k) p = refl
plain_size set TextType p = refl
plain_size set DataType p = refl
plain_size set (StructType b g) p = absurd p
plain_size set (ListType e) p = refl
plain_size set AnyPointerType p = refl

-- the size that a list of such elements is asked for
variant_size : (v : TypeVariant) → variant_element_size v ≡ element_size (seen_variant v)
variant_size variant.Void = refl
variant_size variant.Bool = refl
variant_size variant.Int8 = refl
variant_size variant.Int16 = refl
variant_size variant.Int32 = refl
variant_size variant.Int64 = refl
variant_size variant.UInt8 = refl
variant_size variant.UInt16 = refl
variant_size variant.UInt32 = refl
variant_size variant.UInt64 = refl
variant_size variant.Text = refl
variant_size variant.«Data» = refl
variant_size variant.AnyPointer = refl
variant_size (variant.Struct x) = refl
variant_size (variant.Enum x) = refl
variant_size (variant.List x) = refl

pub asked_size : (t : TypeHandle) (z : ElementSize) → z ≡ variant_element_size (variant_of t) → z ≡ element_size (seen_type t)
asked_size t z e = e ∙ (variant_size (variant_of t) ∙ ap element_size (seen_which t))
