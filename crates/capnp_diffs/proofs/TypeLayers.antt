-- What a type is, by the variant that the walk looks at.
use Rattle.std.proofs.Common.{ℕ, ◌<◌, ◌≡◌, refl, true, None, Some, length, ap, ap₂, sym, subst, ◌∙◌}
use Rattle.std.proofs.lemmas.Bool.{true≢false}
use Rattle.capnp_base.specs.Types.{is_pointer_variant, variant_of}
use Rattle.capnp_base.specs.declared.introspect.«Type».{«Type» as TypeHandle}
use Rattle.capnp_base.specs.declared.introspect.RawBrandedStructSchema.{RawBrandedStructSchema}
use Rattle.capnp_base.specs.declared.introspect.TypeVariant.{TypeVariant}
use Rattle.capnp_base.specs.declared.introspect.TypeVariant.TheVariants as variant
use Rattle.capnp_schema.specs.Accepted.{NamesEntries}
use Rattle.capnp_schema.specs.Facts.Layers.{seen_which}
use Rattle.capnp_schema.specs.Schema.{Schemas, brand_at}
use Rattle.capnp_schema.specs.StructHandles.{IsStruct, number_of, set_of}
use Rattle.capnp_schema.specs.Types.{AnyPointerType, SchemaType, StructType, is_pointer, seen_type, seen_variant, struct_brand}
use Rattle.capnp_schema.specs.declared.schema.structs.StructSchema.{StructSchema}
use Rattle.capnp_dynamic_readers.specs.Typed.{struct_type}

module _ (t : TypeHandle) (v : TypeVariant) (is : v ≡ variant_of t) where
  pub layer_is : seen_variant v ≡ seen_type t
  layer_is = ap seen_variant is ∙ seen_which t

pub pointer_is : (t : TypeHandle) → is_pointer_variant (variant_of t) ≡ is_pointer (seen_type t)
pointer_is t = by_variant (variant_of t) ∙ ap is_pointer (seen_which t)
  where
    by_variant : (v : TypeVariant) → is_pointer_variant v ≡ is_pointer (seen_variant v)
    by_variant (variant.Struct raw) = refl
    by_variant v = refl

-- a type that is no other which stands behind a pointer
pub untyped_is : (v : TypeVariant) → is_pointer (seen_variant v) ≡ true → (v ≡ variant.Text → ⊥) → (v ≡ variant.«Data» → ⊥) → ((raw : RawBrandedStructSchema) → v ≡ variant.Struct raw → ⊥) → ((t : TypeHandle) → v ≡ variant.List t → ⊥) → seen_variant v ≡ AnyPointerType
untyped_is variant.Text pointer text bytes struct list = absurd (text refl)
untyped_is variant.«Data» pointer text bytes struct list = absurd (bytes refl)
untyped_is (variant.Struct raw) pointer text bytes struct list = absurd (struct raw refl)
untyped_is (variant.List t) pointer text bytes struct list = absurd (list t refl)
untyped_is variant.AnyPointer pointer text bytes struct list = refl
untyped_is v pointer text bytes struct list = absurd (true≢false (sym pointer))

-- a type that is no struct's
pub no_struct : (v : TypeVariant) → ((raw : RawBrandedStructSchema) → v ≡ variant.Struct raw → ⊥) → struct_brand (seen_variant v) ≡ None
no_struct (variant.Struct raw) other = absurd (other raw refl)
no_struct v other = refl

pub never_struct : (t : SchemaType) → struct_brand t ≡ None → (b g : ℕ) → t ≡ StructType b g → ⊥
never_struct t none b g is = some_none (sym (ap struct_brand is) ∙ none)
  where
    some_none : {n : ℕ} → Some n ≡ None → ⊥
    some_none e = cc

-- the schema of a struct type's number, where the type names entries of the set
pub record IsSchemaOf (s : StructSchema) (t : SchemaType) : Type 0 where
  pub stands : IsStruct s
  pub type : struct_type s ≡ t

pub schema_of_type : (set : Schemas) (t : SchemaType) (raw : RawBrandedStructSchema) (s : StructSchema) → StructType raw.number raw.generic ≡ t → NamesEntries set t → set_of s ≡ set → number_of s ≡ raw.number →
    (raw.number < length set.brands → IsStruct s) → IsSchemaOf s t
schema_of_type set t raw s is named at_set at_number stands =
    subst (IsSchemaOf s) is (from (subst (NamesEntries set) (sym is) named))
  where
    from : NamesEntries set (StructType raw.number raw.generic) → IsSchemaOf s (StructType raw.number raw.generic)
    from (inside, node) = record {
      stands = stands inside;
      type = ap₂ StructType at_number ((stands inside).generic ∙ (ap₂ (λ (x : Schemas) (b : ℕ). (brand_at x b).node) at_set at_number ∙ node));
    }
