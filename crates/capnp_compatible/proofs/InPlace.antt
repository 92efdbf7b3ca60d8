-- The type that stands where an element stood, by the layers of types.
use Rattle.std.proofs.Common.{◌≡◌, refl, Bool, true, false, ◌&&◌, ap, sym, ◌∙◌}
use Rattle.capnp_base.specs.declared.introspect.«Type».{«Type» as TypeHandle}
use Rattle.capnp_base.specs.declared.introspect.TypeVariant.{TypeVariant}
use Rattle.capnp_base.specs.declared.introspect.TypeVariant.TheVariants as variant
use Rattle.capnp_base.specs.declared.introspect.RawBrandedStructSchema.{RawBrandedStructSchema}
use Rattle.capnp_base.specs.Types.{variant_of}
use Rattle.capnp_schema.specs.Schema.{Schemas, field_at}
use Rattle.capnp_schema.specs.Types.{SchemaType, seen_type, seen_variant}
use Rattle.capnp_records.specs.Compatible.{can_become_struct, stands_first, type_in_place}
use Rattle.capnp_compatible.proofs.ByLayer.{seen}

module _ (lists : Bool) (set : Schemas) (s : SchemaType) where
  layer_stays : (u : TypeVariant) → ((x : RawBrandedStructSchema) → u ≡ variant.Struct x → ⊥) → type_in_place lists set s (seen_variant u) ≡ seen_variant u
  layer_stays (variant.Struct schema) h = absurd (h schema refl)
  layer_stays u h = refl

  -- what is no struct stands in its own place
  pub stays : (t : TypeHandle) (u : TypeVariant) → u ≡ variant_of t → ((x : RawBrandedStructSchema) → u ≡ variant.Struct x → ⊥) → seen_type t ≡ type_in_place lists set s (seen_type t)
  stays t u e h = sym (ap (type_in_place lists set s) (sym (seen t u e)) ∙ (layer_stays u h ∙ seen t u e))

  by_test : (q : Bool) (a b : SchemaType) → (lists && q) ≡ true → (elim (lists && q) as (λ _. SchemaType) [ true ↦ a | false ↦ b ]) ≡ a
  by_test q a b e = go (lists && q) e
    where
      go : (p : Bool) → p ≡ true → (elim p as (λ _. SchemaType) [ true ↦ a | false ↦ b ]) ≡ a
      go true e = refl
      go false e = cc

  by_no_test : (q : Bool) (a b : SchemaType) → (lists && q) ≡ false → (elim (lists && q) as (λ _. SchemaType) [ true ↦ a | false ↦ b ]) ≡ b
  by_no_test q a b e = go (lists && q) e
    where
      go : (p : Bool) → p ≡ false → (elim p as (λ _. SchemaType) [ true ↦ a | false ↦ b ]) ≡ b
      go true e = cc
      go false e = refl

  module _ (t : TypeHandle) (schema : RawBrandedStructSchema) (e : variant.Struct schema ≡ variant_of t) where
    -- a struct's field 0 does where it may
    pub first_in_place : (lists && (can_become_struct s && stands_first set schema.number)) ≡ true → (field_at set schema.number 0).type ≡ type_in_place lists set s (seen_type t)
    first_in_place h = sym (ap (type_in_place lists set s) (sym (seen t (variant.Struct schema) e)) ∙ by_test (can_become_struct s && stands_first set schema.number) _ _ h)

    -- and else the struct itself
    pub struct_stays : (lists && (can_become_struct s && stands_first set schema.number)) ≡ false → seen_type t ≡ type_in_place lists set s (seen_type t)
    struct_stays h = sym (ap (type_in_place lists set s) (sym (seen t (variant.Struct schema) e)) ∙ (by_no_test (can_become_struct s && stands_first set schema.number) _ _ h ∙ seen t (variant.Struct schema) e))
