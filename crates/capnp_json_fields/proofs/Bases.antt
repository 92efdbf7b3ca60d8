-- The type inside all lists.
use Rattle.std.proofs.Common.{ℕ, zero, suc, ◌≡◌, refl, true, false, ◌∙◌}
use Rattle.capnp_base.specs.Types.{base_variant}
use Rattle.capnp_base.specs.declared.introspect.BaseType.{BaseType}
use Rattle.capnp_base.specs.declared.introspect.BaseType.TheVariants as base
use Rattle.capnp_base.specs.declared.introspect.TypeVariant.TheVariants as variant
use Rattle.capnp_schema.specs.Types.{lists_of, seen_base}
use Rattle.capnp_json_fields.specs.Marks.{has_float_base}

inside_lists : (count : ℕ) (b : BaseType) → has_float_base (seen_base b) ≡ has_float_base (lists_of count (seen_base b))
inside_lists zero b = refl
inside_lists (suc count) b = inside_lists count b

pub narrow_base : (count : ℕ) (b : BaseType) → base_variant b ≡ variant.UInt32 → true ≡ has_float_base (lists_of count (seen_base b))
narrow_base count b e = go b e ∙ inside_lists count b
  where
    go : (x : BaseType) → base_variant x ≡ variant.UInt32 → true ≡ has_float_base (seen_base x)
    go base.UInt32 e = refl
    go x e = cc

pub wide_base : (count : ℕ) (b : BaseType) → base_variant b ≡ variant.UInt64 → true ≡ has_float_base (lists_of count (seen_base b))
wide_base count b e = go b e ∙ inside_lists count b
  where
    go : (x : BaseType) → base_variant x ≡ variant.UInt64 → true ≡ has_float_base (seen_base x)
    go base.UInt64 e = refl
    go x e = cc

pub neither_base : (count : ℕ) (b : BaseType) → (base_variant b ≡ variant.UInt32 → ⊥) → (base_variant b ≡ variant.UInt64 → ⊥) → false ≡ has_float_base (lists_of count (seen_base b))
neither_base count b narrow wide = go b narrow wide ∙ inside_lists count b
  where
    go : (x : BaseType) → (base_variant x ≡ variant.UInt32 → ⊥) → (base_variant x ≡ variant.UInt64 → ⊥) → false ≡ has_float_base (seen_base x)
    go base.UInt32 narrow wide = absurd (narrow refl)
    go base.UInt64 narrow wide = absurd (wide refl)
    go x narrow wide = refl
