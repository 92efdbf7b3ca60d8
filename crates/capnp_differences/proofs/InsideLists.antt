-- The enums that two types name, and the levels that are asked, by the layers inside the lists that both are.
use Rattle.std.proofs.Common.{ℕ, zero, suc, ◌+◌, ◌≡◌, ◌≤◌, Option, true, ap, ap₂, arith, refl, sym, ◌∙◌}
use Rattle.capnp_base.specs.declared.introspect.BaseType.{BaseType}
use Rattle.capnp_base.specs.declared.introspect.BaseType.TheVariants as base
use Rattle.capnp_base.specs.declared.introspect.«Type».{«Type» as TypeHandle}
use Rattle.capnp_base.specs.declared.introspect.RawBrandedStructSchema.{RawBrandedStructSchema}
use Rattle.capnp_base.specs.declared.introspect.TypeVariant.{TypeVariant}
use Rattle.capnp_base.specs.declared.introspect.TypeVariant.TheVariants as variant
use Rattle.capnp_base.specs.Types.{variant_by, variant_kind, variant_of}
use Rattle.capnp_schema.specs.Schema.{Schemas}
use Rattle.capnp_schema.specs.Types.{SchemaType, seen_type, seen_variant}
use Rattle.capnp_records.specs.Compatible.{type_in_place}
use Rattle.capnp_differences.specs.Notes.{enum_pair, level_asked, more_levels}
use Rattle.capnp_differences.specs.declared.noted.EnumPair.{EnumPair}
use Rattle.capnp_differences.proofs.Layers.{seen}

-- a list has one list more than its elements
less_by : (b : BaseType) (n : ℕ) (x : TypeHandle) → variant.List x ≡ variant_by b n → x.list_count + 1 ≤ n
less_by base.Void zero x e = cc
less_by base.Bool zero x e = cc
less_by base.Int8 zero x e = cc
less_by base.Int16 zero x e = cc
less_by base.Int32 zero x e = cc
less_by base.Int64 zero x e = cc
less_by base.UInt8 zero x e = cc
less_by base.UInt16 zero x e = cc
less_by base.UInt32 zero x e = cc
less_by base.UInt64 zero x e = cc
less_by base.Text zero x e = cc
less_by base.«Data» zero x e = cc
less_by base.AnyPointer zero x e = cc
less_by (base.Struct s) zero x e = cc
less_by (base.Enum s) zero x e = cc
less_by b (suc n) x e = let same : x ≡ record { base = b; list_count = n } = cc in let count : x.list_count ≡ n = ap (λ (t : TypeHandle). t.list_count) same in omega (arith, count)

pub one_less : (s x : TypeHandle) → variant.List x ≡ variant_of s → x.list_count + 1 ≤ s.list_count
one_less s x e = less_by s.base s.list_count x e

module _ (set : Schemas) where
  -- where not both are lists no level is asked
  inside : (x : TypeHandle) (v : TypeVariant) → (variant_kind v ≡ 15 → ⊥) → more_levels set (seen_variant (variant.List x)) (seen_variant v) ≡ 0
  inside x (variant.List y) h = absurd (h refl)
  inside x v h = refl

  none_more : (u v : TypeVariant) → (variant_kind u ≡ 15 → variant_kind v ≡ 15 → ⊥) → more_levels set (seen_variant u) (seen_variant v) ≡ 0
  none_more (variant.List x) v h = inside x v (h refl)
  none_more u v h = refl

  -- nor where an element is no struct
  layer_none : (s : SchemaType) (u : TypeVariant) → ((x : RawBrandedStructSchema) → u ≡ variant.Struct x → ⊥) → level_asked set s (seen_variant u) ≡ 0
  layer_none s (variant.Struct y) h = absurd (h y refl)
  layer_none s u h = refl

  pub none_asked : (s : SchemaType) (t : TypeHandle) (u : TypeVariant) → u ≡ variant_of t → ((x : RawBrandedStructSchema) → u ≡ variant.Struct x → ⊥) → 0 ≡ level_asked set s (seen_type t)
  none_asked s t u e h = sym (ap (level_asked set s) (sym (seen t u e)) ∙ layer_none s u h)

module _ (set : Schemas) (s t : TypeHandle) (u v : TypeVariant) (e : u ≡ variant_of s) (f : v ≡ variant_of t) where
  pub enums_end : (w : Option EnumPair) → enum_pair set (seen_type s) (seen_type t) ≡ w → enum_pair set (seen_variant u) (seen_variant v) ≡ w
  enums_end w h = ap₂ (enum_pair set) (seen s u e) (seen t v f) ∙ h

  pub levels_end : (levels all : ℕ) → levels + more_levels set (seen_type s) (seen_type t) ≡ all → (variant_kind u ≡ 15 → variant_kind v ≡ 15 → ⊥) → levels ≡ all
  levels_end levels all h out =
      let none : more_levels set (seen_type s) (seen_type t) ≡ 0 = sym (ap₂ (more_levels set) (seen s u e) (seen t v f)) ∙ none_more set u v out in
      omega (arith, h, none)

module _ (set : Schemas) (s t x y z : TypeHandle) (e : variant.List x ≡ variant_of s) (f : variant.List y ≡ variant_of t) (g : seen_type z ≡ type_in_place true set (seen_type x) (seen_type y)) where
  -- inside one more list
  pub enums_on : (w : Option EnumPair) → enum_pair set (seen_type s) (seen_type t) ≡ w → enum_pair set (seen_type x) (seen_type z) ≡ w
  enums_on w h = ap (enum_pair set (seen_type x)) g ∙ (ap₂ (enum_pair set) (seen s (variant.List x) e) (seen t (variant.List y) f) ∙ h)

  pub levels_on : (levels one all : ℕ) → one ≡ level_asked set (seen_type x) (seen_type y) → levels + more_levels set (seen_type s) (seen_type t) ≡ all → levels + one + more_levels set (seen_type x) (seen_type z) ≡ all
  levels_on levels one all asked h =
      let here : level_asked set (seen_type x) (seen_type y) + more_levels set (seen_type x) (seen_type z) ≡ more_levels set (seen_type s) (seen_type t) =
      ap (λ n. level_asked set (seen_type x) (seen_type y) + n) (ap (more_levels set (seen_type x)) g) ∙ ap₂ (more_levels set) (seen s (variant.List x) e) (seen t (variant.List y) f) in
      omega (arith, h, here, asked)
