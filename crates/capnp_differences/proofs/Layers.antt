-- What is said of two types is said of the layers inside the lists that both are.
use Rattle.std.proofs.Common.{◌≡◌, Option, true, ap, ap₂, ◌∙◌}
use Rattle.capnp_base.specs.declared.introspect.«Type».{«Type» as TypeHandle}
use Rattle.capnp_base.specs.declared.introspect.TypeVariant.{TypeVariant}
use Rattle.capnp_base.specs.declared.introspect.TypeVariant.TheVariants as variant
use Rattle.capnp_base.specs.Types.{variant_of}
use Rattle.capnp_schema.specs.Schema.{Schemas}
use Rattle.capnp_schema.specs.Types.{seen_type, seen_variant}
use Rattle.capnp_schema.specs.Facts.Layers.{seen_which}
use Rattle.capnp_records.specs.Compatible.{type_in_place}
use Rattle.capnp_differences.specs.Differences.{struct_pair, type_change}
use Rattle.capnp_differences.specs.declared.differences.Cause.{Cause}
use Rattle.capnp_differences.specs.declared.differences.Cause.TheVariants as cause
use Rattle.capnp_differences.specs.declared.differences.Pair.{Pair}

pub seen : (s : TypeHandle) (u : TypeVariant) → u ≡ variant_of s → seen_variant u ≡ seen_type s
seen s u e = ap seen_variant e ∙ seen_which s

module _ (set : Schemas) (s t : TypeHandle) (u v : TypeVariant) (e : u ≡ variant_of s) (f : v ≡ variant_of t) where
  pub change_ends : (became : Cause) (w : Option Cause) → type_change became set (seen_type s) (seen_type t) ≡ w → type_change became set (seen_variant u) (seen_variant v) ≡ w
  change_ends became w h = ap₂ (type_change became set) (seen s u e) (seen t v f) ∙ h

  pub pair_ends : (w : Option Pair) → struct_pair set (seen_type s) (seen_type t) ≡ w → struct_pair set (seen_variant u) (seen_variant v) ≡ w
  pair_ends w h = ap₂ (struct_pair set) (seen s u e) (seen t v f) ∙ h

module _ (set : Schemas) (s t x y z : TypeHandle) (e : variant.List x ≡ variant_of s) (f : variant.List y ≡ variant_of t) (g : seen_type z ≡ type_in_place true set (seen_type x) (seen_type y)) where
  -- inside one more list
  pub change_on : (became : Cause) (w : Option Cause) → type_change became set (seen_type s) (seen_type t) ≡ w → type_change cause.ElementsBecameStructs set (seen_type x) (seen_type z) ≡ w
  change_on became w h = ap (type_change cause.ElementsBecameStructs set (seen_type x)) g ∙ (ap₂ (type_change became set) (seen s (variant.List x) e) (seen t (variant.List y) f) ∙ h)

  pub pair_on : (w : Option Pair) → struct_pair set (seen_type s) (seen_type t) ≡ w → struct_pair set (seen_type x) (seen_type z) ≡ w
  pair_on w h = ap (struct_pair set (seen_type x)) g ∙ (ap₂ (struct_pair set) (seen s (variant.List x) e) (seen t (variant.List y) f) ∙ h)
