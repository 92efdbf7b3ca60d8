-- What holds of types inside the lists that both are holds of the types.
use Rattle.std.proofs.Common.{◌≡◌, ◌↔◌, refl, Bool, false, IsTrue, Option, ap, ap₂, sym, ◌∙◌, subst}
use Rattle.capnp_base.specs.declared.introspect.«Type».{«Type» as TypeHandle}
use Rattle.capnp_base.specs.declared.introspect.TypeVariant.{TypeVariant}
use Rattle.capnp_base.specs.declared.introspect.TypeVariant.TheVariants as variant
use Rattle.capnp_base.specs.Types.{variant_kind, variant_of}
use Rattle.capnp_schema.specs.Schema.{Schemas}
use Rattle.capnp_schema.specs.Types.{SchemaType, ListType, seen_type, seen_variant}
use Rattle.capnp_schema.specs.Facts.Layers.{seen_which}
use Rattle.capnp_records.specs.Compatible.{Related, type_in_place}
use Rattle.capnp_compatible.specs.Steps.Closing.{all_pairs, inside_lists, named_pair}
use Rattle.capnp_compatible.specs.declared.pairs.Pair.{Pair}

pub seen : (s : TypeHandle) (u : TypeVariant) → u ≡ variant_of s → seen_variant u ≡ seen_type s
seen s u e = ap seen_variant e ∙ seen_which s

module _ (lists : Bool) (set : Schemas) where
  ends_layers : (u v : TypeVariant) → (variant_kind u ≡ 15 → variant_kind v ≡ 15 → ⊥) → inside_lists lists set (seen_variant u) (seen_variant v) ≡ (seen_variant u, seen_variant v)
  ends_layers (variant.List x) (variant.List y) h = absurd (h refl refl)
  ends_layers u v h = refl

  -- layers of which not both are lists are the innermost
  pub peeled_all : (s t : TypeHandle) (u v : TypeVariant) → u ≡ variant_of s → v ≡ variant_of t → (variant_kind u ≡ 15 → variant_kind v ≡ 15 → ⊥) → (seen_variant u, seen_variant v) ≡ inside_lists lists set (seen_type s) (seen_type t)
  peeled_all s t u v e f h = sym (ends_layers u v h) ∙ ap₂ (inside_lists lists set) (seen s u e) (seen t v f)

  -- of layers of which not both are lists it is no matter what lists may have become
  pub by_layers : (b : Bool) (u v : TypeVariant) → (variant_kind u ≡ 15 → variant_kind v ≡ 15 → ⊥) → (IsTrue b ↔ Related false set all_pairs (seen_variant u) (seen_variant v)) → (IsTrue b ↔ Related lists set all_pairs (seen_variant u) (seen_variant v))
  by_layers b (variant.List x) (variant.List y) h r = absurd (h refl refl)
  by_layers b u v h r = r

  related_inside : (b : Bool) (s t : SchemaType) → (IsTrue b ↔ Related lists set all_pairs (inside_lists lists set s t).0 (inside_lists lists set s t).1) → (IsTrue b ↔ Related lists set all_pairs s t)
  related_inside b (ListType s) (ListType t) h = related_inside b s (type_in_place lists set s t) h
  related_inside b s t h = h

  pub related_through : (b : Bool) (s t x y : SchemaType) → x ≡ (inside_lists lists set s t).0 → y ≡ (inside_lists lists set s t).1 → (IsTrue b ↔ Related lists set all_pairs x y) → (IsTrue b ↔ Related lists set all_pairs s t)
  related_through b s t x y p q h =
      related_inside b s t (subst (λ (z : SchemaType). IsTrue b ↔ Related lists set all_pairs (inside_lists lists set s t).0 z) q (subst (λ (z : SchemaType). IsTrue b ↔ Related lists set all_pairs z y) p h))

  named_inside : (s t : SchemaType) → named_pair lists set (inside_lists lists set s t).0 (inside_lists lists set s t).1 ≡ named_pair lists set s t
  named_inside (ListType s) (ListType t) = named_inside s (type_in_place lists set s t)
  named_inside s t = refl

  pub named_through : (s t x y : SchemaType) → x ≡ (inside_lists lists set s t).0 → y ≡ (inside_lists lists set s t).1 → (o : Option Pair) → o ≡ named_pair lists set x y → o ≡ named_pair lists set s t
  named_through s t x y p q o h = h ∙ ap₂ (named_pair lists set) p q ∙ named_inside s t
