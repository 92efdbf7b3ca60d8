-- The lists around a type, layer by layer, and what stands inside them; and the record that is written of a type.
use Rattle.std.proofs.Common.{◌≡◌, ℕ, zero, suc, ◌^◌, ◌<◌, refl, ap, sym, subst, ◌∙◌}
use Rattle.capnp_wire.specs.Tree.{StructTree}
use Rattle.capnp_base.specs.Types.{innermost, variant_of}
use Rattle.capnp_base.specs.declared.introspect.BaseType.{BaseType}
use Rattle.capnp_base.specs.declared.introspect.BaseType.TheVariants as base
use Rattle.capnp_base.specs.declared.introspect.«Type».{«Type» as TypeHandle}
use Rattle.capnp_base.specs.declared.introspect.TypeVariant.{TypeVariant}
use Rattle.capnp_base.specs.declared.introspect.TypeVariant.TheVariants as variant
use Rattle.capnp_schema.specs.Facts.Layers.{seen_at_base, seen_which}
use Rattle.capnp_schema.specs.Ranges.{HasWidths}
use Rattle.capnp_schema.specs.Types.{SchemaType, lists_of, seen_base, seen_type, seen_variant}
use Rattle.capnp_set_writer.specs.Kept.{TypeKept}
use Rattle.capnp_set_writer.specs.Trees.{base_number, list_count, named_number, type_row, type_tree}
use Rattle.capnp_set_writer.specs.Steps.Writes.{blank, number_put}

bare : (v : TypeVariant) → ((x : TypeHandle) → v ≡ variant.List x → ⊥) → list_count (seen_variant v) ≡ 0
bare variant.Void h = refl
bare variant.Bool h = refl
bare variant.Int8 h = refl
bare variant.Int16 h = refl
bare variant.Int32 h = refl
bare variant.Int64 h = refl
bare variant.UInt8 h = refl
bare variant.UInt16 h = refl
bare variant.UInt32 h = refl
bare variant.UInt64 h = refl
bare variant.Text h = refl
bare variant.«Data» h = refl
bare (variant.Struct schema) h = refl
bare variant.AnyPointer h = refl
bare (variant.Enum schema) h = refl
bare (variant.List element) h = absurd (h element refl)

pub no_lists : (t : TypeHandle) (v : TypeVariant) → v ≡ variant_of t → ((x : TypeHandle) → v ≡ variant.List x → ⊥) → list_count (seen_type t) ≡ 0
no_lists t v e h = sym (ap list_count (ap seen_variant e ∙ seen_which t)) ∙ bare v h

pub one_list : (t : TypeHandle) (v : TypeVariant) (element : TypeHandle) → v ≡ variant_of t → v ≡ variant.List element → list_count (seen_type t) ≡ suc (list_count (seen_type element))
one_list t v element e is = sym (ap list_count (ap seen_variant e ∙ seen_which t)) ∙ ap (λ w. list_count (seen_variant w)) is

-- ---- inside all lists ----

base_inside : (n : ℕ) (t : SchemaType) → base_number (lists_of n t) ≡ base_number t
base_inside zero t = refl
base_inside (suc n) t = base_inside n t

named_inside : (n : ℕ) (t : SchemaType) → named_number (lists_of n t) ≡ named_number t
named_inside zero t = refl
named_inside (suc n) t = named_inside n t

inner_base : (t : TypeHandle) → base_number (seen_variant (innermost t)) ≡ base_number (seen_type t)
inner_base t = ap base_number (seen_at_base t.base) ∙ sym (base_inside t.list_count (seen_base t.base))

inner_named : (t : TypeHandle) → named_number (seen_variant (innermost t)) ≡ named_number (seen_type t)
inner_named t = ap named_number (seen_at_base t.base) ∙ sym (named_inside t.list_count (seen_base t.base))

base_widths : (b : BaseType) → HasWidths (seen_base b)
base_widths base.Void = tt
base_widths base.Bool = tt
base_widths base.Int8 = refl
base_widths base.Int16 = refl
base_widths base.Int32 = refl
base_widths base.Int64 = refl
base_widths base.UInt8 = refl
base_widths base.UInt16 = refl
base_widths base.UInt32 = refl
base_widths base.UInt64 = refl
base_widths base.Text = tt
base_widths base.«Data» = tt
base_widths (base.Struct schema) = tt
base_widths base.AnyPointer = tt
base_widths (base.Enum schema) = tt

widths_inside : (n : ℕ) (t : SchemaType) → HasWidths t → HasWidths (lists_of n t)
widths_inside zero t h = h
widths_inside (suc n) t h = widths_inside n t h

-- ---- the record of a type ----

pub type_kept : (t : TypeHandle) (v : TypeVariant) → v ≡ innermost t → list_count (seen_type t) < 2 ^ 16 → named_number (seen_variant v) < 2 ^ 32 → TypeKept (seen_type t)
type_kept t v e few small = record {
  widths = widths_inside t.list_count (seen_base t.base) (base_widths t.base);
  lists = few;
  number = subst (λ n. n < 2 ^ 32) (ap (λ w. named_number (seen_variant w)) e ∙ inner_named t) small;
}

module _ (t : TypeHandle) (v : TypeVariant) (is : v ≡ innermost t) (s0 s1 s2 s3 : StructTree) where
  pub type_written : (first lists named : ℕ) → first ≡ base_number (seen_variant v) → lists ≡ list_count (seen_type t) → named ≡ named_number (seen_variant v) →
      s0 ≡ blank 1 0 → s1 ≡ number_put 2 0 first s0 → s2 ≡ number_put 2 1 lists s1 → s3 ≡ number_put 4 1 named s2 → s3 ≡ type_tree (seen_type t)
  type_written first lists named b l n e0 e1 e2 e3 =
      let row : s3 ≡ type_row first lists named = e3 ∙ ap (number_put 4 1 named) (e2 ∙ ap (number_put 2 1 lists) (e1 ∙ ap (number_put 2 0 first) e0)) in
      let first_is : first ≡ base_number (seen_type t) = b ∙ (ap (λ w. base_number (seen_variant w)) is ∙ inner_base t) in
      let named_is : named ≡ named_number (seen_type t) = n ∙ (ap (λ w. named_number (seen_variant w)) is ∙ inner_named t) in
      row ∙ (ap (λ k. type_row k lists named) first_is ∙ (ap (λ k. type_row (base_number (seen_type t)) k named) l ∙ ap (type_row (base_number (seen_type t)) (list_count (seen_type t))) named_is))
