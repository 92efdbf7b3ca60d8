-- What is decided of what a type's lists hold is decided of the type.
use Rattle.std.proofs.Common.{IsFalse, ℕ, zero, suc, ◌≡◌, Bool, true, false, not, refl, ap, subst, ◌∙◌}
use Rattle.std.specs.Bool.{Decides}
use Rattle.capnp_base.specs.declared.introspect.«Type».{«Type» as TypeHandle}
use Rattle.capnp_base.specs.declared.introspect.BaseType.{BaseType}
use Rattle.capnp_base.specs.declared.introspect.BaseType.TheVariants as base
use Rattle.capnp_base.specs.declared.introspect.TypeVariant.{TypeVariant}
use Rattle.capnp_base.specs.declared.introspect.TypeVariant.TheVariants as variant
use Rattle.capnp_base.specs.declared.introspect.RawBrandedStructSchema.{RawBrandedStructSchema}
use Rattle.capnp_base.specs.declared.introspect.RawEnumSchema.{RawEnumSchema}
use Rattle.capnp_base.specs.Types.{base_variant, innermost}
use Rattle.capnp_schema.specs.Types.{SchemaType, ListType, lists_of, seen_base, seen_type, seen_variant}
use Rattle.capnp_schema.specs.Schema.{Schemas, node_of}
use Rattle.capnp_schema.specs.Accepted.{NamesEntries, NamesNoGroup}
use Rattle.capnp_schema.specs.Facts.Layers.{seen_at_base}

module _ (r : Bool) (P : SchemaType → Type 0) (of_elements : (t : SchemaType) → Decides r (P t) → Decides r (P (ListType t))) where
  through_lists : (t : SchemaType) (count : ℕ) → Decides r (P t) → Decides r (P (lists_of count t))
  through_lists t zero d = d
  through_lists t (suc count) d = of_elements (lists_of count t) (through_lists t count d)

  by_base : (t : TypeHandle) → Decides r (P (seen_base t.base)) → Decides r (P (seen_type t))
  by_base t d = through_lists (seen_base t.base) t.list_count d

  by_innermost : (t : TypeHandle) (v : TypeVariant) → v ≡ innermost t → Decides r (P (seen_variant v)) → Decides r (P (seen_type t))
  by_innermost t v e d = by_base t (subst (λ (x : SchemaType). Decides r (P x)) (ap seen_variant e ∙ seen_at_base t.base) d)

-- one layer of a type that is no struct, and no enum
abbrev pub IsNoStruct : TypeVariant → Type 0
IsNoStruct v = (schema : RawBrandedStructSchema) → v ≡ variant.Struct schema → ⊥

abbrev pub IsNoEnum : TypeVariant → Type 0
IsNoEnum v = (schema : RawEnumSchema) → v ≡ variant.Enum schema → ⊥

-- what isn't marked
unmarked : (b c : Bool) → b ≡ c → Decides (not b) (IsFalse c)
unmarked true c e = (λ q. cc, λ h. cc)
unmarked false c e = (λ q. cc, λ h. cc)

module _ (set : Schemas) (t : TypeHandle) where
  -- ---- rule 1 ----

  pub names_innermost : (v : TypeVariant) (r : Bool) → v ≡ innermost t → Decides r (NamesEntries set (seen_variant v)) → Decides r (NamesEntries set (seen_type t))
  names_innermost v r e d = by_innermost r (NamesEntries set) (λ x d. d) t v e d

  named_base : (b : BaseType) → IsNoStruct (base_variant b) → IsNoEnum (base_variant b) → NamesEntries set (seen_base b)
  named_base (base.Struct schema) no_struct no_enum = absurd (no_struct schema refl)
  named_base (base.Enum schema) no_struct no_enum = absurd (no_enum schema refl)
  named_base b no_struct no_enum = tt

  -- what is no struct and no enum names no entry
  pub other_named : (v : TypeVariant) → v ≡ innermost t → IsNoStruct v → IsNoEnum v → Decides true (NamesEntries set (seen_type t))
  other_named v e no_struct no_enum = by_base true (NamesEntries set) (λ x d. d) t (λ _. named_base t.base (λ schema q. no_struct schema (e ∙ q)) (λ schema q. no_enum schema (e ∙ q)), λ _. refl)

  -- ---- rule 7 ----

  -- a struct is no group where it isn't marked as one
  pub struct_no_group : (schema : RawBrandedStructSchema) (marked : Bool) → variant.Struct schema ≡ innermost t → marked ≡ (node_of set schema.number).is_group → Decides (not marked) (NamesNoGroup set (seen_type t))
  struct_no_group schema marked e same = by_innermost (not marked) (NamesNoGroup set) (λ x d. d) t (variant.Struct schema) e (unmarked marked (node_of set schema.number).is_group same)

  no_group_base : (b : BaseType) → IsNoStruct (base_variant b) → NamesNoGroup set (seen_base b)
  no_group_base (base.Struct schema) no_struct = absurd (no_struct schema refl)
  no_group_base b no_struct = tt

  -- nor is what is no struct
  pub other_no_group : (v : TypeVariant) → v ≡ innermost t → IsNoStruct v → Decides true (NamesNoGroup set (seen_type t))
  other_no_group v e no_struct = by_base true (NamesNoGroup set) (λ x d. d) t (λ _. no_group_base t.base (λ schema q. no_struct schema (e ∙ q)), λ _. refl)
