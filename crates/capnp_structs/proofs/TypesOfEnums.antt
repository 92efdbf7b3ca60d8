-- The enum that a type names, and the name of a number under a type.
use Rattle.std.proofs.Common.{ℕ, zero, suc, [], ◌∷◌, Option, decimal, slice_get, ◌≡◌, ◌∙◌, ap, refl, sym}
use Rattle.capnp_base.specs.Types.{base_of, base_variant, innermost, list_depth, variant_of}
use Rattle.capnp_base.specs.declared.introspect.«Type».{«Type» as TypeHandle}
use Rattle.capnp_base.specs.declared.introspect.BaseType.{BaseType}
use Rattle.capnp_base.specs.declared.introspect.BaseType.TheVariants as base
use Rattle.capnp_base.specs.declared.introspect.RawEnumSchema.{RawEnumSchema}
use Rattle.capnp_base.specs.declared.introspect.TypeVariant.{TypeVariant}
use Rattle.capnp_base.specs.declared.introspect.TypeVariant.TheVariants as variant
use Rattle.capnp_schema.specs.Facts.Layers.{seen_at_base, seen_which}
use Rattle.capnp_schema.specs.Schema.{Schemas, Enumerant, enum_at}
use Rattle.capnp_schema.specs.Types.{SchemaType, lists_of, seen_base, seen_type, seen_variant}
use Rattle.capnp_records.specs.Text.{enum_text, name_or}
use Rattle.capnp_structs.specs.Fields.{enums_named}

-- ---- the enum that a type names ----

-- a list names the enum that its elements' type names
named_by : (n : ℕ) (t : SchemaType) → enums_named (lists_of n t) ≡ enums_named t
named_by zero t = refl
named_by (suc n) t = named_by n t

named_inside : (t : TypeHandle) → enums_named (seen_type t) ≡ enums_named (seen_base (base_of t))
named_inside t = named_by (list_depth t) (seen_base (base_of t))

pub enum_named : (t : TypeHandle) (v : TypeVariant) (raw : RawEnumSchema) → v ≡ innermost t → v ≡ variant.Enum raw → enums_named (seen_type t) ≡ raw.number ∷ []
enum_named t v raw is here = named_inside t ∙ (ap enums_named (sym (seen_at_base (base_of t))) ∙ ap (λ (w : TypeVariant). enums_named (seen_variant w)) (sym is ∙ here))

none_by : (b : BaseType) → ((raw : RawEnumSchema) → base_variant b ≡ variant.Enum raw → ⊥) → enums_named (seen_base b) ≡ []
none_by base.Void other = refl
none_by base.Bool other = refl
none_by base.Int8 other = refl
none_by base.Int16 other = refl
none_by base.Int32 other = refl
none_by base.Int64 other = refl
none_by base.UInt8 other = refl
none_by base.UInt16 other = refl
none_by base.UInt32 other = refl
none_by base.UInt64 other = refl
none_by base.Text other = refl
none_by base.«Data» other = refl
none_by (base.Struct schema) other = refl
none_by base.AnyPointer other = refl
none_by (base.Enum schema) other = absurd (other schema refl)

pub none_named : (t : TypeHandle) (v : TypeVariant) → v ≡ innermost t → ((raw : RawEnumSchema) → v ≡ variant.Enum raw → ⊥) → enums_named (seen_type t) ≡ []
none_named t v is other = named_inside t ∙ none_by (base_of t) (λ raw e. other raw (is ∙ e))

-- ---- the name of a number under a type ----

plain_by : (set : Schemas) (v : TypeVariant) (n : ℕ) → ((raw : RawEnumSchema) → v ≡ variant.Enum raw → ⊥) → enum_text set (seen_variant v) n ≡ decimal n
plain_by set variant.Void n other = refl
plain_by set variant.Bool n other = refl
plain_by set variant.Int8 n other = refl
plain_by set variant.Int16 n other = refl
plain_by set variant.Int32 n other = refl
plain_by set variant.Int64 n other = refl
plain_by set variant.UInt8 n other = refl
plain_by set variant.UInt16 n other = refl
plain_by set variant.UInt32 n other = refl
plain_by set variant.UInt64 n other = refl
plain_by set variant.Text n other = refl
plain_by set variant.«Data» n other = refl
plain_by set (variant.Struct schema) n other = refl
plain_by set variant.AnyPointer n other = refl
plain_by set (variant.Enum schema) n other = absurd (other schema refl)
plain_by set (variant.List element) n other = refl

pub plain_text : (set : Schemas) (t : TypeHandle) (v : TypeVariant) (n : ℕ) → v ≡ variant_of t → ((raw : RawEnumSchema) → v ≡ variant.Enum raw → ⊥) → enum_text set (seen_type t) n ≡ decimal n
plain_text set t v n is other = ap (λ (u : SchemaType). enum_text set u n) (sym (seen_which t)) ∙ (ap (λ (w : TypeVariant). enum_text set (seen_variant w) n) (sym is) ∙ plain_by set v n other)

-- an enumerant of the enum
pub named_text : (set : Schemas) (t : TypeHandle) (v : TypeVariant) (raw : RawEnumSchema) (n : ℕ) (o : Option Enumerant) → v ≡ variant_of t → v ≡ variant.Enum raw → slice_get (enum_at set raw.number).enumerants n ≡ o →
    enum_text set (seen_type t) n ≡ name_or n o
named_text set t v raw n o is here there =
    ap (λ (u : SchemaType). enum_text set u n) (sym (seen_which t)) ∙ (ap (λ (w : TypeVariant). enum_text set (seen_variant w) n) (sym is ∙ here) ∙ ap (name_or n) there)
