-- New texts, and lists of elements that are no structs.
use Rattle.std.proofs.Common.{ℕ, ◌+◌, ◌-◌, ◌^◌, ◌<◌, ◌≡◌, ◌≢◌, refl, nat_lt, replicate, ap, subst, sym, ◌∙◌}
use Rattle.capnp_wire.specs.Edits.{zero_list}
use Rattle.capnp_wire.specs.Facts.Lists.{IsWellFormed_new_text, IsWellFormed_zero_list}
use Rattle.capnp_wire.specs.WellFormed.{IsWellFormed}
use Rattle.capnp_wire.specs.declared.size.ElementSize.{ElementSize}
use Rattle.capnp_wire.specs.declared.size.ElementSize.TheVariants.{InlineComposite}
use Rattle.capnp_base.specs.Text.{text_tree}
use Rattle.capnp_base.specs.Types.{variant_element_size, variant_of}
use Rattle.capnp_base.specs.declared.introspect.RawBrandedStructSchema.{RawBrandedStructSchema}
use Rattle.capnp_base.specs.declared.introspect.«Type».{«Type» as TypeHandle}
use Rattle.capnp_base.specs.declared.introspect.TypeVariant.{TypeVariant}
use Rattle.capnp_base.specs.declared.introspect.TypeVariant.TheVariants as variant
use Rattle.capnp_schema.specs.Facts.Layers.{seen_which}
use Rattle.capnp_schema.specs.Schema.{Schemas}
use Rattle.capnp_schema.specs.Types.{SchemaType, seen_type, seen_variant}
use Rattle.capnp_records.specs.Operation.{elements_past}
use Rattle.capnp_records.specs.Writes.Contents.{new_list}

-- well-formed, where the format has room
pub new_text : (count : ℕ) → count + 1 < 2 ^ 29 → IsWellFormed (text_tree (replicate count 0))
new_text = IsWellFormed_new_text

pub new_simple_list : (size : ElementSize) (count : ℕ) → count < 2 ^ 29 → IsWellFormed (zero_list size count)
new_simple_list = IsWellFormed_zero_list

-- a list of elements of a type is the wire's of elements of a size
pub record IsSimple (set : Schemas) (e : SchemaType) (n : ℕ) (size : ElementSize) : Type 0 where
  pub list : new_list set e n ≡ zero_list size n
  pub past : elements_past set e n ≡ nat_lt (2 ^ 29 - 1) n
  pub simple : size ≢ InlineComposite

module _ (set : Schemas) (n : ℕ) where
  by_variant : (v : TypeVariant) → ((x : RawBrandedStructSchema) → v ≡ variant.Struct x → ⊥) → IsSimple set (seen_variant v) n (variant_element_size v)
  by_variant (variant.Struct x) other = absurd (other x refl)
  by_variant variant.Void other = record { list = refl; past = refl; simple = λ e. cc }
  by_variant variant.Bool other = record { list = refl; past = refl; simple = λ e. cc }
  by_variant variant.Int8 other = record { list = refl; past = refl; simple = λ e. cc }
  by_variant variant.Int16 other = record { list = refl; past = refl; simple = λ e. cc }
  by_variant variant.Int32 other = record { list = refl; past = refl; simple = λ e. cc }
  by_variant variant.Int64 other = record { list = refl; past = refl; simple = λ e. cc }
  by_variant variant.UInt8 other = record { list = refl; past = refl; simple = λ e. cc }
  by_variant variant.UInt16 other = record { list = refl; past = refl; simple = λ e. cc }
  by_variant variant.UInt32 other = record { list = refl; past = refl; simple = λ e. cc }
  by_variant variant.UInt64 other = record { list = refl; past = refl; simple = λ e. cc }
  by_variant variant.Text other = record { list = refl; past = refl; simple = λ e. cc }
  by_variant variant.«Data» other = record { list = refl; past = refl; simple = λ e. cc }
  by_variant variant.AnyPointer other = record { list = refl; past = refl; simple = λ e. cc }
  by_variant (variant.Enum e) other = record { list = refl; past = refl; simple = λ e. cc }
  by_variant (variant.List t) other = record { list = refl; past = refl; simple = λ e. cc }

  pub is_simple : (t : TypeHandle) (v : TypeVariant) (size : ElementSize) → v ≡ variant_of t → size ≡ variant_element_size (variant_of t) → ((x : RawBrandedStructSchema) → v ≡ variant.Struct x → ⊥) →
      IsSimple set (seen_type t) n size
  is_simple t v size e f other =
      subst (IsSimple set (seen_type t) n) (sym (f ∙ ap variant_element_size (sym e)))
      (subst (λ u. IsSimple set u n (variant_element_size v)) (ap seen_variant e ∙ seen_which t) (by_variant v other))
