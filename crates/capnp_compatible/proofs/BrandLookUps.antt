-- Brands by number.
use Rattle.std.proofs.Common.{Option, ℕ, ◌≡◌, ◌<◌, List, length, map, get_or, slice_get, sym, ap, ap₂, ◌∙◌, arith}
use Rattle.std.specs.Option.{option_map, unwrap_or}
use Rattle.std.proofs.lemmas.List.{length-map}
use Rattle.std.proofs.lemmas.Option.{slice_get-get_or, slice_get-map}
use Rattle.capnp_schema.specs.declared.record.BrandRecord.{BrandRecord}
use Rattle.capnp_schema.specs.declared.schema.fields.Field.{Field}
use Rattle.capnp_schema.specs.declared.schema.structs.StructSchema.{StructSchema}
use Rattle.capnp_schema.specs.Schema.{Schemas, Brand, no_brand, brand_at, field_at, seen_brand}
use Rattle.capnp_schema.specs.FieldLists.{IsFieldOf, typed_of}
use Rattle.capnp_schema.specs.StructHandles.{number_of, set_of, struct_field}

module _ (set : Schemas) (brands : List BrandRecord) (are : map seen_brand brands ≡ set.brands) (b : ℕ) (inside : b < length set.brands) where
  pub brand_inside : b < length brands
  brand_inside = let count = sym (length-map brands seen_brand) ∙ ap (λ (l : List Brand). length l) are in omega (arith, count)

  pub brand_node : (d : BrandRecord) → (get_or brands b d).node ≡ (brand_at set b).node
  brand_node d =
      sym (ap (λ (o : Option Brand). (unwrap_or o (no_brand set)).node) (slice_get-map seen_brand brands b ∙ ap (option_map seen_brand) (slice_get-get_or brands b d brand_inside)))
      ∙ ap (λ (l : List Brand). (unwrap_or (slice_get l b) (no_brand set)).node) are

pub field_is : (s : StructSchema) (i : ℕ) (f : Field) (set : Schemas) (b : ℕ) → set_of s ≡ set → number_of s ≡ b → IsFieldOf s i f → typed_of f ≡ field_at set b i
field_is s i f set b e n h = ap₂ (λ (x : StructSchema) (k : ℕ). struct_field x k) h.schema h.index ∙ ap₂ (λ (x : Schemas) (y : ℕ). field_at x y i) e n
