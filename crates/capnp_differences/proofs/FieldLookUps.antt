-- Fields of brands by their numbers.
use Rattle.std.proofs.Common.{ℕ, ◌≡◌, ap₂, ◌∙◌}
use Rattle.capnp_schema.specs.declared.schema.fields.Field.{Field}
use Rattle.capnp_schema.specs.declared.schema.structs.StructSchema.{StructSchema}
use Rattle.capnp_schema.specs.Schema.{Schemas, field_at}
use Rattle.capnp_schema.specs.FieldLists.{IsFieldOf, typed_of}
use Rattle.capnp_schema.specs.StructHandles.{number_of, set_of, struct_field}

pub field_is : (s : StructSchema) (i : ℕ) (f : Field) (set : Schemas) (b : ℕ) → set_of s ≡ set → number_of s ≡ b → IsFieldOf s i f → typed_of f ≡ field_at set b i
field_is s i f set b e n h = ap₂ (λ (x : StructSchema) (k : ℕ). struct_field x k) h.schema h.index ∙ ap₂ (λ (x : Schemas) (y : ℕ). field_at x y i) e n
