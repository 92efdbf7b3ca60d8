-- Annotations with their types: of a struct, a field, an enum and an enumerant, by their numbers.
use Rattle.std.specs.Prelude.{ℕ, List, [], ◌∷◌, map, slice_get, Option, Some, None}
use Rattle.std.specs.Option.{unwrap_or}
use Rattle.capnp_schema.specs.Types.{SchemaType}
use Rattle.capnp_schema.specs.Schema.{Schemas, Annotation, AnnotationTypes, Enumerant, brand_at, enum_at, field_at, node_of}
use Rattle.capnp_schema.specs.Query.{annotation_of}

-- an annotation with the type of its value
pub record TypedAnnotation : Type 0 where
  pub annotation : Annotation
  pub type : SchemaType

-- annotations with their types, as many as there are of both
abbrev pub with_types : List Annotation → List SchemaType → List TypedAnnotation
with_types [] ts = []
with_types (a ∷ rest) [] = []
with_types (a ∷ rest) (t ∷ ts) = record { annotation = a; type = t } ∷ with_types rest ts

-- the annotations without their types
abbrev pub annotations_of : List TypedAnnotation → List Annotation
annotations_of xs = map (λ (x : TypedAnnotation). x.annotation) xs

-- the types of the annotations of a field or enumerant
abbrev pub child_types : AnnotationTypes → ℕ → List SchemaType
child_types types i = unwrap_or (slice_get types.children i) []

-- an enumerant by its ordinal; past the end stands one with nothing in it
abbrev pub no_enumerant : Enumerant
no_enumerant = record { name = []; annotations = [] }

abbrev pub enumerant_at : Schemas → ℕ → ℕ → Enumerant
enumerant_at set e i = unwrap_or (slice_get (enum_at set e).enumerants i) no_enumerant

-- ---- the annotations at a place, none past the end ----

abbrev pub struct_annotations : Schemas → ℕ → List TypedAnnotation
struct_annotations set b = with_types (node_of set b).annotations (brand_at set b).annotation_types.own

abbrev pub field_annotations : Schemas → ℕ → ℕ → List TypedAnnotation
field_annotations set b i = with_types (field_at set b i).field.annotations (child_types (brand_at set b).annotation_types i)

abbrev pub enum_annotations : Schemas → ℕ → List TypedAnnotation
enum_annotations set e = with_types (enum_at set e).annotations (enum_at set e).annotation_types.own

abbrev pub enumerant_annotations : Schemas → ℕ → ℕ → List TypedAnnotation
enumerant_annotations set e i = with_types (enumerant_at set e i).annotations (child_types (enum_at set e).annotation_types i)

-- ---- the first of an id ----

abbrev pub entry_at : List TypedAnnotation → Option ℕ → Option TypedAnnotation
entry_at xs None = None
entry_at xs (Some i) = slice_get xs i

abbrev pub first_of_id : List TypedAnnotation → ℕ → Option TypedAnnotation
first_of_id xs id = entry_at xs (annotation_of (annotations_of xs) id)
