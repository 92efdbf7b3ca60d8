-- Handles of fields, and lists of them, as clauses speak of them.
use Rattle.std.specs.Prelude.{ℕ, ◌<◌, ◌≡◌, List, length, Option, Some, None}
use Rattle.capnp_schema.specs.Schema.{TypedField, default_of}
use Rattle.capnp_schema.specs.StructHandles.{struct_field, struct_fields, number_of, set_of}
use Rattle.capnp_schema.specs.Annotated.{TypedAnnotation, field_annotations}
use Rattle.capnp_schema.specs.Defaults.{value_default_tree}
use Rattle.capnp_schema.specs.declared.schema.structs.StructSchema.{StructSchema}
use Rattle.capnp_schema.specs.declared.schema.fields.Field.{Field}
use Rattle.capnp_schema.specs.declared.schema.field_list.FieldList.{FieldList}
use Rattle.capnp_schema.specs.declared.schema.field_subset.FieldSubset.{FieldSubset}
use Rattle.capnp_wire.specs.Tree.{Tree}

-- the struct that a field is of
abbrev pub field_schema : Field → StructSchema
field_schema f = f.schema

abbrev pub index_of : Field → ℕ
index_of f = f.index

-- its record, with its type in the brand
abbrev pub typed_of : Field → TypedField
typed_of f = struct_field (field_schema f) (index_of f)

-- its annotations with their types
abbrev pub field_annotated : Field → List TypedAnnotation
field_annotated f = field_annotations (set_of (field_schema f)) (number_of (field_schema f)) (index_of f)

-- the tree of its default, null for a default that has no words
abbrev pub default_behind : Field → Tree
default_behind f = value_default_tree (default_of (typed_of f).field)

-- two fields of one place: of schemas of one number, with one index
abbrev pub HaveOnePlace : (f g : Field) → Type 0
HaveOnePlace f g = (number_of (field_schema f) ≡ number_of (field_schema g)) × (index_of f ≡ index_of g)

-- field i of a struct
pub record IsFieldOf (s : StructSchema) (i : ℕ) (f : Field) : Type 0 where
  pub inside : i < length (struct_fields s)
  pub schema : field_schema f ≡ s
  pub index : index_of f ≡ i

-- the field of an index, where there is one
abbrev pub IsFound : StructSchema → Option ℕ → Option Field → Type 0
IsFound s None None = Unit {0}
IsFound s None (Some f) = ⊥
IsFound s (Some i) None = ⊥
IsFound s (Some i) (Some f) = IsFieldOf s i f

-- the struct whose fields a list has
abbrev pub list_schema : FieldList → StructSchema
list_schema l = l.schema

-- the struct of which a list has some fields, and the indices of these
abbrev pub subset_schema : FieldSubset → StructSchema
subset_schema l = l.schema

abbrev pub subset_indices : FieldSubset → List ℕ
subset_indices l = l.indices.now
