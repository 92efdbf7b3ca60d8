-- What a group field leads to, and back from its group.
use Rattle.std.specs.Prelude.{ℕ, ◌<◌, ◌≡◌, ⊤, length}
use Rattle.capnp_schema.specs.Schema.{Schemas, fields_of, field_at}
use Rattle.capnp_schema.specs.Accepted.{HaveSameSizes, IsAccepted, IsGroupBrand, IsGroupOf}
use Rattle.capnp_schema.specs.FieldLists.{index_of, field_schema, typed_of}
use Rattle.capnp_schema.specs.Laws.{LeadsDown}
use Rattle.capnp_schema.specs.StructHandles.{IsStruct, number_of, set_of}
use Rattle.capnp_schema.specs.declared.plan.Place.{Place}
use Rattle.capnp_schema.specs.declared.plan.Place.TheVariants as place
use Rattle.capnp_schema.specs.declared.schema.fields.Field.{Field}
use Rattle.capnp_schema.specs.declared.schema.structs.StructSchema.{StructSchema}

-- a group of lesser height, in the sections of the brand that it is in
pub record LeadsToGroup (set : Schemas) (b g : ℕ) : Type 0 where
  pub down : LeadsDown set b g
  pub sizes : HaveSameSizes set g b

-- each group field of an accepted set leads to one
abbrev pub GroupsLeadDown : Type 0
GroupsLeadDown = (set : Schemas) → IsAccepted set → (b i g : ℕ) → b < length set.brands → i < length (fields_of set b) →
    IsGroupOf (field_at set b i).field.kind (field_at set b i).type g → LeadsToGroup set b g

-- the schema of a group of a struct
pub record IsGroupSchemaIn (s g : StructSchema) : Type 0 where
  pub stands : IsStruct g
  pub set : set_of g ≡ set_of s
  pub leads : LeadsToGroup (set_of s) (number_of s) (number_of g)

-- the brand and the index of a field
abbrev pub place_of_field : Field → ℕ × ℕ
place_of_field f = (number_of (field_schema f), index_of f)

-- a field of the same set, whose group a struct is
pub record IsGroupFieldOf (g : StructSchema) (f : Field) : Type 0 where
  pub stands : IsStruct (field_schema f)
  pub set : set_of (field_schema f) ≡ set_of g
  pub names : IsGroupOf (typed_of f).field.kind (typed_of f).type (number_of g)
  pub group : IsGroupBrand (set_of g) (number_of g)

-- P of the brand of a group's place
abbrev pub IfGroup : Place → (ℕ → Type 0) → Type 0
IfGroup place.Nothing P = ⊤
IfGroup (place.Bits start width mask) P = ⊤
IfGroup (place.Pointer index) P = ⊤
IfGroup (place.Group brand) P = P brand
