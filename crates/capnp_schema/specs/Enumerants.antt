-- What handles of enumerants, and lists of them, stand for. Contracts cite these words and no part of a handle.
use Rattle.std.specs.Prelude.{ℕ, ◌<◌, ◌≡◌, List, length}
use Rattle.capnp_schema.specs.Schema.{Enumerant as Named}
use Rattle.capnp_schema.specs.Annotated.{enumerant_at, TypedAnnotation, enumerant_annotations}
use Rattle.capnp_schema.specs.Enums.{enum_in, enum_number, enum_set}
use Rattle.capnp_schema.specs.declared.schema.enums.EnumSchema.{EnumSchema}
use Rattle.capnp_schema.specs.declared.schema.enums.Enumerant.{Enumerant}
use Rattle.capnp_schema.specs.declared.schema.enums.EnumerantList.{EnumerantList}

-- the enum of an enumerant, its ordinal there, and what the set has there
abbrev pub containing_enum : Enumerant → EnumSchema
containing_enum x = x.schema

abbrev pub ordinal_of : Enumerant → ℕ
ordinal_of x = x.ordinal

abbrev pub enumerant_in : Enumerant → Named
enumerant_in x = enumerant_at (enum_set (containing_enum x)) (enum_number (containing_enum x)) (ordinal_of x)

-- its annotations with their types
abbrev pub enumerant_annotated : Enumerant → List TypedAnnotation
enumerant_annotated x = enumerant_annotations (enum_set (containing_enum x)) (enum_number (containing_enum x)) (ordinal_of x)

-- the enumerant of an enum with that ordinal
pub record IsEnumerantOf (schema : EnumSchema) (i : ℕ) (x : Enumerant) : Type 0 where
  pub inside : i < length (enum_in schema).enumerants
  pub containing : containing_enum x ≡ schema
  pub ordinal : ordinal_of x ≡ i

-- the enum of a list of enumerants, which has all of them
abbrev pub enum_of_list : EnumerantList → EnumSchema
enum_of_list xs = xs.schema

abbrev pub enumerants_in : EnumerantList → List Named
enumerants_in xs = (enum_in (enum_of_list xs)).enumerants
