-- Values as words under a type: steps of the code.
use Rattle.std.specs.Prelude.{ℕ, List}
use Rattle.capnp_schema.specs.Types.{SchemaType, TextType, DataType}
use Rattle.capnp_schema.specs.Enums.{enum_number, enum_set}
use Rattle.capnp_schema.specs.declared.schema.enums.EnumSchema.{EnumSchema}
use Rattle.capnp_words.specs.Values.{enumerant_words}

abbrev pub enumerant_names : EnumSchema → List (List ℕ)
enumerant_names e = enumerant_words (enum_set e) (enum_number e)

-- a type whose values are no texts and no data
abbrev pub IsSmall : SchemaType → Type 0
IsSmall TextType = ⊥
IsSmall DataType = ⊥
IsSmall t = Unit {0}
