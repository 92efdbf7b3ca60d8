-- What holds of the values that are told.
use Rattle.std.specs.Prelude.{◌≡◌, false}
use Rattle.capnp_schema.specs.Schema.{Schemas, Value as SchemaValue}
use Rattle.capnp_schema.specs.Types.{SchemaType}
use Rattle.capnp_float_texts.specs.Laws.{HasNoFloats}
use Rattle.capnp_structs.specs.Values.{stored_text}
use Rattle.capnp_structs.specs.declared.values.Numbers.TheVariants.{Integers, Floats}

-- Under a set without floats a value of a field is told as all others.
abbrev pub ValuesWithoutFloats : Type 0
ValuesWithoutFloats = (set : Schemas) (t : SchemaType) (v : SchemaValue) → HasNoFloats set → stored_text (Floats false) set t v ≡ stored_text Integers set t v
