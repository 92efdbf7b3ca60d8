-- What init and initn write into a slot, and why they are refused: steps of the code.
use Rattle.std.specs.Prelude.{Bool, true, false}
use Rattle.capnp_schema.specs.Types.{SchemaType, TextType, DataType, ListType}

-- whether a type's values have a size
abbrev pub is_sized : SchemaType → Bool
is_sized TextType = true
is_sized DataType = true
is_sized (ListType e) = true
is_sized t = false
