-- Types whose values are no structs.
use Rattle.std.specs.Prelude.{⊤}
use Rattle.capnp_schema.specs.Types.{SchemaType, StructType}

abbrev pub IsPlain : SchemaType → Type 0
IsPlain (StructType b g) = ⊥
IsPlain t = ⊤
