-- Parts that are taken as a struct or as a list alone: where a builder hands out something else, it is a mismatch: steps of the code.
use Rattle.std.specs.Prelude.{⊤}
use Rattle.capnp_dynamic.specs.declared.dynamic_value.build.Builder.{Builder as BuiltValue}
use Rattle.capnp_dynamic.specs.declared.dynamic_value.build.Builder.TheVariants as built

-- a value is no struct, and no list
abbrev pub IsNoStruct : BuiltValue → Type 0
IsNoStruct (built.Struct s) = ⊥
IsNoStruct v = ⊤

abbrev pub IsNoList : BuiltValue → Type 0
IsNoList (built.List l) = ⊥
IsNoList v = ⊤
