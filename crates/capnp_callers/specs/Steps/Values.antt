-- Lists of UInt16s, and fields that hand out a text: steps of the code.
use Rattle.std.specs.Prelude.{⊤}
use Rattle.capnp_dynamic.specs.declared.dynamic_value.build.Builder.{Builder as BuiltValue}
use Rattle.capnp_dynamic.specs.declared.dynamic_value.build.Builder.TheVariants as built

-- a value is no text
abbrev pub IsNoText : BuiltValue → Type 0
IsNoText (built.Text b) = ⊥
IsNoText v = ⊤
