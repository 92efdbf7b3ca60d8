-- The text of a value that is no struct and no list.
use Rattle.std.specs.Prelude.{ℕ, List, [], ◌∷◌, cond, slice_get, codes, decimal, ⊤}
use Rattle.std.specs.Char.Escape.{hex_digit_at}
use Rattle.std.specs.Fmt.{signed_decimal}
use Rattle.capnp_schema.specs.Enums.{enum_in}
use Rattle.capnp_records.specs.Text.{Out, data_text, name_or, quoted_text, said_text}
use Rattle.capnp_dynamic_readers.specs.Handles.{enum_of, enum_value_number}
use Rattle.capnp_dynamic_readers.specs.declared.dynamic_value.Enum.{Enum}
use Rattle.capnp_dynamic_readers.specs.declared.dynamic_value.Reader.{Reader as DynamicValue}
use Rattle.capnp_dynamic_readers.specs.declared.dynamic_value.Reader.TheVariants as dynamic

-- a byte in hexadecimal
abbrev pub two_digits : ℕ → List ℕ
two_digits b = hex_digit_at 16 b ∷ hex_digit_at 1 b ∷ []

-- an enum by its enumerant's name, and past the enumerants by its number
abbrev pub enumerant_text : Enum → List ℕ
enumerant_text e = name_or (enum_value_number e) (slice_get (enum_in (enum_of e)).enumerants (enum_value_number e))

-- a value is no struct and no list
abbrev pub IsLeaf : DynamicValue → Type 0
IsLeaf (dynamic.Struct s) = ⊥
IsLeaf (dynamic.List l) = ⊥
IsLeaf v = ⊤

-- its text, by its handles alone
abbrev pub leaf_text : DynamicValue → Out
leaf_text dynamic.Void = said_text (codes "()")
leaf_text (dynamic.Bool b) = said_text (cond b (codes "true") (codes "false"))
leaf_text (dynamic.Int8 x) = said_text (signed_decimal x)
leaf_text (dynamic.Int16 x) = said_text (signed_decimal x)
leaf_text (dynamic.Int32 x) = said_text (signed_decimal x)
leaf_text (dynamic.Int64 x) = said_text (signed_decimal x)
leaf_text (dynamic.UInt8 x) = said_text (decimal x)
leaf_text (dynamic.UInt16 x) = said_text (decimal x)
leaf_text (dynamic.UInt32 x) = said_text (decimal x)
leaf_text (dynamic.UInt64 x) = said_text (decimal x)
leaf_text (dynamic.Enum e) = said_text (enumerant_text e)
leaf_text (dynamic.Text t) = quoted_text t.0.now
leaf_text (dynamic.«Data» bytes) = said_text (data_text bytes.now)
leaf_text (dynamic.Struct s) = said_text []
leaf_text (dynamic.List l) = said_text []
leaf_text (dynamic.AnyPointer p) = said_text (codes "<opaque pointer>")

-- a value is one that no pointer stands for
abbrev pub IsNumber : DynamicValue → Type 0
IsNumber (dynamic.Text t) = ⊥
IsNumber (dynamic.«Data» bytes) = ⊥
IsNumber (dynamic.Struct s) = ⊥
IsNumber (dynamic.List l) = ⊥
IsNumber (dynamic.AnyPointer p) = ⊥
IsNumber v = ⊤
