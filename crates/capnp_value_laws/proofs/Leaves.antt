-- What is printed of a value that holds no others, and that it is a leaf.
use Rattle.std.proofs.Common.{decimal, codes, slice_get, ◌≡◌, ℕ, suc, ◌==◌, List, [], ◌∷◌, inl, Bool, true, false, cond, pos, negsuc, Option, refl, arith}
use Rattle.std.specs.Prelude.{⊤}
use Rattle.std.specs.Fmt.{signed_decimal}
use Rattle.capnp_floats.specs.declared.width.Width.TheVariants.{Float32, Float64}
use Rattle.capnp_schema.specs.Schema.{Schemas, enum_at}
use Rattle.capnp_schema.specs.Types.{BoolType, DataType, EnumType, IntType, SchemaType, TextType, UIntType, VoidType}
use Rattle.capnp_records.specs.Record as value
use Rattle.capnp_records.specs.Record.{Value}
use Rattle.capnp_records.specs.Text.{Layout, Out, data_text, name_or, said_text}
use Rattle.capnp_float_texts.specs.Numbers.{float_bytes}
use Rattle.capnp_float_texts.specs.Texts.{Inner, number_text, value_text}
use Rattle.capnp_value_texts.specs.Lines.{HasLine}
use Rattle.capnp_value_texts.specs.Written.{Leaf, Written}
use Rattle.capnp_value_texts.proofs.LeavesSet.{name_stands, quoted_ascii, signed_fits, truth_stands, unsigned_fits}
use Rattle.capnp_value_texts.proofs.LeavesStand.{StandsAlone, data_stands, leaf_text, negative_stands, number_stands, text_stands}
use Rattle.capnp_value_laws.specs.Texts.{IsTextOf}
use Rattle.capnp_value_laws.specs.Trees.{printed_value, quoted_bytes}
use Rattle.capnp_value_laws.specs.Whole.{IsWholeLeaf}
use Rattle.capnp_value_laws.proofs.FloatLeaves.{float_stands}

-- a text that is one of what is written
abbrev pub Spelt : Layout → Written → Out → Type 0
Spelt at w o = (text : List ℕ) × IsTextOf at w text × (o ≡ said_text text)

alone : (at : Layout) (place : ℕ) (bs : List ℕ) → Spelt at (Leaf place bs) (said_text bs)
alone at place bs = (bs, refl, refl)

-- with any levels left
pub leaf_said : (set : Schemas) (inner : Option Inner) (floats : Bool) (at : Layout) (t : SchemaType) (v : Value) → IsWholeLeaf set floats t v → Spelt at (printed_value set floats t v) (value_text set inner floats at t v)
leaf_said set inner floats at VoidType value.Void h = (codes "()", (41 ∷ [], inl refl, refl), refl)
leaf_said set inner floats at BoolType (value.Truth b) h = alone at 0 (cond b (codes "true") (codes "false"))
leaf_said set inner floats at (IntType bytes) (value.Number (pos n)) h = alone at 0 (decimal n)
leaf_said set inner floats at (IntType bytes) (value.Number (negsuc n)) h = alone at 0 (signed_decimal (negsuc n))
leaf_said set inner floats at (UIntType bytes) (value.Number (pos n)) h = alone at 0 (number_text floats (UIntType bytes) (pos n))
leaf_said set inner floats at (EnumType e) (value.Enum n) h = alone at 0 (name_or n (slice_get (enum_at set e).enumerants n))
leaf_said set inner floats at TextType (value.Text bs) h = (quoted_bytes bs, refl, quoted_ascii bs h.0)
leaf_said set inner floats at DataType (value.Data bs) h = alone at 0 (data_text bs)
leaf_said set inner floats at t v h = absurd h.0

abbrev pub IsNoVoid : Value → Type 0
IsNoVoid value.Void = ⊥
IsNoVoid v = ⊤

-- a number without a sign, of a float or none
unsigned_stands : (floats : Bool) (bytes n : ℕ) → StandsAlone (decimal n) → StandsAlone (number_text floats (UIntType bytes) (pos n))
unsigned_stands floats bytes n plain = by_bytes (bytes == 8) (bytes == 4) floats
  where
    by_bytes : (p q f : Bool) → StandsAlone (cond p (cond f (float_bytes Float64 n) (decimal n)) (cond q (cond f (float_bytes Float32 n) (decimal n)) (decimal n)))
    by_bytes true q true = float_stands Float64 n
    by_bytes true q false = plain
    by_bytes false true true = float_stands Float32 n
    by_bytes false true false = plain
    by_bytes false false f = plain

pub leaf_has_line : (set : Schemas) (floats : Bool) (levels : ℕ) (t : SchemaType) (v : Value) → IsWholeLeaf set floats t v → IsNoVoid v → HasLine levels (printed_value set floats t v)
leaf_has_line set floats levels VoidType value.Void h n = absurd n
leaf_has_line set floats levels BoolType (value.Truth b) h n = leaf_text (cond b (codes "true") (codes "false")) (truth_stands b)
leaf_has_line set floats levels (IntType bytes) (value.Number (pos n)) h k = leaf_text (decimal n) (number_stands n (omega (arith, signed_fits bytes n h.0.0 h.0.1)))
leaf_has_line set floats levels (IntType bytes) (value.Number (negsuc n)) h k = leaf_text (signed_decimal (negsuc n)) (negative_stands (suc n) (signed_fits bytes n h.0.0 h.0.1))
leaf_has_line set floats levels (UIntType bytes) (value.Number (pos n)) h k =
    leaf_text (number_text floats (UIntType bytes) (pos n)) (unsigned_stands floats bytes n (number_stands n (unsigned_fits bytes n h.0.0 h.0.1)))
leaf_has_line set floats levels (EnumType e) (value.Enum n) h k =
    leaf_text (name_or n (slice_get (enum_at set e).enumerants n)) (name_stands (enum_at set e).enumerants n h.1 (omega (arith, h.0.1)))
leaf_has_line set floats levels TextType (value.Text bs) h k = leaf_text (quoted_bytes bs) (text_stands bs h.0)
leaf_has_line set floats levels DataType (value.Data bs) h k = leaf_text (data_text bs) (data_stands bs h.0)
leaf_has_line set floats levels t v h k = absurd h.0
