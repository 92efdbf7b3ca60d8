-- The JSON of a value that holds no others is a value, and stands for it.
use Rattle.std.proofs.Common.{◌≡◌, ℕ, ◌<◌, ◌^◌, ◌==◌, Bool, true, false, cond, List, [], ◌∷◌, ◌++◌, All, codes, decimal, slice_get, Option, Some, None, Ok, Err, refl, ap, sym, subst, ◌∙◌, arith}
use Rattle.std.specs.Fmt.{signed_decimal}
use Rattle.std.specs.Str.{is_utf8}
use Rattle.std.proofs.lemmas.Str.{IsUtf8-from_is_utf8}
use Rattle.std.proofs.lemmas.List.Elements.{All-head, All-tail}
use lib.IntN.{ℤ}
use Rattle.capnp_floats.specs.Floats.{fraction, is_finite}
use Rattle.capnp_floats.specs.Layout.{is_negative}
use Rattle.capnp_floats.specs.declared.width.Width.{Width}
use Rattle.capnp_floats.specs.declared.width.Width.TheVariants.{Float32, Float64}
use Rattle.capnp_json_text.specs.Values.{Json}
use Rattle.capnp_json_text.specs.Writing.{string_written}
use Rattle.capnp_schema.specs.Schema.{Enumerant, Schemas, enum_at}
use Rattle.capnp_schema.specs.Types.{SchemaType, VoidType, BoolType, IntType, UIntType, EnumType, TextType, DataType, StructType, ListType, AnyPointerType}
use Rattle.capnp_records.specs.Text.{Layout, deeper, line}
use Rattle.capnp_json_fields.specs.Names.{enumerant_name}
use Rattle.capnp_json_fields.specs.declared.fields.DataForm.{DataForm}
use Rattle.capnp_json_fields.specs.declared.fields.DataForm.TheVariants.{Array, Base64, Hexadecimal}
use Rattle.capnp_json.specs.Leaves.{base64_text, bits_of, byte_items, data_json, enum_json, float_json, hex_text, infinite_json, name_or, number_json, quoted, text_json, unsigned_json}
use Rattle.capnp_json.specs.Pieces.{FloatNumber, IsJson, IsNumberOf, items_left, ending, said, separator}
use Rattle.capnp_json.specs.declared.error.JsonError.TheVariants.{TextNotUtf8}
use Rattle.capnp_json_laws.specs.Fitting.{HoldsNumber}
use Rattle.capnp_json_laws.specs.Stands.{AreNone, IsNumber, IsString, IsTruth, IsValue}
use Rattle.capnp_json_laws.specs.Trees.{AreBytes, IsDataTree, IsEnumTree, IsFiniteTree, IsFloatBy, IsIntegerTree, IsNameOr, IsNumberTree, IsUnsignedTree, float_in}
use Rattle.capnp_json_laws.proofs.Gaps.{ending_gap, line_gap, separator_between}
use Rattle.capnp_json_laws.proofs.Holding.{EndsArray, array_end, array_more, array_value}
use Rattle.capnp_json_laws.proofs.Numbers.{IsSmallInteger, float_word, holds_small, integer_plain, integer_word, natural_word}
use Rattle.capnp_json_laws.proofs.Plain.{base64_text_plain, hex_text_plain, quoted_value}
use Rattle.capnp_json_laws.proofs.Spelled.{float_bytes, item_joined, said_bytes, said_joined}
use Rattle.capnp_json_laws.proofs.Tokens.{word_value}
use Rattle.capnp_json_laws.proofs.Words.{false_value, string_value, true_value}

-- what is said is the value
pub said_value : (bs bytes : List ℕ) (Is : Json → Type 0) → IsValue bs Is → IsJson (said bs) bytes → IsValue bytes Is
said_value bs bytes Is v h = subst (λ x. IsValue x Is) (sym (said_bytes bs bytes h)) v

pub truth_written : (b : Bool) (bytes : List ℕ) → IsJson (said (cond b (codes "true") (codes "false"))) bytes → IsValue bytes (IsTruth b)
truth_written true bytes h = said_value (codes "true") bytes (IsTruth true) true_value h
truth_written false bytes h = said_value (codes "false") bytes (IsTruth false) false_value h

-- ---- texts ----

-- a text that is written, and that it is UTF-8
pub text_written : (text bytes : List ℕ) → IsJson (text_json text) bytes → (is_utf8 text ≡ true) × (bytes ≡ string_written text)
text_written text bytes h = go (is_utf8 text) h
  where
    go : (q : Bool) → IsJson (cond q (said (string_written text)) (Err TextNotUtf8)) bytes → (q ≡ true) × (bytes ≡ string_written text)
    go true k = (refl, said_bytes (string_written text) bytes k)
    go false k = absurd k

pub text_value : (text bytes : List ℕ) → IsJson (text_json text) bytes → IsValue bytes (IsString text)
text_value text bytes h =
    let w = text_written text bytes h in
    subst (λ x. IsValue x (IsString text)) (sym w.1) (string_value text (IsUtf8-from_is_utf8 text w.0))

-- ---- numbers ----

integer_value : (n : ℤ) → IsSmallInteger n → IsValue (signed_decimal n) (IsNumber (signed_decimal n))
integer_value n h = word_value (signed_decimal n) (integer_word n h)

wide_value : (n : ℤ) → IsSmallInteger n → IsValue (quoted (signed_decimal n)) (IsString (signed_decimal n))
wide_value n h = quoted_value (signed_decimal n) (integer_plain n h)

integer_by : (is_wide : Bool) (n : ℤ) (bytes : List ℕ) → IsSmallInteger n → IsJson (said (cond is_wide (quoted (signed_decimal n)) (signed_decimal n))) bytes → IsValue bytes (IsIntegerTree is_wide n)
integer_by true n bytes small h = said_value (quoted (signed_decimal n)) bytes (IsString (signed_decimal n)) (wide_value n small) h
integer_by false n bytes small h = said_value (signed_decimal n) bytes (IsNumber (signed_decimal n)) (integer_value n small) h

with_text : (w : Width) (bits : ℕ) (text : List ℕ) → IsNumberOf w bits text → IsValue text (IsNumber text) → IsValue text (IsFiniteTree w bits)
with_text w bits text is v = record {
  utf8 = v.utf8;
  first = v.first;
  others = v.others;
  begins = v.begins;
  no_blank = v.no_blank;
  no_end = v.no_end;
  read = v.read;
  stands = λ whole rest f. (text, is, v.stands whole rest f);
}

infinite_by : (zero negative : Bool) (bytes : List ℕ) → IsJson (said (cond zero (cond negative (codes "\"-Infinity\"") (codes "\"Infinity\"")) (codes "\"NaN\""))) bytes
    → IsValue bytes (IsString (cond zero (cond negative (codes "-Infinity") (codes "Infinity")) (codes "NaN")))
infinite_by true true bytes h = said_value (codes "\"-Infinity\"") bytes (IsString (codes "-Infinity")) (quoted_value (codes "-Infinity") refl) h
infinite_by true false bytes h = said_value (codes "\"Infinity\"") bytes (IsString (codes "Infinity")) (quoted_value (codes "Infinity") refl) h
infinite_by false negative bytes h = said_value (codes "\"NaN\"") bytes (IsString (codes "NaN")) (quoted_value (codes "NaN") refl) h

float_written : (w : Width) (bits : ℕ) (bytes : List ℕ) → IsJson (float_json w bits) bytes → IsValue bytes (IsFloatBy (is_finite w bits) w bits)
float_written w bits bytes h = go (is_finite w bits) h
  where
    go : (q : Bool) → IsJson (cond q (Ok (FloatNumber w bits ∷ [])) (infinite_json w bits)) bytes → IsValue bytes (IsFloatBy q w bits)
    go true k = let is = float_bytes w bits bytes k in with_text w bits bytes is (word_value bytes (float_word w bits bytes is))
    go false k = infinite_by (fraction w bits == 0) (is_negative w bits) bytes k

unsigned_written : (floats : Bool) (width : ℕ) (n : ℤ) (bytes : List ℕ) → IsSmallInteger n → IsJson (unsigned_json floats width n) bytes → IsValue bytes (IsUnsignedTree (float_in floats width) (width == 8) n)
unsigned_written true width n bytes small h = go (width == 8) (width == 4) h
  where
    go : (e f : Bool) → IsJson (cond e (float_json Float64 (bits_of n)) (cond f (float_json Float32 (bits_of n)) (said (signed_decimal n)))) bytes
        → IsValue bytes (IsUnsignedTree (cond e (Some Float64) (cond f (Some Float32) None)) e n)
    go true f k = float_written Float64 (bits_of n) bytes k
    go false true k = float_written Float32 (bits_of n) bytes k
    go false false k = said_value (signed_decimal n) bytes (IsNumber (signed_decimal n)) (integer_value n small) k
unsigned_written false width n bytes small h = go (width == 8) (width == 4) h
  where
    go : (e f : Bool) → IsJson (cond e (said (quoted (signed_decimal n))) (cond f (said (signed_decimal n)) (said (signed_decimal n)))) bytes → IsValue bytes (IsIntegerTree e n)
    go true f k = integer_by true n bytes small k
    go false true k = integer_by false n bytes small k
    go false false k = integer_by false n bytes small k

pub number_written : (floats : Bool) (t : SchemaType) (n : ℤ) (bytes : List ℕ) → HoldsNumber t n → IsJson (number_json floats t n) bytes → IsValue bytes (IsNumberTree floats t n)
number_written floats (UIntType width) n bytes holds h = unsigned_written floats width n bytes (holds_small (UIntType width) n holds) h
number_written floats (IntType width) n bytes holds h = integer_by (width == 8) n bytes (holds_small (IntType width) n holds) h
number_written floats VoidType n bytes holds h = absurd holds
number_written floats BoolType n bytes holds h = absurd holds
number_written floats (EnumType number) n bytes holds h = absurd holds
number_written floats TextType n bytes holds h = absurd holds
number_written floats DataType n bytes holds h = absurd holds
number_written floats (StructType number generic) n bytes holds h = absurd holds
number_written floats (ListType element) n bytes holds h = absurd holds
number_written floats AnyPointerType n bytes holds h = absurd holds

-- ---- enums ----

natural_value : (n : ℕ) → n < 2 ^ 64 → IsValue (decimal n) (IsNumber (decimal n))
natural_value n h = word_value (decimal n) (natural_word n h)

named_written : (n : ℕ) (o : Option Enumerant) (bytes : List ℕ) → n < 65536 → IsJson (name_or n o) bytes → IsValue bytes (IsNameOr n o)
named_written n None bytes small h = said_value (decimal n) bytes (IsNumber (decimal n)) (natural_value n (omega arith)) h
named_written n (Some x) bytes small h = text_value (enumerant_name x) bytes h

pub enum_written : (set : Schemas) (t : SchemaType) (e n : ℕ) (bytes : List ℕ) → t ≡ EnumType e → n < 65536 → IsJson (enum_json set t n) bytes → IsValue bytes (IsEnumTree set t n)
enum_written set t e n bytes is small h =
    subst (λ x. IsValue bytes (IsEnumTree set x n)) (sym is) (named_written n (slice_get (enum_at set e).enumerants n) bytes small (subst (λ x. IsJson (enum_json set x n) bytes) is h))

-- ---- data ----

bytes_written : (at : Layout) (first : Bool) (bs bytes : List ℕ) → All (λ (b : ℕ). b < 256) bs → IsJson (items_left (codes "]") at first (byte_items bs)) bytes → EndsArray first bytes (AreBytes bs)
bytes_written at first [] bytes small h =
    subst (λ x. EndsArray first x AreNone) (sym (said_bytes (ending at first ++ codes "]") bytes h)) (array_end first (ending at first) (ending_gap at first))
bytes_written at first (b ∷ bs) bytes small h =
    let r = item_joined (separator at first) (said (decimal b)) (items_left (codes "]") at false (byte_items bs)) bytes h in
    let less : b < 256 = All-head (λ (x : ℕ). x < 256) b bs small in
    let value : IsValue r.front (IsNumber (decimal b)) = said_value (decimal b) r.front (IsNumber (decimal b)) (natural_value b (omega arith)) r.first in
    subst (λ x. EndsArray first x (AreBytes (b ∷ bs))) (sym (r.whole ∙ ap (λ y. y ++ (r.front ++ r.back)) (separator_between at first)))
    (array_more first (line at) r.front r.back (IsNumber (decimal b)) (AreBytes bs) (line_gap at) value (bytes_written at false bs r.back (All-tail (λ (x : ℕ). x < 256) b bs small) r.second))

pub data_written : (form : DataForm) (at : Layout) (bs bytes : List ℕ) → All (λ (b : ℕ). b < 256) bs → IsJson (data_json form at bs) bytes → IsValue bytes (IsDataTree form bs)
data_written Array at bs bytes small h =
    let r = said_joined (codes "[") (items_left (codes "]") (deeper at) true (byte_items bs)) bytes h in
    subst (λ x. IsValue x (IsDataTree Array bs)) (sym r.whole) (array_value r.back (AreBytes bs) (bytes_written (deeper at) true bs r.back small r.second))
data_written Base64 at bs bytes small h = said_value (quoted (base64_text bs)) bytes (IsString (base64_text bs)) (quoted_value (base64_text bs) (base64_text_plain bs)) h
data_written Hexadecimal at bs bytes small h = said_value (quoted (hex_text bs)) bytes (IsString (hex_text bs)) (quoted_value (hex_text bs) (hex_text_plain bs small)) h
