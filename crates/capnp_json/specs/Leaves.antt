-- The JSON of values that are no structs and no lists.
use Rattle.std.specs.Prelude.{ℕ, ℤ, pos, negsuc, ◌+◌, ◌-◌, ◌*◌, ◌/◌, ◌%◌, List, [], ◌∷◌, ◌++◌, map, flat_map, Bool, ◌==◌, nat_lt, cond, codes, decimal, slice_get, Option, Some, None, Ok, Err}
use Rattle.std.specs.Char.{digit_char}
use Rattle.std.specs.Fmt.{signed_decimal}
use Rattle.std.specs.Str.{is_utf8}
use Rattle.capnp_floats.specs.Floats.{fraction, is_finite}
use Rattle.capnp_floats.specs.Layout.{is_negative}
use Rattle.capnp_floats.specs.declared.width.Width.{Width}
use Rattle.capnp_floats.specs.declared.width.Width.TheVariants.{Float32, Float64}
use Rattle.capnp_json_text.specs.Writing.{string_written}
use Rattle.capnp_schema.specs.Schema.{Enumerant, Schemas, enum_at}
use Rattle.capnp_schema.specs.Types.{SchemaType, VoidType, BoolType, IntType, UIntType, EnumType, TextType, DataType, StructType, ListType, AnyPointerType}
use Rattle.capnp_records.specs.Text.{Layout}
use Rattle.capnp_json_fields.specs.Names.{enumerant_name}
use Rattle.capnp_json_fields.specs.declared.fields.DataForm.{DataForm}
use Rattle.capnp_json_fields.specs.declared.fields.DataForm.TheVariants.{Array, Base64, Hexadecimal}
use Rattle.capnp_json.specs.Pieces.{FloatNumber, Out, array, said}
use Rattle.capnp_json.specs.declared.error.JsonError.TheVariants.{TextNotUtf8}

-- ---- numbers ----

abbrev pub quoted : List ℕ → List ℕ
quoted bytes = 34 ∷ (bytes ++ 34 ∷ [])

-- what is said of bits that are no finite float
abbrev pub infinite_json : Width → (bits : ℕ) → Out
infinite_json w bits = said (cond (fraction w bits == 0) (cond (is_negative w bits) (codes "\"-Infinity\"") (codes "\"Infinity\"")) (codes "\"NaN\""))

-- a float by its bits: a number where it is finite
abbrev pub float_json : Width → (bits : ℕ) → Out
float_json w bits = cond (is_finite w bits) (Ok (FloatNumber w bits ∷ [])) (infinite_json w bits)

abbrev pub bits_of : ℤ → ℕ
bits_of (pos n) = n
bits_of (negsuc n) = 0

-- An integer in decimal: one of 64 bits in quotes, since readers that take numbers for floats would round it. Where the numbers
-- are floats, one without a sign is the bits of a float of its width.
abbrev pub unsigned_json : (is_float : Bool) → (bytes : ℕ) → ℤ → Out
unsigned_json is_float bytes n =
    cond (bytes == 8) (cond is_float (float_json Float64 (bits_of n)) (said (quoted (signed_decimal n))))
    (cond (bytes == 4) (cond is_float (float_json Float32 (bits_of n)) (said (signed_decimal n))) (said (signed_decimal n)))

abbrev pub signed_json : (bytes : ℕ) → ℤ → Out
signed_json bytes n = said (cond (bytes == 8) (quoted (signed_decimal n)) (signed_decimal n))

abbrev pub number_json : (is_float : Bool) → SchemaType → ℤ → Out
number_json is_float (UIntType bytes) n = unsigned_json is_float bytes n
number_json is_float (IntType bytes) n = signed_json bytes n
number_json is_float VoidType n = said (signed_decimal n)
number_json is_float BoolType n = said (signed_decimal n)
number_json is_float (EnumType number) n = said (signed_decimal n)
number_json is_float TextType n = said (signed_decimal n)
number_json is_float DataType n = said (signed_decimal n)
number_json is_float (StructType number generic) n = said (signed_decimal n)
number_json is_float (ListType element) n = said (signed_decimal n)
number_json is_float AnyPointerType n = said (signed_decimal n)

-- ---- strings ----

-- a text as a string, where it is UTF-8
abbrev pub text_json : List ℕ → Out
text_json bytes = cond (is_utf8 bytes) (said (string_written bytes)) (Err TextNotUtf8)

-- an enum by its enumerant's name, and past the enumerants by its number
abbrev pub name_or : ℕ → Option Enumerant → Out
name_or n None = said (decimal n)
name_or n (Some x) = text_json (enumerant_name x)

abbrev pub enum_json : Schemas → SchemaType → ℕ → Out
enum_json set (EnumType e) n = name_or n (slice_get (enum_at set e).enumerants n)
enum_json set VoidType n = said (decimal n)
enum_json set BoolType n = said (decimal n)
enum_json set (IntType bytes) n = said (decimal n)
enum_json set (UIntType bytes) n = said (decimal n)
enum_json set TextType n = said (decimal n)
enum_json set DataType n = said (decimal n)
enum_json set (StructType number generic) n = said (decimal n)
enum_json set (ListType element) n = said (decimal n)
enum_json set AnyPointerType n = said (decimal n)

-- ---- data ----

-- the character of six bits in the standard alphabet of RFC 4648
abbrev pub base64_digit : ℕ → ℕ
base64_digit n =
    cond (nat_lt n 26) (65 + n)
    (cond (nat_lt n 52) (71 + n)
    (cond (nat_lt n 62) (n - 4)
    (cond (n == 62) 43 47)))

-- three bytes are four characters; what is left at the end is padded by `=`
abbrev pub base64_text : List ℕ → List ℕ
base64_text [] = []
base64_text (a ∷ []) = base64_digit (a / 4) ∷ base64_digit (a % 4 * 16) ∷ 61 ∷ 61 ∷ []
base64_text (a ∷ b ∷ []) = base64_digit (a / 4) ∷ base64_digit (a % 4 * 16 + b / 16) ∷ base64_digit (b % 16 * 4) ∷ 61 ∷ []
base64_text (a ∷ b ∷ c ∷ rest) = base64_digit (a / 4) ∷ base64_digit (a % 4 * 16 + b / 16) ∷ base64_digit (b % 16 * 4 + c / 64) ∷ base64_digit (c % 64) ∷ base64_text rest

-- two digits a byte
abbrev pub hex_digits : ℕ → List ℕ
hex_digits b = digit_char (b / 16) ∷ digit_char (b % 16) ∷ []

abbrev pub hex_text : List ℕ → List ℕ
hex_text bytes = flat_map hex_digits bytes

-- bytes as elements of an array
abbrev pub byte_items : List ℕ → List Out
byte_items bytes = map (λ (b : ℕ). said (decimal b)) bytes

abbrev pub data_json : DataForm → Layout → List ℕ → Out
data_json Array at bytes = array at (byte_items bytes)
data_json Base64 at bytes = said (quoted (base64_text bytes))
data_json Hexadecimal at bytes = said (quoted (hex_text bytes))
