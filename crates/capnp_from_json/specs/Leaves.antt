-- What a value takes that holds no others: null, a truth value, a number or a string.
use Rattle.std.specs.Prelude.{ℕ, ◌≡◌, ◌-◌, ◌*◌, ℤ, pos, negsuc, List, [], ◌∷◌, Bool, true, false, cond, length, nat_lt, bytes_eq, codes, Option, Some, None, Result, Ok, Err}
use Rattle.capnp_wire.specs.Locate.{words_past_format}
use Rattle.capnp_schema.specs.Schema.{Schemas, enum_at}
use Rattle.capnp_schema.specs.Types.{SchemaType, VoidType, BoolType, IntType, UIntType, EnumType, TextType, DataType, StructType, ListType, AnyPointerType}
use Rattle.capnp_records.specs.Record as value
use Rattle.capnp_records.specs.Record.{Endless, Value}
use Rattle.capnp_floats.specs.declared.width.Width.{Width}
use Rattle.capnp_floats.specs.declared.width.Width.TheVariants.{Float32, Float64}
use Rattle.capnp_floats.specs.declared.word.Refusal.{Refusal as FloatRefusal}
use Rattle.capnp_floats.specs.declared.word.Refusal.TheVariants.{NoFloat, PastRange}
use Rattle.capnp_floats.specs.Words.{IsFloatOf}
use Rattle.capnp_json_text.specs.Readings.{Rest}
use Rattle.capnp_json_text.specs.Numbers.{after_number}
use Rattle.capnp_json_fields.specs.Names.{enumerant_of_name}
use Rattle.capnp_json_fields.specs.declared.fields.DataForm.{DataForm}
use Rattle.capnp_json_fields.specs.declared.fields.DataForm.TheVariants.{Array, Base64, Hexadecimal}
use Rattle.capnp_from_json.specs.Errors.{Read, refused}
use Rattle.capnp_from_json.specs.Encodings.{base64_decoded, hex_decoded}
use Rattle.capnp_from_json.specs.Integers.{signed_of, unsigned_of}
use Rattle.capnp_from_json.specs.declared.error.RefusalKind.TheVariants.{SizePastFormat, WrongJsonKind, NumberOutOfRange, NameUnknown}

-- ---- numbers ----

abbrev pub is_all_read : Rest → Bool
is_all_read (Ok []) = true
is_all_read (Ok (b ∷ bs)) = false
is_all_read (Err fault) = false

-- whether a string is a number
abbrev pub is_number : List ℕ → Bool
is_number bytes = is_all_read (after_number bytes)

-- a number that is read from bytes, or none
abbrev pub in_range : (place : ℕ) → (ℤ → Value) → Option ℤ → Read Value
in_range place kind None = refused NumberOutOfRange place
in_range place kind (Some x) = Ok (kind x)

-- a number, or a string that is one
abbrev pub number_by : (place : ℕ) → (List ℕ → Option ℤ) → (is_number : Bool) → List ℕ → Read Value
number_by place read true bytes = in_range place value.Number (read bytes)
number_by place read false bytes = refused WrongJsonKind place

-- ---- floats ----

-- what is read of words as floats: their bits, or why there are none
abbrev pub Floats : Type 0
Floats = Width → List ℕ → Result ℕ FloatRefusal

-- of each word what `IsFloatOf` says, which is one answer alone
abbrev pub AreFloats : Floats → Type 0
AreFloats floats = (width : Width) (word : List ℕ) (r : Result ℕ FloatRefusal) → IsFloatOf width word r → floats width word ≡ r

-- the word of a string for a float: JSON's own names of infinities and of what is no number
abbrev pub float_word : List ℕ → List ℕ
float_word bytes =
    cond (bytes_eq bytes (codes "Infinity")) (codes "inf")
    (cond (bytes_eq bytes (codes "-Infinity")) (codes "-inf")
    (cond (bytes_eq bytes (codes "NaN")) (codes "nan") bytes))

abbrev pub float_read : (place : ℕ) → Result ℕ FloatRefusal → Read Value
float_read place (Ok bits) = Ok (value.Number (pos bits))
float_read place (Err (NoFloat at)) = refused WrongJsonKind place
float_read place (Err PastRange) = refused NumberOutOfRange place

-- the width of the floats that stand in integers of so many bytes
abbrev pub float_width : (bytes : ℕ) → Width
float_width bytes = cond (nat_lt bytes 8) Float32 Float64

-- ---- enums ----

abbrev pub enum_value : ℤ → Value
enum_value (pos n) = value.Enum n
enum_value (negsuc n) = value.Enum 0

abbrev pub enum_named : (place : ℕ) → Option ℕ → Read Value
enum_named place None = refused NameUnknown place
enum_named place (Some n) = Ok (value.Enum n)

-- ---- texts and data ----

abbrev pub within_format : (place : ℕ) → Bool → Value → Read Value
within_format place true v = refused SizePastFormat place
within_format place false v = Ok v

-- a text has a byte more, and so at most 2^29 - 2
abbrev pub text_read : (place : ℕ) → List ℕ → Read Value
text_read place bytes = within_format place (nat_lt (words_past_format - 2) (length bytes)) (value.Text bytes)

abbrev pub data_read : (place : ℕ) → Option (List ℕ) → Read Value
data_read place None = refused WrongJsonKind place
data_read place (Some bytes) = within_format place (nat_lt (words_past_format - 1) (length bytes)) (value.Data bytes)

-- data that is a string
abbrev pub decoded : DataForm → List ℕ → Option (List ℕ)
decoded Array bytes = None
decoded Base64 bytes = base64_decoded bytes
decoded Hexadecimal bytes = hex_decoded bytes

-- ---- targets ----

-- what a value is read for: a slot, an element, or a group
pub data Part : Type 0 where
  OfSlot : Part
  OfElement : Part
  OfGroup : Part

-- its type, whether its numbers are floats, and how its data is written
pub record Target : Type 0 where
  pub type : SchemaType
  pub part : Part
  pub is_float : Bool
  pub form : DataForm

-- a struct behind a pointer may be null, one in a list and a group are there
abbrev pub null_struct : (place : ℕ) → Part → Read Value
null_struct place OfSlot = Ok (value.Missing Endless)
null_struct place OfElement = refused WrongJsonKind place
null_struct place OfGroup = refused WrongJsonKind place

-- an integer without a sign, or the float whose bits it is
abbrev pub unsigned_null : (place : ℕ) → Floats → (bytes : ℕ) → (is_float : Bool) → Read Value
unsigned_null place floats bytes true = float_read place (floats (float_width bytes) (codes "nan"))
unsigned_null place floats bytes false = refused WrongJsonKind place

abbrev pub null_read : Floats → (place : ℕ) → Target → SchemaType → Read Value
null_read floats place t VoidType = Ok value.Void
null_read floats place t BoolType = refused WrongJsonKind place
null_read floats place t (IntType bytes) = refused WrongJsonKind place
null_read floats place t (UIntType bytes) = unsigned_null place floats bytes t.is_float
null_read floats place t (EnumType number) = refused WrongJsonKind place
null_read floats place t TextType = Ok (value.Missing Endless)
null_read floats place t DataType = Ok (value.Missing Endless)
null_read floats place t (StructType number generic) = null_struct place t.part
null_read floats place t (ListType element) = Ok (value.Missing Endless)
null_read floats place t AnyPointerType = Ok (value.Missing Endless)

abbrev pub truth_read : (place : ℕ) → Bool → SchemaType → Read Value
truth_read place b BoolType = Ok (value.Truth b)
truth_read place b t = refused WrongJsonKind place

abbrev pub unsigned_number : Floats → (place : ℕ) → (bytes : ℕ) → (is_float : Bool) → List ℕ → Read Value
unsigned_number floats place bytes true token = float_read place (floats (float_width bytes) token)
unsigned_number floats place bytes false token = in_range place value.Number (unsigned_of (8 * bytes) token)

abbrev pub number_read : Floats → (place : ℕ) → List ℕ → Target → SchemaType → Read Value
number_read floats place token t VoidType = refused WrongJsonKind place
number_read floats place token t BoolType = refused WrongJsonKind place
number_read floats place token t (IntType bytes) = in_range place value.Number (signed_of (8 * bytes) token)
number_read floats place token t (UIntType bytes) = unsigned_number floats place bytes t.is_float token
number_read floats place token t (EnumType number) = in_range place enum_value (unsigned_of 16 token)
number_read floats place token t TextType = refused WrongJsonKind place
number_read floats place token t DataType = refused WrongJsonKind place
number_read floats place token t (StructType number generic) = refused WrongJsonKind place
number_read floats place token t (ListType element) = refused WrongJsonKind place
number_read floats place token t AnyPointerType = refused WrongJsonKind place

abbrev pub unsigned_string : Floats → (place : ℕ) → (bytes : ℕ) → (is_float : Bool) → List ℕ → Read Value
unsigned_string floats place bytes true string = float_read place (floats (float_width bytes) (float_word string))
unsigned_string floats place bytes false string = number_by place (unsigned_of (8 * bytes)) (is_number string) string

abbrev pub string_read : Schemas → Floats → (place : ℕ) → List ℕ → Target → SchemaType → Read Value
string_read set floats place string t VoidType = refused WrongJsonKind place
string_read set floats place string t BoolType = refused WrongJsonKind place
string_read set floats place string t (IntType bytes) = number_by place (signed_of (8 * bytes)) (is_number string) string
string_read set floats place string t (UIntType bytes) = unsigned_string floats place bytes t.is_float string
string_read set floats place string t (EnumType number) = enum_named place (enumerant_of_name (enum_at set number) string)
string_read set floats place string t TextType = text_read place string
string_read set floats place string t DataType = data_read place (decoded t.form string)
string_read set floats place string t (StructType number generic) = refused WrongJsonKind place
string_read set floats place string t (ListType element) = refused WrongJsonKind place
string_read set floats place string t AnyPointerType = refused WrongJsonKind place
