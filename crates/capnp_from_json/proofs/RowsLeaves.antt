-- Worked rows: what each type takes, and what it refuses.
use Rattle.std.proofs.Common.{◌≡◌, ℕ, true, false, List, [], ◌∷◌, Ok, Err, refl, codes, Bool, cond}
use Rattle.std.specs.Prelude.{pos, negsuc, bytes_eq}
use Rattle.capnp_schema.specs.Schema.{Schemas, Enum, no_types}
use Rattle.capnp_schema.specs.Types.{SchemaType, VoidType, BoolType, IntType, UIntType, EnumType, TextType, DataType, StructType, ListType, AnyPointerType}
use Rattle.capnp_records.specs.Record as value
use Rattle.capnp_records.specs.Record.{Endless, Value, NoValues, MoreValues}
use Rattle.capnp_floats.specs.declared.word.Refusal.TheVariants.{NoFloat, PastRange}
use Rattle.capnp_json_text.specs.Decimals.{decimal_of, exponent_of, fraction_digits, whole_digits}
use Rattle.capnp_json_text.specs.Numbers.{after_number}
use Rattle.capnp_json_text.specs.Values.{Json, Null, Truth, Number, Text, Array, Object, NoElement, Element, NoMember}
use Rattle.capnp_json_fields.specs.declared.fields.DataForm.{DataForm}
use Rattle.capnp_json_fields.specs.declared.fields.DataForm.TheVariants as form
use Rattle.capnp_from_json.specs.Errors.{Read, refused}
use Rattle.capnp_from_json.specs.Integers.{signed_of, unsigned_of}
use Rattle.capnp_from_json.specs.Leaves.{Floats, OfSlot, OfGroup, Part}
use Rattle.capnp_from_json.specs.Records.{value_of_json}
use Rattle.capnp_from_json.specs.declared.error.RefusalKind.TheVariants.{WrongJsonKind, NumberOutOfRange, NameUnknown}

abbrev colours : Enum
colours = record { id = 1; display_name = []; annotations = []; enumerants = record { name = codes "red"; annotations = [] } ∷ record { name = codes "blue"; annotations = [] } ∷ []; annotation_types = no_types }

abbrev set : Schemas
set = record { nodes = []; brands = []; enums = colours ∷ [] }

-- a few words
abbrev floats : Floats
floats w word =
    cond (bytes_eq word (codes "1.5")) (Ok 15)
    (cond (bytes_eq word (codes "inf")) (Ok 1)
    (cond (bytes_eq word (codes "-inf")) (Ok 2)
    (cond (bytes_eq word (codes "nan")) (Ok 3) (cond (bytes_eq word (codes "1e400")) (Err PastRange) (Err (NoFloat 0))))))

abbrev read_part : Part → Bool → DataForm → SchemaType → Json → Read Value
read_part part is_float form t j = value_of_json (record { set = set; floats = floats; strict = false }) j 64 (record { type = t; part = part; is_float = is_float; form = form })

abbrev read : SchemaType → Json → Read Value
read = read_part OfSlot false form.Array

abbrev read_float : SchemaType → Json → Read Value
read_float = read_part OfSlot true form.Array

abbrev number : List ℕ → Json
number token = Number 9 token

abbrev string : List ℕ → Json
string bytes = Text 9 bytes

abbrev two_bytes : Json
two_bytes = Array 9 (Element (Number 10 (codes "0")) (Element (Text 12 (codes "255")) NoElement))

abbrev wrong : Read Value
wrong = refused WrongJsonKind 9

abbrev out : Read Value
out = refused NumberOutOfRange 9

void_null : read VoidType (Null 9) ≡ Ok value.Void
unfolding after_number signed_of unsigned_of decimal_of whole_digits fraction_digits exponent_of
void_null = refl

void_other : read VoidType (Truth 9 true) ≡ wrong
unfolding after_number signed_of unsigned_of decimal_of whole_digits fraction_digits exponent_of
void_other = refl

truth : read BoolType (Truth 9 true) ≡ Ok (value.Truth true)
unfolding after_number signed_of unsigned_of decimal_of whole_digits fraction_digits exponent_of
truth = refl

truth_null : read BoolType (Null 9) ≡ wrong
unfolding after_number signed_of unsigned_of decimal_of whole_digits fraction_digits exponent_of
truth_null = refl

truth_number : read BoolType (number (codes "1")) ≡ wrong
unfolding after_number signed_of unsigned_of decimal_of whole_digits fraction_digits exponent_of
truth_number = refl

integer : read (IntType 1) (number (codes "-128")) ≡ Ok (value.Number (negsuc 127))
unfolding after_number signed_of unsigned_of decimal_of whole_digits fraction_digits exponent_of
integer = refl

integer_tens : read (UIntType 1) (number (codes "1e2")) ≡ Ok (value.Number (pos 100))
unfolding after_number signed_of unsigned_of decimal_of whole_digits fraction_digits exponent_of
integer_tens = refl

integer_string : read (UIntType 8) (string (codes "18446744073709551615")) ≡ Ok (value.Number (pos 18446744073709551615))
unfolding after_number signed_of unsigned_of decimal_of whole_digits fraction_digits exponent_of
integer_string = refl

integer_out : read (UIntType 1) (number (codes "256")) ≡ out
unfolding after_number signed_of unsigned_of decimal_of whole_digits fraction_digits exponent_of
integer_out = refl

integer_string_out : read (UIntType 1) (string (codes "256")) ≡ out
unfolding after_number signed_of unsigned_of decimal_of whole_digits fraction_digits exponent_of
integer_string_out = refl

integer_part : read (IntType 4) (number (codes "1.5")) ≡ out
unfolding after_number signed_of unsigned_of decimal_of whole_digits fraction_digits exponent_of
integer_part = refl

integer_minus : read (UIntType 8) (number (codes "-1")) ≡ out
unfolding after_number signed_of unsigned_of decimal_of whole_digits fraction_digits exponent_of
integer_minus = refl

integer_blank : read (UIntType 8) (string (codes " 7")) ≡ wrong
unfolding after_number signed_of unsigned_of decimal_of whole_digits fraction_digits exponent_of
integer_blank = refl

integer_zeros : read (UIntType 8) (string (codes "010")) ≡ wrong
unfolding after_number signed_of unsigned_of decimal_of whole_digits fraction_digits exponent_of
integer_zeros = refl

integer_null : read (IntType 8) (Null 9) ≡ wrong
unfolding after_number signed_of unsigned_of decimal_of whole_digits fraction_digits exponent_of
integer_null = refl

integer_array : read (IntType 8) (Array 9 NoElement) ≡ wrong
unfolding after_number signed_of unsigned_of decimal_of whole_digits fraction_digits exponent_of
integer_array = refl

float_number : read_float (UIntType 8) (number (codes "1.5")) ≡ Ok (value.Number (pos 15))
unfolding after_number signed_of unsigned_of decimal_of whole_digits fraction_digits exponent_of
float_number = refl

float_string : read_float (UIntType 4) (string (codes "1.5")) ≡ Ok (value.Number (pos 15))
unfolding after_number signed_of unsigned_of decimal_of whole_digits fraction_digits exponent_of
float_string = refl

float_out : read_float (UIntType 8) (number (codes "1e400")) ≡ out
unfolding after_number signed_of unsigned_of decimal_of whole_digits fraction_digits exponent_of
float_out = refl

float_infinity : read_float (UIntType 8) (string (codes "Infinity")) ≡ Ok (value.Number (pos 1))
unfolding after_number signed_of unsigned_of decimal_of whole_digits fraction_digits exponent_of
float_infinity = refl

float_minus_infinity : read_float (UIntType 8) (string (codes "-Infinity")) ≡ Ok (value.Number (pos 2))
unfolding after_number signed_of unsigned_of decimal_of whole_digits fraction_digits exponent_of
float_minus_infinity = refl

float_inf : read_float (UIntType 8) (string (codes "-inf")) ≡ Ok (value.Number (pos 2))
unfolding after_number signed_of unsigned_of decimal_of whole_digits fraction_digits exponent_of
float_inf = refl

float_nan : read_float (UIntType 8) (string (codes "NaN")) ≡ Ok (value.Number (pos 3))
unfolding after_number signed_of unsigned_of decimal_of whole_digits fraction_digits exponent_of
float_nan = refl

float_null : read_float (UIntType 8) (Null 9) ≡ Ok (value.Number (pos 3))
unfolding after_number signed_of unsigned_of decimal_of whole_digits fraction_digits exponent_of
float_null = refl

float_word : read_float (UIntType 8) (string (codes "infinity")) ≡ wrong
unfolding after_number signed_of unsigned_of decimal_of whole_digits fraction_digits exponent_of
float_word = refl

float_truth : read_float (UIntType 8) (Truth 9 true) ≡ wrong
unfolding after_number signed_of unsigned_of decimal_of whole_digits fraction_digits exponent_of
float_truth = refl

enum_name : read (EnumType 0) (string (codes "blue")) ≡ Ok (value.Enum 1)
unfolding after_number signed_of unsigned_of decimal_of whole_digits fraction_digits exponent_of
enum_name = refl

enum_unknown : read (EnumType 0) (string (codes "green")) ≡ refused NameUnknown 9
unfolding after_number signed_of unsigned_of decimal_of whole_digits fraction_digits exponent_of
enum_unknown = refl

enum_digits : read (EnumType 0) (string (codes "1")) ≡ refused NameUnknown 9
unfolding after_number signed_of unsigned_of decimal_of whole_digits fraction_digits exponent_of
enum_digits = refl

enum_number : read (EnumType 0) (number (codes "7")) ≡ Ok (value.Enum 7)
unfolding after_number signed_of unsigned_of decimal_of whole_digits fraction_digits exponent_of
enum_number = refl

enum_largest : read (EnumType 0) (number (codes "65535")) ≡ Ok (value.Enum 65535)
unfolding after_number signed_of unsigned_of decimal_of whole_digits fraction_digits exponent_of
enum_largest = refl

enum_out : read (EnumType 0) (number (codes "65536")) ≡ out
unfolding after_number signed_of unsigned_of decimal_of whole_digits fraction_digits exponent_of
enum_out = refl

enum_minus : read (EnumType 0) (number (codes "-1")) ≡ out
unfolding after_number signed_of unsigned_of decimal_of whole_digits fraction_digits exponent_of
enum_minus = refl

enum_part : read (EnumType 0) (number (codes "1.5")) ≡ out
unfolding after_number signed_of unsigned_of decimal_of whole_digits fraction_digits exponent_of
enum_part = refl

enum_null : read (EnumType 0) (Null 9) ≡ wrong
unfolding after_number signed_of unsigned_of decimal_of whole_digits fraction_digits exponent_of
enum_null = refl

text : read TextType (string (codes "a")) ≡ Ok (value.Text (codes "a"))
unfolding after_number signed_of unsigned_of decimal_of whole_digits fraction_digits exponent_of
text = refl

text_null : read TextType (Null 9) ≡ Ok (value.Missing Endless)
unfolding after_number signed_of unsigned_of decimal_of whole_digits fraction_digits exponent_of
text_null = refl

text_number : read TextType (number (codes "1")) ≡ wrong
unfolding after_number signed_of unsigned_of decimal_of whole_digits fraction_digits exponent_of
text_number = refl

bytes : read DataType two_bytes ≡ Ok (value.Data (0 ∷ 255 ∷ []))
unfolding after_number signed_of unsigned_of decimal_of whole_digits fraction_digits exponent_of
bytes = refl

bytes_none : read DataType (Array 9 NoElement) ≡ Ok (value.Data [])
unfolding after_number signed_of unsigned_of decimal_of whole_digits fraction_digits exponent_of
bytes_none = refl

bytes_null : read DataType (Null 9) ≡ Ok (value.Missing Endless)
unfolding after_number signed_of unsigned_of decimal_of whole_digits fraction_digits exponent_of
bytes_null = refl

bytes_string : read DataType (string (codes "AA==")) ≡ wrong
unfolding after_number signed_of unsigned_of decimal_of whole_digits fraction_digits exponent_of
bytes_string = refl

bytes_out : read DataType (Array 9 (Element (Number 10 (codes "256")) (Element (Null 14) NoElement))) ≡ refused NumberOutOfRange 10
unfolding after_number signed_of unsigned_of decimal_of whole_digits fraction_digits exponent_of
bytes_out = refl

bytes_element_null : read DataType (Array 9 (Element (Number 10 (codes "25")) (Element (Null 14) NoElement))) ≡ refused WrongJsonKind 14
unfolding after_number signed_of unsigned_of decimal_of whole_digits fraction_digits exponent_of
bytes_element_null = refl

base64_one : read_part OfSlot false form.Base64 DataType (string (codes "AQ==")) ≡ Ok (value.Data (1 ∷ []))
unfolding after_number signed_of unsigned_of decimal_of whole_digits fraction_digits exponent_of
base64_one = refl

base64_two : read_part OfSlot false form.Base64 DataType (string (codes "AP8=")) ≡ Ok (value.Data (0 ∷ 255 ∷ []))
unfolding after_number signed_of unsigned_of decimal_of whole_digits fraction_digits exponent_of
base64_two = refl

base64_three : read_part OfSlot false form.Base64 DataType (string (codes "+/aAAP8A")) ≡ Ok (value.Data (251 ∷ 246 ∷ 128 ∷ 0 ∷ 255 ∷ 0 ∷ []))
unfolding after_number signed_of unsigned_of decimal_of whole_digits fraction_digits exponent_of
base64_three = refl

base64_bits : read_part OfSlot false form.Base64 DataType (string (codes "AR==")) ≡ wrong
unfolding after_number signed_of unsigned_of decimal_of whole_digits fraction_digits exponent_of
base64_bits = refl

base64_unpadded : read_part OfSlot false form.Base64 DataType (string (codes "AQ")) ≡ wrong
unfolding after_number signed_of unsigned_of decimal_of whole_digits fraction_digits exponent_of
base64_unpadded = refl

base64_inside : read_part OfSlot false form.Base64 DataType (string (codes "AQ==AQ==")) ≡ wrong
unfolding after_number signed_of unsigned_of decimal_of whole_digits fraction_digits exponent_of
base64_inside = refl

base64_array : read_part OfSlot false form.Base64 DataType (Array 9 NoElement) ≡ wrong
unfolding after_number signed_of unsigned_of decimal_of whole_digits fraction_digits exponent_of
base64_array = refl

hexadecimal : read_part OfSlot false form.Hexadecimal DataType (string (codes "00fFA0")) ≡ Ok (value.Data (0 ∷ 255 ∷ 160 ∷ []))
unfolding after_number signed_of unsigned_of decimal_of whole_digits fraction_digits exponent_of
hexadecimal = refl

hexadecimal_odd : read_part OfSlot false form.Hexadecimal DataType (string (codes "00f")) ≡ wrong
unfolding after_number signed_of unsigned_of decimal_of whole_digits fraction_digits exponent_of
hexadecimal_odd = refl

hexadecimal_other : read_part OfSlot false form.Hexadecimal DataType (string (codes "0g")) ≡ wrong
unfolding after_number signed_of unsigned_of decimal_of whole_digits fraction_digits exponent_of
hexadecimal_other = refl

list : read (ListType (UIntType 2)) two_bytes ≡ Ok (value.Elements (MoreValues (value.Number (pos 0)) (MoreValues (value.Number (pos 255)) NoValues)))
unfolding after_number signed_of unsigned_of decimal_of whole_digits fraction_digits exponent_of
list = refl

list_null : read (ListType (UIntType 2)) (Null 9) ≡ Ok (value.Missing Endless)
unfolding after_number signed_of unsigned_of decimal_of whole_digits fraction_digits exponent_of
list_null = refl

list_object : read (ListType (UIntType 2)) (Object 9 NoMember) ≡ wrong
unfolding after_number signed_of unsigned_of decimal_of whole_digits fraction_digits exponent_of
list_object = refl

list_texts : read (ListType TextType) (Array 9 (Element (Null 10) (Element (Text 15 []) NoElement))) ≡ Ok (value.Elements (MoreValues (value.Missing Endless) (MoreValues (value.Text []) NoValues)))
unfolding after_number signed_of unsigned_of decimal_of whole_digits fraction_digits exponent_of
list_texts = refl

list_structs_null : read (ListType (StructType 0 0)) (Array 9 (Element (Null 10) NoElement)) ≡ refused WrongJsonKind 10
unfolding after_number signed_of unsigned_of decimal_of whole_digits fraction_digits exponent_of
list_structs_null = refl

struct_null : read (StructType 0 0) (Null 9) ≡ Ok (value.Missing Endless)
unfolding after_number signed_of unsigned_of decimal_of whole_digits fraction_digits exponent_of
struct_null = refl

struct_array : read (StructType 0 0) (Array 9 NoElement) ≡ wrong
unfolding after_number signed_of unsigned_of decimal_of whole_digits fraction_digits exponent_of
struct_array = refl

group_null : read_part OfGroup false form.Array (StructType 0 0) (Null 9) ≡ wrong
unfolding after_number signed_of unsigned_of decimal_of whole_digits fraction_digits exponent_of
group_null = refl

untyped_null : read AnyPointerType (Null 9) ≡ Ok (value.Missing Endless)
unfolding after_number signed_of unsigned_of decimal_of whole_digits fraction_digits exponent_of
untyped_null = refl

untyped_object : read AnyPointerType (Object 9 NoMember) ≡ wrong
unfolding after_number signed_of unsigned_of decimal_of whole_digits fraction_digits exponent_of
untyped_object = refl
