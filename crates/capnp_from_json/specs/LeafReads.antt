-- What a leaf of the code stands for, and why there is none.
use Rattle.std.specs.Prelude.{ℕ, ℤ, pos, List, Bool, true, false, ◌≡◌, ◌==◌, cond, codes, Option, Some, None, Result, Ok, Err}
use Rattle.capnp_base.specs.declared.introspect.TypeVariant.{TypeVariant}
use Rattle.capnp_base.specs.declared.introspect.TypeVariant.TheVariants as variant
use Rattle.capnp_schema.specs.Types.{SchemaType, VoidType, BoolType, IntType, UIntType, EnumType, TextType, DataType, StructType, ListType, AnyPointerType}
use Rattle.capnp_records.specs.Record as value
use Rattle.capnp_records.specs.Record.{Endless, Value}
use Rattle.capnp_floats.specs.declared.width.Width.{Width}
use Rattle.capnp_floats.specs.declared.width.Width.TheVariants.{Float32, Float64}
use Rattle.capnp_floats.specs.declared.word.Refusal.{Refusal as FloatRefusal}
use Rattle.capnp_json_text.specs.Values as json
use Rattle.capnp_json_text.specs.Values.{Json}
use Rattle.capnp_json_fields.specs.declared.fields.DataForm.{DataForm}
use Rattle.capnp_from_json.specs.Errors.{IsErrorOf, Read, refused}
use Rattle.capnp_from_json.specs.Integers.{signed_of, unsigned_of}
use Rattle.capnp_from_json.specs.Leaves.{Part, Target, float_read, float_word, in_range, is_number}
use Rattle.capnp_from_json.specs.declared.error.Error.{Error}
use Rattle.capnp_from_json.specs.declared.error.Refusal.{Refusal}
use Rattle.capnp_from_json.specs.declared.error.RefusalKind.TheVariants.{SizePastFormat, WrongJsonKind, NumberOutOfRange}
use Rattle.capnp_from_json.specs.declared.leaves.Leaf.{Leaf}
use Rattle.capnp_from_json.specs.declared.leaves.Leaf.TheVariants as leaf
use Rattle.capnp_from_json.specs.declared.leaves.IntegerType.{IntegerType}
use Rattle.capnp_from_json.specs.declared.leaves.IntegerType.TheVariants as integer

abbrev pub leaf_value : Leaf → Value
leaf_value leaf.Void = value.Void
leaf_value (leaf.Bool b) = value.Truth b
leaf_value (leaf.Int8 x) = value.Number x
leaf_value (leaf.Int16 x) = value.Number x
leaf_value (leaf.Int32 x) = value.Number x
leaf_value (leaf.Int64 x) = value.Number x
leaf_value (leaf.UInt8 n) = value.Number (pos n)
leaf_value (leaf.UInt16 n) = value.Number (pos n)
leaf_value (leaf.UInt32 n) = value.Number (pos n)
leaf_value (leaf.UInt64 n) = value.Number (pos n)
leaf_value (leaf.Enum n) = value.Enum n
leaf_value (leaf.Text bytes) = value.Text bytes.items
leaf_value (leaf.«Data» bytes) = value.Data bytes.items
leaf_value leaf.Null = value.Missing Endless

abbrev pub leaf_option : Option Leaf → Option Value
leaf_option None = None
leaf_option (Some l) = Some (leaf_value l)

-- what a read of a leaf answers
abbrev pub leaf_read : Result Leaf Refusal → Read Value
leaf_read (Ok l) = Ok (leaf_value l)
leaf_read (Err r) = Err r

abbrev pub wrong_kind : (place : ℕ) → Refusal
wrong_kind place = record { kind = WrongJsonKind; place = place }

abbrev pub out_of_range : (place : ℕ) → Refusal
out_of_range place = record { kind = NumberOutOfRange; place = place }

abbrev pub past_format : (place : ℕ) → Refusal
past_format place = record { kind = SizePastFormat; place = place }

abbrev pub under : SchemaType → Part → (is_float : Bool) → DataForm → Target
under t part is_float form = record { type = t; part = part; is_float = is_float; form = form }

-- ---- integers ----

abbrev pub integer_type : IntegerType → SchemaType
integer_type integer.Int8 = IntType 1
integer_type integer.Int16 = IntType 2
integer_type integer.Int32 = IntType 4
integer_type integer.Int64 = IntType 8
integer_type integer.UInt8 = UIntType 1
integer_type integer.UInt16 = UIntType 2
integer_type integer.UInt32 = UIntType 4
integer_type integer.UInt64 = UIntType 8

-- the integer of a number's bytes, where it is one of the type
abbrev pub integer_of_type : IntegerType → List ℕ → Option ℤ
integer_of_type integer.Int8 token = signed_of 8 token
integer_of_type integer.Int16 token = signed_of 16 token
integer_of_type integer.Int32 token = signed_of 32 token
integer_of_type integer.Int64 token = signed_of 64 token
integer_of_type integer.UInt8 token = unsigned_of 8 token
integer_of_type integer.UInt16 token = unsigned_of 16 token
integer_of_type integer.UInt32 token = unsigned_of 32 token
integer_of_type integer.UInt64 token = unsigned_of 64 token

-- the bytes of a number, or of a string that is one
abbrev pub integer_token : Json → Option (List ℕ)
integer_token (json.Null place) = None
integer_token (json.Truth place b) = None
integer_token (json.Number place token) = Some token
integer_token (json.Text place string) = cond (is_number string) (Some string) None
integer_token (json.Array place es) = None
integer_token (json.Object place ms) = None

abbrev pub place_of : Json → ℕ
place_of (json.Null place) = place
place_of (json.Truth place b) = place
place_of (json.Number place token) = place
place_of (json.Text place string) = place
place_of (json.Array place es) = place
place_of (json.Object place ms) = place

-- what is read of bytes, if there are any
abbrev pub token_read : (place : ℕ) → (List ℕ → Option ℤ) → Option (List ℕ) → Read Value
token_read place read None = refused WrongJsonKind place
token_read place read (Some token) = in_range place value.Number (read token)

-- ---- floats ----

-- the bytes of the integers that stand for floats of a width
abbrev pub float_bytes : Width → ℕ
float_bytes Float32 = 4
float_bytes Float64 = 8

-- the word of a value, where it is of a kind that floats take
abbrev pub float_word_of : Json → Option (List ℕ)
float_word_of (json.Null place) = Some (codes "nan")
float_word_of (json.Truth place b) = None
float_word_of (json.Number place token) = Some token
float_word_of (json.Text place string) = Some (float_word string)
float_word_of (json.Array place es) = None
float_word_of (json.Object place ms) = None

abbrev pub word_read : (place : ℕ) → (List ℕ → Result ℕ FloatRefusal) → Option (List ℕ) → Read Value
word_read place read None = refused WrongJsonKind place
word_read place read (Some word) = float_read place (read word)

-- ---- types ----

-- a type of leaves that are no texts and no data
abbrev pub is_plain : TypeVariant → Bool
is_plain variant.Void = true
is_plain variant.Bool = true
is_plain variant.Int8 = true
is_plain variant.Int16 = true
is_plain variant.Int32 = true
is_plain variant.Int64 = true
is_plain variant.UInt8 = true
is_plain variant.UInt16 = true
is_plain variant.UInt32 = true
is_plain variant.UInt64 = true
is_plain variant.Text = false
is_plain variant.«Data» = false
is_plain (variant.Struct s) = false
is_plain variant.AnyPointer = true
is_plain (variant.Enum e) = true
is_plain (variant.List t) = false

-- a type of leaves: all but structs and lists
abbrev pub is_leaf : TypeVariant → Bool
is_leaf variant.Text = true
is_leaf variant.«Data» = true
is_leaf v = is_plain v

-- floats stand as integers of 32 and 64 bits alone
abbrev pub may_be_float : TypeVariant → Bool
may_be_float variant.UInt32 = true
may_be_float variant.UInt64 = true
may_be_float v = false

-- a leaf is read, or its read failed
abbrev pub IsLeafOf : Read Value → Result Leaf Error → Type 0
IsLeafOf r (Ok l) = r ≡ Ok (leaf_value l)
IsLeafOf r (Err e) = IsErrorOf r e

-- whether a leaf is of a type, by the width of its number
abbrev pub is_typed : SchemaType → Leaf → Bool
is_typed VoidType leaf.Void = true
is_typed BoolType (leaf.Bool b) = true
is_typed (IntType bytes) (leaf.Int8 x) = bytes == 1
is_typed (IntType bytes) (leaf.Int16 x) = bytes == 2
is_typed (IntType bytes) (leaf.Int32 x) = bytes == 4
is_typed (IntType bytes) (leaf.Int64 x) = bytes == 8
is_typed (UIntType bytes) (leaf.UInt8 n) = bytes == 1
is_typed (UIntType bytes) (leaf.UInt16 n) = bytes == 2
is_typed (UIntType bytes) (leaf.UInt32 n) = bytes == 4
is_typed (UIntType bytes) (leaf.UInt64 n) = bytes == 8
is_typed (EnumType number) (leaf.Enum n) = true
is_typed TextType (leaf.Text bytes) = true
is_typed TextType leaf.Null = true
is_typed DataType (leaf.«Data» bytes) = true
is_typed DataType leaf.Null = true
is_typed AnyPointerType leaf.Null = true
is_typed (StructType number generic) leaf.Null = true
is_typed (ListType element) leaf.Null = true
is_typed t l = false
