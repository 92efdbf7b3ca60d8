-- The words that stand for values of a type, as a note where the word that is given is none of them.
use Rattle.std.specs.Prelude.{ℕ, ◌==◌, ◌&&◌, ◌||◌, Bool, List, [], ◌∷◌, ◌++◌, Option, Some, None, codes, if◌then◌else◌}
use Rattle.capnp_schema.specs.Schema.{Enumerant, Schemas, enum_at}
use Rattle.capnp_schema.specs.Types.{AnyPointerType, BoolType, DataType, EnumType, IntType, ListType, SchemaType, StructType, TextType, UIntType, VoidType}

-- numbers with a sign, of so many bytes, and without
abbrev pub int_range : (bytes : ℕ) → List ℕ
int_range bytes =
    if bytes == 1 then codes "-128 to 127"
    else if bytes == 2 then codes "-32768 to 32767"
    else if bytes == 4 then codes "-2147483648 to 2147483647"
    else codes "-9223372036854775808 to 9223372036854775807"

abbrev pub uint_range : (bytes : ℕ) → List ℕ
uint_range bytes =
    if bytes == 1 then codes "0 to 255"
    else if bytes == 2 then codes "0 to 65535"
    else if bytes == 4 then codes "0 to 4294967295"
    else codes "0 to 18446744073709551615"

-- the same of numbers that are floats or not
abbrev pub unsigned_words : (floats : Bool) → (bytes : ℕ) → List ℕ
unsigned_words floats bytes = if floats && (bytes == 4 || bytes == 8) then codes "a number, inf, -inf or nan" else uint_range bytes

-- names, each before a comma
abbrev pub names_listed : List Enumerant → List ℕ
names_listed [] = []
names_listed (e ∷ es) = e.name ++ codes ", " ++ names_listed es

abbrev pub wanted_words : Schemas → (floats : Bool) → SchemaType → List ℕ
wanted_words set floats VoidType = codes "()"
wanted_words set floats BoolType = codes "true or false"
wanted_words set floats (IntType bytes) = int_range bytes
wanted_words set floats (UIntType bytes) = unsigned_words floats bytes
wanted_words set floats (EnumType e) = names_listed (enum_at set e).enumerants ++ codes "0 to 65535"
wanted_words set floats TextType = codes "a text, in quotes or as it stands"
wanted_words set floats DataType = codes "0x\"00ff\""
wanted_words set floats (StructType b g) = codes "(name = value, ..) or a JSON object"
wanted_words set floats (ListType e) = codes "[value, ..] or a JSON array"
wanted_words set floats AnyPointerType = codes "no word"

abbrev pub wanted_note : Schemas → (floats : Bool) → Option SchemaType → List ℕ
wanted_note set floats None = []
wanted_note set floats (Some t) = codes "; wanted: " ++ wanted_words set floats t
