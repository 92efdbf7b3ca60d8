-- Worked rows: the JSON of values. They judge the definitions.
use Rattle.std.proofs.Common.{◌≡◌, refl, [], ◌∷◌, ◌++◌, true, false, None, Ok, Err, codes, pos, negsuc}
use Rattle.std.specs.Fmt.{digits}
use Rattle.std.specs.Str.{is_utf8, chars}
use lib.Utf8.{encode}
use Rattle.capnp_device.specs.declared.error.ErrorKind.TheVariants.{BadPointer, TooDeep, WrongPointerKind}
use Rattle.capnp_wire.specs.Tree.{Null}
use Rattle.capnp_floats.specs.declared.width.Width.TheVariants.{Float64}
use Rattle.capnp_json_text.specs.Writing.{byte_written}
use Rattle.capnp_schema.specs.Types.{AnyPointerType, BoolType, DataType, EnumType, IntType, ListType, StructType, TextType, UIntType, VoidType}
use Rattle.capnp_records.specs.Record as value
use Rattle.capnp_records.specs.Record.{Active, NoUnion, Unknown}
use Rattle.capnp_json.specs.Json.{json_of, json_within, plain}
use Rattle.capnp_json.specs.Pieces.{FloatNumber, known_pieces, said}
use Rattle.capnp_json.specs.declared.error.JsonError.TheVariants.{Read, TextNotUtf8, UntypedHasNoJson}
use Rattle.capnp_json.proofs.RowSet.{all_record, missing, rows, union_record, values}

-- ---- values ----

pub void : json_of rows false VoidType value.Void ≡ said (codes "null")
void = refl

truth : json_of rows false BoolType (value.Truth false) ≡ said (codes "false")
truth = refl

small : json_of rows false (IntType 4) (value.Number (negsuc 4)) ≡ said (codes "-5")
unfolding digits
small = refl

wide : json_of rows false (IntType 8) (value.Number (negsuc 4)) ≡ said (codes "\"-5\"")
unfolding digits
wide = refl

unsigned : json_of rows false (UIntType 8) (value.Number (pos 18446744073709551615)) ≡ said (codes "\"18446744073709551615\"")
unfolding digits
unsigned = refl

named : json_of rows false (EnumType 0) (value.Enum 0) ≡ said (codes "\"mobile\"")
unfolding byte_written is_utf8 chars encode
named = refl

renamed : json_of rows false (EnumType 0) (value.Enum 1) ≡ said (codes "\"at home\"")
unfolding byte_written is_utf8 chars encode
renamed = refl

name_of_no_utf8 : json_of rows false (EnumType 0) (value.Enum 2) ≡ Err TextNotUtf8
unfolding is_utf8 chars encode
name_of_no_utf8 = refl

past_names : json_of rows false (EnumType 0) (value.Enum 7) ≡ said (codes "7")
unfolding digits
past_names = refl

escapes : json_of rows false TextType (value.Text (34 ∷ 92 ∷ 8 ∷ 9 ∷ 10 ∷ 12 ∷ 13 ∷ 31 ∷ 127 ∷ 47 ∷ 195 ∷ 169 ∷ [])) ≡ said (codes "\"\\\"\\\\\\b\\t\\n\\f\\r\\u001f" ++ 127 ∷ 47 ∷ 195 ∷ 169 ∷ 34 ∷ [])
unfolding byte_written is_utf8 chars encode
escapes = refl

no_utf8 : json_of rows false TextType (value.Text (97 ∷ 255 ∷ [])) ≡ Err TextNotUtf8
unfolding is_utf8 chars encode
no_utf8 = refl

bytes : json_of rows false DataType (value.Data (0 ∷ 255 ∷ [])) ≡ said (codes "[0,255]")
unfolding digits
bytes = refl

no_bytes : json_of rows true DataType (value.Data []) ≡ said (codes "[]")
no_bytes = refl

bytes_indented : json_of rows true DataType (value.Data (0 ∷ 255 ∷ [])) ≡ said (codes "[\n  0,\n  255\n]")
unfolding digits
bytes_indented = refl

null_elements : json_of rows false (ListType TextType) (value.Elements (values (value.Text (codes "a") ∷ missing ∷ value.Text [] ∷ []))) ≡ said (codes "[\"a\",null,\"\"]")
unfolding byte_written is_utf8 chars encode
null_elements = refl

unmarked : json_of rows false (UIntType 4) (value.Number (pos 1065353216)) ≡ said (codes "1065353216")
unfolding digits
unmarked = refl

untyped : json_of rows false AnyPointerType (value.Untyped Null) ≡ Err UntypedHasNoJson
untyped = refl

first_refusal : json_of rows false (ListType TextType) (value.Elements (values (value.Text (255 ∷ []) ∷ value.Fault BadPointer ∷ []))) ≡ Err TextNotUtf8
unfolding is_utf8 chars encode
first_refusal = refl

-- ---- structs ----

member_last : json_of rows false (StructType 1 1) (value.Struct (union_record (Active 2 (value.Text (codes "t"))))) ≡ said (codes "{\"x\":3,\"y\":\"0\",\"text\":\"t\"}")
unfolding digits byte_written is_utf8 chars encode
member_last = refl

null_member : json_of rows false (StructType 1 1) (value.Struct (union_record (Active 2 missing))) ≡ said (codes "{\"x\":3,\"y\":\"0\",\"text\":null}")
unfolding digits byte_written is_utf8 chars encode
null_member = refl

null_first_member : json_of rows false (StructType 1 1) (value.Struct (union_record (Active 0 missing))) ≡ said (codes "{\"x\":3,\"y\":\"0\"}")
unfolding digits byte_written is_utf8 chars encode
null_first_member = refl

first_member : json_of rows false (StructType 1 1) (value.Struct (union_record (Active 0 (value.Text [])))) ≡ said (codes "{\"x\":3,\"y\":\"0\",\"none\":\"\"}")
unfolding digits byte_written is_utf8 chars encode
first_member = refl

unknown_member : json_of rows true (StructType 1 1) (value.Struct (union_record (Unknown 9))) ≡ said (codes "{\n  \"x\": 3,\n  \"y\": \"0\"\n}")
unfolding digits byte_written is_utf8 chars encode
unknown_member = refl

nothing_there : json_of rows true (StructType 0 0) (value.Struct (value.Parts (values []) NoUnion)) ≡ said (codes "{}")
nothing_there = refl

-- annotations, marks, a nested group, missing fields
whole : json_of rows false (StructType 0 0) (value.Struct (all_record (pos 7) 1 missing (value.Data (1 ∷ 2 ∷ 3 ∷ 255 ∷ [])) (value.Data (1 ∷ 171 ∷ [])) (value.Elements (values (value.Number (pos 0) ∷ value.Number (pos 9221120237041090560) ∷ []))) missing missing
    (value.Group (union_record (Active 2 missing))) missing))
    ≡ Ok (known_pieces (codes "{\"id\":\"7\",\"kind\":\"at home\",\"base64\":\"AQID/w==\",\"hex\":\"01ab\",\"ratio\":\"Infinity\",\"ratios\":[") ++ FloatNumber Float64 0 ∷ known_pieces (codes ",\"NaN\"],\"a b\":-5,\"group\":{\"x\":3,\"y\":\"0\",\"text\":null}}"))
unfolding digits byte_written is_utf8 chars encode
whole = refl

-- the mark of a field is no mark of the fields of its struct
marked_struct : json_of rows false (StructType 0 0) (value.Struct (all_record (pos 7) 0 missing missing missing missing missing missing (value.Group (value.Parts (values []) NoUnion))
    (value.Struct (all_record (pos 8) 0 missing missing missing missing missing missing missing missing))))
    ≡ said (codes "{\"id\":\"7\",\"kind\":\"mobile\",\"ratio\":\"Infinity\",\"a b\":-5,\"group\":{},\"next\":{\"id\":\"8\",\"kind\":\"mobile\",\"ratio\":\"Infinity\",\"a b\":-5}}")
unfolding digits byte_written is_utf8 chars encode
marked_struct = refl

untyped_field : json_of rows false (StructType 0 0) (value.Struct (all_record (pos 7) 0 missing missing missing missing missing (value.Untyped Null) missing missing)) ≡ Err UntypedHasNoJson
unfolding digits byte_written is_utf8 chars encode
untyped_field = refl

-- ---- levels ----

no_level : json_within rows 0 None plain (ListType TextType) (value.Elements (values [])) ≡ Err (Read TooDeep)
no_level = refl

null_without_level : json_within rows 0 None plain (ListType TextType) missing ≡ said (codes "null")
null_without_level = refl

bad_before_deep : json_within rows 0 None plain (ListType TextType) (value.Fault BadPointer) ≡ Err (Read BadPointer)
bad_before_deep = refl

deep_before_kind : json_within rows 0 None plain (ListType TextType) (value.Fault WrongPointerKind) ≡ Err (Read TooDeep)
deep_before_kind = refl

kind_with_level : json_within rows 1 None plain (ListType TextType) (value.Fault WrongPointerKind) ≡ Err (Read WrongPointerKind)
kind_with_level = refl
