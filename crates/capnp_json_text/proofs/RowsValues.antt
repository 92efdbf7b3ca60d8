-- Worked rows: values with their places, and what strings stand for.
use Rattle.std.proofs.Common.{◌≡◌, true, false, [], ◌∷◌, ◌++◌, Ok, Err, refl, codes}
use Rattle.std.specs.Str.{chars, is_utf8}
use Rattle.std.specs.Str.Lossy.{utf8_valid_len}
use Rattle.std.specs.Char.{encode_utf8}
use Rattle.capnp_json_text.specs.Numbers.{after_number}
use Rattle.capnp_json_text.specs.Strings.{after_escape, after_string}
use Rattle.capnp_json_text.specs.Texts.{after_part, begun}
use Rattle.capnp_json_text.specs.Faults.{fault_of}
use Rattle.capnp_json_text.specs.Contents.{character_content, string_content}
use Rattle.capnp_json_text.specs.Decimals.{decimal_of, exponent_of, fraction_digits, whole_digits}
use Rattle.capnp_json_text.specs.Values.{Null, Truth, Number, Text, Array, Object, NoElement, Element, NoMember, Member, elements_of, json_at, json_value, members_of}
use Rattle.capnp_json_text.specs.Writing.{byte_written, string_written}

object : json_value (codes " {\"a\" : [1, \"b\\n\", null], \"\\u0041\":-2.5e1} ")
    ≡ Ok (Object 1 (Member 2 (97 ∷ []) (Array 8 (Element (Number 9 (codes "1")) (Element (Text 12 (98 ∷ 10 ∷ [])) (Element (Null 19) NoElement))))
    (Member 26 (65 ∷ []) (Number 35 (codes "-2.5e1")) NoMember)))
unfolding json_value json_at elements_of members_of fault_of after_number after_escape after_string begun after_part character_content string_content is_utf8 utf8_valid_len chars encode_utf8
object = refl

array : json_value (codes "[true,[ ] ,{ },false]")
    ≡ Ok (Array 0 (Element (Truth 1 true) (Element (Array 6 NoElement) (Element (Object 11 NoMember) (Element (Truth 15 false) NoElement)))))
unfolding json_value json_at elements_of members_of fault_of after_number after_escape after_string begun after_part character_content string_content is_utf8 utf8_valid_len chars encode_utf8
array = refl

name_twice : json_value (codes "{\"a\":{},\"a\":\"\"}")
    ≡ Ok (Object 0 (Member 1 (97 ∷ []) (Object 5 NoMember) (Member 8 (97 ∷ []) (Text 12 []) NoMember)))
unfolding json_value json_at elements_of members_of fault_of after_number after_escape after_string begun after_part character_content string_content is_utf8 utf8_valid_len chars encode_utf8
name_twice = refl

no_text : json_value (codes "[1,]") ≡ Err 3
unfolding json_value json_at elements_of members_of fault_of after_number after_escape after_string begun after_part character_content string_content is_utf8 utf8_valid_len chars encode_utf8
no_text = refl

escapes : string_content (codes "\\ud83d\\uDE00\\u00e9\\u0000\\/\\\"\\b\\f\\n\\r\\tx\" y") ≡ 240 ∷ 159 ∷ 152 ∷ 128 ∷ 195 ∷ 169 ∷ 0 ∷ 47 ∷ 34 ∷ 8 ∷ 12 ∷ 10 ∷ 13 ∷ 9 ∷ 120 ∷ []
unfolding after_escape character_content string_content encode_utf8
escapes = refl

first_and_last_of_two_halves : string_content (codes "\\ud800\\udc00\\udbff\\udfff\"") ≡ 240 ∷ 144 ∷ 128 ∷ 128 ∷ 244 ∷ 143 ∷ 191 ∷ 191 ∷ []
unfolding after_escape character_content string_content encode_utf8
first_and_last_of_two_halves = refl

written : string_written (34 ∷ 92 ∷ 47 ∷ 8 ∷ 9 ∷ 10 ∷ 12 ∷ 13 ∷ 0 ∷ 31 ∷ 127 ∷ 195 ∷ 169 ∷ [])
    ≡ codes "\"\\\"\\\\/\\b\\t\\n\\f\\r\\u0000\\u001f" ++ 127 ∷ 195 ∷ 169 ∷ 34 ∷ []
unfolding byte_written
written = refl

number : decimal_of (codes "-12.50E-03,") ≡ record { negative = true; digits = 1250; tens = 0; tenths = 5 }
unfolding decimal_of whole_digits fraction_digits exponent_of
number = refl

whole_number : decimal_of (codes "100e+2") ≡ record { negative = false; digits = 100; tens = 2; tenths = 0 }
unfolding decimal_of whole_digits fraction_digits exponent_of
whole_number = refl
