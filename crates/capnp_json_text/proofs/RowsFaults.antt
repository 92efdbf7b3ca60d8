-- Worked rows: the places of the first bytes that can't stand.
use Rattle.std.proofs.Common.{◌≡◌, [], ◌∷◌, map, Some, None, refl, codes}
use Rattle.std.specs.Str.{chars, is_utf8}
use Rattle.std.specs.Str.Lossy.{utf8_valid_len}
use Rattle.std.specs.Char.{encode_utf8}
use Rattle.capnp_json_text.specs.Numbers.{after_number}
use Rattle.capnp_json_text.specs.Strings.{after_escape, after_string}
use Rattle.capnp_json_text.specs.Texts.{after_part, begun}
use Rattle.capnp_json_text.specs.Faults.{fault_of}

-- words, and what is none
words : map fault_of (codes "null" ∷ codes " true\t" ∷ codes "false\n\r" ∷ codes "tru" ∷ codes "trux" ∷ codes "nul1" ∷ codes "True" ∷ codes "nullnull" ∷ codes "nan" ∷ [])
    ≡ None ∷ None ∷ None ∷ Some 3 ∷ Some 3 ∷ Some 3 ∷ Some 0 ∷ Some 4 ∷ Some 1 ∷ []
unfolding fault_of after_number after_escape after_string begun after_part is_utf8 utf8_valid_len chars encode_utf8
words = refl

-- no value
nothing : map fault_of ([] ∷ codes " " ∷ codes "]" ∷ codes "," ∷ [])
    ≡ Some 0 ∷ Some 1 ∷ Some 0 ∷ Some 0 ∷ []
unfolding fault_of after_number after_escape after_string begun after_part is_utf8 utf8_valid_len chars encode_utf8
nothing = refl

-- numbers
numbers : map fault_of (codes "0" ∷ codes "-0" ∷ codes "10" ∷ codes "1.5" ∷ codes "-1.50e+30" ∷ codes "1E5" ∷ codes "0e-0" ∷ [])
    ≡ None ∷ None ∷ None ∷ None ∷ None ∷ None ∷ None ∷ []
unfolding fault_of after_number after_escape after_string begun after_part is_utf8 utf8_valid_len chars encode_utf8
numbers = refl

-- what is no number
no_numbers : map fault_of (codes "01" ∷ codes "-01" ∷ codes "1." ∷ codes "1.e5" ∷ codes ".5" ∷ codes "+1" ∷ codes "-" ∷ codes "-a" ∷ codes "1e" ∷ codes "1e+" ∷ codes "1e5.3" ∷ codes "0x10" ∷ codes "-Infinity" ∷ [])
    ≡ Some 1 ∷ Some 2 ∷ Some 2 ∷ Some 2 ∷ Some 0 ∷ Some 0 ∷ Some 1 ∷ Some 1 ∷ Some 2 ∷ Some 3 ∷ Some 3 ∷ Some 1 ∷ Some 1 ∷ []
unfolding fault_of after_number after_escape after_string begun after_part is_utf8 utf8_valid_len chars encode_utf8
no_numbers = refl

-- strings
strings : map fault_of (codes "\"\"" ∷ codes "\"a/b\"" ∷ codes "\"\\\"\\\\\\/\\b\\f\\n\\r\\t\"" ∷ codes "\"\\u00E9\\u00e9\"" ∷ codes "\"\\ud83d\\uDE00\"" ∷ codes "\"\\u0000\"" ∷ codes "\"\\ud7ff\\ue000\"" ∷ [])
    ≡ None ∷ None ∷ None ∷ None ∷ None ∷ None ∷ None ∷ []
unfolding fault_of after_number after_escape after_string begun after_part is_utf8 utf8_valid_len chars encode_utf8
strings = refl

-- what is no string
no_strings : map fault_of (codes "\"a" ∷ codes "\"\\" ∷ codes "\"\\x\"" ∷ codes "\"\\a\"" ∷ codes "\"\\u12g4\"" ∷ codes "\"\\u12" ∷ codes "\"\\ud83d\"" ∷ codes "\"\\ud83d\\n\"" ∷ codes "\"\\ud83d\\u0041\"" ∷ codes "\"\\ud83d\\ud83d\"" ∷ codes "\"\\ude00\"" ∷ codes "\"\\udc00\\ud800\"" ∷ codes "'a'" ∷ [])
    ≡ Some 2 ∷ Some 2 ∷ Some 2 ∷ Some 2 ∷ Some 5 ∷ Some 5 ∷ Some 7 ∷ Some 8 ∷ Some 9 ∷ Some 10 ∷ Some 4 ∷ Some 4 ∷ Some 0 ∷ []
unfolding fault_of after_number after_escape after_string begun after_part is_utf8 utf8_valid_len chars encode_utf8
no_strings = refl

-- arrays
arrays : map fault_of (codes "[]" ∷ codes "[ ]" ∷ codes "[1 , 2]" ∷ codes "[[],[[]]]" ∷ codes "[" ∷ codes "[1" ∷ codes "[1," ∷ codes "[1,]" ∷ codes "[,1]" ∷ codes "[1,,2]" ∷ codes "[1 2]" ∷ codes "[1}" ∷ codes "[]]" ∷ codes "[[]" ∷ [])
    ≡ None ∷ None ∷ None ∷ None ∷ Some 1 ∷ Some 2 ∷ Some 3 ∷ Some 3 ∷ Some 1 ∷ Some 3 ∷ Some 3 ∷ Some 2 ∷ Some 2 ∷ Some 3 ∷ []
unfolding fault_of after_number after_escape after_string begun after_part is_utf8 utf8_valid_len chars encode_utf8
arrays = refl

-- objects
objects : map fault_of (codes "{}" ∷ codes "{\"a\":1}" ∷ codes "{ \"a\" : [ ] , \"a\" : { } }" ∷ codes "{" ∷ codes "{\"a\"" ∷ codes "{\"a\" 1}" ∷ codes "{\"a\":}" ∷ codes "{\"a\":1,}" ∷ codes "{\"a\":1 \"b\":2}" ∷ codes "{a:1}" ∷ codes "{1:1}" ∷ codes "{\"a\":1]" ∷ codes "{,}" ∷ codes "{\"a\"}" ∷ [])
    ≡ None ∷ None ∷ None ∷ Some 1 ∷ Some 4 ∷ Some 5 ∷ Some 5 ∷ Some 7 ∷ Some 7 ∷ Some 1 ∷ Some 1 ∷ Some 6 ∷ Some 1 ∷ Some 4 ∷ []
unfolding fault_of after_number after_escape after_string begun after_part is_utf8 utf8_valid_len chars encode_utf8
objects = refl

-- what stands behind the value
behind : map fault_of (codes "1 2" ∷ codes "{} x" ∷ codes "[]\n[]" ∷ codes "null ," ∷ [])
    ≡ Some 2 ∷ Some 3 ∷ Some 3 ∷ Some 5 ∷ []
unfolding fault_of after_number after_escape after_string begun after_part is_utf8 utf8_valid_len chars encode_utf8
behind = refl

-- bytes below 32 and from 127 on: what is no UTF-8 counts from the first byte of its sequence
bytes : map fault_of ((34 ∷ 9 ∷ 34 ∷ []) ∷ (34 ∷ 31 ∷ 34 ∷ []) ∷ (34 ∷ 127 ∷ 34 ∷ []) ∷ (34 ∷ 195 ∷ 169 ∷ 34 ∷ []) ∷ (34 ∷ 240 ∷ 159 ∷ 152 ∷ 128 ∷ 34 ∷ []) ∷ (239 ∷ 187 ∷ 191 ∷ 49 ∷ []) ∷ (34 ∷ 255 ∷ 34 ∷ []) ∷ (34 ∷ 195 ∷ 40 ∷ 34 ∷ []) ∷ (34 ∷ 195 ∷ []) ∷ (34 ∷ 237 ∷ 160 ∷ 128 ∷ 34 ∷ []) ∷ (34 ∷ 192 ∷ 128 ∷ 34 ∷ []) ∷ (49 ∷ 11 ∷ []) ∷ (195 ∷ 169 ∷ []) ∷ (91 ∷ 34 ∷ 195 ∷ 169 ∷ 34 ∷ 44 ∷ 93 ∷ []) ∷ (93 ∷ 34 ∷ 255 ∷ []) ∷ [])
    ≡ Some 1 ∷ Some 1 ∷ None ∷ None ∷ None ∷ Some 0 ∷ Some 1 ∷ Some 1 ∷ Some 1 ∷ Some 1 ∷ Some 1 ∷ Some 1 ∷ Some 0 ∷ Some 6 ∷ Some 0 ∷ []
unfolding fault_of after_number after_escape after_string begun after_part is_utf8 utf8_valid_len chars encode_utf8
bytes = refl
