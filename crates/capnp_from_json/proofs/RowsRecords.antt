-- Worked rows: records of texts, and the first refusal of those that stand for none.
use Rattle.std.proofs.Common.{◌≡◌, ℕ, suc, zero, true, false, List, [], ◌∷◌, Ok, Err, refl, codes, Bool}
use Rattle.std.specs.Prelude.{pos}
use Rattle.std.specs.Str.{chars, is_utf8}
use Rattle.std.specs.Str.Lossy.{utf8_valid_len}
use Rattle.std.specs.Char.{encode_utf8}
use Rattle.capnp_schema.specs.Schema.{Schemas, Node, Brand, Field, FieldKind, Slot, Group, VoidValue, UIntValue, StructValue, ListValue, no_types}
use Rattle.capnp_schema.specs.Types.{SchemaType, VoidType, UIntType, StructType, ListType}
use Rattle.capnp_records.specs.Record as value
use Rattle.capnp_records.specs.Record.{Endless, Value, Values, NoValues, MoreValues, Record, Parts, Active}
use Rattle.capnp_floats.specs.declared.word.Refusal.TheVariants.{NoFloat}
use Rattle.capnp_json_text.specs.Decimals.{decimal_of, exponent_of, fraction_digits, whole_digits}
use Rattle.capnp_json_text.specs.Numbers.{after_number}
use Rattle.capnp_json_text.specs.Strings.{after_escape, after_string}
use Rattle.capnp_json_text.specs.Texts.{after_part, begun}
use Rattle.capnp_json_text.specs.Faults.{fault_of}
use Rattle.capnp_json_text.specs.Contents.{character_content, string_content}
use Rattle.capnp_json_text.specs.Values.{Json, elements_of, json_at, json_value, members_of, Null, Array, Object, Element, NoElement, Member, NoMember}
use Rattle.capnp_from_json.specs.Errors.{Read, refused}
use Rattle.capnp_from_json.specs.Integers.{signed_of, unsigned_of}
use Rattle.capnp_from_json.specs.Records.{Rules, record_of_json, root_of_json}
use Rattle.capnp_from_json.specs.declared.error.RefusalKind.TheVariants.{TooDeep, NotJson, WrongJsonKind, NumberOutOfRange, GivenTwice, NameUnknown}

abbrev field : List ℕ → ℕ → FieldKind → Field
field name member kind = record { name = name; discriminant_value = member; annotations = []; kind = kind }

-- a number with the default 3, a struct of its own kind, a list of such; and a union of nothing, a number with the default 7,
-- and a group with a number and a text
abbrev node : Node
node = record {
  id = 1;
  display_name = [];
  annotations = [];
  data_word_count = 1;
  pointer_count = 2;
  is_group = false;
  discriminant_count = 3;
  discriminant_offset = 1;
  fields = field (codes "a") 65535 (Slot 0 (UIntValue 1 3)) ∷ field (codes "s") 65535 (Slot 0 (StructValue [])) ∷ field (codes "l") 65535 (Slot 1 (ListValue []))
      ∷ field (codes "v") 0 (Slot 0 VoidValue) ∷ field (codes "n") 1 (Slot 2 (UIntValue 2 7)) ∷ field (codes "g") 2 (Group 1) ∷ [];
}

abbrev group : Node
group = record {
  id = 2;
  display_name = [];
  annotations = [];
  data_word_count = 1;
  pointer_count = 2;
  is_group = true;
  discriminant_count = 0;
  discriminant_offset = 0;
  fields = field (codes "p") 65535 (Slot 4 (UIntValue 1 0)) ∷ field (codes "q") 65535 (Slot 5 (UIntValue 1 0)) ∷ [];
}

abbrev brand : ℕ → List SchemaType → Brand
brand n types = record { node = n; field_types = types; annotation_types = no_types }

abbrev set : Schemas
set = record {
  nodes = node ∷ group ∷ [];
  brands = brand 0 (UIntType 1 ∷ StructType 0 0 ∷ ListType (StructType 0 0) ∷ VoidType ∷ UIntType 2 ∷ StructType 1 1 ∷ []) ∷ brand 1 (UIntType 1 ∷ UIntType 1 ∷ []) ∷ [];
  enums = [];
}

abbrev rules : Bool → Rules
rules strict = record { set = set; floats = λ w word. Err (NoFloat 0); strict = strict }

abbrev read : List ℕ → Read Record
read text = record_of_json (rules false) 0 text

abbrev read_strictly : List ℕ → Read Record
read_strictly text = record_of_json (rules true) 0 text

abbrev missing : Value
missing = value.Missing Endless

-- a number, a struct, a list, and the union
abbrev parts : ℕ → Value → Value → ℕ → Value → Record
parts a s l i v = Parts (MoreValues (value.Number (pos a)) (MoreValues s (MoreValues l (MoreValues value.Elsewhere (MoreValues value.Elsewhere (MoreValues value.Elsewhere NoValues)))))) (Active i v)

abbrev as_new : Record
as_new = parts 3 missing missing 3 value.Void

-- objects in one another by the field s, and the innermost in the list of one
abbrev objects : ℕ → Json → Json
objects zero inner = inner
objects (suc n) inner = Object n (Member 0 (codes "s") (objects n inner) NoMember)

abbrev nested : ℕ → Record
nested zero = as_new
nested (suc n) = parts 3 (value.Struct (nested n)) missing 3 value.Void

none_named : read (codes "{}") ≡ Ok (as_new)
unfolding record_of_json json_value json_at elements_of members_of fault_of after_number after_escape after_string begun after_part character_content string_content is_utf8 utf8_valid_len chars encode_utf8 signed_of unsigned_of decimal_of whole_digits fraction_digits exponent_of
none_named = refl

number : read (codes " {\"a\": 255}") ≡ Ok (parts 255 missing missing 3 value.Void)
unfolding record_of_json json_value json_at elements_of members_of fault_of after_number after_escape after_string begun after_part character_content string_content is_utf8 utf8_valid_len chars encode_utf8 signed_of unsigned_of decimal_of whole_digits fraction_digits exponent_of
number = refl

member : read (codes "{\"n\":1}") ≡ Ok (parts 3 missing missing 4 (value.Number (pos 1)))
unfolding record_of_json json_value json_at elements_of members_of fault_of after_number after_escape after_string begun after_part character_content string_content is_utf8 utf8_valid_len chars encode_utf8 signed_of unsigned_of decimal_of whole_digits fraction_digits exponent_of
member = refl

member_void : read (codes "{\"v\":null}") ≡ Ok (as_new)
unfolding record_of_json json_value json_at elements_of members_of fault_of after_number after_escape after_string begun after_part character_content string_content is_utf8 utf8_valid_len chars encode_utf8 signed_of unsigned_of decimal_of whole_digits fraction_digits exponent_of
member_void = refl

name_escaped : read (codes "{\"\\u0061\":0}") ≡ Ok (parts 0 missing missing 3 value.Void)
unfolding record_of_json json_value json_at elements_of members_of fault_of after_number after_escape after_string begun after_part character_content string_content is_utf8 utf8_valid_len chars encode_utf8 signed_of unsigned_of decimal_of whole_digits fraction_digits exponent_of
name_escaped = refl

inner : read (codes "{\"s\":{\"n\":7},\"l\":[{},{\"a\":1}]}") ≡ Ok (parts 3 (value.Struct (parts 3 missing missing 4 (value.Number (pos 7)))) (value.Elements (MoreValues (value.Struct as_new) (MoreValues (value.Struct (parts 1 missing missing 3 value.Void)) NoValues))) 3 value.Void)
unfolding record_of_json json_value json_at elements_of members_of fault_of after_number after_escape after_string begun after_part character_content string_content is_utf8 utf8_valid_len chars encode_utf8 signed_of unsigned_of decimal_of whole_digits fraction_digits exponent_of
inner = refl

inner_null : read (codes "{\"s\":null,\"l\":null}") ≡ Ok (as_new)
unfolding record_of_json json_value json_at elements_of members_of fault_of after_number after_escape after_string begun after_part character_content string_content is_utf8 utf8_valid_len chars encode_utf8 signed_of unsigned_of decimal_of whole_digits fraction_digits exponent_of
inner_null = refl

group_named : read (codes "{\"g\":{\"q\":2}}") ≡ Ok (parts 3 missing missing 5 (value.Group (Parts (MoreValues (value.Number (pos 0)) (MoreValues (value.Number (pos 2)) NoValues)) value.NoUnion)))
unfolding record_of_json json_value json_at elements_of members_of fault_of after_number after_escape after_string begun after_part character_content string_content is_utf8 utf8_valid_len chars encode_utf8 signed_of unsigned_of decimal_of whole_digits fraction_digits exponent_of
group_named = refl

unknown_passed : read (codes "{\"zz\":[{\"a\":1}],\"a\":1}") ≡ Ok (parts 1 missing missing 3 value.Void)
unfolding record_of_json json_value json_at elements_of members_of fault_of after_number after_escape after_string begun after_part character_content string_content is_utf8 utf8_valid_len chars encode_utf8 signed_of unsigned_of decimal_of whole_digits fraction_digits exponent_of
unknown_passed = refl

unknown_refused : read_strictly (codes "{\"a\":1,\"zz\":2}") ≡ refused NameUnknown 7
unfolding record_of_json json_value json_at elements_of members_of fault_of after_number after_escape after_string begun after_part character_content string_content is_utf8 utf8_valid_len chars encode_utf8 signed_of unsigned_of decimal_of whole_digits fraction_digits exponent_of
unknown_refused = refl

twice : read (codes "{\"a\":1,\"a\":1}") ≡ refused GivenTwice 7
unfolding record_of_json json_value json_at elements_of members_of fault_of after_number after_escape after_string begun after_part character_content string_content is_utf8 utf8_valid_len chars encode_utf8 signed_of unsigned_of decimal_of whole_digits fraction_digits exponent_of
twice = refl

twice_in_union : read (codes "{\"v\":null, \"n\":\"x\"}") ≡ refused GivenTwice 11
unfolding record_of_json json_value json_at elements_of members_of fault_of after_number after_escape after_string begun after_part character_content string_content is_utf8 utf8_valid_len chars encode_utf8 signed_of unsigned_of decimal_of whole_digits fraction_digits exponent_of
twice_in_union = refl

twice_in_group : read (codes "{\"g\":{\"p\":1,\"p\":1}}") ≡ refused GivenTwice 12
unfolding record_of_json json_value json_at elements_of members_of fault_of after_number after_escape after_string begun after_part character_content string_content is_utf8 utf8_valid_len chars encode_utf8 signed_of unsigned_of decimal_of whole_digits fraction_digits exponent_of
twice_in_group = refl

once_in_each : read (codes "{\"a\":1,\"s\":{\"a\":1}}") ≡ Ok (parts 1 (value.Struct (parts 1 missing missing 3 value.Void)) missing 3 value.Void)
unfolding record_of_json json_value json_at elements_of members_of fault_of after_number after_escape after_string begun after_part character_content string_content is_utf8 utf8_valid_len chars encode_utf8 signed_of unsigned_of decimal_of whole_digits fraction_digits exponent_of
once_in_each = refl

wrong_kind : read (codes "{\"a\":true}") ≡ refused WrongJsonKind 5
unfolding record_of_json json_value json_at elements_of members_of fault_of after_number after_escape after_string begun after_part character_content string_content is_utf8 utf8_valid_len chars encode_utf8 signed_of unsigned_of decimal_of whole_digits fraction_digits exponent_of
wrong_kind = refl

first_counts : read (codes "{\"a\":256,\"a\":1}") ≡ refused NumberOutOfRange 5
unfolding record_of_json json_value json_at elements_of members_of fault_of after_number after_escape after_string begun after_part character_content string_content is_utf8 utf8_valid_len chars encode_utf8 signed_of unsigned_of decimal_of whole_digits fraction_digits exponent_of
first_counts = refl

group_is_no_null : read (codes "{\"g\":null}") ≡ refused WrongJsonKind 5
unfolding record_of_json json_value json_at elements_of members_of fault_of after_number after_escape after_string begun after_part character_content string_content is_utf8 utf8_valid_len chars encode_utf8 signed_of unsigned_of decimal_of whole_digits fraction_digits exponent_of
group_is_no_null = refl

element_is_no_null : read (codes "{\"l\":[{},null]}") ≡ refused WrongJsonKind 9
unfolding record_of_json json_value json_at elements_of members_of fault_of after_number after_escape after_string begun after_part character_content string_content is_utf8 utf8_valid_len chars encode_utf8 signed_of unsigned_of decimal_of whole_digits fraction_digits exponent_of
element_is_no_null = refl

root_is_no_null : read (codes "null") ≡ refused WrongJsonKind 0
unfolding record_of_json json_value json_at elements_of members_of fault_of after_number after_escape after_string begun after_part character_content string_content is_utf8 utf8_valid_len chars encode_utf8 signed_of unsigned_of decimal_of whole_digits fraction_digits exponent_of
root_is_no_null = refl

root_is_no_array : read (codes " [1]") ≡ refused WrongJsonKind 1
unfolding record_of_json json_value json_at elements_of members_of fault_of after_number after_escape after_string begun after_part character_content string_content is_utf8 utf8_valid_len chars encode_utf8 signed_of unsigned_of decimal_of whole_digits fraction_digits exponent_of
root_is_no_array = refl

no_json : read (codes "{\"a\":true,}") ≡ refused NotJson 10
unfolding record_of_json json_value json_at elements_of members_of fault_of after_number after_escape after_string begun after_part character_content string_content is_utf8 utf8_valid_len chars encode_utf8 signed_of unsigned_of decimal_of whole_digits fraction_digits exponent_of
no_json = refl

no_json_first : read (codes "{\"b\":1,\"a\":256") ≡ refused NotJson 14
unfolding record_of_json json_value json_at elements_of members_of fault_of after_number after_escape after_string begun after_part character_content string_content is_utf8 utf8_valid_len chars encode_utf8 signed_of unsigned_of decimal_of whole_digits fraction_digits exponent_of
no_json_first = refl

-- 64 objects in one another can be read, but not 65
sixty_four : root_of_json (rules true) 0 (objects 64 (Null 7)) ≡ Ok (parts 3 (value.Struct (nested 62)) missing 3 value.Void)
sixty_four = refl

too_deep : root_of_json (rules true) 0 (objects 65 (Null 7)) ≡ refused TooDeep 0
too_deep = refl

-- a null takes no level, and a wrong kind is told before it
wrong_before_deep : root_of_json (rules true) 0 (objects 64 (Array 7 NoElement)) ≡ refused WrongJsonKind 7
wrong_before_deep = refl

-- the array of a list takes a level, and each of its structs one more
deep_list : root_of_json (rules true) 0 (objects 63 (Object 70 (Member 0 (codes "l") (Array 71 NoElement) NoMember))) ≡ refused TooDeep 71
deep_list = refl

deep_element : root_of_json (rules true) 0 (objects 62 (Object 70 (Member 0 (codes "l") (Array 71 (Element (Object 72 NoMember) NoElement)) NoMember))) ≡ refused TooDeep 72
deep_element = refl

-- a group takes none
deep_group : root_of_json (rules true) 0 (objects 63 (Object 70 (Member 0 (codes "g") (Object 72 (Member 0 (codes "p") (Null 73) NoMember)) NoMember))) ≡ refused WrongJsonKind 73
deep_group = refl
