-- Worked rows: a record with a text, a list, floats, a group and a union, its JSON, and what is read of that. They judge the definitions.
use Rattle.std.proofs.Common.{◌≡◌, ℕ, refl, List, [], ◌∷◌, false, true, Ok, codes, pos}
use Rattle.std.specs.Char.{encode_utf8}
use Rattle.std.specs.Fmt.{digits}
use Rattle.std.specs.Str.{chars, is_utf8}
use Rattle.std.specs.Str.Lossy.{utf8_valid_len}
use lib.Utf8.{encode}
use Rattle.capnp_floats.specs.Words.{nan_bits}
use Rattle.capnp_schema.specs.Schema.{Annotation, Brand, Field, FieldKind, Group, Node, Schemas, Slot, TextValue, UIntValue, VoidValue, no_types}
use Rattle.capnp_schema.specs.Types.{ListType, SchemaType, StructType, TextType, UIntType}
use Rattle.capnp_records.specs.Record as value
use Rattle.capnp_records.specs.Record.{Active, Endless, Left, MoreValues, NoUnion, NoValues, Parts, Record, Union, Unknown, Value, Values}
use Rattle.capnp_json_fields.specs.Marks.{float_id}
use Rattle.capnp_json_text.specs.Contents.{character_content, string_content}
use Rattle.capnp_json_text.specs.Decimals.{decimal_of, exponent_of, fraction_digits, whole_digits}
use Rattle.capnp_json_text.specs.Faults.{fault_of}
use Rattle.capnp_json_text.specs.Numbers.{after_number}
use Rattle.capnp_json_text.specs.Strings.{after_escape, after_string}
use Rattle.capnp_json_text.specs.Texts.{after_part, begun}
use Rattle.capnp_json_text.specs.Values.{elements_of, json_at, json_value, members_of}
use Rattle.capnp_json_text.specs.Writing.{byte_written}
use Rattle.capnp_json.specs.Json.{json_of}
use Rattle.capnp_json.specs.Pieces.{said}
use Rattle.capnp_from_json.specs.Integers.{signed_of, unsigned_of}
use Rattle.capnp_from_json.specs.Records.{Rules, record_of_json}
use Rattle.capnp_json_laws.specs.AsRead.{RecordHasMembers, record_as_read}

abbrev field : List ℕ → ℕ → List Annotation → FieldKind → Field
field name member annotations kind = record { name = name; discriminant_value = member; annotations = annotations; kind = kind }

abbrev mark : Annotation
mark = record { id = float_id; value = VoidValue }

-- a text, a list of texts, a wide number, a float, and a group
abbrev outer : Node
outer = record {
  id = 1;
  display_name = [];
  annotations = [];
  data_word_count = 2;
  pointer_count = 2;
  is_group = false;
  discriminant_count = 0;
  discriminant_offset = 0;
  fields =
      field (codes "name") 65535 [] (Slot 0 (TextValue [])) ∷ field (codes "texts") 65535 [] (Slot 1 (TextValue [])) ∷ field (codes "count") 65535 [] (Slot 0 (UIntValue 8 0))
      ∷ field (codes "ratio") 65535 (mark ∷ []) (Slot 2 (UIntValue 4 0)) ∷ field (codes "kind") 65535 [] (Group 1) ∷ [];
}

-- a union of a text and a number with the default 7, and a number beside it
abbrev inner : Node
inner = record {
  id = 2;
  display_name = [];
  annotations = [];
  data_word_count = 2;
  pointer_count = 2;
  is_group = true;
  discriminant_count = 2;
  discriminant_offset = 6;
  fields = field (codes "title") 0 [] (Slot 0 (TextValue [])) ∷ field (codes "n") 1 [] (Slot 7 (UIntValue 2 7)) ∷ field (codes "x") 65535 [] (Slot 12 (UIntValue 1 0)) ∷ [];
}

abbrev brand : ℕ → List SchemaType → Brand
brand n types = record { node = n; field_types = types; annotation_types = no_types }

abbrev set : Schemas
set = record {
  nodes = outer ∷ inner ∷ [];
  brands = brand 0 (TextType ∷ ListType TextType ∷ UIntType 8 ∷ UIntType 4 ∷ StructType 1 1 ∷ []) ∷ brand 1 (TextType ∷ UIntType 2 ∷ UIntType 1 ∷ []) ∷ [];
  enums = [];
}

-- the only float of these rows is no number
abbrev rules : Rules
rules = record { set = set; floats = λ w word. Ok (nan_bits w); strict = true }

abbrev values : List Value → Values
values [] = NoValues
values (v ∷ vs) = MoreValues v (values vs)

abbrev group : ℕ → Union → Value
group x union = value.Group (Parts (values (value.Elsewhere ∷ value.Elsewhere ∷ value.Number (pos x) ∷ [])) union)

abbrev whole : (name texts : Value) → (count ratio : ℕ) → Value → Record
whole name texts count ratio kind = Parts (values (name ∷ texts ∷ value.Number (pos count) ∷ value.Number (pos ratio) ∷ kind ∷ [])) NoUnion

-- a text with a quote, a list with a missing text, another NaN, and a discriminant without a member
abbrev given : Record
given =
    whole (value.Text (34 ∷ 97 ∷ [])) (value.Elements (values (value.Text [] ∷ value.Missing (Left 62) ∷ []))) 18446744073709551615 4290772993 (group 9 (Unknown 5))

abbrev again : Record
again =
    whole (value.Text (34 ∷ 97 ∷ [])) (value.Elements (values (value.Text [] ∷ value.Missing Endless ∷ []))) 18446744073709551615 2143289344 (group 9 (Active 0 (value.Missing Endless)))

abbrev text : List ℕ
text = codes "{\"name\":\"\\\"a\",\"texts\":[\"\",null],\"count\":\"18446744073709551615\",\"ratio\":\"NaN\",\"kind\":{\"x\":9}}"

written : json_of set false (StructType 0 0) (value.Struct given) ≡ said text
unfolding digits byte_written is_utf8 chars encode
written = refl

as_read_row : record_as_read set 0 given ≡ again
as_read_row = refl

read : record_of_json rules 0 text ≡ Ok again
unfolding record_of_json json_value json_at elements_of members_of fault_of after_number after_escape after_string begun after_part character_content string_content is_utf8 utf8_valid_len chars encode_utf8 signed_of unsigned_of decimal_of whole_digits fraction_digits exponent_of
read = refl

-- the JSON of what was read is that text again, though the discriminant had no member: a missing member 0 has no item
written_again : json_of set false (StructType 0 0) (value.Struct again) ≡ said text
unfolding digits byte_written is_utf8 chars encode
written_again = refl

-- it is no record of which law 2 speaks
no_member : RecordHasMembers given → ⊥
no_member h = h.0.1.1.1.1.0.1

-- a member that is active, and a missing text
abbrev missing_name : Record
missing_name = whole (value.Missing (Left 62)) (value.Missing (Left 62)) 0 0 (group 0 (Active 1 (value.Number (pos 3))))

pub missing_read : record_as_read set 0 missing_name ≡ whole (value.Missing Endless) (value.Missing Endless) 0 0 (group 0 (Active 1 (value.Number (pos 3))))
missing_read = refl
