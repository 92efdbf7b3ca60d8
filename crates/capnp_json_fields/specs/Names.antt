-- The names of fields and enumerants in JSON.
use Rattle.std.specs.Prelude.{ℕ, List, [], ◌∷◌, Bool, true, false, ◌==◌, position, bytes_eq, Option}
use Rattle.capnp_schema.specs.Schema.{Annotation, Enum, Enumerant, Field, Value, VoidValue, BoolValue, IntValue, UIntValue, EnumValue, TextValue, DataValue, StructValue, ListValue, AnyPointerValue}

abbrev pub name_id : ℕ
name_id = 0xfa5b1fd61c2e7c3d

-- the text of a value, and the name where it is none
abbrev pub text_or : List ℕ → Value → List ℕ
text_or name VoidValue = name
text_or name (BoolValue x) = name
text_or name (IntValue bytes x) = name
text_or name (UIntValue bytes x) = name
text_or name (EnumValue x) = name
text_or name (TextValue bytes) = bytes
text_or name (DataValue bytes) = name
text_or name (StructValue words) = name
text_or name (ListValue words) = name
text_or name (AnyPointerValue words) = name

abbrev pub text_if : Bool → List ℕ → Value → List ℕ
text_if true name v = text_or name v
text_if false name v = name

-- the text of the last annotation of an id that has a text, and else the name
abbrev pub last_text : (id : ℕ) → (name : List ℕ) → List Annotation → List ℕ
last_text id name [] = name
last_text id name (a ∷ rest) = last_text id (text_if (a.id == id) name a.value) rest

abbrev pub field_name : Field → List ℕ
field_name f = last_text name_id f.name f.annotations

abbrev pub enumerant_name : Enumerant → List ℕ
enumerant_name e = last_text name_id e.name e.annotations

-- the index of the first field of that name, and of the first enumerant
abbrev pub field_of_name : List Field → List ℕ → Option ℕ
field_of_name fields name = position (λ (f : Field). bytes_eq (field_name f) name) fields

abbrev pub enumerant_of_name : Enum → List ℕ → Option ℕ
enumerant_of_name e name = position (λ (x : Enumerant). bytes_eq (enumerant_name x) name) e.enumerants
