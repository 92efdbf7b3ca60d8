-- A set for the worked rows, and records under it.
use Rattle.std.specs.Prelude.{ℕ, ℤ, pos, negsuc, List, [], ◌∷◌, false, codes}
use Rattle.capnp_schema.specs.Schema.{Annotation, Brand, Enumerant, Field, Group, Node, Schemas, Slot, TextValue, VoidValue, no_types}
use Rattle.capnp_schema.specs.Types.{AnyPointerType, DataType, EnumType, IntType, ListType, SchemaType, StructType, TextType, UIntType}
use Rattle.capnp_records.specs.Record as value
use Rattle.capnp_records.specs.Record.{Left, MoreValues, NoUnion, NoValues, Parts, Record, Union, Value, Values}
use Rattle.capnp_json_fields.specs.Marks.{base64_id, float_id, hex_id}
use Rattle.capnp_json_fields.specs.Names.{name_id}

abbrev mark : ℕ → Annotation
mark id = record { id = id; value = VoidValue }

abbrev renamed : List ℕ → Annotation
renamed name = record { id = name_id; value = TextValue name }

abbrev slot : List ℕ → List Annotation → Field
slot name annotations = record { name = name; discriminant_value = 65535; annotations = annotations; kind = Slot 0 VoidValue }

abbrev member : List ℕ → ℕ → List Annotation → Field
member name number annotations = record { name = name; discriminant_value = number; annotations = annotations; kind = Slot 0 VoidValue }

abbrev node : List ℕ → List Field → Node
node name fields = record { id = 0; display_name = name; annotations = []; data_word_count = 0; pointer_count = 0; is_group = false; discriminant_count = 0; discriminant_offset = 0; fields = fields }

abbrev brand : ℕ → List SchemaType → Brand
brand number types = record { node = number; field_types = types; annotation_types = no_types }

abbrev fields : List Field
fields =
    slot (codes "id") [] ∷ slot (codes "kind") [] ∷ slot (codes "data") [] ∷ slot (codes "base64") (mark base64_id ∷ mark hex_id ∷ []) ∷ slot (codes "hex") (mark hex_id ∷ [])
    ∷ slot (codes "ratio") (mark float_id ∷ []) ∷ slot (codes "ratios") (mark float_id ∷ []) ∷ slot (codes "own") (renamed (codes "first") ∷ renamed (codes "a b") ∷ []) ∷ slot (codes "texts") []
    ∷ slot (codes "any") [] ∷ record { name = codes "group"; discriminant_value = 65535; annotations = []; kind = Group 1 } ∷ slot (codes "next") (mark float_id ∷ []) ∷ []

abbrev members : List Field
members = member (codes "none") 0 [] ∷ slot (codes "x") [] ∷ member (codes "text") 1 [] ∷ slot (codes "y") [] ∷ []

abbrev kinds : List Enumerant
kinds = record { name = codes "mobile"; annotations = [] } ∷ record { name = codes "home"; annotations = renamed (codes "at home") ∷ [] } ∷ record { name = codes "bad"; annotations = renamed (255 ∷ []) ∷ [] } ∷ []

-- struct 0 has all kinds of fields, struct 1 a union
abbrev pub rows : Schemas
rows = record {
  nodes = node (codes "All") fields ∷ node (codes "Union") members ∷ [];
  brands =
      brand 0 (IntType 8 ∷ EnumType 0 ∷ DataType ∷ DataType ∷ DataType ∷ UIntType 4 ∷ ListType (UIntType 8) ∷ IntType 4 ∷ ListType TextType ∷ AnyPointerType ∷ StructType 1 1 ∷ StructType 0 0 ∷ [])
      ∷ brand 1 (TextType ∷ UIntType 4 ∷ TextType ∷ UIntType 8 ∷ []) ∷ [];
  enums = record { id = 0; display_name = codes "Kind"; annotations = []; enumerants = kinds; annotation_types = no_types } ∷ [];
}

abbrev pub values : List Value → Values
values [] = NoValues
values (v ∷ vs) = MoreValues v (values vs)

abbrev pub missing : Value
missing = value.Missing (Left 63)

-- a record of struct 1
abbrev pub union_record : Union → Record
union_record union = Parts (values (value.Elsewhere ∷ value.Number (pos 3) ∷ value.Elsewhere ∷ value.Number (pos 0) ∷ [])) union

-- a record of struct 0 of which only so much is there
abbrev pub all_record : (id : ℤ) → (kind : ℕ) → (bytes base64 hex ratios texts any group next : Value) → Record
all_record id kind bytes base64 hex ratios texts any group next =
    Parts (values (value.Number id ∷ value.Enum kind ∷ bytes ∷ base64 ∷ hex ∷ value.Number (pos 2139095040) ∷ ratios ∷ value.Number (negsuc 4) ∷ texts ∷ any ∷ group ∷ next ∷ [])) NoUnion
