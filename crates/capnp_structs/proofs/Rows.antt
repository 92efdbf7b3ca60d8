-- Worked rows of structs and fields, as equations. They judge the definitions.
use Rattle.std.specs.Prelude.{ℕ, List, [], ◌∷◌, ◌≡◌, ◌++◌, false, refl, codes, replicate}
use Rattle.std.specs.Fmt.{debug_escape, digits}
use Rattle.std.specs.Str.{is_utf8, chars}
use lib.Utf8.{encode}
use Rattle.capnp_wire.specs.Place.{tree_at}
use Rattle.capnp_schema.specs.Builtin.{annotated_field, annotation, builtin, builtin_brand, builtin_field, builtin_struct_node, enumerant, flat_node, group_node, zero_word}
use Rattle.capnp_schema.specs.Schema.{field_at, Annotation, AnyPointerValue, Brand, Enum, EnumValue, Field, Group, ListValue, Node, Schemas, StructValue, UIntValue, VoidValue}
use Rattle.capnp_schema.specs.Types.{AnyPointerType, EnumType, ListType, StructType, UIntType, VoidType}
use Rattle.capnp_records.specs.Text.{Out, said_text}
use Rattle.capnp_float_texts.specs.Numbers.{float_bytes}
use Rattle.capnp_structs.specs.Fields.{fields_text, lines_within}
use Rattle.capnp_structs.specs.Names.{structs_text}
use Rattle.capnp_structs.specs.Sides.{field_side}
use Rattle.capnp_structs.specs.Values.{read_text}

all : structs_text builtin ≡ codes "Flat\nMixed\nMany\nShapes\nLoop\nLists\nNode\n"
all = refl

mixed : fields_text builtin 1
    ≡ said_text (codes "union: 2 members, tag at data bit 16\n"
    ++ codes "a: UInt16, data bit 0, default 0\n"
    ++ codes "x: Void, member 0\n"
    ++ codes "y: UInt8, data bit 32, default 0, member 1\n"
    ++ codes "b: Text, pointer 0, default \"\"\n")
unfolding lines_within read_text tree_at digits debug_escape is_utf8 chars encode
mixed = refl

many : fields_text builtin 2
    ≡ said_text (codes "flag: Bool, data bit 0, default true\n"
    ++ codes "s: Int8, data bit 8, default -1\n"
    ++ codes "n: UInt16, data bit 16, default 7\n"
    ++ codes "w: Int32, data bit 32, default 0\n"
    ++ codes "q: UInt64, data bit 64, default 0\n"
    ++ codes "z: Void\n")
unfolding lines_within read_text tree_at digits debug_escape is_utf8 chars encode
many = refl

shapes : fields_text builtin 3
    ≡ said_text (codes "union: 3 members, tag at data bit 16\n"
    ++ codes "id: UInt16, data bit 0, default 0\n"
    ++ codes "circle: group, member 0\n"
    ++ codes "circle.r: UInt32, data bit 32, default 0\n"
    ++ codes "tag: group, member 1\n"
    ++ codes "tag.union: 2 members, tag at data bit 48\n"
    ++ codes "tag.n: UInt16, data bit 32, default 0\n"
    ++ codes "tag.u0: Void, member 0\n"
    ++ codes "tag.u1: UInt8, data bit 64, default 0, member 1\n"
    ++ codes "tag.any: AnyPointer, pointer 0\n"
    ++ codes "tag.q: Text, pointer 1, default \"\"\n"
    ++ codes "word: Text, pointer 0, default \"\", member 2\n")
unfolding lines_within read_text tree_at digits debug_escape is_utf8 chars encode
shapes = refl

loop : fields_text builtin 6
    ≡ said_text (codes "union: 2 members, tag at data bit 0\n"
    ++ codes "end: Void, member 0\n"
    ++ codes "again: Loop, pointer 0, default words: 3, member 1\n")
unfolding lines_within read_text tree_at digits debug_escape is_utf8 chars encode
loop = refl

lists : fields_text builtin 7
    ≡ said_text (codes "bytes: List(UInt8), pointer 0\n"
    ++ codes "raw: Data, pointer 1, default 0x\"\"\n"
    ++ codes "t: Text, pointer 2, default \"\"\n"
    ++ codes "items: List(Flat), pointer 3\n")
unfolding lines_within read_text tree_at digits debug_escape is_utf8 chars encode
lists = refl

node : fields_text builtin 8
    ≡ said_text (codes "struct Node $@0x7 = \"note\"\n"
    ++ codes "id: UInt64, data bit 0, default 0 $@0x8 = 5 $@0x9 = byte $@0xa = 2\n"
    ++ codes "displayName: Text, pointer 0, default \"\"\n"
    ++ codes "size: ElementSize, data bit 64, default empty\n"
    ++ codes "enum ElementSize: empty, bit, byte, twoBytes, fourBytes, eightBytes, pointer, inlineComposite\n")
unfolding lines_within read_text tree_at digits debug_escape is_utf8 chars encode
node = refl

-- ---- a struct of enums, in two brands ----

abbrev color : Enum
color = record { id = 2; display_name = codes "Color"; annotations = []; enumerants = enumerant (codes "red") ∷ enumerant (codes "green") ∷ []; annotation_types = record { own = []; children = [] ∷ [] ∷ [] } }

-- without names
abbrev mood : Enum
mood = record { id = 3; display_name = codes "Mood"; annotations = []; enumerants = []; annotation_types = record { own = []; children = [] } }

abbrev paint : Node
paint = builtin_struct_node 1 (codes "Paint") 1 1 (
    builtin_field (codes "moods") 0 (ListValue zero_word)
    ∷ builtin_field (codes "one") 0 (EnumValue 1)
    ∷ builtin_field (codes "other") 1 (EnumValue 2)
    ∷ builtin_field (codes "mood") 2 (EnumValue 0)
    ∷ [])

abbrev paints : Schemas
paints = record {
  nodes = paint ∷ [];
  brands = builtin_brand 0 (ListType (ListType (EnumType 1)) ∷ EnumType 0 ∷ EnumType 0 ∷ EnumType 1 ∷ []) ∷ builtin_brand 0 [] ∷ [];
  enums = color ∷ mood ∷ [];
}

once : structs_text paints ≡ codes "Paint\n"
once = refl

painted : fields_text paints 0
    ≡ said_text (codes "moods: List(List(Mood)), pointer 0\n"
    ++ codes "one: Color, data bit 0, default green\n"
    ++ codes "other: Color, data bit 16, default 2\n"
    ++ codes "mood: Mood, data bit 32, default 0\n"
    ++ codes "enum Mood:\n"
    ++ codes "enum Color: red, green\n")
unfolding lines_within read_text tree_at digits debug_escape is_utf8 chars encode
painted = refl

-- ---- defaults and annotations behind pointers ----

-- a `Flat` of 5, a list of two bytes, and one of eight of which none are there
abbrev flat_words : List ℕ
flat_words = 0 ∷ 0 ∷ 0 ∷ 0 ∷ 1 ∷ 0 ∷ 0 ∷ 0 ∷ 5 ∷ replicate 7 0

abbrev bytes_words : List ℕ
bytes_words = 1 ∷ 0 ∷ 0 ∷ 0 ∷ 18 ∷ 0 ∷ 0 ∷ 0 ∷ 1 ∷ 2 ∷ replicate 6 0

abbrev torn_words : List ℕ
torn_words = 1 ∷ 0 ∷ 0 ∷ 0 ∷ 66 ∷ 0 ∷ 0 ∷ 0 ∷ []

abbrev noted_fields : List Field
noted_fields =
    annotated_field (codes "flat") 0 (StructValue flat_words) (annotation 1 (StructValue flat_words) ∷ annotation 2 (ListValue bytes_words) ∷ annotation 3 (StructValue zero_word) ∷ [])
    ∷ builtin_field (codes "bytes") 1 (ListValue bytes_words)
    ∷ builtin_field (codes "any") 2 (AnyPointerValue flat_words)
    ∷ builtin_field (codes "null") 3 (StructValue zero_word)
    ∷ builtin_field (codes "torn") 4 (ListValue torn_words)
    ∷ builtin_field (codes "color") 0 (EnumValue 0)
    ∷ record { name = codes "place"; discriminant_value = 0; annotations = annotation 4 (UIntValue 2 7) ∷ []; kind = Group 2 }
    ∷ []

abbrev noted : Node
noted = record { id = 1; display_name = codes "Noted"; annotations = annotation 0xf20fbfb08027d505 VoidValue ∷ []; data_word_count = 1; pointer_count = 5; is_group = false; discriminant_count = 1; discriminant_offset = 1; fields = noted_fields }

abbrev place : Node
place = group_node 3 (codes "Noted.place") 1 5 0 0 (builtin_field (codes "x") 2 (UIntValue 2 9) ∷ [])

abbrev noted_brand : Brand
noted_brand = record {
  node = 0;
  field_types = StructType 1 1 ∷ ListType (UIntType 1) ∷ AnyPointerType ∷ StructType 1 1 ∷ ListType (UIntType 1) ∷ EnumType 0 ∷ StructType 2 2 ∷ [];
  annotation_types = record { own = VoidType ∷ []; children = (StructType 1 1 ∷ ListType (UIntType 1) ∷ StructType 1 1 ∷ []) ∷ [] ∷ [] ∷ [] ∷ [] ∷ [] ∷ (UIntType 2 ∷ []) ∷ [] };
}

abbrev noted_color : Enum
noted_color = record {
  id = 2;
  display_name = codes "Color";
  annotations = annotation 10 (EnumValue 1) ∷ [];
  enumerants = record { name = codes "red"; annotations = annotation 255 (AnyPointerValue zero_word) ∷ annotation 11 VoidValue ∷ [] } ∷ enumerant (codes "green") ∷ [];
  annotation_types = record { own = EnumType 0 ∷ []; children = (AnyPointerType ∷ VoidType ∷ []) ∷ [] ∷ [] };
}

abbrev notes : Schemas
notes = record { nodes = noted ∷ flat_node ∷ place ∷ []; brands = noted_brand ∷ builtin_brand 1 (UIntType 2 ∷ []) ∷ builtin_brand 2 (UIntType 2 ∷ []) ∷ []; enums = noted_color ∷ [] }

told : fields_text notes 0
    ≡ said_text (codes "struct Noted $@0xf20fbfb08027d505 = ()\n"
    ++ codes "union: 1 members, tag at data bit 16\n"
    ++ codes "flat: Flat, pointer 0, default (a = 5) $@0x1 = (a = 5) $@0x2 = [1, 2] $@0x3 = (a = 0)\n"
    ++ codes "bytes: List(UInt8), pointer 1, default [1, 2]\n"
    ++ codes "any: AnyPointer, pointer 2, default words: 2\n"
    ++ codes "null: Flat, pointer 3\n"
    ++ codes "torn: List(UInt8), pointer 4, default words: 1\n"
    ++ codes "color: Color, data bit 0, default red\n"
    ++ codes "place: group, member 0 $@0x4 = 7\n"
    ++ codes "place.x: UInt16, data bit 32, default 9\n"
    ++ codes "enum Color $@0xa = green: red $@0xff = words: 1 $@0xb = (), green\n")
unfolding lines_within read_text tree_at digits debug_escape is_utf8 chars encode
told = refl

-- ---- floats ----

-- a float that is infinite and a count of 7, and a list of two infinite floats
abbrev pair_words : List ℕ
pair_words = 0 ∷ 0 ∷ 0 ∷ 0 ∷ 1 ∷ 0 ∷ 0 ∷ 0 ∷ 0 ∷ 0 ∷ 128 ∷ 127 ∷ 7 ∷ 0 ∷ 0 ∷ 0 ∷ []

abbrev list_words : List ℕ
list_words = 1 ∷ 0 ∷ 0 ∷ 0 ∷ 20 ∷ 0 ∷ 0 ∷ 0 ∷ 0 ∷ 0 ∷ 128 ∷ 127 ∷ 0 ∷ 0 ∷ 128 ∷ 255 ∷ []

abbrev mark : Annotation
mark = annotation 0xf20fbfb08027d505 VoidValue

abbrev gauge : Node
gauge = builtin_struct_node 1 (codes "Gauge") 2 2 (
    annotated_field (codes "x") 0 (UIntValue 4 2139095040) (mark ∷ annotation 1 (StructValue pair_words) ∷ [])
    ∷ builtin_field (codes "bits") 1 (UIntValue 4 2139095040)
    ∷ annotated_field (codes "wide") 1 (UIntValue 8 0x7ff8000000000000) (mark ∷ [])
    ∷ annotated_field (codes "list") 0 (ListValue list_words) (mark ∷ [])
    ∷ builtin_field (codes "pair") 1 (StructValue pair_words)
    ∷ builtin_field (codes "plain") 1 (ListValue list_words)
    ∷ [])

abbrev pair : Node
pair = builtin_struct_node 2 (codes "Pair") 1 0 (annotated_field (codes "ratio") 0 (UIntValue 4 0) (mark ∷ []) ∷ builtin_field (codes "count") 1 (UIntValue 4 0) ∷ [])

abbrev gauges : Schemas
gauges = record {
  nodes = gauge ∷ pair ∷ [];
  brands = record {
    node = 0;
    field_types = UIntType 4 ∷ UIntType 4 ∷ UIntType 8 ∷ ListType (UIntType 4) ∷ StructType 1 1 ∷ ListType (UIntType 4) ∷ [];
    annotation_types = record { own = []; children = (VoidType ∷ StructType 1 1 ∷ []) ∷ [] ∷ (VoidType ∷ []) ∷ (VoidType ∷ []) ∷ [] ∷ [] ∷ [] };
  }
      ∷ record { node = 1; field_types = UIntType 4 ∷ UIntType 4 ∷ []; annotation_types = record { own = []; children = (VoidType ∷ []) ∷ [] ∷ [] } } ∷ [];
  enums = [];
}

-- the value of an annotation has its integers, also in marked fields
measured : fields_text gauges 0
    ≡ said_text (codes "x: Float32, data bit 0, default inf $@0xf20fbfb08027d505 = () $@0x1 = (ratio = 2139095040, count = 7)\n"
    ++ codes "bits: UInt32, data bit 32, default 2139095040\n"
    ++ codes "wide: Float64, data bit 64, default nan $@0xf20fbfb08027d505 = ()\n"
    ++ codes "list: List(Float32), pointer 0, default [inf, -inf] $@0xf20fbfb08027d505 = ()\n"
    ++ codes "pair: Pair, pointer 1, default (ratio = inf, count = 7)\n"
    ++ codes "plain: List(UInt32), pointer 1, default [2139095040, 4286578688]\n")
unfolding lines_within read_text tree_at digits debug_escape is_utf8 chars encode float_bytes
measured = refl

-- on a side of a difference too
abbrev side : ℕ → Out
side i = field_side gauges 0 (field_at gauges 0 i)

marked_side : side 0 ≡ said_text (codes "Float32, data bit 0, default inf")
unfolding read_text tree_at digits float_bytes
marked_side = refl

plain_side : side 1 ≡ said_text (codes "UInt32, data bit 32, default 2139095040")
unfolding read_text tree_at digits
plain_side = refl

list_side : side 3 ≡ said_text (codes "List(Float32), pointer 0, default [inf, -inf]")
unfolding read_text tree_at digits float_bytes
list_side = refl
