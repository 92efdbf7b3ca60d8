-- The meta set: schemas of a message that stands for a set of schemas.
use Rattle.std.specs.Prelude.{ℕ, List, [], ◌∷◌, false, codes, pos}
use Rattle.capnp_schema.specs.Types.{SchemaType, VoidType, BoolType, IntType, UIntType, TextType, DataType, StructType, ListType}
use Rattle.capnp_schema.specs.Schema.{Schemas, Node, Field, VoidValue, BoolValue, IntValue, UIntValue, TextValue, DataValue, StructValue, ListValue}
use Rattle.capnp_schema.specs.Builtin.{builtin_field, member, group_member, builtin_struct_node, union_node, group_node, builtin_brand, zero_word}

-- a struct's type, and that of a list of them
abbrev pub meta_struct : ℕ → SchemaType
meta_struct number = StructType number number

abbrev pub meta_structs : ℕ → SchemaType
meta_structs number = ListType (meta_struct number)

abbrev pub set_node : Node
set_node = builtin_struct_node 0 (codes "SetRecord") 0 3 (
    builtin_field (codes "nodes") 0 (ListValue zero_word)
    ∷ builtin_field (codes "brands") 1 (ListValue zero_word)
    ∷ builtin_field (codes "enums") 2 (ListValue zero_word)
    ∷ [])

abbrev pub meta_node_node : Node
meta_node_node = builtin_struct_node 0 (codes "NodeRecord") 3 3 (
    builtin_field (codes "id") 0 (UIntValue 8 0)
    ∷ builtin_field (codes "dataWords") 4 (UIntValue 2 0)
    ∷ builtin_field (codes "pointers") 5 (UIntValue 2 0)
    ∷ builtin_field (codes "discriminantCount") 6 (UIntValue 2 0)
    ∷ builtin_field (codes "isGroup") 112 (BoolValue false)
    ∷ builtin_field (codes "discriminantOffset") 4 (UIntValue 4 0)
    ∷ builtin_field (codes "displayName") 0 (TextValue [])
    ∷ builtin_field (codes "annotations") 1 (ListValue zero_word)
    ∷ builtin_field (codes "fields") 2 (ListValue zero_word)
    ∷ [])

abbrev pub meta_field_node : Node
meta_field_node = union_node 0 (codes "FieldRecord") 1 3 2 1 (
    builtin_field (codes "discriminantValue") 0 (UIntValue 2 65535)
    ∷ builtin_field (codes "name") 0 (TextValue [])
    ∷ builtin_field (codes "annotations") 1 (ListValue zero_word)
    ∷ group_member 0 (codes "slot") 3
    ∷ member 1 (codes "group") 1 (UIntValue 4 0)
    ∷ [])

abbrev pub slot_node : Node
slot_node = group_node 0 (codes "FieldRecord.slot") 1 3 0 0 (
    builtin_field (codes "offset") 1 (UIntValue 4 0)
    ∷ builtin_field (codes "default") 2 (StructValue zero_word)
    ∷ [])

abbrev pub meta_annotation_node : Node
meta_annotation_node = builtin_struct_node 0 (codes "AnnotationRecord") 1 1 (
    builtin_field (codes "id") 0 (UIntValue 8 0)
    ∷ builtin_field (codes "value") 0 (StructValue zero_word)
    ∷ [])

-- one member for each kind of value; those behind a pointer share it
abbrev pub value_fields : List Field
value_fields =
    member 0 (codes "void") 0 VoidValue
    ∷ member 1 (codes "bool") 64 (BoolValue false)
    ∷ member 2 (codes "int8") 8 (IntValue 1 (pos 0))
    ∷ member 3 (codes "int16") 4 (IntValue 2 (pos 0))
    ∷ member 4 (codes "int32") 2 (IntValue 4 (pos 0))
    ∷ member 5 (codes "int64") 1 (IntValue 8 (pos 0))
    ∷ member 6 (codes "uint8") 8 (UIntValue 1 0)
    ∷ member 7 (codes "uint16") 4 (UIntValue 2 0)
    ∷ member 8 (codes "uint32") 2 (UIntValue 4 0)
    ∷ member 9 (codes "uint64") 1 (UIntValue 8 0)
    ∷ member 10 (codes "enum") 4 (UIntValue 2 0)
    ∷ member 11 (codes "text") 0 (TextValue [])
    ∷ member 12 (codes "data") 0 (DataValue [])
    ∷ member 13 (codes "struct") 0 (DataValue [])
    ∷ member 14 (codes "list") 0 (DataValue [])
    ∷ []

abbrev pub meta_value_node : Node
meta_value_node = union_node 0 (codes "ValueRecord") 2 1 15 0 value_fields

abbrev pub meta_brand_node : Node
meta_brand_node = builtin_struct_node 0 (codes "BrandRecord") 1 3 (
    builtin_field (codes "node") 0 (UIntValue 4 0)
    ∷ builtin_field (codes "fieldTypes") 0 (ListValue zero_word)
    ∷ builtin_field (codes "ownTypes") 1 (ListValue zero_word)
    ∷ builtin_field (codes "childTypes") 2 (ListValue zero_word)
    ∷ [])

abbrev pub meta_type_node : Node
meta_type_node = builtin_struct_node 0 (codes "TypeRecord") 1 0 (
    builtin_field (codes "base") 0 (UIntValue 2 0)
    ∷ builtin_field (codes "listCount") 1 (UIntValue 2 0)
    ∷ builtin_field (codes "number") 1 (UIntValue 4 0)
    ∷ [])

abbrev pub enum_node : Node
enum_node = builtin_struct_node 0 (codes "EnumRecord") 1 5 (
    builtin_field (codes "id") 0 (UIntValue 8 0)
    ∷ builtin_field (codes "displayName") 0 (TextValue [])
    ∷ builtin_field (codes "annotations") 1 (ListValue zero_word)
    ∷ builtin_field (codes "enumerants") 2 (ListValue zero_word)
    ∷ builtin_field (codes "ownTypes") 3 (ListValue zero_word)
    ∷ builtin_field (codes "childTypes") 4 (ListValue zero_word)
    ∷ [])

abbrev pub meta_enumerant_node : Node
meta_enumerant_node = builtin_struct_node 0 (codes "EnumerantRecord") 0 2 (
    builtin_field (codes "name") 0 (TextValue [])
    ∷ builtin_field (codes "annotations") 1 (ListValue zero_word)
    ∷ [])

abbrev pub meta_node_types : List SchemaType
meta_node_types = UIntType 8 ∷ UIntType 2 ∷ UIntType 2 ∷ UIntType 2 ∷ BoolType ∷ UIntType 4 ∷ TextType ∷ meta_structs 4 ∷ meta_structs 2 ∷ []

abbrev pub meta_value_types : List SchemaType
meta_value_types =
    VoidType ∷ BoolType
    ∷ IntType 1 ∷ IntType 2 ∷ IntType 4 ∷ IntType 8
    ∷ UIntType 1 ∷ UIntType 2 ∷ UIntType 4 ∷ UIntType 8
    ∷ UIntType 2 ∷ TextType ∷ DataType ∷ DataType ∷ DataType
    ∷ []

abbrev pub meta : Schemas
meta = record {
  nodes = set_node ∷ meta_node_node ∷ meta_field_node ∷ slot_node ∷ meta_annotation_node ∷ meta_value_node ∷ meta_brand_node ∷ meta_type_node ∷ enum_node ∷ meta_enumerant_node ∷ [];
  brands =
      builtin_brand 0 (meta_structs 1 ∷ meta_structs 6 ∷ meta_structs 8 ∷ [])
      ∷ builtin_brand 1 meta_node_types
      ∷ builtin_brand 2 (UIntType 2 ∷ TextType ∷ meta_structs 4 ∷ meta_struct 3 ∷ UIntType 4 ∷ [])
      ∷ builtin_brand 3 (UIntType 4 ∷ meta_struct 5 ∷ [])
      ∷ builtin_brand 4 (UIntType 8 ∷ meta_struct 5 ∷ [])
      ∷ builtin_brand 5 meta_value_types
      ∷ builtin_brand 6 (UIntType 4 ∷ meta_structs 7 ∷ meta_structs 7 ∷ ListType (meta_structs 7) ∷ [])
      ∷ builtin_brand 7 (UIntType 2 ∷ UIntType 2 ∷ UIntType 4 ∷ [])
      ∷ builtin_brand 8 (UIntType 8 ∷ TextType ∷ meta_structs 4 ∷ meta_structs 9 ∷ meta_structs 7 ∷ ListType (meta_structs 7) ∷ [])
      ∷ builtin_brand 9 (TextType ∷ meta_structs 4 ∷ [])
      ∷ [];
  enums = [];
}
