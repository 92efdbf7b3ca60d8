-- The set under which a compiler's request is read: what `request_set::new_set` gives, as specs see it.
use Rattle.std.specs.Prelude.{List, [], ◌∷◌, false, codes, pos}
use Rattle.capnp_schema.specs.Types.{SchemaType, VoidType, BoolType, IntType, UIntType, TextType, DataType, AnyPointerType}
use Rattle.capnp_schema.specs.Schema.{Schemas, Node, VoidValue, BoolValue, IntValue, UIntValue, TextValue, DataValue, StructValue, ListValue, AnyPointerValue}
use Rattle.capnp_schema.specs.Meta.{meta_structs, meta_struct}
use Rattle.capnp_schema.specs.Builtin.{group_member, group_node, member, builtin_field, builtin_brand, builtin_struct_node, union_node, zero_word}

abbrev pub code_generator_request_node : Node
code_generator_request_node = builtin_struct_node 0 (codes "CodeGeneratorRequest") 0 4 (
    builtin_field (codes "nodes") 0 (ListValue zero_word)
    ∷ builtin_field (codes "requestedFiles") 1 (ListValue zero_word)
    ∷ [])

abbrev pub code_generator_request_requested_file_node : Node
code_generator_request_requested_file_node = builtin_struct_node 0 (codes "CodeGeneratorRequest.RequestedFile") 1 2 (
    builtin_field (codes "id") 0 (UIntValue 8 0)
    ∷ [])

abbrev pub request_node_node : Node
request_node_node = union_node 0 (codes "Node") 5 6 6 6 (
    builtin_field (codes "id") 0 (UIntValue 8 0)
    ∷ builtin_field (codes "displayName") 0 (TextValue [])
    ∷ builtin_field (codes "scopeId") 2 (UIntValue 8 0)
    ∷ builtin_field (codes "nestedNodes") 1 (ListValue zero_word)
    ∷ builtin_field (codes "annotations") 2 (ListValue zero_word)
    ∷ member 0 (codes "file") 0 VoidValue
    ∷ group_member 1 (codes "struct") 3
    ∷ group_member 2 (codes "enum") 4
    ∷ member 3 (codes "interface") 0 VoidValue
    ∷ member 4 (codes "const") 0 VoidValue
    ∷ group_member 5 (codes "annotation") 5
    ∷ builtin_field (codes "parameters") 5 (ListValue zero_word)
    ∷ [])

abbrev pub node_struct_node : Node
node_struct_node = group_node 0 (codes "Node.struct") 5 6 0 0 (
    builtin_field (codes "dataWordCount") 7 (UIntValue 2 0)
    ∷ builtin_field (codes "pointerCount") 12 (UIntValue 2 0)
    ∷ builtin_field (codes "isGroup") 224 (BoolValue false)
    ∷ builtin_field (codes "discriminantCount") 15 (UIntValue 2 0)
    ∷ builtin_field (codes "discriminantOffset") 8 (UIntValue 4 0)
    ∷ builtin_field (codes "fields") 3 (ListValue zero_word)
    ∷ [])

abbrev pub node_enum_node : Node
node_enum_node = group_node 0 (codes "Node.enum") 5 6 0 0 (builtin_field (codes "enumerants") 3 (ListValue zero_word) ∷ [])

abbrev pub node_annotation_node : Node
node_annotation_node = group_node 0 (codes "Node.annotation") 5 6 0 0 (
    builtin_field (codes "type") 3 (StructValue zero_word)
    ∷ [])

abbrev pub node_nested_node_node : Node
node_nested_node_node = builtin_struct_node 0 (codes "Node.NestedNode") 1 1 (builtin_field (codes "id") 0 (UIntValue 8 0) ∷ [])

abbrev pub node_parameter_node : Node
node_parameter_node = builtin_struct_node 0 (codes "Node.Parameter") 0 1 (builtin_field (codes "name") 0 (TextValue []) ∷ [])

abbrev pub request_field_node : Node
request_field_node = union_node 0 (codes "Field") 3 4 2 4 (
    builtin_field (codes "name") 0 (TextValue [])
    ∷ builtin_field (codes "annotations") 1 (ListValue zero_word)
    ∷ builtin_field (codes "discriminantValue") 1 (UIntValue 2 65535)
    ∷ group_member 0 (codes "slot") 9
    ∷ group_member 1 (codes "group") 10
    ∷ [])

abbrev pub field_slot_node : Node
field_slot_node = group_node 0 (codes "Field.slot") 3 4 0 0 (
    builtin_field (codes "offset") 1 (UIntValue 4 0)
    ∷ builtin_field (codes "type") 2 (StructValue zero_word)
    ∷ builtin_field (codes "defaultValue") 3 (StructValue zero_word)
    ∷ [])

abbrev pub field_group_node : Node
field_group_node = group_node 0 (codes "Field.group") 3 4 0 0 (builtin_field (codes "typeId") 2 (UIntValue 8 0) ∷ [])

abbrev pub request_enumerant_node : Node
request_enumerant_node = builtin_struct_node 0 (codes "Enumerant") 1 2 (
    builtin_field (codes "name") 0 (TextValue [])
    ∷ builtin_field (codes "annotations") 1 (ListValue zero_word)
    ∷ [])

abbrev pub request_annotation_node : Node
request_annotation_node = builtin_struct_node 0 (codes "Annotation") 1 2 (
    builtin_field (codes "id") 0 (UIntValue 8 0)
    ∷ builtin_field (codes "value") 0 (StructValue zero_word)
    ∷ builtin_field (codes "brand") 1 (StructValue zero_word)
    ∷ [])

abbrev pub request_type_node : Node
request_type_node = union_node 0 (codes "Type") 3 1 19 0 (
    member 0 (codes "void") 0 VoidValue
    ∷ member 1 (codes "bool") 0 VoidValue
    ∷ member 2 (codes "int8") 0 VoidValue
    ∷ member 3 (codes "int16") 0 VoidValue
    ∷ member 4 (codes "int32") 0 VoidValue
    ∷ member 5 (codes "int64") 0 VoidValue
    ∷ member 6 (codes "uint8") 0 VoidValue
    ∷ member 7 (codes "uint16") 0 VoidValue
    ∷ member 8 (codes "uint32") 0 VoidValue
    ∷ member 9 (codes "uint64") 0 VoidValue
    ∷ member 10 (codes "float32") 0 VoidValue
    ∷ member 11 (codes "float64") 0 VoidValue
    ∷ member 12 (codes "text") 0 VoidValue
    ∷ member 13 (codes "data") 0 VoidValue
    ∷ group_member 14 (codes "list") 14
    ∷ group_member 15 (codes "enum") 15
    ∷ group_member 16 (codes "struct") 16
    ∷ member 17 (codes "interface") 0 VoidValue
    ∷ group_member 18 (codes "anyPointer") 17
    ∷ [])

abbrev pub type_list_node : Node
type_list_node = group_node 0 (codes "Type.list") 3 1 0 0 (builtin_field (codes "elementType") 0 (StructValue zero_word) ∷ [])

abbrev pub type_enum_node : Node
type_enum_node = group_node 0 (codes "Type.enum") 3 1 0 0 (builtin_field (codes "typeId") 1 (UIntValue 8 0) ∷ [])

abbrev pub type_struct_node : Node
type_struct_node = group_node 0 (codes "Type.struct") 3 1 0 0 (
    builtin_field (codes "typeId") 1 (UIntValue 8 0)
    ∷ builtin_field (codes "brand") 0 (StructValue zero_word)
    ∷ [])

abbrev pub type_any_pointer_node : Node
type_any_pointer_node = group_node 0 (codes "Type.anyPointer") 3 1 3 4 (
    member 0 (codes "unconstrained") 0 VoidValue
    ∷ group_member 1 (codes "parameter") 18
    ∷ member 2 (codes "implicitMethodParameter") 0 VoidValue
    ∷ [])

abbrev pub type_any_pointer_parameter_node : Node
type_any_pointer_parameter_node = group_node 0 (codes "Type.anyPointer.parameter") 3 1 0 0 (
    builtin_field (codes "scopeId") 2 (UIntValue 8 0)
    ∷ builtin_field (codes "parameterIndex") 5 (UIntValue 2 0)
    ∷ [])

abbrev pub request_brand_node : Node
request_brand_node = builtin_struct_node 0 (codes "Brand") 0 1 (builtin_field (codes "scopes") 0 (ListValue zero_word) ∷ [])

abbrev pub brand_scope_node : Node
brand_scope_node = union_node 0 (codes "Brand.Scope") 2 1 2 4 (
    builtin_field (codes "scopeId") 0 (UIntValue 8 0)
    ∷ member 0 (codes "bind") 0 (ListValue zero_word)
    ∷ member 1 (codes "inherit") 0 VoidValue
    ∷ [])

abbrev pub brand_binding_node : Node
brand_binding_node = union_node 0 (codes "Brand.Binding") 1 1 2 0 (
    member 0 (codes "unbound") 0 VoidValue
    ∷ member 1 (codes "type") 0 (StructValue zero_word)
    ∷ [])

abbrev pub request_value_node : Node
request_value_node = union_node 0 (codes "Value") 2 1 19 0 (
    member 0 (codes "void") 0 VoidValue
    ∷ member 1 (codes "bool") 16 (BoolValue false)
    ∷ member 2 (codes "int8") 2 (IntValue 1 (pos 0))
    ∷ member 3 (codes "int16") 1 (IntValue 2 (pos 0))
    ∷ member 4 (codes "int32") 1 (IntValue 4 (pos 0))
    ∷ member 5 (codes "int64") 1 (IntValue 8 (pos 0))
    ∷ member 6 (codes "uint8") 2 (UIntValue 1 0)
    ∷ member 7 (codes "uint16") 1 (UIntValue 2 0)
    ∷ member 8 (codes "uint32") 1 (UIntValue 4 0)
    ∷ member 9 (codes "uint64") 1 (UIntValue 8 0)
    ∷ member 10 (codes "float32") 1 (UIntValue 4 0)
    ∷ member 11 (codes "float64") 1 (UIntValue 8 0)
    ∷ member 12 (codes "text") 0 (TextValue [])
    ∷ member 13 (codes "data") 0 (DataValue [])
    ∷ member 14 (codes "list") 0 (AnyPointerValue zero_word)
    ∷ member 15 (codes "enum") 1 (UIntValue 2 0)
    ∷ member 16 (codes "struct") 0 (AnyPointerValue zero_word)
    ∷ member 17 (codes "interface") 0 VoidValue
    ∷ member 18 (codes "anyPointer") 0 (AnyPointerValue zero_word)
    ∷ [])

abbrev pub request_node_types : List SchemaType
request_node_types =
    UIntType 8 ∷ TextType ∷ UIntType 8 ∷ meta_structs 6 ∷ meta_structs 12 ∷ VoidType ∷ meta_struct 3 ∷ meta_struct 4 ∷ VoidType ∷ VoidType ∷ meta_struct 5
    ∷ meta_structs 7 ∷ []

abbrev pub type_types : List SchemaType
type_types =
    VoidType ∷ VoidType ∷ VoidType ∷ VoidType ∷ VoidType ∷ VoidType ∷ VoidType ∷ VoidType ∷ VoidType ∷ VoidType
    ∷ VoidType ∷ VoidType ∷ VoidType ∷ VoidType ∷ meta_struct 14 ∷ meta_struct 15 ∷ meta_struct 16 ∷ VoidType ∷ meta_struct 17 ∷ []

abbrev pub request_value_types : List SchemaType
request_value_types =
    VoidType ∷ BoolType ∷ IntType 1 ∷ IntType 2 ∷ IntType 4 ∷ IntType 8 ∷ UIntType 1 ∷ UIntType 2 ∷ UIntType 4
    ∷ UIntType 8 ∷ UIntType 4 ∷ UIntType 8 ∷ TextType ∷ DataType ∷ AnyPointerType ∷ UIntType 2 ∷ AnyPointerType
    ∷ VoidType ∷ AnyPointerType ∷ []

abbrev pub request_set : Schemas
request_set = record {
  nodes =
      code_generator_request_node ∷ code_generator_request_requested_file_node ∷ request_node_node ∷ node_struct_node
      ∷ node_enum_node ∷ node_annotation_node ∷ node_nested_node_node ∷ node_parameter_node ∷ request_field_node
      ∷ field_slot_node ∷ field_group_node ∷ request_enumerant_node ∷ request_annotation_node ∷ request_type_node ∷ type_list_node
      ∷ type_enum_node ∷ type_struct_node ∷ type_any_pointer_node ∷ type_any_pointer_parameter_node ∷ request_brand_node
      ∷ brand_scope_node ∷ brand_binding_node ∷ request_value_node ∷ [];
  brands =
      builtin_brand 0 (meta_structs 2 ∷ meta_structs 1 ∷ [])
      ∷ builtin_brand 1 (UIntType 8 ∷ [])
      ∷ builtin_brand 2 request_node_types
      ∷ builtin_brand 3 (UIntType 2 ∷ UIntType 2 ∷ BoolType ∷ UIntType 2 ∷ UIntType 4 ∷ meta_structs 8 ∷ [])
      ∷ builtin_brand 4 (meta_structs 11 ∷ [])
      ∷ builtin_brand 5 (meta_struct 13 ∷ [])
      ∷ builtin_brand 6 (UIntType 8 ∷ [])
      ∷ builtin_brand 7 (TextType ∷ [])
      ∷ builtin_brand 8 (TextType ∷ meta_structs 12 ∷ UIntType 2 ∷ meta_struct 9 ∷ meta_struct 10 ∷ [])
      ∷ builtin_brand 9 (UIntType 4 ∷ meta_struct 13 ∷ meta_struct 22 ∷ [])
      ∷ builtin_brand 10 (UIntType 8 ∷ [])
      ∷ builtin_brand 11 (TextType ∷ meta_structs 12 ∷ [])
      ∷ builtin_brand 12 (UIntType 8 ∷ meta_struct 22 ∷ meta_struct 19 ∷ [])
      ∷ builtin_brand 13 type_types
      ∷ builtin_brand 14 (meta_struct 13 ∷ [])
      ∷ builtin_brand 15 (UIntType 8 ∷ [])
      ∷ builtin_brand 16 (UIntType 8 ∷ meta_struct 19 ∷ [])
      ∷ builtin_brand 17 (VoidType ∷ meta_struct 18 ∷ VoidType ∷ [])
      ∷ builtin_brand 18 (UIntType 8 ∷ UIntType 2 ∷ [])
      ∷ builtin_brand 19 (meta_structs 20 ∷ [])
      ∷ builtin_brand 20 (UIntType 8 ∷ meta_structs 21 ∷ VoidType ∷ [])
      ∷ builtin_brand 21 (VoidType ∷ meta_struct 13 ∷ [])
      ∷ builtin_brand 22 request_value_types
      ∷ [];
  enums = [];
}
