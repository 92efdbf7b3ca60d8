-- The built-in set: what `builtin::records` gives, as specs see it.
use Rattle.std.specs.Prelude.{ℕ, List, [], ◌∷◌, true, false, replicate, map, codes, negsuc, pos}
use Rattle.capnp_schema.specs.Types.{SchemaType, VoidType, BoolType, IntType, UIntType, EnumType, TextType, DataType, StructType, ListType, AnyPointerType}
use Rattle.capnp_schema.specs.Schema.{Schemas, Node, Brand, Enum, Enumerant, Field, Annotation, Slot, Group, Value, VoidValue, BoolValue, IntValue, UIntValue, EnumValue, TextValue, DataValue, StructValue, ListValue, AnyPointerValue}

-- a non-union field
abbrev pub builtin_field : List ℕ → ℕ → Value → Field
builtin_field name offset default = record { name = name; discriminant_value = 65535; annotations = []; kind = Slot offset default }

-- a member of the union, by its discriminant value
abbrev pub member : ℕ → List ℕ → ℕ → Value → Field
member number name offset default = record { name = name; discriminant_value = number; annotations = []; kind = Slot offset default }

-- a member that is a group
abbrev pub group_member : ℕ → List ℕ → ℕ → Field
group_member number name node = record { name = name; discriminant_value = number; annotations = []; kind = Group node }

abbrev pub annotation : ℕ → Value → Annotation
annotation id value = record { id = id; value = value }

-- a non-union field with annotations
abbrev pub annotated_field : List ℕ → ℕ → Value → List Annotation → Field
annotated_field name offset default annotations = record { name = name; discriminant_value = 65535; annotations = annotations; kind = Slot offset default }

abbrev pub builtin_struct_node : ℕ → List ℕ → ℕ → ℕ → List Field → Node
builtin_struct_node id name data_words pointers fields = record { id = id; display_name = name; annotations = []; data_word_count = data_words; pointer_count = pointers; is_group = false; discriminant_count = 0; discriminant_offset = 0; fields = fields }

-- with a union: how many members it has, and where its discriminant stands
abbrev pub union_node : ℕ → List ℕ → ℕ → ℕ → ℕ → ℕ → List Field → Node
union_node id name data_words pointers count offset fields = record { id = id; display_name = name; annotations = []; data_word_count = data_words; pointer_count = pointers; is_group = false; discriminant_count = count; discriminant_offset = offset; fields = fields }

-- a group of a struct of such sections
abbrev pub group_node : ℕ → List ℕ → ℕ → ℕ → ℕ → ℕ → List Field → Node
group_node id name data_words pointers count offset fields = record { id = id; display_name = name; annotations = []; data_word_count = data_words; pointer_count = pointers; is_group = true; discriminant_count = count; discriminant_offset = offset; fields = fields }

-- a struct with annotations
abbrev pub annotated_node : ℕ → List ℕ → ℕ → ℕ → List Field → List Annotation → Node
annotated_node id name data_words pointers fields annotations = record { id = id; display_name = name; annotations = annotations; data_word_count = data_words; pointer_count = pointers; is_group = false; discriminant_count = 0; discriminant_offset = 0; fields = fields }

abbrev pub zero_word : List ℕ
zero_word = replicate 8 0

-- a struct of one data word that is 1 and one null pointer
abbrev pub loop_words : List ℕ
loop_words = 0 ∷ 0 ∷ 0 ∷ 0 ∷ 1 ∷ 0 ∷ 1 ∷ 0 ∷ 1 ∷ 0 ∷ 0 ∷ 0 ∷ 0 ∷ 0 ∷ 0 ∷ 0 ∷ zero_word

abbrev pub flat_node : Node
flat_node = builtin_struct_node 100 (codes "Flat") 1 0 (builtin_field (codes "a") 0 (UIntValue 2 0) ∷ [])

abbrev pub mixed_node : Node
mixed_node = union_node 101 (codes "Mixed") 1 1 2 1 (
    builtin_field (codes "a") 0 (UIntValue 2 0)
    ∷ member 0 (codes "x") 0 VoidValue
    ∷ member 1 (codes "y") 4 (UIntValue 1 0)
    ∷ builtin_field (codes "b") 0 (TextValue [])
    ∷ [])

abbrev pub many_node : Node
many_node = builtin_struct_node 102 (codes "Many") 2 0 (
    builtin_field (codes "flag") 0 (BoolValue true)
    ∷ builtin_field (codes "s") 1 (IntValue 1 (negsuc 0))
    ∷ builtin_field (codes "n") 1 (UIntValue 2 7)
    ∷ builtin_field (codes "w") 1 (IntValue 4 (pos 0))
    ∷ builtin_field (codes "q") 1 (UIntValue 8 0)
    ∷ builtin_field (codes "z") 0 VoidValue
    ∷ [])

abbrev pub shapes_node : Node
shapes_node = union_node 103 (codes "Shapes") 2 2 3 1 (
    builtin_field (codes "id") 0 (UIntValue 2 0)
    ∷ group_member 0 (codes "circle") 4
    ∷ group_member 1 (codes "tag") 5
    ∷ member 2 (codes "word") 0 (TextValue [])
    ∷ [])

abbrev pub circle_node : Node
circle_node = group_node 104 (codes "Shapes.circle") 2 2 0 0 (builtin_field (codes "r") 1 (UIntValue 4 0) ∷ [])

abbrev pub tag_node : Node
tag_node = group_node 105 (codes "Shapes.tag") 2 2 2 3 (
    builtin_field (codes "n") 2 (UIntValue 2 0)
    ∷ member 0 (codes "u0") 0 VoidValue
    ∷ member 1 (codes "u1") 8 (UIntValue 1 0)
    ∷ builtin_field (codes "any") 0 (AnyPointerValue zero_word)
    ∷ builtin_field (codes "q") 1 (TextValue [])
    ∷ [])

abbrev pub loop_node : Node
loop_node = union_node 106 (codes "Loop") 1 1 2 0 (
    member 0 (codes "end") 0 VoidValue
    ∷ member 1 (codes "again") 0 (StructValue loop_words)
    ∷ [])

abbrev pub lists_node : Node
lists_node = builtin_struct_node 107 (codes "Lists") 0 4 (
    builtin_field (codes "bytes") 0 (ListValue zero_word)
    ∷ builtin_field (codes "raw") 1 (DataValue [])
    ∷ builtin_field (codes "t") 2 (TextValue [])
    ∷ builtin_field (codes "items") 3 (ListValue zero_word)
    ∷ [])

abbrev pub id_annotations : List Annotation
id_annotations = annotation 8 (UIntValue 2 5) ∷ annotation 9 (EnumValue 2) ∷ annotation 10 (EnumValue 2) ∷ []

abbrev pub node_fields : List Field
node_fields =
    annotated_field (codes "id") 0 (UIntValue 8 0) id_annotations
    ∷ builtin_field (codes "displayName") 0 (TextValue [])
    ∷ builtin_field (codes "size") 4 (EnumValue 0)
    ∷ []

abbrev pub builtin_node_node : Node
builtin_node_node = annotated_node 108 (codes "Node") 2 1 node_fields (annotation 7 (TextValue (codes "note")) ∷ [])

-- a brand of the node of its own number, without annotations
abbrev pub builtin_brand : ℕ → List SchemaType → Brand
builtin_brand number types = record { node = number; field_types = types; annotation_types = record { own = []; children = map (λ (t : SchemaType). []) types } }

abbrev pub node_brand : Brand
node_brand = record { node = 8; field_types = UIntType 8 ∷ TextType ∷ EnumType 0 ∷ []; annotation_types = record { own = TextType ∷ []; children = (TextType ∷ EnumType 0 ∷ TextType ∷ []) ∷ [] ∷ [] ∷ [] } }

abbrev pub enumerant : List ℕ → Enumerant
enumerant name = record { name = name; annotations = [] }

abbrev pub element_sizes : List Enumerant
element_sizes =
    enumerant (codes "empty")
    ∷ enumerant (codes "bit")
    ∷ enumerant (codes "byte")
    ∷ enumerant (codes "twoBytes")
    ∷ enumerant (codes "fourBytes")
    ∷ enumerant (codes "eightBytes")
    ∷ enumerant (codes "pointer")
    ∷ enumerant (codes "inlineComposite")
    ∷ []

abbrev pub element_size_enum : Enum
element_size_enum = record { id = 200; display_name = codes "ElementSize"; annotations = []; enumerants = element_sizes; annotation_types = record { own = []; children = replicate 8 [] } }

abbrev pub builtin : Schemas
builtin = record {
  nodes = flat_node ∷ mixed_node ∷ many_node ∷ shapes_node ∷ circle_node ∷ tag_node ∷ loop_node ∷ lists_node ∷ builtin_node_node ∷ [];
  brands =
      builtin_brand 0 (UIntType 2 ∷ [])
      ∷ builtin_brand 1 (UIntType 2 ∷ VoidType ∷ UIntType 1 ∷ TextType ∷ [])
      ∷ builtin_brand 2 (BoolType ∷ IntType 1 ∷ UIntType 2 ∷ IntType 4 ∷ UIntType 8 ∷ VoidType ∷ [])
      ∷ builtin_brand 3 (UIntType 2 ∷ StructType 4 4 ∷ StructType 5 5 ∷ TextType ∷ [])
      ∷ builtin_brand 4 (UIntType 4 ∷ [])
      ∷ builtin_brand 5 (UIntType 2 ∷ VoidType ∷ UIntType 1 ∷ AnyPointerType ∷ TextType ∷ [])
      ∷ builtin_brand 6 (VoidType ∷ StructType 6 6 ∷ [])
      ∷ builtin_brand 7 (ListType (UIntType 1) ∷ DataType ∷ TextType ∷ ListType (StructType 0 0) ∷ [])
      ∷ node_brand
      ∷ [];
  enums = element_size_enum ∷ [];
}
