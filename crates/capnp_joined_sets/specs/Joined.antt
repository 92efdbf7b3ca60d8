-- The set of the entries of two sets, where the numbers of the second count on behind those of the first.
use Rattle.std.specs.Prelude.{◌+◌, List, ◌++◌, length, map}
use Rattle.capnp_schema.specs.Types.{SchemaType, VoidType, BoolType, IntType, UIntType, EnumType, TextType, DataType, StructType, ListType, AnyPointerType}
use Rattle.capnp_schema.specs.Schema.{Schemas, Node, Brand, Enum, Field, FieldKind, Slot, Group, AnnotationTypes}
use Rattle.capnp_joined_sets.specs.declared.moves.Moves.{Moves}

-- a type whose brand, node or enum is so many further on, inside lists too
abbrev pub moved_type : Moves → SchemaType → SchemaType
moved_type by VoidType = VoidType
moved_type by BoolType = BoolType
moved_type by (IntType bytes) = IntType bytes
moved_type by (UIntType bytes) = UIntType bytes
moved_type by (EnumType number) = EnumType (number + by.enums)
moved_type by TextType = TextType
moved_type by DataType = DataType
moved_type by (StructType number generic) = StructType (number + by.brands) (generic + by.nodes)
moved_type by (ListType element) = ListType (moved_type by element)
moved_type by AnyPointerType = AnyPointerType

abbrev pub moved_types : Moves → List SchemaType → List SchemaType
moved_types by types = map (moved_type by) types

abbrev pub moved_annotation_types : Moves → AnnotationTypes → AnnotationTypes
moved_annotation_types by types = record { own = moved_types by types.own; children = map (moved_types by) types.children }

-- a group's node is so many further on
abbrev pub moved_kind : Moves → FieldKind → FieldKind
moved_kind by (Slot offset default) = Slot offset default
moved_kind by (Group node) = Group (node + by.nodes)

abbrev pub moved_field : Moves → Field → Field
moved_field by f = record { name = f.name; discriminant_value = f.discriminant_value; annotations = f.annotations; kind = moved_kind by f.kind }

abbrev pub moved_node : Moves → Node → Node
moved_node by n = record { id = n.id; display_name = n.display_name; annotations = n.annotations; data_word_count = n.data_word_count; pointer_count = n.pointer_count; is_group = n.is_group; discriminant_count = n.discriminant_count; discriminant_offset = n.discriminant_offset; fields = map (moved_field by) n.fields }

abbrev pub moved_brand : Moves → Brand → Brand
moved_brand by b = record { node = b.node + by.nodes; field_types = moved_types by b.field_types; annotation_types = moved_annotation_types by b.annotation_types }

abbrev pub moved_enum : Moves → Enum → Enum
moved_enum by e = record { id = e.id; display_name = e.display_name; annotations = e.annotations; enumerants = e.enumerants; annotation_types = moved_annotation_types by e.annotation_types }

-- as far as the lists of a set reach
abbrev pub ends_of : Schemas → Moves
ends_of set = record { nodes = length set.nodes; brands = length set.brands; enums = length set.enums }

-- the entries of the first set, and behind them those of the second
abbrev pub joined : Schemas → Schemas → Schemas
joined older newer = record { nodes = older.nodes ++ map (moved_node (ends_of older)) newer.nodes; brands = older.brands ++ map (moved_brand (ends_of older)) newer.brands; enums = older.enums ++ map (moved_enum (ends_of older)) newer.enums }
