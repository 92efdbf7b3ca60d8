-- What the rows of a table of schemas stand for.
use Rattle.std.specs.Prelude.{ℕ, List, [], map}
use Rattle.capnp_base.specs.Types.{type_from}
use Rattle.capnp_schema.specs.declared.table_rows.ValueRow.{ValueRow}
use Rattle.capnp_schema.specs.declared.table_rows.ValueRow.TheVariants as row
use Rattle.capnp_schema.specs.declared.table_rows.AnnotationRow.{AnnotationRow}
use Rattle.capnp_schema.specs.declared.table_rows.FieldRow.{FieldRow}
use Rattle.capnp_schema.specs.declared.table_rows.FieldRow.TheVariants as field
use Rattle.capnp_schema.specs.declared.table_rows.NodeRow.{NodeRow}
use Rattle.capnp_schema.specs.declared.table_rows.NodeRow.TheVariants as node
use Rattle.capnp_schema.specs.Types.{SchemaType, VoidType, BoolType, IntType, UIntType, EnumType, TextType, DataType, ListType, AnyPointerType, seen_type}
use Rattle.capnp_schema.specs.Schema.{Node, Brand, Field, Annotation, Value, VoidValue, BoolValue, IntValue, UIntValue, EnumValue, TextValue, DataValue, StructValue, ListValue, AnyPointerValue}
use Rattle.capnp_schema.specs.Meta.{meta_structs, meta_struct}
use Rattle.capnp_schema.specs.Builtin.{annotated_field, annotated_node, annotation, group_member, group_node, member, builtin_field, builtin_struct_node, union_node}

abbrev pub row_value : ValueRow → Value
row_value row.Void = VoidValue
row_value (row.Bool b) = BoolValue b
row_value (row.Int8 x) = IntValue 1 x
row_value (row.Int16 x) = IntValue 2 x
row_value (row.Int32 x) = IntValue 4 x
row_value (row.Int64 x) = IntValue 8 x
row_value (row.UInt8 x) = UIntValue 1 x
row_value (row.UInt16 x) = UIntValue 2 x
row_value (row.UInt32 x) = UIntValue 4 x
row_value (row.UInt64 x) = UIntValue 8 x
row_value (row.Enum number x) = EnumValue x
row_value (row.Text bytes) = TextValue bytes.now
row_value (row.«Data» bytes) = DataValue bytes.now
row_value (row.Struct number words) = StructValue words.now
row_value (row.StructList number words) = ListValue words.now
row_value (row.StructListList number words) = ListValue words.now
row_value (row.UInt8List words) = ListValue words.now
row_value (row.AnyPointer words) = AnyPointerValue words.now

-- the type of the field whose default a value is
abbrev pub row_type : ValueRow → SchemaType
row_type row.Void = VoidType
row_type (row.Bool b) = BoolType
row_type (row.Int8 x) = IntType 1
row_type (row.Int16 x) = IntType 2
row_type (row.Int32 x) = IntType 4
row_type (row.Int64 x) = IntType 8
row_type (row.UInt8 x) = UIntType 1
row_type (row.UInt16 x) = UIntType 2
row_type (row.UInt32 x) = UIntType 4
row_type (row.UInt64 x) = UIntType 8
row_type (row.Enum number x) = EnumType number
row_type (row.Text bytes) = TextType
row_type (row.«Data» bytes) = DataType
row_type (row.Struct number words) = meta_struct number
row_type (row.StructList number words) = meta_structs number
row_type (row.StructListList number words) = ListType (meta_structs number)
row_type (row.UInt8List words) = ListType (UIntType 1)
row_type (row.AnyPointer words) = AnyPointerType

abbrev pub row_annotation : AnnotationRow → Annotation
row_annotation a = annotation a.0 (row_value a.2)

abbrev pub annotation_type : AnnotationRow → SchemaType
annotation_type a = seen_type (type_from a.1)

abbrev pub row_field : FieldRow → Field
row_field (field.Plain name offset default) = builtin_field name.now offset (row_value default)
row_field (field.Member value name offset default) = member value name.now offset (row_value default)
row_field (field.GroupMember value name node) = group_member value name.now node
row_field (field.AnnotatedField name offset default annotations) = annotated_field name.now offset (row_value default) (map row_annotation annotations.now)

abbrev pub field_row_type : FieldRow → SchemaType
field_row_type (field.Plain name offset default) = row_type default
field_row_type (field.Member value name offset default) = row_type default
field_row_type (field.GroupMember value name node) = meta_struct node
field_row_type (field.AnnotatedField name offset default annotations) = row_type default

abbrev pub field_annotation_types : FieldRow → List SchemaType
field_annotation_types (field.Plain name offset default) = []
field_annotation_types (field.Member value name offset default) = []
field_annotation_types (field.GroupMember value name node) = []
field_annotation_types (field.AnnotatedField name offset default annotations) = map annotation_type annotations.now

abbrev pub row_node : NodeRow → Node
row_node (node.StructNode number id name words pointers fields) = builtin_struct_node id name.now words pointers (map row_field fields.now)
row_node (node.UnionNode number id name words pointers count offset fields) = union_node id name.now words pointers count offset (map row_field fields.now)
row_node (node.GroupNode number id name words pointers count offset fields) = group_node id name.now words pointers count offset (map row_field fields.now)
row_node (node.AnnotatedNode number id name words pointers fields annotations) = annotated_node id name.now words pointers (map row_field fields.now) (map row_annotation annotations.now)

-- the brand of a node of such a number, with the types of its fields and annotations
abbrev pub typed_brand : ℕ → List FieldRow → List AnnotationRow → Brand
typed_brand number fields annotations = record { node = number; field_types = map field_row_type fields; annotation_types = record { own = map annotation_type annotations; children = map field_annotation_types fields } }

abbrev pub row_brand : NodeRow → Brand
row_brand (node.StructNode number id name words pointers fields) = typed_brand number fields.now []
row_brand (node.UnionNode number id name words pointers count offset fields) = typed_brand number fields.now []
row_brand (node.GroupNode number id name words pointers count offset fields) = typed_brand number fields.now []
row_brand (node.AnnotatedNode number id name words pointers fields annotations) = typed_brand number fields.now annotations.now
