-- The three lists of a schema set, as specs see them.
use Rattle.std.specs.Prelude.{ℕ, ℤ, List, [], ◌∷◌, Bool, false, not, ◌==◌, length, map, slice_get, string_bytes, Option, None}
use Rattle.std.specs.Option.{unwrap_or}
use Rattle.capnp_schema.specs.Types.{SchemaType, VoidType, seen_type, struct_brand}
use Rattle.capnp_schema.specs.declared.record.ValueRecord.{ValueRecord}
use Rattle.capnp_schema.specs.declared.record.ValueRecord.TheVariants as value
use Rattle.capnp_schema.specs.declared.record.AnnotationRecord.{AnnotationRecord}
use Rattle.capnp_schema.specs.declared.record.FieldKind.{FieldKind as KindRecord}
use Rattle.capnp_schema.specs.declared.record.FieldKind.TheVariants as kind
use Rattle.capnp_schema.specs.declared.record.FieldRecord.{FieldRecord}
use Rattle.capnp_schema.specs.declared.record.NodeRecord.{NodeRecord}
use Rattle.capnp_schema.specs.declared.record.AnnotationTypes.{AnnotationTypes as TypesRecord}
use Rattle.capnp_schema.specs.declared.record.BrandRecord.{BrandRecord}
use Rattle.capnp_schema.specs.declared.record.EnumerantRecord.{EnumerantRecord}
use Rattle.capnp_schema.specs.declared.record.EnumRecord.{EnumRecord}

-- A value: the integers by their bytes, with a sign and without. A struct, a list and an untyped pointer are the words of
-- one segment, whose first word is the root pointer.
pub data Value : Type 0 where
  VoidValue : Value
  BoolValue : Bool → Value
  IntValue : (bytes : ℕ) → ℤ → Value
  UIntValue : (bytes : ℕ) → ℕ → Value
  EnumValue : ℕ → Value
  TextValue : List ℕ → Value
  DataValue : List ℕ → Value
  StructValue : (words : List ℕ) → Value
  ListValue : (words : List ℕ) → Value
  AnyPointerValue : (words : List ℕ) → Value

pub record Annotation : Type 0 where
  pub id : ℕ
  pub value : Value

-- a slot at an offset, or a group with the number of its node
pub data FieldKind : Type 0 where
  Slot : (offset : ℕ) → (default : Value) → FieldKind
  Group : (node : ℕ) → FieldKind

pub record Field : Type 0 where
  pub name : List ℕ
  pub discriminant_value : ℕ
  pub annotations : List Annotation
  pub kind : FieldKind

-- a struct, or a group of one; the discriminant's offset counts 16 bits each
pub record Node : Type 0 where
  pub id : ℕ
  pub display_name : List ℕ
  pub annotations : List Annotation
  pub data_word_count : ℕ
  pub pointer_count : ℕ
  pub is_group : Bool
  pub discriminant_count : ℕ
  pub discriminant_offset : ℕ
  pub fields : List Field

-- the types of annotations: of those at the thing itself, and of those at each of its fields or enumerants
pub record AnnotationTypes : Type 0 where
  pub own : List SchemaType
  pub children : List (List SchemaType)

-- a node with the types of its fields
pub record Brand : Type 0 where
  pub node : ℕ
  pub field_types : List SchemaType
  pub annotation_types : AnnotationTypes

pub record Enumerant : Type 0 where
  pub name : List ℕ
  pub annotations : List Annotation

pub record Enum : Type 0 where
  pub id : ℕ
  pub display_name : List ℕ
  pub annotations : List Annotation
  pub enumerants : List Enumerant
  pub annotation_types : AnnotationTypes

-- the three lists
pub record Schemas : Type 0 where
  pub nodes : List Node
  pub brands : List Brand
  pub enums : List Enum

-- ---- what records of the code stand for ----

abbrev pub seen_value : ValueRecord → Value
seen_value value.Void = VoidValue
seen_value (value.Bool b) = BoolValue b
seen_value (value.Int8 x) = IntValue 1 x
seen_value (value.Int16 x) = IntValue 2 x
seen_value (value.Int32 x) = IntValue 4 x
seen_value (value.Int64 x) = IntValue 8 x
seen_value (value.UInt8 x) = UIntValue 1 x
seen_value (value.UInt16 x) = UIntValue 2 x
seen_value (value.UInt32 x) = UIntValue 4 x
seen_value (value.UInt64 x) = UIntValue 8 x
seen_value (value.Enum x) = EnumValue x
seen_value (value.Text bytes) = TextValue bytes.items
seen_value (value.«Data» bytes) = DataValue bytes.items
seen_value (value.Struct words) = StructValue words.items
seen_value (value.List words) = ListValue words.items
seen_value (value.AnyPointer words) = AnyPointerValue words.items

abbrev pub seen_annotation : AnnotationRecord → Annotation
seen_annotation a = record { id = a.id; value = seen_value a.value }

abbrev pub seen_annotations : List AnnotationRecord → List Annotation
seen_annotations xs = map seen_annotation xs

abbrev pub seen_kind : KindRecord → FieldKind
seen_kind (kind.Slot offset default) = Slot offset (seen_value default)
seen_kind (kind.Group node) = Group node

abbrev pub seen_field : FieldRecord → Field
seen_field f = record { name = string_bytes f.name; discriminant_value = f.discriminant_value; annotations = seen_annotations f.annotations.items; kind = seen_kind f.kind }

abbrev pub seen_node : NodeRecord → Node
seen_node n = record { id = n.id; display_name = string_bytes n.display_name; annotations = seen_annotations n.annotations.items; data_word_count = n.body.data_word_count; pointer_count = n.body.pointer_count; is_group = n.body.is_group; discriminant_count = n.body.discriminant_count; discriminant_offset = n.body.discriminant_offset; fields = map seen_field n.body.fields.items }

abbrev pub seen_types : TypesRecord → AnnotationTypes
seen_types ts = record { own = map seen_type ts.own.items; children = map (λ types. map seen_type types.items) ts.children.items }

abbrev pub seen_brand : BrandRecord → Brand
seen_brand b = record { node = b.node; field_types = map seen_type b.field_types.items; annotation_types = seen_types b.annotation_types }

abbrev pub seen_enumerant : EnumerantRecord → Enumerant
seen_enumerant e = record { name = string_bytes e.name; annotations = seen_annotations e.annotations.items }

abbrev pub seen_enum : EnumRecord → Enum
seen_enum e = record { id = e.id; display_name = string_bytes e.display_name; annotations = seen_annotations e.annotations.items; enumerants = map seen_enumerant e.enumerants.items; annotation_types = seen_types e.annotation_types }

abbrev pub seen_schemas : List NodeRecord → List BrandRecord → List EnumRecord → Schemas
seen_schemas nodes brands enums = record { nodes = map seen_node nodes; brands = map seen_brand brands; enums = map seen_enum enums }

-- ---- entries by their numbers; past the end, where no accepted set looks, stands an entry with nothing in it ----

abbrev pub no_types : AnnotationTypes
no_types = record { own = []; children = [] }

abbrev pub no_node : Node
no_node = record { id = 0; display_name = []; annotations = []; data_word_count = 0; pointer_count = 0; is_group = false; discriminant_count = 0; discriminant_offset = 0; fields = [] }

-- a brand of no node: its node's number is one past the last
abbrev pub no_brand : Schemas → Brand
no_brand set = record { node = length set.nodes; field_types = []; annotation_types = no_types }

abbrev pub no_enum : Enum
no_enum = record { id = 0; display_name = []; annotations = []; enumerants = []; annotation_types = no_types }

abbrev pub node_at : Schemas → ℕ → Node
node_at set n = unwrap_or (slice_get set.nodes n) no_node

abbrev pub brand_at : Schemas → ℕ → Brand
brand_at set b = unwrap_or (slice_get set.brands b) (no_brand set)

abbrev pub enum_at : Schemas → ℕ → Enum
enum_at set e = unwrap_or (slice_get set.enums e) no_enum

-- the node of a brand; past the end of the brands, that with nothing in it
abbrev pub node_of : Schemas → ℕ → Node
node_of set b = node_at set (brand_at set b).node

-- a field with its type in a brand
pub record TypedField : Type 0 where
  pub field : Field
  pub type : SchemaType

-- fields with their types, as many as there are of both
abbrev pub typed_fields : List Field → List SchemaType → List TypedField
typed_fields [] ts = []
typed_fields (f ∷ fs) [] = []
typed_fields (f ∷ fs) (t ∷ ts) = record { field = f; type = t } ∷ typed_fields fs ts

-- the fields of a brand
abbrev pub fields_of : Schemas → ℕ → List TypedField
fields_of set b = typed_fields (node_of set b).fields (brand_at set b).field_types

abbrev pub no_field : TypedField
no_field = record { field = record { name = []; discriminant_value = 65535; annotations = []; kind = Slot 0 VoidValue }; type = VoidType }

-- field i of brand b
abbrev pub field_at : Schemas → ℕ → ℕ → TypedField
field_at set b i = unwrap_or (slice_get (fields_of set b) i) no_field

-- a non-union field has the discriminant value 65,535; the others are members of the union
abbrev pub is_member : Field → Bool
is_member f = not (f.discriminant_value == 65535)

-- the default of a field's slot
abbrev pub kind_default : FieldKind → Value
kind_default (Slot offset default) = default
kind_default (Group node) = VoidValue

abbrev pub default_of : Field → Value
default_of f = kind_default f.kind

-- the brand that a group field of a struct type names
abbrev pub kind_target : FieldKind → SchemaType → Option ℕ
kind_target (Slot offset default) t = None
kind_target (Group node) t = struct_brand t
