-- The trees of the records of a set, as they are written.
use Rattle.std.specs.Prelude.{ℕ, suc, ◌+◌, ◌-◌, ◌*◌, List, [], ◌∷◌, ◌++◌, map, replicate, Bool, ◌==◌, cond, bit_xor}
use Rattle.capnp_wire.specs.Tree.{Tree, Null, Numbers, Pointers, Composite, Trees, NoTrees, MoreTrees, Structs, NoStructs, MoreStructs, StructTree}
use Rattle.capnp_wire.specs.Encoding.{spelled_number}
use Rattle.capnp_wire.specs.Place.{struct_tree}
use Rattle.capnp_base.specs.Text.{text_tree}
use Rattle.capnp_schema.specs.Schema.{Annotation, Brand, Enum, Enumerant, Field, FieldKind, Group, Node, Schemas, Slot, Value, VoidValue, BoolValue, IntValue, UIntValue, EnumValue, TextValue, DataValue, StructValue, ListValue, AnyPointerValue}
use Rattle.capnp_schema.specs.SlotValue.{bit_number, unsigned_number}
use Rattle.capnp_schema.specs.Types.{SchemaType, VoidType, BoolType, IntType, UIntType, EnumType, TextType, DataType, StructType, ListType, AnyPointerType}

-- trees, and structs, one after another
abbrev pub trees_of : List Tree → Trees
trees_of [] = NoTrees
trees_of (t ∷ ts) = MoreTrees t (trees_of ts)

abbrev pub structs_of : List StructTree → Structs
structs_of [] = NoStructs
structs_of (s ∷ ss) = MoreStructs s.bytes s.pointers (structs_of ss)

-- a struct of these bytes and pointers
abbrev pub made_struct : List ℕ → List Tree → StructTree
made_struct bytes pointers = record { bytes = bytes; pointers = trees_of pointers }

abbrev pub zeros : ℕ → List ℕ
zeros count = replicate count 0

-- a number of 1, 2, 4 or 8 bytes at the start of a word
abbrev pub in_word : (width number : ℕ) → List ℕ
in_word width number = spelled_number width number ++ zeros (8 - width)

-- a list of structs that have so many words and pointers each
abbrev pub struct_list_tree : (data_words pointers : ℕ) → List StructTree → Tree
struct_list_tree data_words pointers structs = Composite data_words pointers (structs_of structs)

-- ---- types ----

-- the place of a width among 1, 2, 4 and 8
abbrev pub width_place : ℕ → ℕ
width_place width = cond (width == 1) 0 (cond (width == 2) 1 (cond (width == 4) 2 3))

-- the number of what stands inside all lists of a type
abbrev pub base_number : SchemaType → ℕ
base_number VoidType = 0
base_number BoolType = 1
base_number (IntType bytes) = 2 + width_place bytes
base_number (UIntType bytes) = 6 + width_place bytes
base_number (EnumType number) = 15
base_number TextType = 12
base_number DataType = 13
base_number (StructType number generic) = 16
base_number (ListType element) = base_number element
base_number AnyPointerType = 18

-- the brand or enum that it names, 0 where it names none
abbrev pub named_number : SchemaType → ℕ
named_number VoidType = 0
named_number BoolType = 0
named_number (IntType bytes) = 0
named_number (UIntType bytes) = 0
named_number (EnumType number) = number
named_number TextType = 0
named_number DataType = 0
named_number (StructType number generic) = number
named_number (ListType element) = named_number element
named_number AnyPointerType = 0

-- the lists around it
abbrev pub list_count : SchemaType → ℕ
list_count VoidType = 0
list_count BoolType = 0
list_count (IntType bytes) = 0
list_count (UIntType bytes) = 0
list_count (EnumType number) = 0
list_count TextType = 0
list_count DataType = 0
list_count (StructType number generic) = 0
list_count (ListType element) = suc (list_count element)
list_count AnyPointerType = 0

abbrev pub type_row : (base lists number : ℕ) → StructTree
type_row base lists number = made_struct (spelled_number 2 base ++ (spelled_number 2 lists ++ spelled_number 4 number)) []

abbrev pub type_tree : SchemaType → StructTree
type_tree t = type_row (base_number t) (list_count t) (named_number t)

abbrev pub types_tree : List SchemaType → Tree
types_tree ts = struct_list_tree 1 0 (map type_tree ts)

abbrev pub type_lists_tree : List (List SchemaType) → Tree
type_lists_tree rows = Pointers (trees_of (map types_tree rows))

-- ---- values ----

-- a value of a kind, with its number and its pointer
abbrev pub value_row : (kind : ℕ) → (word : List ℕ) → Tree → StructTree
value_row kind word pointer = made_struct (in_word 2 kind ++ word) (pointer ∷ [])

abbrev pub value_tree : Value → StructTree
value_tree VoidValue = value_row 0 (zeros 8) Null
value_tree (BoolValue b) = value_row 1 (in_word 1 (bit_number b)) Null
value_tree (IntValue width x) = value_row (2 + width_place width) (in_word width (unsigned_number (8 * width) x)) Null
value_tree (UIntValue width x) = value_row (6 + width_place width) (in_word width x) Null
value_tree (EnumValue x) = value_row 10 (in_word 2 x) Null
value_tree (TextValue bytes) = value_row 11 (zeros 8) (text_tree bytes)
value_tree (DataValue bytes) = value_row 12 (zeros 8) (Numbers 1 bytes)
value_tree (StructValue words) = value_row 13 (zeros 8) (Numbers 1 words)
value_tree (ListValue words) = value_row 14 (zeros 8) (Numbers 1 words)
value_tree (AnyPointerValue words) = value_row 14 (zeros 8) (Numbers 1 [])

abbrev pub annotation_tree : Annotation → StructTree
annotation_tree a = made_struct (spelled_number 8 a.id) (struct_tree (value_tree a.value) ∷ [])

abbrev pub annotations_tree : List Annotation → Tree
annotations_tree annotations = struct_list_tree 1 1 (map annotation_tree annotations)

-- ---- nodes ----

-- a field: a slot's offset and default, or a group's node; the group has no default. The discriminant value is stored with
-- its default, 65,535
abbrev pub field_row : Field → (kind number : ℕ) → Tree → StructTree
field_row f kind number default = made_struct (spelled_number 2 (bit_xor f.discriminant_value 65535) ++ (spelled_number 2 kind ++ spelled_number 4 number)) (text_tree f.name ∷ annotations_tree f.annotations ∷ default ∷ [])

abbrev pub field_kind_tree : Field → FieldKind → StructTree
field_kind_tree f (Slot offset default) = field_row f 0 offset (struct_tree (value_tree default))
field_kind_tree f (Group node) = field_row f 1 node Null

abbrev pub field_tree : Field → StructTree
field_tree f = field_kind_tree f f.kind

abbrev pub fields_tree : List Field → Tree
fields_tree fields = struct_list_tree 1 3 (map field_tree fields)

-- the numbers of a node; the bit of a group stands in a byte of its own
abbrev pub node_row : (id data_words pointers count : ℕ) (is_group : Bool) (offset : ℕ) → List ℕ
node_row id data_words pointers count is_group offset =
    spelled_number 8 id ++ (spelled_number 2 data_words ++ (spelled_number 2 pointers ++ (spelled_number 2 count ++ (spelled_number 1 (bit_number is_group) ++ (zeros 1 ++ in_word 4 offset)))))

abbrev pub node_tree : Node → StructTree
node_tree n =
    made_struct (node_row n.id n.data_word_count n.pointer_count n.discriminant_count n.is_group n.discriminant_offset)
    (text_tree n.display_name ∷ annotations_tree n.annotations ∷ fields_tree n.fields ∷ [])

abbrev pub nodes_tree : List Node → Tree
nodes_tree nodes = struct_list_tree 3 3 (map node_tree nodes)

-- ---- brands and enums ----

abbrev pub brand_tree : Brand → StructTree
brand_tree b = made_struct (in_word 4 b.node) (types_tree b.field_types ∷ types_tree b.annotation_types.own ∷ type_lists_tree b.annotation_types.children ∷ [])

abbrev pub brands_tree : List Brand → Tree
brands_tree brands = struct_list_tree 1 3 (map brand_tree brands)

abbrev pub enumerant_tree : Enumerant → StructTree
enumerant_tree e = made_struct [] (text_tree e.name ∷ annotations_tree e.annotations ∷ [])

abbrev pub enumerants_tree : List Enumerant → Tree
enumerants_tree enumerants = struct_list_tree 0 2 (map enumerant_tree enumerants)

abbrev pub enum_pointers : Enum → List Tree
enum_pointers e =
    text_tree e.display_name
    ∷ annotations_tree e.annotations
    ∷ enumerants_tree e.enumerants
    ∷ types_tree e.annotation_types.own
    ∷ type_lists_tree e.annotation_types.children
    ∷ []

abbrev pub enum_tree : Enum → StructTree
enum_tree e = made_struct (spelled_number 8 e.id) (enum_pointers e)

abbrev pub enums_tree : List Enum → Tree
enums_tree enums = struct_list_tree 1 5 (map enum_tree enums)

-- ---- the set ----

abbrev pub set_tree : Schemas → StructTree
set_tree s = made_struct [] (nodes_tree s.nodes ∷ brands_tree s.brands ∷ enums_tree s.enums ∷ [])
