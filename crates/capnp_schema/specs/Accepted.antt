-- The twelve rules of a schema set.
use Rattle.std.specs.Prelude.{ℕ, zero, suc, ◌+◌, ◌-◌, ◌*◌, ◌%◌, ◌<◌, ◌≤◌, ◌≡◌, ◌≢◌, ⊤, List, [], ◌∷◌, true, IsTrue, IsFalse, All, Contains, length, map, slice_get, Some, None, IsOk}
use Rattle.capnp_wire.specs.Locate.{words_past_format}
use Rattle.capnp_wire.specs.Tree as tree
use Rattle.capnp_wire.specs.Tree.{Tree}
use Rattle.capnp_wire.specs.Place.{root_tree}
use Rattle.capnp_wire.specs.Reading.{as_list}
use Rattle.capnp_wire.specs.Words.{first_fault}
use Rattle.capnp_schema.specs.Types.{SchemaType, VoidType, BoolType, IntType, UIntType, EnumType, TextType, DataType, StructType, ListType, AnyPointerType, is_pointer, struct_brand, width, element_size}
use Rattle.capnp_schema.specs.Schema.{Schemas, Node, Brand, Enum, Enumerant, Field, Annotation, AnnotationTypes, FieldKind, Slot, Group, Value, VoidValue, BoolValue, IntValue, UIntValue, EnumValue, TextValue, DataValue, StructValue, ListValue, AnyPointerValue, TypedField, brand_at, node_of, fields_of, field_at, is_member, default_of}
use Rattle.capnp_schema.specs.Footprint.{Spot, footprint, discriminant_names}

-- P of each field of each brand
abbrev pub EachField : Schemas → (ℕ → ℕ → TypedField → Type 0) → Type 0
EachField set P = (b i : ℕ) → b < length set.brands → i < length (fields_of set b) → P b i (field_at set b i)

abbrev pub IsGroupBrand : Schemas → ℕ → Type 0
IsGroupBrand set b = IsTrue (node_of set b).is_group

-- P of each list of annotations of a node, and of an enum
abbrev pub EachOfNode : (List Annotation → Type 0) → Node → Type 0
EachOfNode P n = P n.annotations × All (λ (f : Field). P f.annotations) n.fields

abbrev pub EachOfEnum : (List Annotation → Type 0) → Enum → Type 0
EachOfEnum P e = P e.annotations × All (λ (x : Enumerant). P x.annotations) e.enumerants

-- ---- rule 1: every type names an existing entry of the right kind; a struct type's generic is its brand's node ----

abbrev pub NamesEntries : Schemas → SchemaType → Type 0
NamesEntries set VoidType = ⊤
NamesEntries set BoolType = ⊤
NamesEntries set (IntType bytes) = ⊤
NamesEntries set (UIntType bytes) = ⊤
NamesEntries set (EnumType number) = number < length set.enums
NamesEntries set TextType = ⊤
NamesEntries set DataType = ⊤
NamesEntries set (StructType number generic) = (number < length set.brands) × ((brand_at set number).node ≡ generic)
NamesEntries set (ListType element) = NamesEntries set element
NamesEntries set AnyPointerType = ⊤

-- the type of a field does, and the type of each
abbrev pub HasNamedType : Schemas → TypedField → Type 0
HasNamedType set f = NamesEntries set f.type

abbrev pub FieldsName : Schemas → Type 0
FieldsName set = EachField set (λ b i f. HasNamedType set f)

-- the types of annotations do
abbrev pub AllName : Schemas → List SchemaType → Type 0
AllName set types = All (NamesEntries set) types

abbrev pub TypesName : Schemas → AnnotationTypes → Type 0
TypesName set types = AllName set types.own × All (AllName set) types.children

-- the types of the annotations of each brand and each enum do
abbrev pub BrandTypesName : Schemas → Type 0
BrandTypesName set = All (λ (b : Brand). TypesName set b.annotation_types) set.brands

abbrev pub EnumTypesName : Schemas → Type 0
EnumTypesName set = All (λ (e : Enum). TypesName set e.annotation_types) set.enums

pub record Rule1 (set : Schemas) : Type 0 where
  pub fields : FieldsName set
  pub brands : BrandTypesName set
  pub enums : EnumTypesName set

-- ---- rule 2: each brand names a node; brands and enums have one type for each field, each annotation of their own and
-- each annotation of a field or enumerant ----

-- one type for each annotation
abbrev pub HasTypes : List Annotation → List (List Annotation) → AnnotationTypes → Type 0
HasTypes own children types = (length types.own ≡ length own) × (map length types.children ≡ map length children)

abbrev pub BrandHasTypes : Node → Brand → Type 0
BrandHasTypes n b = (length b.field_types ≡ length n.fields) × HasTypes n.annotations (map (λ (f : Field). f.annotations) n.fields) b.annotation_types

abbrev pub EnumHasTypes : Enum → Type 0
EnumHasTypes e = HasTypes e.annotations (map (λ (x : Enumerant). x.annotations) e.enumerants) e.annotation_types

abbrev pub NamesNode : Schemas → Brand → Type 0
NamesNode set b = b.node < length set.nodes

pub record BrandStands (set : Schemas) (b : ℕ) : Type 0 where
  pub node : NamesNode set (brand_at set b)
  pub types : BrandHasTypes (node_of set b) (brand_at set b)

abbrev pub BrandsStand : Schemas → Type 0
BrandsStand set = (b : ℕ) → b < length set.brands → BrandStands set b

pub record Rule2 (set : Schemas) : Type 0 where
  pub brands : BrandsStand set
  pub enums : All EnumHasTypes set.enums

-- ---- rule 3: field names in a struct are distinct; at most 65,535 fields or enumerants, and 2^29 - 1 annotations at one
-- place ----

-- fields or enumerants
abbrev pub AreFew : {A : Type 0} → List A → Type 0
AreFew entries = length entries ≤ 65535

abbrev pub HasFewAnnotations : List Annotation → Type 0
HasFewAnnotations annotations = length annotations < words_past_format

-- no other field has the name of field i
abbrev pub HasOwnName : List Field → ℕ → Type 0
HasOwnName fields i = (j : ℕ) (f g : Field) → slice_get fields i ≡ Some f → slice_get fields j ≡ Some g → f.name ≡ g.name → i ≡ j

pub record HasFewFields (n : Node) : Type 0 where
  pub fields : AreFew n.fields
  pub annotations : EachOfNode HasFewAnnotations n

pub record HasFewEnumerants (e : Enum) : Type 0 where
  pub enumerants : AreFew e.enumerants
  pub annotations : EachOfEnum HasFewAnnotations e

pub record HasSmallCounts (set : Schemas) : Type 0 where
  pub nodes : All HasFewFields set.nodes
  pub enums : All HasFewEnumerants set.enums

pub record Rule3 (set : Schemas) : Type 0 where
  pub names : All (λ (n : Node). (i : ℕ) → HasOwnName n.fields i) set.nodes
  pub counts : HasSmallCounts set

-- ---- rule 4: each slot lies inside the data section or the pointer section ----

abbrev pub LiesInside : Node → FieldKind → SchemaType → Type 0
LiesInside n (Slot offset default) t = ((offset + 1) * width t ≤ 64 * n.data_word_count) × (is_pointer t ≡ true → offset < n.pointer_count)
LiesInside n (Group node) t = ⊤

abbrev pub SlotLiesInside : Node → TypedField → Type 0
SlotLiesInside n f = LiesInside n f.field.kind f.type

abbrev pub Rule4 : Schemas → Type 0
Rule4 set = EachField set (λ b i f. SlotLiesInside (node_of set b) f)

-- ---- rule 5: a default's kind is its type's, or it is an untyped pointer for a pointer type ----

abbrev pub IsDefaultOf : Value → SchemaType → Type 0
IsDefaultOf VoidValue VoidType = ⊤
IsDefaultOf (BoolValue x) BoolType = ⊤
IsDefaultOf (IntValue bytes x) (IntType width) = bytes ≡ width
IsDefaultOf (UIntValue bytes x) (UIntType width) = bytes ≡ width
IsDefaultOf (EnumValue x) (EnumType number) = ⊤
IsDefaultOf (TextValue x) TextType = ⊤
IsDefaultOf (DataValue x) DataType = ⊤
IsDefaultOf (StructValue words) (StructType number generic) = ⊤
IsDefaultOf (ListValue words) (ListType element) = ⊤
IsDefaultOf (AnyPointerValue words) t = is_pointer t ≡ true
IsDefaultOf value t = ⊥

abbrev pub KindDefault : (Value → SchemaType → Type 0) → FieldKind → SchemaType → Type 0
KindDefault P (Slot offset default) t = P default t
KindDefault P (Group node) t = ⊤

abbrev pub DefaultIsOfType : TypedField → Type 0
DefaultIsOfType f = KindDefault IsDefaultOf f.field.kind f.type

abbrev pub Rule5 : Schemas → Type 0
Rule5 set = EachField set (λ b i f. DefaultIsOfType f)

-- ---- rule 6: the words of every value are one or more whole words; a struct, list or untyped default decodes without a
-- fault leaf; an untyped one is null; a struct or list one is null or a struct or list, the list of an element size that
-- its type reads; a text default has at most 2^29 - 2 bytes, a data default at most 2^29 - 1 ----

-- the tree of a value's words
abbrev pub words_root : List ℕ → Tree
words_root words = root_tree (words ∷ [])

abbrev pub AreWords : List ℕ → Type 0
AreWords bytes = (0 < length bytes) × (length bytes % 8 ≡ 0)

abbrev pub HasWords : Value → Type 0
HasWords (StructValue words) = AreWords words
HasWords (ListValue words) = AreWords words
HasWords (AnyPointerValue words) = AreWords words
HasWords value = ⊤

abbrev pub HaveWords : List Annotation → Type 0
HaveWords annotations = All (λ (a : Annotation). HasWords a.value) annotations

abbrev pub IsStructOrNull : Tree → Type 0
IsStructOrNull tree.Null = ⊤
IsStructOrNull (tree.Struct bytes pointers) = ⊤
IsStructOrNull t = ⊥

abbrev pub IsListOrNull : Tree → Type 0
IsListOrNull tree.Null = ⊤
IsListOrNull (tree.Voids count) = ⊤
IsListOrNull (tree.Bits bits) = ⊤
IsListOrNull (tree.Numbers width bytes) = ⊤
IsListOrNull (tree.Pointers pointers) = ⊤
IsListOrNull (tree.Composite data_words pointer_count elements) = ⊤
IsListOrNull t = ⊥

-- a default by its own kind, whatever its type
abbrev pub Decodes : Value → Type 0
Decodes (StructValue words) = (first_fault (words_root words) ≡ None) × IsStructOrNull (words_root words)
Decodes (ListValue words) = (first_fault (words_root words) ≡ None) × IsListOrNull (words_root words)
Decodes (AnyPointerValue words) = words_root words ≡ tree.Null
Decodes (TextValue bytes) = length bytes ≤ words_past_format - 2
Decodes (DataValue bytes) = length bytes ≤ words_past_format - 1
Decodes value = ⊤

-- a tree is read as a list of such elements
abbrev pub ReadsElements : SchemaType → Tree → Type 0
ReadsElements element t = IsOk (as_list (element_size element) t 1)

-- a list default is read as its type's elements
abbrev pub ListReads : Value → SchemaType → Type 0
ListReads (ListValue words) (ListType element) = ReadsElements element (words_root words)
ListReads value t = ⊤

abbrev pub ReadsDefault : TypedField → Type 0
ReadsDefault f = KindDefault ListReads f.field.kind f.type

-- a field's default has whole words and decodes
abbrev pub DefaultStands : Field → Type 0
DefaultStands f = HasWords (default_of f) × Decodes (default_of f)

pub record NodeHasWords (n : Node) : Type 0 where
  pub defaults : All DefaultStands n.fields
  pub annotations : EachOfNode HaveWords n

pub record HaveAllWords (set : Schemas) : Type 0 where
  pub nodes : All NodeHasWords set.nodes
  pub enums : All (EachOfEnum HaveWords) set.enums

abbrev pub ListDefaultsRead : Schemas → Type 0
ListDefaultsRead set = EachField set (λ b i f. ReadsDefault f)

pub record Rule6 (set : Schemas) : Type 0 where
  pub values : HaveAllWords set
  pub lists : ListDefaultsRead set

-- ---- rule 7: a group field's type is a struct type whose node is the field's group node and is marked as a group; the
-- type of a slot, and what its lists hold, never names a group ----

abbrev pub NamesNoGroup : Schemas → SchemaType → Type 0
NamesNoGroup set VoidType = ⊤
NamesNoGroup set BoolType = ⊤
NamesNoGroup set (IntType bytes) = ⊤
NamesNoGroup set (UIntType bytes) = ⊤
NamesNoGroup set (EnumType number) = ⊤
NamesNoGroup set TextType = ⊤
NamesNoGroup set DataType = ⊤
NamesNoGroup set (StructType number generic) = IsFalse (node_of set number).is_group
NamesNoGroup set (ListType element) = NamesNoGroup set element
NamesNoGroup set AnyPointerType = ⊤

abbrev pub GroupFits : Schemas → FieldKind → SchemaType → Type 0
GroupFits set (Slot offset default) t = NamesNoGroup set t
GroupFits set (Group node) (StructType number generic) = ((brand_at set number).node ≡ node) × IsGroupBrand set number
GroupFits set (Group node) t = ⊥

abbrev pub NamesOwnGroup : Schemas → TypedField → Type 0
NamesOwnGroup set f = GroupFits set f.field.kind f.type

abbrev pub Rule7 : Schemas → Type 0
Rule7 set = EachField set (λ b i f. NamesOwnGroup set f)

-- ---- rule 8: a group brand is named by exactly one group field, has its parent's section sizes, and its chain of parents
-- ends at a struct that is no group ----

-- a field of this kind and type is the group field of group brand g: its type is that brand's struct type
abbrev pub IsGroupOf : FieldKind → SchemaType → ℕ → Type 0
IsGroupOf (Slot offset default) t g = ⊥
IsGroupOf (Group node) t g = struct_brand t ≡ Some g

-- field i of brand b is
pub record IsParent (set : Schemas) (g b i : ℕ) : Type 0 where
  pub brand : b < length set.brands
  pub field : i < length (fields_of set b)
  pub names : IsGroupOf (field_at set b i).field.kind (field_at set b i).type g

-- so many steps to a parent lead from a brand to one that is no group
abbrev pub EndsAtStruct : ℕ → Schemas → ℕ → Type 0
EndsAtStruct zero set b = IsFalse (node_of set b).is_group
EndsAtStruct (suc steps) set b = IsTrue (node_of set b).is_group × ((p i : ℕ) × IsParent set b p i × EndsAtStruct steps set p)

-- two brands have sections of the same sizes
abbrev pub HaveSameSizes : Schemas → (a b : ℕ) → Type 0
HaveSameSizes set a b = ((node_of set a).data_word_count ≡ (node_of set b).data_word_count) × ((node_of set a).pointer_count ≡ (node_of set b).pointer_count)

pub record HasOneParent (set : Schemas) (g : ℕ) : Type 0 where
  pub parent : ℕ
  pub index : ℕ
  pub is_parent : IsParent set g parent index
  pub only : (b i : ℕ) → IsParent set g b i → (b ≡ parent) × (i ≡ index)
  pub sizes : HaveSameSizes set g parent

-- the chain is followed for at most as many steps as there are brands
abbrev pub StandsInStruct : Schemas → ℕ → Type 0
StandsInStruct set g = (steps : ℕ) × (steps ≤ length set.brands) × EndsAtStruct steps set g

abbrev pub GroupStands : Schemas → ℕ → Type 0
GroupStands set g = IsGroupBrand set g → HasOneParent set g × StandsInStruct set g

abbrev pub Rule8 : Schemas → Type 0
Rule8 set = (g : ℕ) → g < length set.brands → GroupStands set g

-- ---- rule 9: the members' discriminant values are 0 to the discriminant count - 1, each once ----

-- the members have discriminant values below a count, and no two have one
pub record AreApartBelow (fields : List Field) (count : ℕ) : Type 0 where
  pub below : (k : ℕ) (f : Field) → slice_get fields k ≡ Some f → IsTrue (is_member f) → f.discriminant_value < count
  pub once : (i j : ℕ) (f g : Field) → slice_get fields i ≡ Some f → slice_get fields j ≡ Some g → IsTrue (is_member f) → f.discriminant_value ≡ g.discriminant_value → i ≡ j

pub record HasEachMember (n : Node) : Type 0 where
  pub apart : AreApartBelow n.fields n.discriminant_count
  pub some : (d : ℕ) → d < n.discriminant_count → Contains (map (λ (f : Field). f.discriminant_value) n.fields) d

abbrev pub Rule9 : Schemas → Type 0
Rule9 set = All HasEachMember set.nodes

-- ---- rule 10: where the count isn't 0 the discriminant lies inside the data section ----

abbrev pub DiscriminantFits : Node → Type 0
DiscriminantFits n = 0 < n.discriminant_count → 16 * (n.discriminant_offset + 1) ≤ 64 * n.data_word_count

abbrev pub Rule10 : Schemas → Type 0
Rule10 set = All DiscriminantFits set.nodes

-- ---- rule 11: a non-union field's footprint meets that of no other field of its struct ----

abbrev pub FieldsApart : Schemas → ℕ → ℕ → TypedField → Type 0
FieldsApart set b i f = (j : ℕ) (p : Spot) → j < length (fields_of set b) → i ≢ j → IsFalse (is_member f.field) → IsTrue (footprint set f p) → IsFalse (footprint set (field_at set b j) p)

abbrev pub Rule11 : Schemas → Type 0
Rule11 set = EachField set (λ b i f. FieldsApart set b i f)

-- ---- rule 12: where the count isn't 0 the discriminant's bits meet no field's footprint of its struct ----

abbrev pub DiscriminantApart : Schemas → ℕ → TypedField → Type 0
DiscriminantApart set b f = (p : Spot) → IsTrue (discriminant_names (node_of set b) p) → IsFalse (footprint set f p)

abbrev pub Rule12 : Schemas → Type 0
Rule12 set = EachField set (λ b i f. DiscriminantApart set b f)

-- a set that the check accepts
pub record IsAccepted (set : Schemas) : Type 0 where
  pub rule1 : Rule1 set
  pub rule2 : Rule2 set
  pub rule3 : Rule3 set
  pub rule4 : Rule4 set
  pub rule5 : Rule5 set
  pub rule6 : Rule6 set
  pub rule7 : Rule7 set
  pub rule8 : Rule8 set
  pub rule9 : Rule9 set
  pub rule10 : Rule10 set
  pub rule11 : Rule11 set
  pub rule12 : Rule12 set
