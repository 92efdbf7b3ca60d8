-- What the check of compatible schemas goes over: steps of the code.
use Rattle.std.specs.Prelude.{ℕ, ◌<◌, ◌≤◌, ◌≡◌, List, [], ◌∷◌, Bool, true, false, ◌&&◌, nat_lt, IsTrue, Option, Some, None, length, slice_get}
use Rattle.capnp_schema.specs.Types.{SchemaType, StructType, ListType}
use Rattle.capnp_schema.specs.Schema.{Schemas, Node, Value, VoidValue, BoolValue, IntValue, UIntValue, EnumValue, TextValue, DataValue, StructValue, ListValue, AnyPointerValue, field_at}
use Rattle.capnp_records.specs.Compatible.{Pairs, SharedField, SharedStruct, type_in_place}
use Rattle.capnp_compatible.specs.declared.pairs.Pair.{Pair}
use Rattle.capnp_compatible.specs.Closing.{listed_pairs}

-- the set of all pairs
abbrev pub all_pairs : Pairs
all_pairs a b = true

-- the pairs of brands of a set
abbrev pub brand_pairs : Schemas → Pairs
brand_pairs set a b = nat_lt a (length set.brands) && nat_lt b (length set.brands)

-- the types inside the lists that both are, where in a struct's place its field 0 stands for an element that became it
abbrev pub inside_lists : Bool → Schemas → SchemaType → SchemaType → SchemaType × SchemaType
inside_lists lists set (ListType s) (ListType t) = inside_lists lists set s (type_in_place lists set s t)
inside_lists lists set s t = (s, t)

-- the pair of structs that two types name, inside lists of the same depth
abbrev pub named_pair : Bool → Schemas → SchemaType → SchemaType → Option Pair
named_pair lists set (ListType s) (ListType t) = named_pair lists set s (type_in_place lists set s t)
named_pair lists set (StructType a g) (StructType b h) = Some (record { older = a; newer = b })
named_pair lists set s t = None

-- each pair of a set is related by it
abbrev pub IsClosed : Bool → Schemas → Pairs → Type 0
IsClosed lists set pairs = (a b : ℕ) → IsTrue (pairs a b) → SharedStruct lists set pairs a b

abbrev pub Holds : Pairs → Option Pair → Type 0
Holds pairs None = Unit {0}
Holds pairs (Some p) = IsTrue (pairs p.older p.newer)

-- the pairs that the first so many fields of two structs name are among these
abbrev pub HoldsNamed : Bool → Schemas → Pairs → ℕ → ℕ → ℕ → Type 0
HoldsNamed lists set pairs a b count = (i : ℕ) → i < count → Holds pairs (named_pair lists set (field_at set a i).type (field_at set b i).type)

abbrev pub Within : Pairs → Pairs → Type 0
Within xs ys = (a b : ℕ) → IsTrue (xs a b) → IsTrue (ys a b)

-- the list goes on as the other does
abbrev pub Begins : List Pair → List Pair → Type 0
Begins xs ys = (length xs ≤ length ys) × ((k : ℕ) → k < length xs → slice_get ys k ≡ slice_get xs k)

-- what adding pairs does: the old ones stay, and whatever set holds them and the new ones holds all
abbrev pub Adds : List Pair → List Pair → (Pairs → Type 0) → Type 0
Adds old new New = (pairs : Pairs) → Within (listed_pairs old) pairs → New pairs → Within (listed_pairs new) pairs

-- which tree a value has: none, that of a struct, a list or an untyped pointer
abbrev pub tree_kind : Value → ℕ
tree_kind VoidValue = 0
tree_kind (BoolValue x) = 0
tree_kind (IntValue bytes x) = 0
tree_kind (UIntValue bytes x) = 0
tree_kind (EnumValue x) = 0
tree_kind (TextValue bytes) = 0
tree_kind (DataValue bytes) = 0
tree_kind (StructValue words) = 1
tree_kind (ListValue words) = 2
tree_kind (AnyPointerValue words) = 3

-- its words
abbrev pub value_words : Value → List ℕ
value_words VoidValue = []
value_words (BoolValue x) = []
value_words (IntValue bytes x) = []
value_words (UIntValue bytes x) = []
value_words (EnumValue x) = []
value_words (TextValue bytes) = []
value_words (DataValue bytes) = []
value_words (StructValue words) = words
value_words (ListValue words) = words
value_words (AnyPointerValue words) = words

-- where the older has a union, the newer has it, with at least as many members
abbrev pub UnionGrows : Node → Node → Type 0
UnionGrows n m = 0 < n.discriminant_count → (n.discriminant_offset ≡ m.discriminant_offset) × (n.discriminant_count ≤ m.discriminant_count)

-- the first so many fields of two structs are shared
abbrev pub FieldsShared : Bool → Schemas → Pairs → ℕ → ℕ → ℕ → Type 0
FieldsShared lists set pairs a b count = (i : ℕ) → i < count → SharedField lists set pairs (field_at set a i) (field_at set b i)

-- pairs that stand in each closed set that holds the given one
abbrev pub AreForced : Bool → Schemas → ℕ → ℕ → Pairs → Type 0
AreForced lists set older newer xs = (pairs : Pairs) → IsTrue (pairs older newer) → IsClosed lists set pairs → Within xs pairs

-- no pair stands twice
abbrev pub Apart : List Pair → Type 0
Apart [] = Unit {0}
Apart (p ∷ ps) = (listed_pairs ps p.older p.newer ≡ false) × Apart ps
