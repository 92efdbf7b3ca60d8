-- Why a struct schema is no compatible successor of another: which pairs of structs are compared, and what differs in one.
use Rattle.std.specs.Prelude.{ℕ, ◌+◌, ◌*◌, ◌<◌, ◌≤◌, ◌≡◌, ◌⊎◌, ◌↔◌, ◌==◌, nat_le, ⊤, Bool, true, false, IsTrue, Contains, List, Option, Some, None, length, slice_get}
use Rattle.capnp_schema.specs.Types.{SchemaType, VoidType, BoolType, IntType, UIntType, EnumType, TextType, DataType, StructType, ListType, AnyPointerType}
use Rattle.capnp_schema.specs.Schema.{Schemas, Node, Field, FieldKind, Slot, Group, TypedField, enum_at, field_at, fields_of, is_member, node_of}
use Rattle.capnp_records.specs.Compatible.{IsCompatibleOrUpgraded, SameDefault, type_in_place}
use Rattle.capnp_differences.specs.declared.differences.Cause.{Cause}
use Rattle.capnp_differences.specs.declared.differences.Cause.TheVariants as cause
use Rattle.capnp_differences.specs.declared.differences.Difference.{Difference}
use Rattle.capnp_differences.specs.declared.differences.Pair.{Pair}

-- ---- which structs are compared ----

-- the pair of structs that two types name, inside lists of the same depth; of a struct that stands where an element of a list
-- stood, its field 0 goes on
abbrev pub struct_pair : Schemas → SchemaType → SchemaType → Option Pair
struct_pair set (ListType s) (ListType t) = struct_pair set s (type_in_place true set s t)
struct_pair set (StructType a g) (StructType b h) = Some (record { older = a; newer = b })
struct_pair set s t = None

-- the given pair, and each that two fields of one index name, of a pair that is compared
pub data IsCompared (set : Schemas) (older newer : ℕ) : ℕ → ℕ → Type 0 where
  Given : IsCompared set older newer older newer
  Named : (a b i c d : ℕ) → IsCompared set older newer a b → i < length (fields_of set a) → i < length (fields_of set b)
      → struct_pair set (field_at set a i).type (field_at set b i).type ≡ Some (record { older = c; newer = d })
      → IsCompared set older newer c d

-- ---- a field that both structs have ----

-- nothing where something is still the same
abbrev pub unless : (same : Bool) → Cause → Option Cause
unless true c = None
unless false c = Some c

-- a slot became a group, or a group a slot; or a slot stands at another offset
abbrev pub kind_change : FieldKind → FieldKind → Option Cause
kind_change (Slot offset c) (Slot offset' d) = unless (offset == offset') cause.PlaceChanged
kind_change (Group m) (Group n) = None
kind_change j k = Some cause.KindChanged

-- slots have the same default; groups have none
abbrev pub SameDefaults : FieldKind → FieldKind → Type 0
SameDefaults (Slot offset c) (Slot offset' d) = SameDefault c d
SameDefaults j k = ⊤

-- by whether a field was a member of the union, whether it is one, and whether its discriminant value is the same
abbrev pub membership_change : (was now same : Bool) → Option Cause
membership_change true true same = unless same cause.DiscriminantChanged
membership_change true false same = Some cause.LeftUnion
membership_change false true same = Some cause.EnteredUnion
membership_change false false same = None

abbrev pub member_change : Field → Field → Option Cause
member_change f g = membership_change (is_member f) (is_member g) (f.discriminant_value == g.discriminant_value)

-- A type is another, or an enum has fewer enumerants. Inside lists that both are it is told apart where elements that were no
-- structs are structs now: `became` is what is said then. Where they are that by the rule, the type of field 0 is compared.
-- Of two structs nothing is said here: they are a pair of their own.
abbrev pub type_change : (became : Cause) → Schemas → SchemaType → SchemaType → Option Cause
type_change became set VoidType VoidType = None
type_change became set BoolType BoolType = None
type_change became set (IntType m) (IntType n) = unless (m == n) cause.TypeChanged
type_change became set (UIntType m) (UIntType n) = unless (m == n) cause.TypeChanged
type_change became set TextType TextType = None
type_change became set DataType DataType = None
type_change became set AnyPointerType AnyPointerType = None
type_change became set (EnumType d) (EnumType e) = unless (nat_le (length (enum_at set d).enumerants) (length (enum_at set e).enumerants)) cause.FewerEnumerants
type_change became set (ListType s) (ListType t) = type_change cause.ElementsBecameStructs set s (type_in_place true set s t)
type_change became set (StructType a g) (StructType b h) = None
type_change became set s (StructType b h) = Some became
type_change became set s t = Some cause.TypeChanged

-- what differs in a field that both have: its kind or place; its default, unless it is of another type; its membership in
-- the union; or its type
abbrev pub FieldsDiffer : Schemas → (older newer : TypedField) → Cause → Type 0
FieldsDiffer set f g c =
    (kind_change f.field.kind g.field.kind ≡ Some c)
    ⊎ (((c ≡ cause.DefaultChanged) × (SameDefaults f.field.kind g.field.kind → ⊥) × (type_change cause.TypeChanged set f.type g.type ≡ Some cause.TypeChanged → ⊥))
    ⊎ ((member_change f.field g.field ≡ Some c) ⊎ (type_change cause.TypeChanged set f.type g.type ≡ Some c)))

-- ---- a pair of structs ----

-- a field of the older struct is gone, or it is there and differs
abbrev pub FieldDiffers : Schemas → (older newer index : ℕ) → Cause → Type 0
FieldDiffers set a b i c =
    ((length (fields_of set b) ≤ i) × (c ≡ cause.FieldGone))
    ⊎ ((i < length (fields_of set b)) × FieldsDiffer set (field_at set a i) (field_at set b i) c)

-- by whether a union has as many members, and whether it has none
abbrev pub members_lost : (enough none : Bool) → Option Cause
members_lost true none = None
members_lost false true = Some cause.UnionGone
members_lost false false = Some cause.FewerMembers

-- by whether there was no union, whether there is none, and whether its place is the same
abbrev pub union_moved : (had_none has_none same : Bool) → Option Cause
union_moved false false same = unless same cause.UnionMoved
union_moved had_none has_none same = None

abbrev pub members_change : Node → Node → Option Cause
members_change n m = members_lost (nat_le n.discriminant_count m.discriminant_count) (m.discriminant_count == 0)

abbrev pub place_change : Node → Node → Option Cause
place_change n m = union_moved (n.discriminant_count == 0) (m.discriminant_count == 0) (n.discriminant_offset == m.discriminant_offset)

-- what differs in the union: its members, or where it stands
abbrev pub UnionDiffers : (older newer : Node) → Cause → Type 0
UnionDiffers n m c = (members_change n m ≡ Some c) ⊎ (place_change n m ≡ Some c)

-- what differs in a pair: in a field of the older struct, or in the union
abbrev pub DiffersAt : Schemas → Pair → (field : Option ℕ) → Cause → Type 0
DiffersAt set p None c = UnionDiffers (node_of set p.older) (node_of set p.newer) c
DiffersAt set p (Some i) c = (i < length (fields_of set p.older)) × FieldDiffers set p.older p.newer i c

-- ---- what is told ----

-- a difference is there
abbrev pub Holds : Schemas → Difference → Type 0
Holds set d = DiffersAt set d.pair d.field d.cause

-- it is there, in a pair that is compared
pub record IsDifference (set : Schemas) (older newer : ℕ) (d : Difference) : Type 0 where
  pub compared : IsCompared set older newer d.pair.older d.pair.newer
  pub holds : Holds set d

-- ---- several pairs ----

-- both are brands of the set
abbrev pub IsBrandPair : Schemas → Pair → Type 0
IsBrandPair set p = (p.older < length set.brands) × (p.newer < length set.brands)

-- it is compared where one of the pairs that are asked is the given one
pub record IsComparedOf (set : Schemas) (asked : List Pair) (a b : ℕ) : Type 0 where
  pub given : Pair
  pub stands : Contains asked given
  pub compared : IsCompared set given.older given.newer a b

-- a difference is there, in a pair that is compared
pub record IsDifferenceOf (set : Schemas) (asked : List Pair) (d : Difference) : Type 0 where
  pub compared : IsComparedOf set asked d.pair.older d.pair.newer
  pub holds : Holds set d

-- of each pair that is asked, whether its newer struct follows the older one
pub record AreAnswered (set : Schemas) (asked : List Pair) (follows : List Bool) : Type 0 where
  pub count : length follows ≡ length asked
  pub each : (k : ℕ) (p : Pair) (t : Bool) → slice_get asked k ≡ Some p → slice_get follows k ≡ Some t → (IsTrue t ↔ IsCompatibleOrUpgraded set p.older p.newer)

-- ---- the order of what is told ----

-- causes by their order in `Cause`
abbrev pub cause_number : Cause → ℕ
cause_number cause.FieldGone = 0
cause_number cause.KindChanged = 1
cause_number cause.PlaceChanged = 2
cause_number cause.DefaultChanged = 3
cause_number cause.DiscriminantChanged = 4
cause_number cause.LeftUnion = 5
cause_number cause.EnteredUnion = 6
cause_number cause.TypeChanged = 7
cause_number cause.ElementsBecameStructs = 8
cause_number cause.FewerEnumerants = 9
cause_number cause.UnionGone = 10
cause_number cause.FewerMembers = 11
cause_number cause.UnionMoved = 12

-- first what differs in the union, then each field by its index, and each of these by the 13 causes
abbrev pub turn_of : (field : Option ℕ) → Cause → ℕ
turn_of None c = cause_number c
turn_of (Some i) c = 13 * (i + 1) + cause_number c

-- a difference is told before another of the same pair
abbrev pub ComesFirst : Difference → Difference → Type 0
ComesFirst x y = x.pair ≡ y.pair → turn_of x.field x.cause < turn_of y.field y.cause
