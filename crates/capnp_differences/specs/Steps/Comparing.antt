-- The walk over the pairs that are compared: steps of the code.
use Rattle.std.specs.Prelude.{ℕ, AllPairs, Bool, ◌<◌, ◌≤◌, ◌≡◌, ◌↔◌, ◌⊎◌, List, [], ◌∷◌, false, nat_lt, ◌&&◌, IsTrue, Contains, Some, None, Option, length, slice_get}
use Rattle.capnp_base.specs.declared.introspect.TypeVariant.{TypeVariant}
use Rattle.capnp_base.specs.declared.introspect.TypeVariant.TheVariants as variant
use Rattle.capnp_schema.specs.Schema.{Schemas, Value, VoidValue, BoolValue, IntValue, UIntValue, EnumValue, TextValue, DataValue, StructValue, ListValue, AnyPointerValue, field_at, fields_of}
use Rattle.capnp_records.specs.Compatible.{Pairs}
use Rattle.capnp_differences.specs.Closing.{listed_pairs}
use Rattle.capnp_differences.specs.Differences.{ComesFirst, Holds, IsComparedOf, struct_pair, unless}
use Rattle.capnp_differences.specs.Steps.Telling.{AreKnown}
use Rattle.capnp_differences.specs.declared.differences.Cause.{Cause}
use Rattle.capnp_differences.specs.declared.differences.Cause.TheVariants as cause
use Rattle.capnp_differences.specs.declared.differences.Difference.{Difference}
use Rattle.capnp_differences.specs.declared.differences.Pair.{Pair}

-- ---- types ----

-- what is said of two types of which the kinds differ, by the newer one
abbrev pub other_kind : (became : Cause) → TypeVariant → Cause
other_kind became (variant.Struct schema) = became
other_kind became v = cause.TypeChanged

-- ---- defaults ----

-- which tree a value has: none, that of a struct, a list or an untyped pointer
abbrev pub tree_kind : Value → ℕ
tree_kind VoidValue = 0
tree_kind (BoolValue x) = 0
tree_kind (IntValue bytes x) = 0
tree_kind (UIntValue bytes x) = 0
tree_kind (EnumValue x) = 0
tree_kind (TextValue bytes) = 0
tree_kind (DataValue bytes) = 0
tree_kind (StructValue words) = 1
tree_kind (ListValue words) = 2
tree_kind (AnyPointerValue words) = 3

-- its words
abbrev pub value_words : Value → List ℕ
value_words VoidValue = []
value_words (BoolValue x) = []
value_words (IntValue bytes x) = []
value_words (UIntValue bytes x) = []
value_words (EnumValue x) = []
value_words (TextValue bytes) = []
value_words (DataValue bytes) = []
value_words (StructValue words) = words
value_words (ListValue words) = words
value_words (AnyPointerValue words) = words

-- what is said of defaults, by whether they are the same and by what is said of the types
abbrev pub default_change : (same : Bool) → (types : Option Cause) → Option Cause
default_change same (Some cause.TypeChanged) = None
default_change same types = unless same cause.DefaultChanged

-- ---- pairs ----

-- the pairs of brands of a set
abbrev pub brand_pairs : Schemas → Pairs
brand_pairs set a b = nat_lt a (length set.brands) && nat_lt b (length set.brands)

abbrev pub pair_of : ℕ → ℕ → Pair
pair_of a b = record { older = a; newer = b }

abbrev pub IsPairOf : Pair → ℕ → ℕ → Type 0
IsPairOf p a b = (a ≡ p.older) × (b ≡ p.newer)

-- two of the first so many fields, which both have, name the pair
abbrev pub IsNamed : Schemas → (older newer count : ℕ) → ℕ → ℕ → Type 0
IsNamed set x y count a b = (i : ℕ) × (i < count) × (i < length (fields_of set x)) × (i < length (fields_of set y)) × (struct_pair set (field_at set x i).type (field_at set y i).type ≡ Some (pair_of a b))

abbrev pub Within : Pairs → Pairs → Type 0
Within xs ys = (a b : ℕ) → IsTrue (xs a b) → IsTrue (ys a b)

-- the list goes on as the other does
abbrev pub Begins : List Pair → List Pair → Type 0
Begins xs ys = (length xs ≤ length ys) × ((k : ℕ) → k < length xs → slice_get ys k ≡ slice_get xs k)

-- no pair stands twice
abbrev pub Apart : List Pair → Type 0
Apart [] = Unit {0}
Apart (p ∷ ps) = (listed_pairs ps p.older p.newer ≡ false) × Apart ps

-- what is in the list stays where it stands, and the new pairs are in it too
pub record Adds (old new : List Pair) (New : ℕ → ℕ → Type 0) : Type 0 where
  pub joined : (a b : ℕ) → (IsTrue (listed_pairs new a b) ↔ (IsTrue (listed_pairs old a b) ⊎ New a b))
  pub begins : Begins old new
  pub apart : Apart old → Apart new

-- a set has a pair, where there is one
abbrev pub Has : Pairs → Option Pair → Type 0
Has pairs None = Unit {0}
Has pairs (Some p) = IsTrue (pairs p.older p.newer)

-- a set has the pairs that the fields of two structs name
abbrev pub HasNamed : Schemas → Pairs → ℕ → ℕ → Type 0
HasNamed set pairs a b = (i : ℕ) → i < length (fields_of set a) → i < length (fields_of set b) → Has pairs (struct_pair set (field_at set a i).type (field_at set b i).type)

-- ---- the answer ----

-- The pairs are those that the first ones lead to, and what is told are their differences.
pub record Compares (set : Schemas) (asked ps : List Pair) (ts : List Difference) : Type 0 where
  pub given : Within (listed_pairs asked) (listed_pairs ps)
  pub brands : Within (listed_pairs ps) (brand_pairs set)
  pub compared : (a b : ℕ) → IsTrue (listed_pairs ps a b) → IsComparedOf set asked a b
  pub named : (a b : ℕ) → IsTrue (listed_pairs ps a b) → HasNamed set (listed_pairs ps) a b
  pub known : (a b : ℕ) → IsTrue (listed_pairs ps a b) → AreKnown set a b (length (fields_of set a))
  pub told : (d : Difference) → (Contains ts d ↔ (IsTrue (listed_pairs ps d.pair.older d.pair.newer) × Holds set d))
  pub ordered : AllPairs ComesFirst ts
  pub apart : Apart ps
