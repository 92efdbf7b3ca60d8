-- What is told of a pair of structs, piece by piece: steps of the code.
use Rattle.std.specs.Prelude.{ℕ, ◌<◌, ◌≤◌, AllPairs, ◌≡◌, ◌↔◌, ◌⊎◌, List, Contains, Option, Some, None, length}
use Rattle.capnp_schema.specs.Schema.{Schemas, field_at, fields_of, node_of}
use Rattle.capnp_differences.specs.Differences.{ComesFirst, FieldDiffers, SameDefaults, UnionDiffers, turn_of}
use Rattle.capnp_differences.specs.declared.differences.Cause.{Cause}
use Rattle.capnp_differences.specs.declared.differences.Difference.{Difference}
use Rattle.capnp_differences.specs.declared.differences.Pair.{Pair}

-- what is told stands told, and beside it what is new
abbrev pub Tells : (old new : List Difference) → (Difference → Type 0) → Type 0
Tells old new New = (d : Difference) → (Contains new d ↔ (Contains old d ⊎ New d))

abbrev pub difference_of : Pair → Option ℕ → Cause → Difference
difference_of p o c = record { pair = p; field = o; cause = c }

-- a difference of a pair, at a field or of the union, by one of such causes
abbrev pub IsOf : Pair → Option ℕ → (Cause → Type 0) → Difference → Type 0
IsOf p o Causes d = (c : Cause) × Causes c × (d ≡ difference_of p o c)

-- one of the first so many fields
abbrev pub IsOfFields : Schemas → Pair → ℕ → Difference → Type 0
IsOfFields set p count d = (i : ℕ) × (i < count) × IsOf p (Some i) (FieldDiffers set p.older p.newer i) d

-- one of the whole pair
abbrev pub IsOfPair : Schemas → Pair → Difference → Type 0
IsOfPair set p d = IsOf p None (UnionDiffers (node_of set p.older) (node_of set p.newer)) d ⊎ IsOfFields set p (length (fields_of set p.older)) d

-- it is known whether it is so
abbrev pub IsKnown : Type 0 → Type 0
IsKnown P = P ⊎ (P → ⊥)

-- of a field, where the newer struct has it, it is known whether its default is the same
abbrev pub IsKnownAt : Schemas → (older newer index : ℕ) → Type 0
IsKnownAt set a b i = i < length (fields_of set b) → IsKnown (SameDefaults (field_at set a i).field.kind (field_at set b i).field.kind)

-- the same of each of the first so many fields
abbrev pub AreKnown : Schemas → (older newer count : ℕ) → Type 0
AreKnown set a b count = (i : ℕ) → i < count → IsKnownAt set a b i

-- ---- in order ----

abbrev pub AreOrdered : List Difference → Type 0
AreOrdered ds = AllPairs ComesFirst ds

-- the turns of a pair's differences are below a number
abbrev pub IsBelow : Pair → ℕ → List Difference → Type 0
IsBelow p high ds = (d : Difference) → Contains ds d → d.pair ≡ p → turn_of d.field d.cause < high

-- what is told stays in order, and goes on from a pair's turns below one number to those below another
abbrev pub Orders : (old new : List Difference) → Pair → (low high : ℕ) → Type 0
Orders old new p low high = AreOrdered old → IsBelow p low old → AreOrdered new × IsBelow p high new

-- a cause that there may be has its turn between two numbers
abbrev pub TakesTurn : Option ℕ → Option Cause → (low high : ℕ) → Type 0
TakesTurn o k low high = (low ≤ high) × ((c : Cause) → k ≡ Some c → (low ≤ turn_of o c) × (turn_of o c < high))
