-- Edges between the pairs that are compared, each from a named pair to one that names it: steps of the code.
use Rattle.std.specs.Prelude.{ℕ, ◌+◌, ◌<◌, ◌≤◌, ◌≡◌, ◌↔◌, ◌⊎◌, List, IsTrue, Option, Some, None, length, slice_get}
use Rattle.std.specs.HashMap.{HashMap, get}
use Rattle.capnp_schema.specs.Schema.{Schemas, fields_of}
use Rattle.capnp_differences.specs.Closing.{listed_pairs}
use Rattle.capnp_differences.specs.Keys.{same_key}
use Rattle.capnp_differences.specs.Steps.Comparing.{IsNamed}
use Rattle.capnp_differences.specs.declared.differences.Pair.{Pair}
use Rattle.capnp_differences.specs.declared.namers.Edge.{Edge}
use Rattle.capnp_differences.specs.declared.namers.Namers.{Namers}

-- ---- which edges there are ----

-- an edge leads from the pair to one that names it
abbrev pub HasEdge : List Edge → (named namer : Pair) → Type 0
HasEdge es q p = (k : ℕ) × (e : Edge) × (slice_get es k ≡ Some e) × (e.named ≡ q) × (e.namer ≡ p)

-- what there was is there still, and the new ones
abbrev pub Joins : List Edge → List Edge → (New : Pair → Pair → Type 0) → Type 0
Joins old new New = (q p : Pair) → (HasEdge new q p ↔ (HasEdge old q p ⊎ New q p))

-- the first so many fields of a pair name another one
abbrev pub IsNamedBy : Schemas → Pair → (count : ℕ) → Pair → Pair → Type 0
IsNamedBy set namer count q p = IsNamed set namer.older namer.newer count q.older q.newer × (p ≡ namer)

-- they lead to all pairs of the list that name another one
abbrev pub AreNamers : Schemas → List Pair → List Edge → Type 0
AreNamers set ps es = (q p : Pair) → (HasEdge es q p ↔ (IsTrue (listed_pairs ps p.older p.newer) × IsNamed set p.older p.newer (length (fields_of set p.older)) q.older q.newer))

-- ---- where those of a pair stand ----

-- it is the number of the last of the first so many edges that lead from the pair, counted from 1; or 0, where there is none
pub record IsLast (es : List Edge) (count : ℕ) (q : Pair) (number : ℕ) : Type 0 where
  pub inside : number ≤ count
  pub past : (k : ℕ) → number ≤ k → k < count → (e : Edge) → slice_get es k ≡ Some e → e.named ≡ q → ⊥
  pub here : (k : ℕ) → number ≡ k + 1 → (e : Edge) → slice_get es k ≡ Some e → e.named ≡ q

abbrev pub number_or_none : Option ℕ → ℕ
number_or_none None = 0
number_or_none (Some number) = number

-- the number that the table has for a pair
abbrev pub last_number : {S : Type 0} → HashMap (ℕ × ℕ) ℕ S → Pair → ℕ
last_number last q = number_or_none (get same_key last (q.older, q.newer))

-- each edge has the number of the last one before it that leads from its pair, and the table that of the last one of all
pub record AreChained (n : Namers) : Type 0 where
  pub each : (k : ℕ) → (e : Edge) → slice_get n.edges.items k ≡ Some e → IsLast n.edges.items k e.named e.before
  pub last : (q : Pair) → IsLast n.edges.items (length n.edges.items) q (last_number n.last q)
