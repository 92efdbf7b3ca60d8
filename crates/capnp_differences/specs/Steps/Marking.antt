-- The pairs from which a difference can be reached: steps of the code.
use Rattle.std.specs.Prelude.{ℕ, List, IsTrue, Contains, length}
use Rattle.capnp_schema.specs.Schema.{Schemas, fields_of}
use Rattle.capnp_differences.specs.Closing.{listed_pairs}
use Rattle.capnp_differences.specs.Differences.{Holds, IsDifference}
use Rattle.capnp_differences.specs.Steps.Comparing.{IsNamed}
use Rattle.capnp_differences.specs.declared.differences.Difference.{Difference}
use Rattle.capnp_differences.specs.declared.differences.Pair.{Pair}

-- the fields of two structs name a pair of the list
abbrev pub NamesOne : Schemas → List Pair → ℕ → ℕ → Type 0
NamesOne set ms a b = (c : ℕ) × (d : ℕ) × IsNamed set a b (length (fields_of set a)) c d × IsTrue (listed_pairs ms c d)

-- from the pair a difference can be reached
abbrev pub Leads : Schemas → ℕ → ℕ → Type 0
Leads set a b = (d : Difference) × IsDifference set a b d

-- what is told are differences of listed pairs
abbrev pub AreFound : Schemas → List Pair → List Difference → Type 0
AreFound set ps ts = (d : Difference) → Contains ts d → IsTrue (listed_pairs ps d.pair.older d.pair.newer) × Holds set d

-- marked are the pairs in which something differs, and each that names a marked one; all of them lead to a difference
pub record Reaches (set : Schemas) (ps : List Pair) (ts : List Difference) (ms : List Pair) : Type 0 where
  pub differing : (d : Difference) → Contains ts d → IsTrue (listed_pairs ms d.pair.older d.pair.newer)
  pub leads : (a b : ℕ) → IsTrue (listed_pairs ms a b) → Leads set a b
  pub settled : (a b : ℕ) → IsTrue (listed_pairs ps a b) → NamesOne set ms a b → IsTrue (listed_pairs ms a b)
