-- Pairs that are put into a list one after another: steps of the code.
use Rattle.std.specs.Prelude.{ℕ, ◌<◌, ◌≡◌, List, IsTrue, Some, slice_get}
use Rattle.capnp_differences.specs.Closing.{listed_pairs}
use Rattle.capnp_differences.specs.Steps.Comparing.{Apart, pair_of}
use Rattle.capnp_differences.specs.declared.differences.Difference.{Difference}
use Rattle.capnp_differences.specs.declared.differences.Pair.{Pair}

-- a pair at an index
abbrev pub IsAt : List Pair → ℕ → Pair → Type 0
IsAt asked k p = slice_get asked k ≡ Some p

-- that of a difference at an index
abbrev pub IsToldAt : List Difference → ℕ → Pair → Type 0
IsToldAt told k p = (d : Difference) × (slice_get told k ≡ Some d) × (d.pair ≡ p)

-- the list has the pairs of the first so many indices, each once, and no other
pub record Gathers (Is : ℕ → Pair → Type 0) (ps : List Pair) (count : ℕ) : Type 0 where
  pub all : (k : ℕ) → k < count → (p : Pair) → Is k p → IsTrue (listed_pairs ps p.older p.newer)
  pub only : (a b : ℕ) → IsTrue (listed_pairs ps a b) → (k : ℕ) × Is k (pair_of a b)
  pub apart : Apart ps
