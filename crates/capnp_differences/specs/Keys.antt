-- The keys that stand beside a list of pairs.
use Rattle.std.specs.Prelude.{ℕ, ◌≡◌, List, Bool, ◌&&◌, nat_eq}
use Rattle.std.specs.HashSet.{HashSet, contains}
use Rattle.capnp_differences.specs.declared.differences.Pair.{Pair}
use Rattle.capnp_differences.specs.Closing.{listed_pairs}

abbrev pub same_key : ℕ × ℕ → ℕ × ℕ → Bool
same_key x y = nat_eq x.0 y.0 && nat_eq x.1 y.1

-- the keys are the pairs of the list
abbrev pub AreKeysOf : {S : Type 0} → List Pair → HashSet (ℕ × ℕ) S → Type 0
AreKeysOf ps keys = (a b : ℕ) → contains same_key keys (a, b) ≡ listed_pairs ps a b
