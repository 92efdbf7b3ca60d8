-- Pairs of structs as a list.
use Rattle.std.specs.Prelude.{ℕ, List, Bool, ◌==◌, ◌&&◌}
use Rattle.std.specs.List.{list_any}
use Rattle.capnp_records.specs.Compatible.{Pairs}
use Rattle.capnp_differences.specs.declared.differences.Pair.{Pair}

abbrev pub is_pair : ℕ → ℕ → Pair → Bool
is_pair a b p = (p.older == a) && (p.newer == b)

-- the pairs of a list
abbrev pub listed_pairs : List Pair → Pairs
listed_pairs ps a b = list_any (is_pair a b) ps
