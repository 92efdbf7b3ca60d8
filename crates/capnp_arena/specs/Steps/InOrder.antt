-- What lies in a segment as the encoding has it.
use Rattle.std.specs.Prelude.{ℕ, suc, ◌+◌, ◌-◌, ◌*◌, ◌≤◌, ◌≡◌, ⊤, List, Option, Some, None}
use Rattle.capnp_wire.specs.Encoding.{bytes_below_all, bytes_of, bytes_of_all, element_row, pointer_row, pointer_word, spelled_number}
use Rattle.capnp_wire.specs.Place.{bytes_at}
use Rattle.capnp_wire.specs.Tree.{structs_from, trees_from}
use Rattle.capnp_arena.specs.Forest.{struct_from, tree}
use Rattle.capnp_arena.specs.Shape.{word_count}

-- the pointer at a word is that to a target at another word, where all that it leads to lies, up to a third
pub record IsLaid (bytes : List ℕ) (w end next : ℕ) : Type 0 where
  pub after : end ≤ next
  pub inside : next ≤ word_count bytes
  pub pointer : bytes_at bytes w 8 ≡ spelled_number 8 (pointer_word (end - suc w) (tree bytes w))
  pub target : bytes_at bytes end (8 * (next - end)) ≡ bytes_of (tree bytes w)

-- the same of so many pointers in a row
pub record IsRowLaid (bytes : List ℕ) (first count end next : ℕ) : Type 0 where
  pub after : end ≤ next
  pub inside : next ≤ word_count bytes
  pub row : bytes_at bytes first (8 * count) ≡ pointer_row (end - (first + count)) (trees_from (tree bytes) first count)
  pub targets : bytes_at bytes end (8 * (next - end)) ≡ bytes_of_all (trees_from (tree bytes) first count)

-- and of so many structs in a row, from an index on
pub record AreLaid (bytes : List ℕ) (start d p i count end next : ℕ) : Type 0 where
  pub after : end ≤ next
  pub inside : next ≤ word_count bytes
  pub row : bytes_at bytes (start + i * (d + p)) (8 * (count * (d + p))) ≡ element_row (d + p) (end - (start + (i + count) * (d + p))) (structs_from (λ j. struct_from bytes (start + j * (d + p)) d p) i count)
  pub targets : bytes_at bytes end (8 * (next - end)) ≡ bytes_below_all (structs_from (λ j. struct_from bytes (start + j * (d + p)) d p) i count)

-- what is said of where they end, where that is known
abbrev pub IfKnown : Option ℕ → (ℕ → Type 0) → Type 0
IfKnown (Some next) is = is next
IfKnown None is = ⊤
