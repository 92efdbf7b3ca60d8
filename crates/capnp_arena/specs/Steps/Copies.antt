-- What a copy leaves of the words that were there before it.
use Rattle.std.specs.Prelude.{ℕ, suc, ⊤, ◌≡◌, [], Option, Some, None, ◌+◌, ◌-◌, ◌*◌, ◌<◌, ◌≤◌, List, length}
use Rattle.capnp_wire.specs.Edits.{append_trees, first_trees, nulls}
use Rattle.capnp_wire.specs.Tree.{Structs, Trees, tree_count}
use Rattle.std.specs.Borrow.{Bor}
use Rattle.capnp_wire.specs.Encoding.{bytes_below_all, element_row}
use Rattle.capnp_wire.specs.Words.{first_fault_of_elements, words_below_all}
use Rattle.capnp_wire.specs.declared.size.StructSize.{StructSize}
use Rattle.capnp_arena.specs.Forest.{IsSame}

-- bytes are added at the end alone, and no word is other than it was but for so many from one on
pub record Spares (first count : ℕ) (old new : List ℕ) : Type 0 where
  pub longer : length old ≤ length new
  pub stays : (k : ℕ) → 8 * suc k ≤ length old → ((first ≤ k) × (k < first + count) → ⊥) → IsSame old new k

-- so many pointers of a row: what there are of them, and nulls after that
abbrev pub fitted_row : ℕ → Trees → Trees
fitted_row n ts = append_trees (first_trees n ts) (nulls (n - tree_count ts))

-- structs in a row, each of so many words, are these bytes and lead to nothing
pub record ArePointerless (row : List ℕ) (size : ℕ) (es : Structs) : Type 0 where
  pub own : (gap : ℕ) → element_row size gap es ≡ row
  pub below : bytes_below_all es ≡ []
  pub words : words_below_all es ≡ 0
  pub faults : first_fault_of_elements es ≡ None

-- where bytes are said
abbrev pub ArePointerlessIn : Option (Bor (List ℕ)) → StructSize → Structs → Type 0
ArePointerlessIn (Some row) size es = ArePointerless row.now (size.data_words + size.pointers) es
ArePointerlessIn None size es = ⊤
