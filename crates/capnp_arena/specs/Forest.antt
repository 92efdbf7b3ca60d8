-- The words that a pointer leads to, and a tree's words apart from one another.
use Rattle.std.specs.Prelude.{ℕ, suc, ◌*◌, ◌≤◌, ◌≡◌, ◌⊎◌, List, [], ◌∷◌, length}
use Rattle.capnp_arena.specs.Shape.{Shape, Points, IsPointerOf, IsTagOf, IsWordWithin, end_of, shape_at, word_count}
use Rattle.capnp_wire.specs.Place.{bytes_at, struct_at, tree_at}
use Rattle.capnp_wire.specs.Tree.{StructTree, Tree}

-- a word is one of those that the pointer at word w leads to, itself or by the pointers there
pub data Owns (bytes : List ℕ) : ℕ → ℕ → Type 0 where
  Itself : (w k : ℕ) → IsWordWithin (shape_at bytes w) k → Owns bytes w k
  Below : (w j k : ℕ) → IsPointerOf (shape_at bytes w) j → Owns bytes j k → Owns bytes w k

-- Each target lies inside and after its pointer, and no two share a word.
pub data Forest (bytes : List ℕ) : ℕ → Type 0 where
  Grown : (w : ℕ) → Points bytes w (shape_at bytes w)
      → ((j : ℕ) → IsPointerOf (shape_at bytes w) j → Forest bytes j)
      → ((j k : ℕ) → IsPointerOf (shape_at bytes w) j → Owns bytes j k → IsWordWithin (shape_at bytes w) k → ⊥)
      → ((i j k : ℕ) → IsPointerOf (shape_at bytes w) i → IsPointerOf (shape_at bytes w) j → Owns bytes i k → Owns bytes j k → i ≡ j)
      → Forest bytes w

-- ---- parts: what a pointer leads to, or one struct of a list ----

-- a word is one of a part's, itself or by its pointers
abbrev pub OwnedBy : List ℕ → Shape → ℕ → Type 0
OwnedBy bytes s k = IsWordWithin s k ⊎ ((j : ℕ) × IsPointerOf s j × Owns bytes j k)

-- a part lies inside, each of its pointers leads to a tree, and no two of these share a word, nor one with the part
pub record Planted (bytes : List ℕ) (s : Shape) : Type 0 where
  pub ends : end_of s ≤ word_count bytes
  pub child : (j : ℕ) → IsPointerOf s j → Forest bytes j
  pub child_apart : (j k : ℕ) → IsPointerOf s j → Owns bytes j k → IsWordWithin s k → ⊥
  pub children_apart : (i j k : ℕ) → IsPointerOf s i → IsPointerOf s j → Owns bytes i k → Owns bytes j k → i ≡ j

-- ---- what a call leaves ----

-- a word is what it was
abbrev pub IsSame : List ℕ → List ℕ → ℕ → Type 0
IsSame old new k = bytes_at new k 8 ≡ bytes_at old k 8

-- What a call at the pointer at word w leaves: bytes are added at the end alone, no word is other than it was but for w
-- and those that w led to, and w leads to no others that were there.
pub record Changes (w : ℕ) (old new : List ℕ) : Type 0 where
  pub longer : length old ≤ length new
  pub stays : (k : ℕ) → 8 * suc k ≤ length old → (k ≡ w → ⊥) → (Owns old w k → ⊥) → IsSame old new k
  pub grows : (k : ℕ) → Owns new w k → Owns old w k ⊎ (word_count old ≤ k)

-- the same of a call in a part, which leaves the tag of a list
pub record PartChanges (s : Shape) (old new : List ℕ) : Type 0 where
  pub longer : length old ≤ length new
  pub stays : (k : ℕ) → 8 * suc k ≤ length old → (OwnedBy old s k → ⊥) → IsSame old new k
  pub grows : (k : ℕ) → OwnedBy new s k → OwnedBy old s k ⊎ (word_count old ≤ k)
  pub tags : (k : ℕ) → IsTagOf s k → IsSame old new k

-- ---- trees ----

-- the tree at a word, with as many levels as there are words
unfoldable pub tree : List ℕ → ℕ → Tree
tree bytes w = tree_at (word_count bytes) (bytes ∷ []) bytes w

-- the struct that starts at a word
abbrev pub struct_from : List ℕ → ℕ → ℕ → ℕ → StructTree
struct_from bytes start d p = struct_at (tree bytes) bytes d p start
