-- What stands at a pointer.
use Rattle.std.specs.Prelude.{ℕ, zero, suc, List, [], Bool}
use Rattle.capnp_wire.specs.declared.fault.Fault.{Fault}

-- Null; a struct with its data section and its pointers; a list by the size of its elements: of nothing, of bits, of
-- numbers of so many bytes each (the elements' bytes one after another), of pointers, or of structs, which all have so
-- many data words and pointers; and a fault leaf, a pointer that can't be followed.
mutual
  pub data Tree : Type 0 where
    Null : Tree
    Struct : (bytes : List ℕ) → (pointers : Trees) → Tree
    Voids : (count : ℕ) → Tree
    Bits : (bits : List Bool) → Tree
    Numbers : (width : ℕ) → (bytes : List ℕ) → Tree
    Pointers : (pointers : Trees) → Tree
    Composite : (data_words pointer_count : ℕ) → (elements : Structs) → Tree
    FaultLeaf : (fault : Fault) → Tree

  pub data Trees : Type 0 where
    NoTrees : Trees
    MoreTrees : (first : Tree) → (rest : Trees) → Trees

  pub data Structs : Type 0 where
    NoStructs : Structs
    MoreStructs : (bytes : List ℕ) → (pointers : Trees) → (rest : Structs) → Structs

-- what a struct holds
pub record StructTree : Type 0 where
  pub bytes : List ℕ
  pub pointers : Trees

-- a struct of size zero
abbrev pub empty_struct : StructTree
empty_struct = record { bytes = []; pointers = NoTrees }

-- the tree at an index, null past the end
abbrev pub nth_tree : Trees → ℕ → Tree
nth_tree NoTrees i = Null
nth_tree (MoreTrees t ts) zero = t
nth_tree (MoreTrees t ts) (suc i) = nth_tree ts i

-- the tree at an index alone, none past the end
abbrev pub only_tree : Trees → ℕ → Trees
only_tree NoTrees i = NoTrees
only_tree (MoreTrees t ts) zero = MoreTrees t NoTrees
only_tree (MoreTrees t ts) (suc i) = only_tree ts i

-- the struct at an index, of size zero past the end
abbrev pub nth_struct : Structs → ℕ → StructTree
nth_struct NoStructs i = empty_struct
nth_struct (MoreStructs bytes ps es) zero = record { bytes = bytes; pointers = ps }
nth_struct (MoreStructs bytes ps es) (suc i) = nth_struct es i

-- how many there are
abbrev pub tree_count : Trees → ℕ
tree_count NoTrees = 0
tree_count (MoreTrees t ts) = suc (tree_count ts)

abbrev pub struct_count : Structs → ℕ
struct_count NoStructs = 0
struct_count (MoreStructs bytes ps es) = suc (struct_count es)

-- what a function gives at so many numbers, from the first on
abbrev pub trees_from : (ℕ → Tree) → ℕ → ℕ → Trees
trees_from f first zero = NoTrees
trees_from f first (suc count) = MoreTrees (f first) (trees_from f (suc first) count)

-- the same of structs
abbrev pub structs_from : (ℕ → StructTree) → ℕ → ℕ → Structs
structs_from f first zero = NoStructs
structs_from f first (suc count) = MoreStructs (f first).bytes (f first).pointers (structs_from f (suc first) count)

-- so many structs of size zero
abbrev pub empty_structs : ℕ → Structs
empty_structs count = structs_from (λ _. empty_struct) 0 count
