-- Trees and structs in a row, by their index.
use Rattle.std.proofs.Common.{◌≡◌, ℕ, zero, suc, ◌+◌, ◌<◌, ◌≤◌, List, length, refl, ap, ◌∙◌, arith, get_or, false}
use Rattle.capnp_wire.specs.Tree.{Tree, Null, StructTree, empty_struct, nth_tree, only_tree, nth_struct, trees_from, structs_from, tree_count, struct_count, MoreTrees, NoTrees}
use Rattle.capnp_wire.specs.Slot.{bit_at}
use Rattle.capnp_wire.specs.Place.{bits_from}
pub use Rattle.capnp_wire.specs.Facts.Rows.{nth_struct_from, nth_struct_start}

pub nth_tree_from : (f : ℕ → Tree) (a n i : ℕ) → i < n → nth_tree (trees_from f a n) i ≡ f (a + i)
nth_tree_from f a zero i h = absurd (omega arith)
nth_tree_from f a (suc n) zero h = ap f (omega arith)
nth_tree_from f a (suc n) (suc i) h = nth_tree_from f (suc a) n i (omega arith) ∙ ap f (omega arith)

pub nth_tree_past : (f : ℕ → Tree) (a n i : ℕ) → n ≤ i → nth_tree (trees_from f a n) i ≡ Null
nth_tree_past f a zero i h = refl
nth_tree_past f a (suc n) zero h = absurd (omega arith)
nth_tree_past f a (suc n) (suc i) h = nth_tree_past f (suc a) n i (omega arith)

pub only_tree_from : (f : ℕ → Tree) (a n i : ℕ) → i < n → only_tree (trees_from f a n) i ≡ trees_from f (a + i) 1
only_tree_from f a zero i h = absurd (omega arith)
only_tree_from f a (suc n) zero h = ap (λ j. MoreTrees (f j) NoTrees) (omega arith)
only_tree_from f a (suc n) (suc i) h =
    let e : suc a + i ≡ a + suc i = omega arith in
    only_tree_from f (suc a) n i (omega arith) ∙ ap (λ j. trees_from f j 1) e

pub only_tree_past : (f : ℕ → Tree) (a n i : ℕ) → n ≤ i → only_tree (trees_from f a n) i ≡ NoTrees
only_tree_past f a zero i h = refl
only_tree_past f a (suc n) zero h = absurd (omega arith)
only_tree_past f a (suc n) (suc i) h = only_tree_past f (suc a) n i (omega arith)

pub nth_struct_past : (f : ℕ → StructTree) (a n i : ℕ) → n ≤ i → nth_struct (structs_from f a n) i ≡ empty_struct
nth_struct_past f a zero i h = refl
nth_struct_past f a (suc n) zero h = absurd (omega arith)
nth_struct_past f a (suc n) (suc i) h = nth_struct_past f (suc a) n i (omega arith)

-- the bits of a list, by their index
pub bit_from : (bytes : List ℕ) (a n i : ℕ) → i < n → get_or (bits_from bytes a n) i false ≡ bit_at bytes (a + i)
bit_from bytes a zero i h = absurd (omega arith)
bit_from bytes a (suc n) zero h = ap (bit_at bytes) (omega arith)
bit_from bytes a (suc n) (suc i) h = bit_from bytes (suc a) n i (omega arith) ∙ ap (bit_at bytes) (omega arith)

pub bit_start : (bytes : List ℕ) (n i : ℕ) → i < n → get_or (bits_from bytes 0 n) i false ≡ bit_at bytes i
bit_start bytes n i h = bit_from bytes 0 n i h ∙ ap (bit_at bytes) (omega arith)

pub bit_past : (bytes : List ℕ) (a n i : ℕ) → n ≤ i → get_or (bits_from bytes a n) i false ≡ false
bit_past bytes a zero i h = refl
bit_past bytes a (suc n) zero h = absurd (omega arith)
bit_past bytes a (suc n) (suc i) h = bit_past bytes (suc a) n i (omega arith)

pub length_bits_from : (bytes : List ℕ) (a n : ℕ) → length (bits_from bytes a n) ≡ n
length_bits_from bytes a zero = refl
length_bits_from bytes a (suc n) = ap suc (length_bits_from bytes (suc a) n)

-- how many there are
pub tree_count_from : (f : ℕ → Tree) (a n : ℕ) → tree_count (trees_from f a n) ≡ n
tree_count_from f a zero = refl
tree_count_from f a (suc n) = ap suc (tree_count_from f (suc a) n)

pub struct_count_from : (f : ℕ → StructTree) (a n : ℕ) → struct_count (structs_from f a n) ≡ n
struct_count_from f a zero = refl
struct_count_from f a (suc n) = ap suc (struct_count_from f (suc a) n)
