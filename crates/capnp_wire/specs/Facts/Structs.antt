-- Structs that are new, extended, cut to a size or written into are well-formed.
use Rattle.std.proofs.Common.{List, ◌≡◌, ℕ, ◌+◌, ◌-◌, ◌*◌, ◌/◌, ◌^◌, ◌<◌, ◌≤◌, refl, arith, Bool, length, take, replicate}
use Rattle.std.proofs.lemmas.List.{length-append, length-replicate, length-take}
use Rattle.capnp_wire.specs.Tree.{Tree, Null, Struct, Voids, Bits, Numbers, Pointers, Composite, FaultLeaf, StructTree, empty_struct, tree_count}
use Rattle.capnp_wire.specs.Place.{struct_tree}
use Rattle.capnp_wire.specs.WellFormed.{AreBytes, AreWellFormed, IsWellFormed, IsWellFormedStruct}
use Rattle.capnp_wire.specs.Steps.WellFormed.{IsElement}
use Rattle.capnp_wire.specs.Words.{byte_words}
use Rattle.capnp_wire.specs.Edits.{rounded_struct, whole_words, extended_struct, first_trees, fitted_struct, nulls, struct_in, with_bit, with_bytes, with_number, with_pointer_tree, zero_struct}
use Rattle.capnp_wire.specs.declared.size.StructSize.{StructSize}
use Rattle.capnp_wire.specs.Facts.Bytes.{AreBytes_append, AreBytes_none, AreBytes_take, AreBytes_with_bit, AreBytes_with_number, AreBytes_zeros, length_with_bit, length_with_number}
use Rattle.capnp_wire.specs.Facts.Rows.{AreWellFormed_append_trees, AreWellFormed_first_trees, AreWellFormed_nulls, AreWellFormed_with_tree, tree_count_append_trees, tree_count_first_trees, tree_count_nulls, tree_count_with_tree}

-- ---- structs and elements of one size ----

-- a struct is an element of its own size
pub own_size : (s : StructTree) → IsWellFormed (struct_tree s) → IsElement (length s.bytes / 8) (tree_count s.pointers) s
own_size s h = (h.0, h.1, refl, h.4)

-- an element is a struct
pub IsWellFormed_element : (d p : ℕ) (s : StructTree) → d < 2 ^ 16 → p < 2 ^ 16 → IsElement d p s → IsWellFormed (struct_tree s)
IsWellFormed_element d p s a b h = (h.0, omega (arith, h.1), omega (arith, h.1, a), omega (arith, h.2, b), h.3)

-- and one of the size of another struct is well-formed as that one
pub of_same_size : (s r : StructTree) → IsWellFormed (struct_tree s) → IsElement (length s.bytes / 8) (tree_count s.pointers) r → IsWellFormed (struct_tree r)
of_same_size s r h k = IsWellFormed_element (length s.bytes / 8) (tree_count s.pointers) r h.2 h.3 k

-- its reader stands on it
pub IsWellFormedStruct_struct_tree : (s : StructTree) → IsWellFormed (struct_tree s) → IsWellFormedStruct s
IsWellFormedStruct_struct_tree s h = (h.0, omega (arith, h.1, h.2), h.3, h.4)

-- ---- new structs ----

pub IsElement_zero_struct : (size : StructSize) → IsElement size.data_words size.pointers (zero_struct size)
IsElement_zero_struct size = (AreBytes_zeros (8 * size.data_words), length-replicate {A = ℕ} (8 * size.data_words) 0, tree_count_nulls size.pointers, AreWellFormed_nulls size.pointers)

pub IsWellFormed_zero_struct : (size : StructSize) → size.data_words < 2 ^ 16 → size.pointers < 2 ^ 16 → IsWellFormed (struct_tree (zero_struct size))
IsWellFormed_zero_struct size a b = IsWellFormed_element size.data_words size.pointers (zero_struct size) a b (IsElement_zero_struct size)

pub IsWellFormed_empty_struct : IsWellFormed (struct_tree empty_struct)
IsWellFormed_empty_struct = (AreBytes_none, refl, omega arith, omega arith, tt)

-- the struct that stands at a pointer, of size zero where there is none
pub IsWellFormed_struct_in : (t : Tree) → IsWellFormed t → IsWellFormed (struct_tree (struct_in t))
IsWellFormed_struct_in Null h = IsWellFormed_empty_struct
IsWellFormed_struct_in (Struct bytes ps) h = h
IsWellFormed_struct_in (Voids n) h = IsWellFormed_empty_struct
IsWellFormed_struct_in (Bits bs) h = IsWellFormed_empty_struct
IsWellFormed_struct_in (Numbers w bytes) h = IsWellFormed_empty_struct
IsWellFormed_struct_in (Pointers ps) h = IsWellFormed_empty_struct
IsWellFormed_struct_in (Composite d p es) h = IsWellFormed_empty_struct
IsWellFormed_struct_in (FaultLeaf k) h = IsWellFormed_empty_struct

-- ---- extended structs ----

pub length_extended : (size : StructSize) (s : StructTree) → length (extended_struct size s).bytes ≡ length s.bytes + (8 * size.data_words - length s.bytes)
length_extended size s = omega (
  arith,
  length-append s.bytes (replicate (8 * size.data_words - length s.bytes) 0),
  length-replicate {A = ℕ} (8 * size.data_words - length s.bytes) 0,
)

pub tree_count_extended : (size : StructSize) (s : StructTree) → tree_count (extended_struct size s).pointers ≡ tree_count s.pointers + (size.pointers - tree_count s.pointers)
tree_count_extended size s = omega (
  arith,
  tree_count_append_trees s.pointers (nulls (size.pointers - tree_count s.pointers)),
  tree_count_nulls (size.pointers - tree_count s.pointers),
)

AreBytes_extended : (size : StructSize) (s : StructTree) → AreBytes s.bytes → AreBytes (extended_struct size s).bytes
AreBytes_extended size s h = AreBytes_append s.bytes (replicate (8 * size.data_words - length s.bytes) 0) h (AreBytes_zeros (8 * size.data_words - length s.bytes))

AreWellFormed_extended : (size : StructSize) (s : StructTree) → AreWellFormed s.pointers → AreWellFormed (extended_struct size s).pointers
AreWellFormed_extended size s h = AreWellFormed_append_trees s.pointers (nulls (size.pointers - tree_count s.pointers)) h (AreWellFormed_nulls (size.pointers - tree_count s.pointers))

pub IsWellFormed_extended : (size : StructSize) (s : StructTree) → size.data_words < 2 ^ 16 → size.pointers < 2 ^ 16 → IsWellFormed (struct_tree s) → IsWellFormed (struct_tree (extended_struct size s))
IsWellFormed_extended size s a b h = (
  AreBytes_extended size s h.0,
  omega (arith, length_extended size s, h.1),
  omega (arith, length_extended size s, h.1, h.2, a),
  omega (arith, tree_count_extended size s, h.3, b),
  AreWellFormed_extended size s h.4,
)

-- one that is no larger than the size has just that size then; its data may have ended within a word
pub IsElement_extended : (size : StructSize) (s : StructTree) → IsWellFormedStruct s → length s.bytes ≤ 8 * size.data_words → tree_count s.pointers ≤ size.pointers → IsElement size.data_words size.pointers (extended_struct size s)
IsElement_extended size s h a b = (AreBytes_extended size s h.0, omega (arith, length_extended size s, a), omega (arith, tree_count_extended size s, b), AreWellFormed_extended size s h.3)

-- ---- structs that are cut to a size, or filled up to it ----

pub length_fitted : (bytes pointers : ℕ) (s : StructTree) → length (fitted_struct bytes pointers s).bytes ≡ bytes
length_fitted bytes pointers s = omega (
  arith,
  length-append (take bytes s.bytes) (replicate (bytes - length s.bytes) 0),
  length-replicate {A = ℕ} (bytes - length s.bytes) 0,
  length-take bytes s.bytes,
)

pub tree_count_fitted : (bytes pointers : ℕ) (s : StructTree) → tree_count (fitted_struct bytes pointers s).pointers ≡ pointers
tree_count_fitted bytes pointers s = omega (
  arith,
  tree_count_append_trees (first_trees pointers s.pointers) (nulls (pointers - tree_count s.pointers)),
  tree_count_nulls (pointers - tree_count s.pointers),
  tree_count_first_trees pointers s.pointers,
)

pub IsElement_fitted : (d p bytes pointers : ℕ) (s : StructTree) → bytes ≡ 8 * d → pointers ≡ p → IsWellFormedStruct s → IsElement d p (fitted_struct bytes pointers s)
IsElement_fitted d p bytes pointers s a b h = (
  AreBytes_append (take bytes s.bytes) (replicate (bytes - length s.bytes) 0) (AreBytes_take bytes s.bytes h.0) (AreBytes_zeros (bytes - length s.bytes)),
  omega (arith, length_fitted bytes pointers s, a),
  omega (arith, tree_count_fitted bytes pointers s, b),
  AreWellFormed_append_trees (first_trees pointers s.pointers) (nulls (pointers - tree_count s.pointers)) (AreWellFormed_first_trees pointers s.pointers h.3) (AreWellFormed_nulls (pointers - tree_count s.pointers)),
)

-- ---- structs whose data is rounded up to whole words ----

length_whole : (bytes : List ℕ) → length (whole_words bytes) ≡ 8 * ((length bytes + 7) / 8)
length_whole bytes = omega (arith, length-append bytes zeros, length-replicate {A = ℕ} missing 0)
  where
    missing : ℕ
    missing = 8 * byte_words (length bytes) - length bytes

    zeros : List ℕ
    zeros = replicate missing 0

pub copied_struct_is_well_formed : (s : StructTree) → IsWellFormedStruct s → IsWellFormed (struct_tree (rounded_struct s))
copied_struct_is_well_formed s h = let n = length_whole s.bytes in
    (AreBytes_append s.bytes (replicate (8 * byte_words (length s.bytes) - length s.bytes) 0) h.0 (AreBytes_zeros (8 * byte_words (length s.bytes) - length s.bytes)), omega (arith, n), omega (arith, n, h.1), h.2, h.3)

-- ---- structs that are written into ----

pub IsElement_with_number : (d p : ℕ) (s : StructTree) (width offset n : ℕ) → (offset + 1) * width ≤ length s.bytes → IsElement d p s → IsElement d p (with_bytes s (with_number width offset n s.bytes))
IsElement_with_number d p s width offset n inside h = (AreBytes_with_number width offset n s.bytes h.0, omega (arith, length_with_number width offset n s.bytes inside, h.1), h.2, h.3)

pub IsElement_with_bit : (d p : ℕ) (s : StructTree) (i : ℕ) (bit : Bool) → IsElement d p s → IsElement d p (with_bytes s (with_bit i bit s.bytes))
IsElement_with_bit d p s i bit h = (AreBytes_with_bit i bit s.bytes h.0, omega (arith, length_with_bit i bit s.bytes, h.1), h.2, h.3)

pub IsElement_with_pointer_tree : (d p : ℕ) (s : StructTree) (i : ℕ) (t : Tree) → IsElement d p s → IsWellFormed t → IsElement d p (with_pointer_tree s i t)
IsElement_with_pointer_tree d p s i t h k = (h.0, h.1, omega (arith, tree_count_with_tree s.pointers i t, h.2), AreWellFormed_with_tree s.pointers i t h.3 k)
