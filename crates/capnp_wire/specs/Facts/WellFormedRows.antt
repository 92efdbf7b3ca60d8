-- Pointers, elements and bits in a row, and the struct and lists that stand at a word.
use Rattle.std.proofs.Common.{◌≡◌, ℕ, zero, suc, ◌+◌, ◌*◌, ◌/◌, ◌<◌, ◌≤◌, ◌^◌, List, length, refl, ap, arith}
use Rattle.std.proofs.lemmas.Nat.{row_fits}
use Rattle.capnp_wire.specs.Tree.{Tree, StructTree, struct_count, structs_from}
use Rattle.capnp_wire.specs.Place.{bytes_at, bits_from, struct_at, struct_tree, composite_tree, list_tree}
use Rattle.capnp_wire.specs.Locate.{list_words}
use Rattle.capnp_wire.specs.WellFormed.{AreBytes, IsWellFormed, IsWellFormedStruct}
use Rattle.capnp_wire.specs.Steps.WellFormed.{IsElement}
use Rattle.capnp_wire.specs.Facts.ByteRuns.{AreBytes_bytes_at, length_bytes_at, length_part_le}
pub use Rattle.capnp_wire.specs.Facts.Rows.{AreElements_structs_from, AreWellFormed_trees_from, struct_count_structs_from, tree_count_trees_from}

-- ---- rows ----

-- and of bits
pub length_bits_from : (bytes : List ℕ) (first count : ℕ) → length (bits_from bytes first count) ≡ count
length_bits_from bytes first zero = refl
length_bits_from bytes first (suc count) = ap suc (length_bits_from bytes (suc first) count)

-- ---- what stands at a word ----

-- a struct at any word, also where it ends past the segment
pub IsWellFormedStruct_struct_at : (f : ℕ → Tree) (segment : List ℕ) (d p start : ℕ) → AreBytes segment → d < 2 ^ 16 → p < 2 ^ 16 → ((w : ℕ) → IsWellFormed (f w)) → IsWellFormedStruct (struct_at f segment d p start)
IsWellFormedStruct_struct_at f segment d p start h b c each =
    (AreBytes_bytes_at segment start (8 * d) h, omega (arith, length_part_le (8 * d) (8 * start) segment), omega (arith, tree_count_trees_from f (start + d) p), AreWellFormed_trees_from f (start + d) p each)

-- a struct whose data lies in the segment has it in full
pub IsElement_struct_at : (f : ℕ → Tree) (segment : List ℕ) (d p start : ℕ) → AreBytes segment → start + d ≤ length segment / 8 → ((w : ℕ) → IsWellFormed (f w)) → IsElement d p (struct_at f segment d p start)
IsElement_struct_at f segment d p start h l each =
    (AreBytes_bytes_at segment start (8 * d) h, length_bytes_at segment start (8 * d) (omega arith), tree_count_trees_from f (start + d) p, AreWellFormed_trees_from f (start + d) p each)

-- the same as a tree
pub IsWellFormed_struct_tree : (f : ℕ → Tree) (segment : List ℕ) (d p start : ℕ) → AreBytes segment → start + d ≤ length segment / 8 → d < 2 ^ 16 → p < 2 ^ 16 → ((w : ℕ) → IsWellFormed (f w)) → IsWellFormed (struct_tree (struct_at f segment d p start))
IsWellFormed_struct_tree f segment d p start h l b c each =
    let n : length (bytes_at segment start (8 * d)) ≡ 8 * d = length_bytes_at segment start (8 * d) (omega arith) in
    (AreBytes_bytes_at segment start (8 * d) h, omega (arith, n), omega (arith, n), omega (arith, tree_count_trees_from f (start + d) p), AreWellFormed_trees_from f (start + d) p each)

-- a composite list that lies in the segment, each element in its own words
pub IsWellFormed_composite_tree : (f : ℕ → Tree) (segment : List ℕ) (start count d p : ℕ) → AreBytes segment → start + count * (d + p) ≤ length segment / 8 → d < 2 ^ 16 → p < 2 ^ 16 → count < 2 ^ 29 → count * (d + p) < 2 ^ 29 → ((w : ℕ) → IsWellFormed (f w)) → IsWellFormed (composite_tree f segment start count d p)
IsWellFormed_composite_tree f segment start count d p h l b c n m each =
    let element : ℕ → StructTree = λ i. struct_at f segment d p (start + i * (d + p)) in
    let e : struct_count (structs_from element 0 count) ≡ count = struct_count_structs_from element 0 count in (
      b,
      c,
      rw e n,
      rw e m,
      AreElements_structs_from element d p 0 count
          (λ i k. IsElement_struct_at f segment d p (start + i * (d + p)) h (omega (arith, l, row_fits i (d + p) count (d + p) (omega (arith, k)) (omega arith))) each),
    )

-- a list of elements of this size, from 0 to 6
pub IsWellFormed_list_tree : (f : ℕ → Tree) (segment : List ℕ) (start size count : ℕ) → AreBytes segment → start + list_words size count ≤ length segment / 8 → count < 2 ^ 29 → ((w : ℕ) → IsWellFormed (f w)) → IsWellFormed (list_tree f segment start size count)
IsWellFormed_list_tree f segment start zero count h l b each = b
IsWellFormed_list_tree f segment start (suc zero) count h l b each = omega (arith, length_bits_from (bytes_at segment start (8 * list_words 1 count)) 0 count)
IsWellFormed_list_tree f segment start (suc (suc zero)) count h l b each =
    let n : length (bytes_at segment start count) ≡ count = length_bytes_at segment start count (omega arith) in
    (AreBytes_bytes_at segment start count h, refl, omega arith, omega (arith, n))
IsWellFormed_list_tree f segment start (suc (suc (suc zero))) count h l b each =
    let n : length (bytes_at segment start (2 * count)) ≡ 2 * count = length_bytes_at segment start (2 * count) (omega arith) in
    (AreBytes_bytes_at segment start (2 * count) h, refl, omega (arith, n), omega (arith, n))
IsWellFormed_list_tree f segment start (suc (suc (suc (suc zero)))) count h l b each =
    let n : length (bytes_at segment start (4 * count)) ≡ 4 * count = length_bytes_at segment start (4 * count) (omega arith) in
    (AreBytes_bytes_at segment start (4 * count) h, refl, omega (arith, n), omega (arith, n))
IsWellFormed_list_tree f segment start (suc (suc (suc (suc (suc zero))))) count h l b each =
    let n : length (bytes_at segment start (8 * count)) ≡ 8 * count = length_bytes_at segment start (8 * count) (omega arith) in
    (AreBytes_bytes_at segment start (8 * count) h, refl, omega (arith, n), omega (arith, n))
IsWellFormed_list_tree f segment start (suc (suc (suc (suc (suc (suc size)))))) count h l b each =
    (omega (arith, tree_count_trees_from f start count), AreWellFormed_trees_from f start count each)
