-- Structs that stand in a row in a segment, by where each one's data and pointers stand.
use Rattle.std.specs.Prelude.{None, suc, zero, ℕ, ◌≡◌, ◌+◌, ◌*◌, ◌<◌, ◌≤◌, List, length, take, drop}
use Rattle.capnp_wire.specs.Reading.{element_struct, list_length}
use Rattle.capnp_wire.specs.Tree.{StructTree, structs_from, trees_from}
use Rattle.capnp_wire.specs.Words.{first_fault_of_elements, words_below_all, words_of}
use Rattle.capnp_arena.specs.Steps.Counts.{AreForests}
use Rattle.capnp_arena.specs.Forest.{tree}
use Rattle.capnp_arena.specs.Shape.{word_count}
use Rattle.capnp_arena.specs.declared.grown.PartRow.{PartRow}

-- one of them
abbrev pub grown_part_at : List ℕ → PartRow → ℕ → StructTree
grown_part_at bytes row i = record { bytes = take row.data_count (drop (row.first_byte + i * row.data_step) bytes); pointers = trees_from (tree bytes) (row.first + i * row.pointer_step) row.pointers }

-- it lies inside, and its pointers lead to trees
abbrev pub IsPartIn : List ℕ → PartRow → ℕ → Type 0
IsPartIn bytes row i = (row.first_byte + i * row.data_step + row.data_count ≤ length bytes) × (row.first + i * row.pointer_step + row.pointers ≤ word_count bytes) × AreForests bytes (row.first + i * row.pointer_step) row.pointers

-- and so do so many
abbrev pub ArePartsIn : List ℕ → PartRow → ℕ → Type 0
ArePartsIn bytes row count = (i : ℕ) → i < count → IsPartIn bytes row i

-- ---- the elements of a list as structs ----

-- the row of a list that is not of structs, by the number of its element size
abbrev pub no_parts : PartRow
no_parts = record { first_byte = 0; data_count = 0; data_step = 0; first = 0; pointers = 0; pointer_step = 0 }

abbrev pub number_parts : ℕ → ℕ → PartRow
number_parts start width = record { first_byte = 8 * start; data_count = width; data_step = width; first = 0; pointers = 0; pointer_step = 0 }

abbrev pub pointer_parts : ℕ → PartRow
pointer_parts start = record { first_byte = 0; data_count = 0; data_step = 0; first = start; pointers = 1; pointer_step = 1 }

abbrev pub pointerless_parts : ℕ → ℕ → PartRow
pointerless_parts start zero = no_parts
pointerless_parts start (suc zero) = no_parts
pointerless_parts start (suc (suc zero)) = number_parts start 1
pointerless_parts start (suc (suc (suc zero))) = number_parts start 2
pointerless_parts start (suc (suc (suc (suc zero)))) = number_parts start 4
pointerless_parts start (suc (suc (suc (suc (suc zero))))) = number_parts start 8
pointerless_parts start (suc (suc (suc (suc (suc (suc size)))))) = pointer_parts start

-- and of a list of structs
abbrev pub struct_parts : (tag data_words pointers : ℕ) → PartRow
struct_parts tag d p = record { first_byte = 8 * (tag + 1); data_count = 8 * d; data_step = 8 * (d + p); first = tag + 1 + d; pointers = p; pointer_step = d + p }

-- the data words and the pointers that an element of the size with a number takes as a struct
abbrev pub kind_words : ℕ → ℕ
kind_words zero = 0
kind_words (suc zero) = 0
kind_words (suc (suc zero)) = 1
kind_words (suc (suc (suc zero))) = 1
kind_words (suc (suc (suc (suc zero)))) = 1
kind_words (suc (suc (suc (suc (suc zero))))) = 1
kind_words (suc (suc (suc (suc (suc (suc size)))))) = 0

abbrev pub kind_pointers : ℕ → ℕ
kind_pointers zero = 0
kind_pointers (suc zero) = 0
kind_pointers (suc (suc zero)) = 0
kind_pointers (suc (suc (suc zero))) = 0
kind_pointers (suc (suc (suc (suc zero)))) = 0
kind_pointers (suc (suc (suc (suc (suc zero))))) = 0
kind_pointers (suc (suc (suc (suc (suc (suc size)))))) = 1

-- the list that a pointer leads to has these structs as its elements
pub record IsPartList (bytes : List ℕ) (w : ℕ) (row : PartRow) (count : ℕ) : Type 0 where
  pub parts : ArePartsIn bytes row count
  pub length : list_length (tree bytes w) ≡ count
  pub element : (i : ℕ) → i < count → element_struct (tree bytes w) i ≡ grown_part_at bytes row i
  pub below : words_below_all (structs_from (grown_part_at bytes row) 0 count) ≤ words_of (tree bytes w)
  pub whole : first_fault_of_elements (structs_from (grown_part_at bytes row) 0 count) ≡ None
