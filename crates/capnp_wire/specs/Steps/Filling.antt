-- What is made of bytes in which room was left for pointers: the pointers are put there, and what they lead to is
-- appended.
use Rattle.std.specs.Prelude.{ℕ, ◌+◌, ◌-◌, ◌*◌, ◌/◌, ◌<◌, ◌≤◌, List, ◌++◌, take, drop, length}
use Rattle.capnp_wire.specs.Tree.{Trees, Structs, StructTree, tree_count, struct_count}
use Rattle.capnp_wire.specs.Words.{words_of_all, words_below_all}
use Rattle.capnp_wire.specs.WellFormed.{AreElements, AreWellFormed}
use Rattle.capnp_wire.specs.Encoding.{pointer_row, element_row, bytes_of_all, bytes_below_all}
use Rattle.capnp_wire.specs.Locate.{words_past_format}

-- bytes with others in the place of as many, from an index on
abbrev pub bytes_with : ℕ → List ℕ → List ℕ → List ℕ
bytes_with at new bytes = take at bytes ++ (new ++ drop (at + length new) bytes)

-- the words from an index to the end
abbrev pub words_from : ℕ → List ℕ → ℕ
words_from at bytes = (length bytes - at) / 8

-- ---- pointers in a row ----

-- where the row ends
abbrev pub row_end : ℕ → Trees → ℕ
row_end at ts = at + 8 * tree_count ts

-- there is room for them, and what they lead to is near enough
abbrev pub HasRoom : ℕ → Trees → List ℕ → Type 0
HasRoom at ts bytes = AreWellFormed ts × (row_end at ts ≤ length bytes) × (tree_count ts + words_from (row_end at ts) bytes + words_of_all ts < words_past_format)

-- the pointers there, and what they lead to at the end
abbrev pub with_pointers : ℕ → Trees → List ℕ → List ℕ
with_pointers at ts bytes = bytes_with at (pointer_row (words_from (row_end at ts) bytes) ts) bytes ++ bytes_of_all ts

-- ---- elements of a composite list ----

-- an element there, its data and its pointers in a row, and what these lead to at the end
abbrev pub with_encoded_element : ℕ → StructTree → List ℕ → List ℕ
with_encoded_element at s bytes =
    bytes_with at (s.bytes ++ pointer_row (words_from (row_end (at + length s.bytes) s.pointers) bytes) s.pointers) bytes ++ bytes_of_all s.pointers

-- where elements of so many words each end
abbrev pub elements_end : ℕ → ℕ → Structs → ℕ
elements_end size at es = at + 8 * (struct_count es * size)

-- there is room for elements of one size, and what they lead to is near enough
abbrev pub HaveRoom : ℕ → ℕ → ℕ → Structs → List ℕ → Type 0
HaveRoom d p at es bytes =
    AreElements d p es × (elements_end (d + p) at es ≤ length bytes) × (struct_count es * (d + p) + words_from (elements_end (d + p) at es) bytes + words_below_all es < words_past_format)

-- the elements there, and what they lead to at the end
abbrev pub with_encoded_elements : ℕ → ℕ → Structs → List ℕ → List ℕ
with_encoded_elements size at es bytes = bytes_with at (element_row size (words_from (elements_end size at es) bytes) es) bytes ++ bytes_below_all es
