-- Worked rows: what writes make of trees.
use Rattle.std.specs.Prelude.{◌≡◌, refl, [], ◌∷◌, ◌++◌}
use Rattle.capnp_wire.specs.Tree.{Null, Voids, Numbers, Pointers, NoTrees, StructTree, empty_struct}
use Rattle.capnp_wire.specs.Reading.{element_struct}
use Rattle.capnp_wire.specs.Edits.{fitted_struct, whole_words}
use Rattle.capnp_wire.proofs.Rows.{word, zero_word, trees}

-- bytes that end within a word
pub a_word_of_three_bytes : whole_words (1 ∷ 2 ∷ 3 ∷ []) ≡ 1 ∷ 2 ∷ 3 ∷ 0 ∷ 0 ∷ 0 ∷ 0 ∷ 0 ∷ []
a_word_of_three_bytes = refl

-- a byte past a word
pub two_words_of_nine_bytes : whole_words (1 ∷ 2 ∷ 3 ∷ 4 ∷ 5 ∷ 6 ∷ 7 ∷ 8 ∷ 9 ∷ []) ≡ 1 ∷ 2 ∷ 3 ∷ 4 ∷ 5 ∷ 6 ∷ 7 ∷ 8 ∷ 9 ∷ 0 ∷ 0 ∷ 0 ∷ 0 ∷ 0 ∷ 0 ∷ 0 ∷ []
two_words_of_nine_bytes = refl

-- whole words, and no bytes, stay as they are
pub a_word_of_eight_bytes : whole_words (1 ∷ 2 ∷ 3 ∷ 4 ∷ 5 ∷ 6 ∷ 7 ∷ 8 ∷ []) ≡ 1 ∷ 2 ∷ 3 ∷ 4 ∷ 5 ∷ 6 ∷ 7 ∷ 8 ∷ []
a_word_of_eight_bytes = refl

pub no_words_of_no_bytes : whole_words [] ≡ []
no_words_of_no_bytes = refl

-- ---- a struct with just a size ----

-- a struct of a word and two pointers
abbrev source : StructTree
source = record { bytes = word 1 2 3 4 5 6 7 8; pointers = trees (Voids 3 ∷ Voids 4 ∷ []) }

-- of its own size
pub same_size : fitted_struct 8 2 source ≡ source
same_size = refl

-- with room for its first pointer alone
pub smaller : fitted_struct 0 1 source ≡ record { bytes = []; pointers = trees (Voids 3 ∷ []) }
smaller = refl

-- with room for more
pub larger : fitted_struct 16 4 source ≡ record { bytes = word 1 2 3 4 5 6 7 8 ++ zero_word; pointers = trees (Voids 3 ∷ Voids 4 ∷ Null ∷ Null ∷ []) }
larger = refl

-- with room for more data and for no pointer, and the other way round
pub more_data : fitted_struct 16 0 source ≡ record { bytes = word 1 2 3 4 5 6 7 8 ++ zero_word; pointers = NoTrees }
more_data = refl

pub more_pointers : fitted_struct 0 3 source ≡ record { bytes = []; pointers = trees (Voids 3 ∷ Voids 4 ∷ Null ∷ []) }
more_pointers = refl

-- the first of two words
pub first_word : fitted_struct 8 0 (record { bytes = word 1 2 3 4 5 6 7 8 ++ word 9 10 11 12 13 14 15 16; pointers = NoTrees }) ≡ record { bytes = word 1 2 3 4 5 6 7 8; pointers = NoTrees }
first_word = refl

-- an element of a list of bytes, and of a list of numbers of four bytes: its data ends within a word
pub byte_element : fitted_struct 8 1 (element_struct (Numbers 1 (7 ∷ 9 ∷ [])) 1) ≡ record { bytes = word 9 0 0 0 0 0 0 0; pointers = trees (Null ∷ []) }
byte_element = refl

pub four_byte_element : fitted_struct 16 0 (element_struct (Numbers 4 (1 ∷ 2 ∷ 3 ∷ 4 ∷ 5 ∷ 6 ∷ 7 ∷ 8 ∷ [])) 0) ≡ record { bytes = word 1 2 3 4 0 0 0 0 ++ zero_word; pointers = NoTrees }
four_byte_element = refl

-- an element of a list of pointers
pub pointer_element : fitted_struct 8 2 (element_struct (Pointers (trees (Voids 3 ∷ Voids 4 ∷ []))) 1) ≡ record { bytes = zero_word; pointers = trees (Voids 4 ∷ Null ∷ []) }
pointer_element = refl

-- a struct of size zero
pub empty_source : fitted_struct 8 1 empty_struct ≡ record { bytes = zero_word; pointers = trees (Null ∷ []) }
empty_source = refl

pub no_room : fitted_struct 0 0 source ≡ empty_struct
no_room = refl
