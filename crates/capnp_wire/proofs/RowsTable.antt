-- Worked rows: which lists are read as which element size, and what their elements are.
use Rattle.std.specs.Prelude.{◌≡◌, refl, ℕ, List, [], ◌∷◌, ◌++◌, Bool, true, false, cond, Result, Ok, Err, map, replicate}
use Rattle.capnp_wire.specs.Tree.{Tree, Null, Struct, Voids, Bits, Numbers, Pointers, Composite, StructTree, NoTrees, NoStructs, nth_tree}
use Rattle.capnp_wire.specs.Slot.{number_at}
use Rattle.capnp_wire.specs.Place.{tree_at}
use Rattle.capnp_wire.specs.Reading.{as_list, list_length, element_bit, element_number, cut_pointer, element_pointer, element_levels, element_struct}
use Rattle.capnp_wire.specs.declared.size.ElementSize.{ElementSize}
use Rattle.capnp_wire.specs.declared.size.ElementSize.TheVariants.{Void, Bit, Byte, TwoBytes, FourBytes, EightBytes, Pointer, InlineComposite}
use Rattle.capnp_device.specs.declared.error.ErrorKind.{ErrorKind}
use Rattle.capnp_device.specs.declared.error.ErrorKind.TheVariants.{WrongElementSize}
use Rattle.capnp_wire.proofs.Rows.{word, zero_word, root_of, trees, flat_structs, pointer_structs, bad, too_deep, capability}

-- ---- the table ----

-- of nothing; of bits; of numbers of one, two, four and eight bytes; of pointers; then composite lists with data words
-- alone, with pointers alone, with both, with neither
abbrev pub every_list : List Tree
every_list =
    Voids 1 ∷ Bits (true ∷ []) ∷ Numbers 1 (7 ∷ []) ∷ Numbers 2 (7 ∷ 0 ∷ []) ∷ Numbers 4 (7 ∷ 0 ∷ 0 ∷ 0 ∷ []) ∷ Numbers 8 (word 7 0 0 0 0 0 0 0)
    ∷ Pointers (trees (Null ∷ [])) ∷ Composite 1 0 NoStructs ∷ Composite 0 1 NoStructs ∷ Composite 1 1 NoStructs ∷ Composite 0 0 NoStructs ∷ []

-- what the table says of each list: it is read as it is, or refused for its element size
abbrev pub answers : List Bool → List Tree → List (Result Tree ErrorKind)
answers [] ts = []
answers (b ∷ bs) [] = []
answers (b ∷ bs) (t ∷ ts) = cond b (Ok t) (Err WrongElementSize) ∷ answers bs ts

-- each of them read as a list of the size that is asked
abbrev pub asked : ElementSize → List (Result Tree ErrorKind)
asked size = map (λ t. as_list size t 1) every_list

-- it is read
abbrev pub yes : Bool
yes = true

-- it is refused
abbrev pub no : Bool
no = false

-- nothing: every list, in the order above
pub asked_void : asked Void ≡ answers (yes ∷ yes ∷ yes ∷ yes ∷ yes ∷ yes ∷ yes ∷ yes ∷ yes ∷ yes ∷ yes ∷ []) every_list
asked_void = refl

-- bits: lists of bits alone
pub asked_bit : asked Bit ≡ answers (no ∷ yes ∷ no ∷ no ∷ no ∷ no ∷ no ∷ no ∷ no ∷ no ∷ no ∷ []) every_list
asked_bit = refl

-- one byte: that size, and structs with data
pub asked_byte : asked Byte ≡ answers (no ∷ no ∷ yes ∷ no ∷ no ∷ no ∷ no ∷ yes ∷ no ∷ yes ∷ no ∷ []) every_list
asked_byte = refl

-- two bytes: that size, and structs with data
pub asked_two_bytes : asked TwoBytes ≡ answers (no ∷ no ∷ no ∷ yes ∷ no ∷ no ∷ no ∷ yes ∷ no ∷ yes ∷ no ∷ []) every_list
asked_two_bytes = refl

-- four bytes: that size, and structs with data
pub asked_four_bytes : asked FourBytes ≡ answers (no ∷ no ∷ no ∷ no ∷ yes ∷ no ∷ no ∷ yes ∷ no ∷ yes ∷ no ∷ []) every_list
asked_four_bytes = refl

-- eight bytes: that size, and structs with data
pub asked_eight_bytes : asked EightBytes ≡ answers (no ∷ no ∷ no ∷ no ∷ no ∷ yes ∷ no ∷ yes ∷ no ∷ yes ∷ no ∷ []) every_list
asked_eight_bytes = refl

-- pointers: lists of pointers, and structs with pointers
pub asked_pointer : asked Pointer ≡ answers (no ∷ no ∷ no ∷ no ∷ no ∷ no ∷ yes ∷ no ∷ yes ∷ yes ∷ no ∷ []) every_list
asked_pointer = refl

-- structs: every list but bits
pub asked_composite : asked InlineComposite ≡ answers (yes ∷ no ∷ yes ∷ yes ∷ yes ∷ yes ∷ yes ∷ yes ∷ yes ∷ yes ∷ yes ∷ []) every_list
asked_composite = refl

-- ---- lengths ----

-- the number of elements
pub lengths : map list_length (Voids 5 ∷ Bits (true ∷ false ∷ true ∷ []) ∷ Numbers 1 (7 ∷ 8 ∷ []) ∷ Numbers 2 (7 ∷ 0 ∷ 8 ∷ 0 ∷ []) ∷ Numbers 4 (word 7 0 0 0 8 0 0 0)
    ∷ Numbers 8 (word 7 0 0 0 8 0 0 0) ∷ Pointers (trees (Null ∷ bad ∷ [])) ∷ Composite 0 0 (flat_structs ([] ∷ [] ∷ [] ∷ [])) ∷ [])
    ≡ 5 ∷ 3 ∷ 2 ∷ 2 ∷ 2 ∷ 1 ∷ 2 ∷ 3 ∷ []
lengths = refl

-- ---- elements as bits and numbers ----

-- indexes within a list of three and one past its end
abbrev pub first_four : List ℕ
first_four = 0 ∷ 1 ∷ 2 ∷ 3 ∷ []

-- bits
pub bits_of_bits : map (element_bit (Bits (true ∷ false ∷ true ∷ []))) first_four ≡ true ∷ false ∷ true ∷ false ∷ []
bits_of_bits = refl

-- one byte
pub numbers_of_bytes : map (element_number 1 (Numbers 1 (7 ∷ 0 ∷ 0xff ∷ []))) first_four ≡ 7 ∷ 0 ∷ 255 ∷ 0 ∷ []
numbers_of_bytes = refl

-- two bytes
pub numbers_of_pairs : map (element_number 2 (Numbers 2 (1 ∷ 0 ∷ 0 ∷ 1 ∷ 0xff ∷ 0xff ∷ []))) first_four ≡ 1 ∷ 256 ∷ 65535 ∷ 0 ∷ []
numbers_of_pairs = refl

-- four bytes
pub numbers_of_fours : map (element_number 4 (Numbers 4 (word 1 0 0 0 0 0 1 0 ++ (0xff ∷ 0xff ∷ 0xff ∷ 0xff ∷ [])))) first_four ≡ 1 ∷ 65536 ∷ 4294967295 ∷ 0 ∷ []
numbers_of_fours = refl

-- eight bytes
pub numbers_of_eights : map (element_number 8 (Numbers 8 (word 1 0 0 0 0 0 0 0 ++ word 0 0 0 0 1 0 0 0 ++ word 0xff 0xff 0xff 0xff 0xff 0xff 0xff 0xff))) first_four
    ≡ 1 ∷ 4294967296 ∷ 18446744073709551615 ∷ 0 ∷ []
numbers_of_eights = refl

-- of structs of two data words, the number at the start of each
abbrev pub two_word_structs : Tree
two_word_structs = Composite 2 0 (flat_structs ((word 1 2 3 4 5 6 7 8 ++ word 9 9 9 9 9 9 9 9) ∷ (word 0xff 0 0 0 0 0 0 0 ++ zero_word) ∷ []))

-- their first byte
pub bytes_of_structs : map (element_number 1 two_word_structs) (0 ∷ 1 ∷ 2 ∷ []) ≡ 1 ∷ 255 ∷ 0 ∷ []
bytes_of_structs = refl

-- their first two bytes
pub pairs_of_structs : map (element_number 2 two_word_structs) (0 ∷ 1 ∷ 2 ∷ []) ≡ 0x201 ∷ 255 ∷ 0 ∷ []
pairs_of_structs = refl

-- their first four bytes
pub fours_of_structs : map (element_number 4 two_word_structs) (0 ∷ 1 ∷ 2 ∷ []) ≡ 0x4030201 ∷ 255 ∷ 0 ∷ []
fours_of_structs = refl

-- their first eight bytes
pub eights_of_structs : map (element_number 8 two_word_structs) (0 ∷ 1 ∷ 2 ∷ []) ≡ 0x807060504030201 ∷ 255 ∷ 0 ∷ []
eights_of_structs = refl

-- ---- elements as pointers ----

-- the pointer at an index, of a list with so many levels left
abbrev pub pointer_at : ℕ → Tree → ℕ → Tree
pointer_at levels t i = element_pointer t i levels

-- out of a list of pointers each is as it stands, at any level
pub pointers_of_pointers : map (pointer_at 0 (Pointers (trees (Struct [] NoTrees ∷ Null ∷ capability ∷ [])))) first_four ≡ Struct [] NoTrees ∷ Null ∷ capability ∷ Null ∷ []
pointers_of_pointers = refl

-- out of a composite list it is the element's first pointer
abbrev pub structs_with_two_pointers : Tree
structs_with_two_pointers = Composite 0 2 (pointer_structs ((Numbers 1 (7 ∷ []) ∷ bad ∷ []) ∷ (Null ∷ bad ∷ []) ∷ (capability ∷ Null ∷ []) ∷ []))

-- with a level left it is as it stands
pub pointers_of_structs : map (pointer_at 1 structs_with_two_pointers) first_four ≡ Numbers 1 (7 ∷ []) ∷ Null ∷ capability ∷ Null ∷ []
pointers_of_structs = refl

-- and too deep where no level is left and it isn't null, whatever it is
pub pointers_of_structs_too_deep : map (pointer_at 0 structs_with_two_pointers) first_four ≡ too_deep ∷ Null ∷ too_deep ∷ Null ∷ []
pointers_of_structs_too_deep = refl

-- whatever a pointer may stand for
abbrev pub every_tree : List Tree
every_tree = Null ∷ Struct [] NoTrees ∷ bad ∷ too_deep ∷ capability ∷ every_list

-- with a level left
pub every_pointer : map (cut_pointer 1) every_tree ≡ every_tree
every_pointer = refl

-- with none
pub every_pointer_too_deep : map (cut_pointer 0) every_tree ≡ Null ∷ replicate 15 too_deep
every_pointer_too_deep = refl

-- what is no list of bits has no bit that is set
pub bit_of_every_tree : map (λ t. element_bit t 0) every_tree ≡ replicate 6 false ++ (true ∷ replicate 9 false)
bit_of_every_tree = refl

-- what is no list of pointers or structs has no pointer
pub pointer_of_every_tree : map (λ t. element_pointer t 0 1) every_tree ≡ replicate 16 Null
pointer_of_every_tree = refl

-- what is no list has no elements
pub length_of_every_tree : map list_length every_tree ≡ replicate 5 0 ++ replicate 7 1 ++ replicate 4 0
length_of_every_tree = refl

-- a pointer out of a composite list has a level less than the list, one out of a list of pointers has the list's
pub levels_of_pointers : map (element_levels structs_with_two_pointers) (0 ∷ 1 ∷ 5 ∷ []) ++ map (element_levels (Pointers NoTrees)) (0 ∷ 1 ∷ 5 ∷ []) ≡ 0 ∷ 0 ∷ 4 ∷ 0 ∷ 1 ∷ 5 ∷ []
levels_of_pointers = refl

-- ---- elements as structs ----

-- a struct without pointers
abbrev pub flat : List ℕ → StructTree
flat bytes = record { bytes = bytes; pointers = NoTrees }

-- a struct of one pointer
abbrev pub pointing : Tree → StructTree
pointing t = record { bytes = []; pointers = trees (t ∷ []) }

-- of nothing: size zero
pub structs_of_voids : map (element_struct (Voids 2)) (0 ∷ 1 ∷ 2 ∷ []) ≡ flat [] ∷ flat [] ∷ flat [] ∷ []
structs_of_voids = refl

-- of numbers: as many bytes of data as they have; here one
pub structs_of_bytes : map (element_struct (Numbers 1 (5 ∷ 0xff ∷ []))) (0 ∷ 1 ∷ 2 ∷ []) ≡ flat (5 ∷ []) ∷ flat (0xff ∷ []) ∷ flat [] ∷ []
structs_of_bytes = refl

-- two bytes
pub structs_of_pairs : map (element_struct (Numbers 2 (1 ∷ 0 ∷ 2 ∷ 0 ∷ []))) (0 ∷ 1 ∷ 2 ∷ []) ≡ flat (1 ∷ 0 ∷ []) ∷ flat (2 ∷ 0 ∷ []) ∷ flat [] ∷ []
structs_of_pairs = refl

-- four bytes
pub structs_of_fours : map (element_struct (Numbers 4 (word 1 2 3 4 5 6 7 8))) (0 ∷ 1 ∷ 2 ∷ []) ≡ flat (1 ∷ 2 ∷ 3 ∷ 4 ∷ []) ∷ flat (5 ∷ 6 ∷ 7 ∷ 8 ∷ []) ∷ flat [] ∷ []
structs_of_fours = refl

-- eight bytes
pub structs_of_eights : map (element_struct (Numbers 8 (word 1 2 3 4 5 6 7 8))) (0 ∷ 1 ∷ []) ≡ flat (word 1 2 3 4 5 6 7 8) ∷ flat [] ∷ []
structs_of_eights = refl

-- of pointers: one pointer each
pub structs_of_pointers : map (element_struct (Pointers (trees (capability ∷ Null ∷ [])))) (0 ∷ 1 ∷ 2 ∷ []) ≡ pointing capability ∷ pointing Null ∷ flat [] ∷ []
structs_of_pointers = refl

-- of structs: themselves
pub structs_of_structs : map (element_struct two_word_structs) (1 ∷ 2 ∷ []) ≡ flat (word 0xff 0 0 0 0 0 0 0 ++ zero_word) ∷ flat [] ∷ []
structs_of_structs = refl

-- ---- one field in three forms, from bytes ----

-- the first number of each element as a struct, absent bits zero
abbrev pub as_first_numbers : ℕ → Tree → List ℕ
as_first_numbers width t = map (λ i. number_at width 0 (element_struct t i).bytes) first_four

-- the last of a struct's four pointers
abbrev pub fourth_pointer : Tree → Tree
fourth_pointer (Struct bytes ps) = nth_tree ps 3
fourth_pointer t = Null

-- that pointer, with this behind the struct
abbrev pub field_with : List ℕ → Tree
field_with content = fourth_pointer (root_of (word 0 0 0 0 0 0 4 0 ++ zero_word ++ zero_word ++ zero_word ++ content))

-- two structs of a data word
pub structs_as_structs : as_first_numbers 2 (field_with (word 1 0 0 0 0x17 0 0 0 ++ word 8 0 0 0 1 0 0 0 ++ word 1 0 0 0 0 0 0 0 ++ word 2 0 0 0 0 0 0 0)) ≡ 1 ∷ 2 ∷ 0 ∷ 0 ∷ []
unfolding tree_at
structs_as_structs = refl

-- two numbers of two bytes
pub pairs_as_structs : as_first_numbers 2 (field_with (word 1 0 0 0 0x13 0 0 0 ++ word 1 0 2 0 0 0 0 0)) ≡ 1 ∷ 2 ∷ 0 ∷ 0 ∷ []
unfolding tree_at
pairs_as_structs = refl

-- two bytes
pub bytes_as_structs : as_first_numbers 2 (field_with (word 1 0 0 0 0x12 0 0 0 ++ word 5 0xff 0 0 0 0 0 0)) ≡ 5 ∷ 255 ∷ 0 ∷ 0 ∷ []
unfolding tree_at
bytes_as_structs = refl

-- two bits aren't read as structs
pub bits_as_structs : as_list InlineComposite (field_with (word 1 0 0 0 0x11 0 0 0 ++ word 1 0 2 0 0 0 0 0)) 63 ≡ Err WrongElementSize
unfolding tree_at
bits_as_structs = refl

-- ---- one element both ways: as a number or pointer, and read as a struct ----

-- the number of an element is the first of the same element as a struct
abbrev pub as_numbers : ℕ → Tree → List ℕ
as_numbers width t = map (element_number width t) first_four

-- lists of one, two and four bytes, and structs
pub numbers_both_ways :
    as_numbers 1 (Numbers 1 (7 ∷ 0 ∷ 0xff ∷ [])) ++ as_numbers 2 (Numbers 2 (word 1 0 0 1 0xff 0xff 9 9)) ++ as_numbers 4 (Numbers 4 (word 1 0 0 0 2 0 0 0)) ++ as_numbers 8 two_word_structs
    ≡ as_first_numbers 1 (Numbers 1 (7 ∷ 0 ∷ 0xff ∷ [])) ++ as_first_numbers 2 (Numbers 2 (word 1 0 0 1 0xff 0xff 9 9)) ++ as_first_numbers 4 (Numbers 4 (word 1 0 0 0 2 0 0 0)) ++ as_first_numbers 8 two_word_structs
numbers_both_ways = refl

-- the pointer of an element is the first of the same element as a struct, out of a list of pointers and out of one of structs
pub pointers_both_ways : map (λ i. nth_tree (element_struct structs_with_two_pointers i).pointers 0) first_four ++ map (λ i. nth_tree (element_struct (Pointers (trees (capability ∷ Null ∷ []))) i).pointers 0) first_four
    ≡ map (pointer_at 1 structs_with_two_pointers) first_four ++ map (pointer_at 1 (Pointers (trees (capability ∷ Null ∷ [])))) first_four
pointers_both_ways = refl
