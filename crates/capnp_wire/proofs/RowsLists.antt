-- Worked rows: lists of each element size from 0 to 6, and where they lie.
use Rattle.std.specs.Prelude.{◌≡◌, refl, [], ◌∷◌, ◌++◌, true, false, replicate}
use Rattle.capnp_wire.specs.Tree.{Null, Struct, Voids, Bits, Numbers, Pointers, NoTrees}
use Rattle.capnp_wire.specs.Place.{tree_at}
use Rattle.capnp_wire.proofs.Rows.{word, zero_word, root_of, trees, bad, capability}

-- ---- each element size ----

-- 0: three elements of nothing
pub three_voids : root_of (word 1 0 0 0 0x18 0 0 0) ≡ Voids 3
unfolding tree_at
three_voids = refl

-- 1: ten bits, lowest first in each byte
pub ten_bits :
    root_of (word 1 0 0 0 0x51 0 0 0 ++ word 0x05 0x02 0 0 0 0 0 0) ≡ Bits (true ∷ false ∷ true ∷ false ∷ false ∷ false ∷ false ∷ false ∷ false ∷ true ∷ [])
unfolding tree_at
ten_bits = refl

-- 2: three bytes
pub three_bytes : root_of (word 1 0 0 0 0x1a 0 0 0 ++ word 1 2 3 4 5 6 7 8) ≡ Numbers 1 (1 ∷ 2 ∷ 3 ∷ [])
unfolding tree_at
three_bytes = refl

-- 3: three numbers of two bytes
pub three_pairs : root_of (word 1 0 0 0 0x1b 0 0 0 ++ word 1 0 2 0 3 0 0 0) ≡ Numbers 2 (1 ∷ 0 ∷ 2 ∷ 0 ∷ 3 ∷ 0 ∷ [])
unfolding tree_at
three_pairs = refl

-- 4: three numbers of four bytes, in two words
pub three_fours :
    root_of (word 1 0 0 0 0x1c 0 0 0 ++ word 1 0 0 0 2 0 0 0 ++ word 3 0 0 0x80 9 9 9 9) ≡ Numbers 4 (1 ∷ 0 ∷ 0 ∷ 0 ∷ 2 ∷ 0 ∷ 0 ∷ 0 ∷ 3 ∷ 0 ∷ 0 ∷ 0x80 ∷ [])
unfolding tree_at
three_fours = refl

-- 5: two numbers of eight bytes
pub two_eights : root_of (word 1 0 0 0 0x15 0 0 0 ++ word 1 2 3 4 5 6 7 8 ++ word 0 0 0 0 0 0 0 0xff) ≡ Numbers 8 (word 1 2 3 4 5 6 7 8 ++ word 0 0 0 0 0 0 0 0xff)
unfolding tree_at
two_eights = refl

-- 6: four pointers: null, a struct of size zero, two bytes, a capability
pub four_pointers :
    root_of (word 1 0 0 0 0x26 0 0 0 ++ zero_word ++ word 0xfc 0xff 0xff 0xff 0 0 0 0 ++ word 5 0 0 0 0x12 0 0 0 ++ word 3 0 0 0 0 0 0 0 ++ word 8 9 0 0 0 0 0 0)
    ≡ Pointers (trees (Null ∷ Struct [] NoTrees ∷ Numbers 1 (8 ∷ 9 ∷ []) ∷ capability ∷ []))
unfolding tree_at
four_pointers = refl

-- ---- a message's fields ----

-- a text of seven letters and its zero
pub text_root : root_of (word 1 0 0 0 0x42 0 0 0 ++ word 0x61 0x62 0x63 0x64 0x65 0x66 0x67 0) ≡ Numbers 1 (0x61 ∷ 0x62 ∷ 0x63 ∷ 0x64 ∷ 0x65 ∷ 0x66 ∷ 0x67 ∷ 0 ∷ [])
unfolding tree_at
text_root = refl

-- a text that takes two words
pub longer_text_root :
    root_of (word 1 0 0 0 0x72 0 0 0 ++ word 0x48 0x65 0x6c 0x6c 0x6f 0x2c 0x20 0x57 ++ word 0x6f 0x72 0x6c 0x64 0x21 0 0 0)
    ≡ Numbers 1 (word 0x48 0x65 0x6c 0x6c 0x6f 0x2c 0x20 0x57 ++ (0x6f ∷ 0x72 ∷ 0x6c ∷ 0x64 ∷ 0x21 ∷ 0 ∷ []))
unfolding tree_at
longer_text_root = refl

-- two bytes in the last of four pointers
pub bytes_in_field :
    root_of (word 0 0 0 0 0 0 4 0 ++ zero_word ++ zero_word ++ zero_word ++ word 1 0 0 0 0x12 0 0 0 ++ word 5 0xff 0 0 0 0 0 0)
    ≡ Struct [] (trees (Null ∷ Null ∷ Null ∷ Numbers 1 (5 ∷ 0xff ∷ []) ∷ []))
unfolding tree_at
bytes_in_field = refl

-- two numbers of two bytes there
pub pairs_in_field :
    root_of (word 0 0 0 0 0 0 4 0 ++ zero_word ++ zero_word ++ zero_word ++ word 1 0 0 0 0x13 0 0 0 ++ word 1 0 2 0 0 0 0 0)
    ≡ Struct [] (trees (Null ∷ Null ∷ Null ∷ Numbers 2 (1 ∷ 0 ∷ 2 ∷ 0 ∷ []) ∷ []))
unfolding tree_at
pairs_in_field = refl

-- two bits there
pub bits_in_field :
    root_of (word 0 0 0 0 0 0 4 0 ++ zero_word ++ zero_word ++ zero_word ++ word 1 0 0 0 0x11 0 0 0 ++ word 1 0 2 0 0 0 0 0)
    ≡ Struct [] (trees (Null ∷ Null ∷ Null ∷ Bits (true ∷ false ∷ []) ∷ []))
unfolding tree_at
bits_in_field = refl

-- ---- where a list lies ----

-- no elements, at the segment's end
pub empty_list_at_end : root_of (word 1 0 0 0 2 0 0 0) ≡ Numbers 1 []
unfolding tree_at
empty_list_at_end = refl

-- no elements, at the pointer itself
pub empty_list_at_pointer : root_of (word 0xfd 0xff 0xff 0xff 3 0 0 0) ≡ Numbers 2 []
unfolding tree_at
empty_list_at_pointer = refl

-- no elements, one word behind the end
pub empty_list_outside : root_of (word 5 0 0 0 2 0 0 0) ≡ bad
unfolding tree_at
empty_list_outside = refl

-- no elements, one word before the segment
pub empty_list_before : root_of (word 0xf9 0xff 0xff 0xff 2 0 0 0) ≡ bad
unfolding tree_at
empty_list_before = refl

-- elements of nothing take no words either
pub voids_outside : root_of (word 5 0 0 0 0x18 0 0 0) ≡ bad
unfolding tree_at
voids_outside = refl

-- the greatest count of them
pub most_voids : root_of (word 1 0 0 0 0xf8 0xff 0xff 0xff) ≡ Voids 536870911
unfolding tree_at
most_voids = refl

-- eight bytes fill a word
pub eight_bytes_fit : root_of (word 1 0 0 0 0x42 0 0 0 ++ word 1 2 3 4 5 6 7 8) ≡ Numbers 1 (word 1 2 3 4 5 6 7 8)
unfolding tree_at
eight_bytes_fit = refl

-- a ninth byte is outside
pub ninth_byte_outside : root_of (word 1 0 0 0 0x4a 0 0 0 ++ word 1 2 3 4 5 6 7 8) ≡ bad
unfolding tree_at
ninth_byte_outside = refl

-- sixty-four bits fill a word
pub word_of_bits : root_of (word 1 0 0 0 1 2 0 0 ++ word 0xff 0xff 0xff 0xff 0xff 0xff 0xff 0xff) ≡ Bits (replicate 64 true)
unfolding tree_at
word_of_bits = refl

-- one bit more is outside
pub next_bit_outside : root_of (word 1 0 0 0 9 2 0 0 ++ word 0xff 0xff 0xff 0xff 0xff 0xff 0xff 0xff) ≡ bad
unfolding tree_at
next_bit_outside = refl

-- one element too many of each other size: five numbers of two bytes in one word
pub fifth_pair_outside : root_of (word 1 0 0 0 0x2b 0 0 0 ++ zero_word) ≡ bad
unfolding tree_at
fifth_pair_outside = refl

-- three numbers of four bytes in one word
pub third_four_outside : root_of (word 1 0 0 0 0x1c 0 0 0 ++ zero_word) ≡ bad
unfolding tree_at
third_four_outside = refl

-- two of eight bytes in one word
pub second_eight_outside : root_of (word 1 0 0 0 0x15 0 0 0 ++ zero_word) ≡ bad
unfolding tree_at
second_eight_outside = refl

-- two pointers in one word
pub second_pointer_outside : root_of (word 1 0 0 0 0x16 0 0 0 ++ zero_word) ≡ bad
unfolding tree_at
second_pointer_outside = refl

-- the greatest count
pub most_bytes_outside : root_of (word 1 0 0 0 0xfa 0xff 0xff 0xff ++ zero_word) ≡ bad
unfolding tree_at
most_bytes_outside = refl
