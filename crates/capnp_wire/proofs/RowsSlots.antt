-- Worked rows: bits and numbers of a data section.
use Rattle.std.specs.Prelude.{◌≡◌, refl, ℕ, List, [], ◌∷◌, ◌++◌, true, false, not, map, bit_xor}
use Rattle.capnp_wire.specs.Tree.{Null, NoTrees, nth_tree}
use Rattle.capnp_wire.specs.Slot.{bit_at, number_at}
use Rattle.capnp_wire.proofs.Rows.{word, trees, bad}

-- bits, lowest first in each byte; past the end false
pub bits_of_two_bytes : map (bit_at (0x05 ∷ 0x82 ∷ [])) (0 ∷ 1 ∷ 2 ∷ 3 ∷ 7 ∷ 8 ∷ 9 ∷ 15 ∷ 16 ∷ 1000 ∷ []) ≡ true ∷ false ∷ true ∷ false ∷ false ∷ false ∷ true ∷ true ∷ false ∷ false ∷ []
bits_of_two_bytes = refl

-- without any byte
pub bit_of_nothing : bit_at [] 0 ≡ false
bit_of_nothing = refl

-- numbers by their width; an offset counts in numbers of that width
abbrev pub two_words : List ℕ
two_words = word 0x2b 0 5 0 0xff 0xff 0xff 0x7f ++ word 1 2 3 4 5 6 7 8

-- one byte
pub bytes_of_words : map (λ i. number_at 1 i two_words) (0 ∷ 1 ∷ 4 ∷ 15 ∷ 16 ∷ []) ≡ 0x2b ∷ 0 ∷ 255 ∷ 8 ∷ 0 ∷ []
bytes_of_words = refl

-- two bytes
pub pairs_of_words : map (λ i. number_at 2 i two_words) (0 ∷ 1 ∷ 3 ∷ 7 ∷ 8 ∷ []) ≡ 43 ∷ 5 ∷ 0x7fff ∷ 0x807 ∷ 0 ∷ []
pairs_of_words = refl

-- four bytes
pub fours_of_words : map (λ i. number_at 4 i two_words) (0 ∷ 1 ∷ 2 ∷ 3 ∷ 4 ∷ []) ≡ 0x5002b ∷ 2147483647 ∷ 0x4030201 ∷ 0x8070605 ∷ 0 ∷ []
fours_of_words = refl

-- eight bytes
pub eights_of_words : map (λ i. number_at 8 i two_words) (0 ∷ 1 ∷ 2 ∷ []) ≡ 0x7fffffff0005002b ∷ 0x807060504030201 ∷ 0 ∷ []
eights_of_words = refl

-- ---- short sections ----

-- a number partly past the end: its absent bytes are zero; here one byte of two
pub short_pair : number_at 2 0 (5 ∷ []) ≡ 5
short_pair = refl

-- three bytes of four
pub short_four : number_at 4 0 (1 ∷ 2 ∷ 3 ∷ []) ≡ 0x30201
short_four = refl

-- four bytes of eight
pub short_eight : number_at 8 0 (1 ∷ 0 ∷ 2 ∷ 0 ∷ []) ≡ 0x20001
short_eight = refl

-- the second pair of three bytes
pub short_second_pair : number_at 2 1 (1 ∷ 2 ∷ 3 ∷ []) ≡ 3
short_second_pair = refl

-- wholly past it
pub number_past_end : map (λ i. number_at 8 i (word 1 1 1 1 1 1 1 1)) (1 ∷ 2 ∷ 536870911 ∷ []) ≡ 0 ∷ 0 ∷ 0 ∷ []
number_past_end = refl

-- without any byte
pub number_of_nothing : number_at 4 0 [] ≡ 0
number_of_nothing = refl

-- ---- defaults: what is stored is the number with the default's bits changed ----

-- the default 7: stored 2 is 5
pub stored_two_is_five : bit_xor (number_at 2 1 (word 0 0 2 0 0 0 0 0)) 7 ≡ 5
stored_two_is_five = refl

-- what isn't there is the default
pub absent_is_default : bit_xor (number_at 2 1 []) 7 ≡ 7
absent_is_default = refl

-- stored 5 is 2
pub stored_five_is_two : bit_xor (number_at 2 1 two_words) 7 ≡ 2
stored_five_is_two = refl

-- stored 0x12b is 300
pub stored_is_three_hundred : bit_xor (number_at 2 1 (word 1 0xfd 0x2b 1 0xfe 0xff 0xff 0xff)) 7 ≡ 300
stored_is_three_hundred = refl

-- the default -1 of one byte: stored 0xfd is 2
pub stored_is_two_signed : bit_xor (number_at 1 1 (word 1 0xfd 0x2b 1 0xfe 0xff 0xff 0xff)) 255 ≡ 2
stored_is_two_signed = refl

-- what isn't there is -1
pub absent_is_minus_one : bit_xor (number_at 1 1 []) 255 ≡ 255
absent_is_minus_one = refl

-- a truth value of default true: a stored bit is false
pub stored_bit_is_false : not (bit_at (word 1 0xfd 0x2b 1 0xfe 0xff 0xff 0xff) 0) ≡ false
stored_bit_is_false = refl

-- an absent bit is true
pub absent_bit_is_true : not (bit_at [] 0) ≡ true
absent_bit_is_true = refl

-- a number half past the end: its absent bits are those of the default
pub half_absent : bit_xor (number_at 2 0 (5 ∷ [])) 0x0301 ≡ 0x0304
half_absent = refl

-- ---- pointers ----

-- by their number; past the end null
pub pointers_by_number : map (nth_tree (trees (bad ∷ Null ∷ bad ∷ []))) (0 ∷ 1 ∷ 2 ∷ 3 ∷ 65535 ∷ []) ≡ bad ∷ Null ∷ bad ∷ Null ∷ Null ∷ []
pointers_by_number = refl

-- without any pointer
pub pointer_of_nothing : nth_tree NoTrees 0 ≡ Null
pointer_of_nothing = refl
