-- Worked rows: null, struct and capability pointers, and whole messages of one segment.
use Rattle.std.specs.Prelude.{◌≡◌, refl, [], ◌∷◌, ◌++◌}
use Rattle.capnp_wire.specs.Tree.{Null, Struct, Numbers, NoTrees}
use Rattle.capnp_wire.specs.Place.{tree_at, root_tree}
use Rattle.capnp_wire.proofs.Rows.{word, zero_word, root_of, trees, bad, capability}

-- ---- roots ----

-- a word of zeros is null
pub null_root : root_of zero_word ≡ Null
unfolding tree_at
null_root = refl

-- one data word and one pointer, which is null
pub struct_root : root_of (word 0 0 0 0 1 0 1 0 ++ word 5 0 1 0 9 0 0 0 ++ zero_word) ≡ Struct (word 5 0 1 0 9 0 0 0) (trees (Null ∷ []))
unfolding tree_at
struct_root = refl

-- the same with another member of a union in its data
pub other_member : root_of (word 0 0 0 0 1 0 1 0 ++ word 5 0 0 0 9 0 0 0 ++ zero_word) ≡ Struct (word 5 0 0 0 9 0 0 0) (trees (Null ∷ []))
unfolding tree_at
other_member = refl

-- and with a number that is no member's
pub unknown_member : root_of (word 0 0 0 0 1 0 1 0 ++ word 5 0 7 0 9 0 0 0 ++ zero_word) ≡ Struct (word 5 0 7 0 9 0 0 0) (trees (Null ∷ []))
unfolding tree_at
unknown_member = refl

-- two data words
pub two_data_words :
    root_of (word 0 0 0 0 2 0 0 0 ++ word 1 0xfd 0x2b 1 0xfe 0xff 0xff 0xff ++ word 0xff 0xff 0xff 0xff 0xff 0xff 0xff 0xff)
    ≡ Struct (word 1 0xfd 0x2b 1 0xfe 0xff 0xff 0xff ++ word 0xff 0xff 0xff 0xff 0xff 0xff 0xff 0xff) NoTrees
unfolding tree_at
two_data_words = refl

-- a text behind a struct's pointer
pub struct_with_text :
    root_of (word 0 0 0 0 1 0 1 0 ++ word 5 0 1 0 9 0 0 0 ++ word 1 0 0 0 0x1a 0 0 0 ++ word 0x68 0x69 0 0 0 0 0 0)
    ≡ Struct (word 5 0 1 0 9 0 0 0) (trees (Numbers 1 (0x68 ∷ 0x69 ∷ 0 ∷ []) ∷ []))
unfolding tree_at
struct_with_text = refl

-- what stands between and behind the objects isn't looked at
pub gap_and_rest : root_of (word 4 0 0 0 1 0 0 0 ++ word 1 2 3 4 5 6 7 8 ++ word 9 0 0 0 0 0 0 0 ++ word 8 7 6 5 4 3 2 1) ≡ Struct (word 9 0 0 0 0 0 0 0) NoTrees
unfolding tree_at
gap_and_rest = refl

-- a segment of no words has no root
pub root_of_empty_segment : root_of [] ≡ bad
unfolding tree_at
root_of_empty_segment = refl

-- neither has a message of no segments
pub root_of_no_segments : root_tree [] ≡ bad
unfolding tree_at
root_of_no_segments = refl

-- ---- where a struct lies ----

-- size zero at offset -1, at the pointer itself
pub size_zero_at_pointer : root_of (word 0xfc 0xff 0xff 0xff 0 0 0 0) ≡ Struct [] NoTrees
unfolding tree_at
size_zero_at_pointer = refl

-- size zero at the segment's end
pub size_zero_at_end : root_of (word 4 0 0 0 0 0 0 0 ++ zero_word) ≡ Struct [] NoTrees
unfolding tree_at
size_zero_at_end = refl

-- size zero one word behind the end
pub size_zero_outside : root_of (word 8 0 0 0 0 0 0 0 ++ zero_word) ≡ bad
unfolding tree_at
size_zero_outside = refl

-- size zero one word before the segment
pub size_zero_before : root_of (word 0xf8 0xff 0xff 0xff 0 0 0 0) ≡ bad
unfolding tree_at
size_zero_before = refl

-- one data word, which would start before the segment
pub struct_before : root_of (word 0xf8 0xff 0xff 0xff 1 0 0 0) ≡ bad
unfolding tree_at
struct_before = refl

-- a struct may lie over its own pointer
pub struct_over_pointer : root_of (word 0xfc 0xff 0xff 0xff 1 0 0 0) ≡ Struct (word 0xfc 0xff 0xff 0xff 1 0 0 0) NoTrees
unfolding tree_at
struct_over_pointer = refl

-- the greatest offset
pub struct_far_behind : root_of (word 0xfc 0xff 0xff 0x7f 1 0 0 0) ≡ bad
unfolding tree_at
struct_far_behind = refl

-- the least offset
pub struct_far_before : root_of (word 0 0 0 0x80 1 0 0 0) ≡ bad
unfolding tree_at
struct_far_before = refl

-- data that ends behind the segment
pub data_outside : root_of (word 0 0 0 0 2 0 0 0 ++ zero_word) ≡ bad
unfolding tree_at
data_outside = refl

-- pointers that end behind the segment
pub pointers_outside : root_of (word 0 0 0 0 1 0 1 0 ++ zero_word) ≡ bad
unfolding tree_at
pointers_outside = refl

-- the greatest sizes
pub greatest_sizes : root_of (word 0 0 0 0 0xff 0xff 0xff 0xff ++ zero_word) ≡ bad
unfolding tree_at
greatest_sizes = refl

-- a broken pointer in a struct is a leaf of it
pub broken_pointer_in_struct : root_of (word 0 0 0 0 0 0 1 0 ++ word 0 0 0 1 0 0 0 0) ≡ Struct [] (trees (bad ∷ []))
unfolding tree_at
broken_pointer_in_struct = refl

-- ---- capabilities ----

-- a capability pointer
pub capability_root : root_of (word 3 0 0 0 0 0 0 0) ≡ capability
unfolding tree_at
capability_root = refl

-- its other bits aren't looked at: an offset before the segment, all ones behind it
pub capability_bits_unread : root_of (word 0xf7 0xff 0xff 0xff 0xff 0xff 0xff 0xff) ≡ capability
unfolding tree_at
capability_bits_unread = refl

-- an offset far behind the segment
pub capability_bits_unread_behind : root_of (word 0xff 0xff 0xff 0x7f 0 0 0 0) ≡ capability
unfolding tree_at
capability_bits_unread_behind = refl

-- ---- fault leaves beside what reads ----

-- null, a capability, bytes that end without a zero, null
pub capability_beside_bytes :
    root_of (word 0 0 0 0 0 0 4 0 ++ zero_word ++ word 3 0 0 0 0 0 0 0 ++ word 5 0 0 0 0x12 0 0 0 ++ zero_word ++ word 0x61 0x62 0 0 0 0 0 0)
    ≡ Struct [] (trees (Null ∷ capability ∷ Numbers 1 (0x61 ∷ 0x62 ∷ []) ∷ Null ∷ []))
unfolding tree_at
capability_beside_bytes = refl

-- the same with a null in place of the capability
pub null_beside_bytes :
    root_of (word 0 0 0 0 0 0 4 0 ++ zero_word ++ zero_word ++ word 5 0 0 0 0x12 0 0 0 ++ zero_word ++ word 0x61 0x62 0 0 0 0 0 0)
    ≡ Struct [] (trees (Null ∷ Null ∷ Numbers 1 (0x61 ∷ 0x62 ∷ []) ∷ Null ∷ []))
unfolding tree_at
null_beside_bytes = refl

-- a capability behind data
pub capability_behind_data :
    root_of (word 0 0 0 0 2 0 2 0 ++ word 0 0 1 0 0 0 0 0 ++ zero_word ++ word 3 0 0 0 0 0 0 0 ++ zero_word)
    ≡ Struct (word 0 0 1 0 0 0 0 0 ++ zero_word) (trees (capability ∷ Null ∷ []))
unfolding tree_at
capability_behind_data = refl
