-- Worked rows: far pointers and their landing pads.
use Rattle.std.specs.Prelude.{◌≡◌, refl, [], ◌∷◌, ◌++◌}
use Rattle.capnp_wire.specs.Tree.{Null, Struct, Voids, Numbers, Composite, NoTrees}
use Rattle.capnp_wire.specs.Place.{tree_at, root_tree}
use Rattle.capnp_wire.proofs.Rows.{word, zero_word, trees, flat_structs, bad, capability}

-- ---- a landing pad of one word ----

-- the pad is a struct pointer, and the struct stands behind it
pub one_word_pad : root_tree (word 2 0 0 0 1 0 0 0 ∷ (word 0 0 0 0 1 0 0 0 ++ word 5 0 0 0 0 0 0 0) ∷ []) ≡ Struct (word 5 0 0 0 0 0 0 0) NoTrees
unfolding tree_at
one_word_pad = refl

-- the pad's offset counts from the pad, in the pad's segment: here back to its first word
pub pad_counts_from_itself : root_tree (word 0x0a 0 0 0 1 0 0 0 ∷ (word 5 0 0 0 0 0 0 0 ++ word 0xf8 0xff 0xff 0xff 1 0 0 0) ∷ []) ≡ Struct (word 5 0 0 0 0 0 0 0) NoTrees
unfolding tree_at
pad_counts_from_itself = refl

-- the pad may stand in the pointer's own segment
pub pad_in_own_segment : root_tree ((word 0x0a 0 0 0 0 0 0 0 ++ word 0 0 0 0 1 0 0 0 ++ word 7 0 0 0 0 0 0 0) ∷ []) ≡ Struct (word 7 0 0 0 0 0 0 0) NoTrees
unfolding tree_at
pad_in_own_segment = refl

-- the pad is a list pointer
pub pad_of_list : root_tree (word 2 0 0 0 1 0 0 0 ∷ (word 1 0 0 0 0x1a 0 0 0 ++ word 1 2 3 0 0 0 0 0) ∷ []) ≡ Numbers 1 (1 ∷ 2 ∷ 3 ∷ [])
unfolding tree_at
pad_of_list = refl

-- a pad of zeros is a struct of size zero, not a null
pub zero_pad : root_tree (word 2 0 0 0 1 0 0 0 ∷ zero_word ∷ []) ≡ Struct [] NoTrees
unfolding tree_at
zero_pad = refl

-- a pad of one word that is itself a far pointer
pub far_pad : root_tree (word 2 0 0 0 1 0 0 0 ∷ word 2 0 0 0 0 0 0 0 ∷ []) ≡ bad
unfolding tree_at
far_pad = refl

-- the same where what that one names is there
pub far_pad_is_not_followed : root_tree (word 2 0 0 0 1 0 0 0 ∷ word 2 0 0 0 2 0 0 0 ∷ (word 0 0 0 0 1 0 0 0 ++ word 5 0 0 0 0 0 0 0) ∷ []) ≡ bad
unfolding tree_at
far_pad_is_not_followed = refl

-- a pad of one word that is a capability
pub capability_pad : root_tree (word 2 0 0 0 1 0 0 0 ∷ word 3 0 0 0 0 0 0 0 ∷ []) ≡ capability
unfolding tree_at
capability_pad = refl

-- ---- pads that aren't there ----

-- the pointer names a third segment of two
pub no_such_segment : root_tree (word 2 0 0 0 2 0 0 0 ∷ zero_word ∷ []) ≡ bad
unfolding tree_at
no_such_segment = refl

-- the pad would be the second word of a segment of one
pub pad_outside : root_tree (word 0x0a 0 0 0 1 0 0 0 ∷ zero_word ∷ []) ≡ bad
unfolding tree_at
pad_outside = refl

-- a segment of no words has no pad
pub pad_in_empty_segment : root_tree (word 2 0 0 0 1 0 0 0 ∷ [] ∷ []) ≡ bad
unfolding tree_at
pad_in_empty_segment = refl

-- of a pad of two words the second is outside
pub second_pad_word_outside : root_tree (word 6 0 0 0 1 0 0 0 ∷ word 2 0 0 0 0 0 0 0 ∷ []) ≡ bad
unfolding tree_at
second_pad_word_outside = refl

-- what the pad points to ends behind the segment
pub pad_target_outside : root_tree (word 2 0 0 0 1 0 0 0 ∷ word 0 0 0 0 1 0 0 0 ∷ []) ≡ bad
unfolding tree_at
pad_target_outside = refl

-- what the pad points to starts before the segment
pub pad_target_before : root_tree (word 2 0 0 0 1 0 0 0 ∷ word 0xf8 0xff 0xff 0xff 0 0 0 0 ∷ []) ≡ bad
unfolding tree_at
pad_target_before = refl

-- ---- a landing pad of two words ----

-- three segments: the pad stands in the second, the struct in the third
pub two_word_pad :
    root_tree (word 6 0 0 0 1 0 0 0 ∷ (word 2 0 0 0 2 0 0 0 ++ word 0 0 0 0 1 0 0 0) ∷ word 5 0 0 0 0 0 0 0 ∷ []) ≡ Struct (word 5 0 0 0 0 0 0 0) NoTrees
unfolding tree_at
two_word_pad = refl

-- its first word has a pad of two words itself
pub double_first_word : root_tree (word 6 0 0 0 1 0 0 0 ∷ (word 6 0 0 0 2 0 0 0 ++ word 0 0 0 0 1 0 0 0) ∷ word 5 0 0 0 0 0 0 0 ∷ []) ≡ bad
unfolding tree_at
double_first_word = refl

-- its tag is a far pointer
pub far_tag : root_tree (word 6 0 0 0 1 0 0 0 ∷ (word 2 0 0 0 2 0 0 0 ++ word 2 0 0 0 1 0 0 0) ∷ word 5 0 0 0 0 0 0 0 ∷ []) ≡ bad
unfolding tree_at
far_tag = refl

-- its first word names a segment that isn't there
pub first_word_names_no_segment : root_tree (word 6 0 0 0 1 0 0 0 ∷ (word 2 0 0 0 3 0 0 0 ++ word 0 0 0 0 1 0 0 0) ∷ word 5 0 0 0 0 0 0 0 ∷ []) ≡ bad
unfolding tree_at
first_word_names_no_segment = refl

-- its first word is null
pub null_first_word : root_tree (word 6 0 0 0 1 0 0 0 ∷ (zero_word ++ word 0 0 0 0 1 0 0 0) ∷ []) ≡ bad
unfolding tree_at
null_first_word = refl

-- its first word is a struct pointer
pub struct_first_word : root_tree (word 6 0 0 0 1 0 0 0 ∷ (word 0 0 0 0 1 0 0 0 ++ word 0 0 0 0 1 0 0 0) ∷ []) ≡ bad
unfolding tree_at
struct_first_word = refl

-- its first word is a capability
pub capability_first_word : root_tree (word 6 0 0 0 1 0 0 0 ∷ (word 3 0 0 0 0 0 0 0 ++ word 0 0 0 0 1 0 0 0) ∷ []) ≡ bad
unfolding tree_at
capability_first_word = refl

-- its tag is a capability
pub capability_tag : root_tree (word 6 0 0 0 1 0 0 0 ∷ (word 2 0 0 0 2 0 0 0 ++ word 3 0 0 0 0 0 0 0) ∷ word 5 0 0 0 0 0 0 0 ∷ []) ≡ capability
unfolding tree_at
capability_tag = refl

-- also where the named segment isn't there
pub capability_tag_without_segment : root_tree (word 6 0 0 0 1 0 0 0 ∷ (word 2 0 0 0 9 0 0 0 ++ word 3 0 0 0 0 0 0 0) ∷ []) ≡ capability
unfolding tree_at
capability_tag_without_segment = refl

-- a broken first word comes before a capability as the tag
pub broken_first_word_before_capability : root_tree (word 6 0 0 0 1 0 0 0 ∷ (word 6 0 0 0 2 0 0 0 ++ word 3 0 0 0 0 0 0 0) ∷ zero_word ∷ []) ≡ bad
unfolding tree_at
broken_first_word_before_capability = refl

-- the tag's offset isn't looked at
pub tag_offset_unread :
    root_tree (word 6 0 0 0 1 0 0 0 ∷ (word 2 0 0 0 2 0 0 0 ++ word 0xfc 0xff 0xff 0x7f 1 0 0 0) ∷ word 5 0 0 0 0 0 0 0 ∷ []) ≡ Struct (word 5 0 0 0 0 0 0 0) NoTrees
unfolding tree_at
tag_offset_unread = refl

-- the first word says the word where the struct starts
pub two_word_pad_to_second_word :
    root_tree (word 6 0 0 0 1 0 0 0 ∷ (word 0x0a 0 0 0 2 0 0 0 ++ word 0 0 0 0 1 0 0 0) ∷ (word 5 0 0 0 0 0 0 0 ++ word 6 0 0 0 0 0 0 0) ∷ [])
    ≡ Struct (word 6 0 0 0 0 0 0 0) NoTrees
unfolding tree_at
two_word_pad_to_second_word = refl

-- a tag of zeros is a struct of size zero; here in a segment of no words
pub zero_tag : root_tree (word 6 0 0 0 1 0 0 0 ∷ (word 2 0 0 0 2 0 0 0 ++ zero_word) ∷ [] ∷ []) ≡ Struct [] NoTrees
unfolding tree_at
zero_tag = refl

-- the same a word behind that segment's end
pub zero_tag_outside : root_tree (word 6 0 0 0 1 0 0 0 ∷ (word 0x0a 0 0 0 2 0 0 0 ++ zero_word) ∷ [] ∷ []) ≡ bad
unfolding tree_at
zero_tag_outside = refl

-- a struct that ends behind its segment
pub two_word_pad_outside : root_tree (word 6 0 0 0 1 0 0 0 ∷ (word 2 0 0 0 2 0 0 0 ++ word 0 0 0 0 2 0 0 0) ∷ word 5 0 0 0 0 0 0 0 ∷ []) ≡ bad
unfolding tree_at
two_word_pad_outside = refl

-- a composite list: its own tag is the first word of the content
pub composite_behind_two_word_pad :
    root_tree (word 6 0 0 0 1 0 0 0 ∷ (word 2 0 0 0 2 0 0 0 ++ word 1 0 0 0 0x17 0 0 0) ∷ (word 8 0 0 0 1 0 0 0 ++ word 1 0 0 0 0 0 0 0 ++ word 2 0 0 0 0 0 0 0) ∷ [])
    ≡ Composite 1 0 (flat_structs (word 1 0 0 0 0 0 0 0 ∷ word 2 0 0 0 0 0 0 0 ∷ []))
unfolding tree_at
composite_behind_two_word_pad = refl

-- pointers behind a pad count in the segment where they stand: a list of nothing right behind the struct
pub pointer_behind_pad :
    root_tree (word 2 0 0 0 1 0 0 0 ∷ (word 0 0 0 0 0 0 2 0 ++ zero_word ++ word 1 0 0 0 0x18 0 0 0) ∷ []) ≡ Struct [] (trees (Null ∷ Voids 3 ∷ []))
unfolding tree_at
pointer_behind_pad = refl
