-- Worked rows: composite lists and their tags.
use Rattle.std.proofs.Common.{◌≡◌, refl, ℕ, zero, suc, List, [], ◌∷◌, ◌++◌, ap, ◌∙◌}
use Rattle.capnp_wire.specs.Tree.{Tree, Null, Struct, Numbers, Composite, StructTree, NoStructs, MoreStructs, structs_from, struct_count}
use Rattle.capnp_wire.specs.Locate.{Segments, CompositeAt, target_at}
use Rattle.capnp_wire.specs.Place.{tree_at, tree_below, tree_with_level}
use Rattle.capnp_wire.specs.Reading.{list_length}
use Rattle.capnp_wire.proofs.Rows.{word, zero_word, root_of, trees, flat_structs, pointer_structs, bad, capability}

-- ---- the elements ----

-- two structs of one data word in the last of four pointers
pub two_structs :
    root_of (word 0 0 0 0 0 0 4 0 ++ zero_word ++ zero_word ++ zero_word ++ word 1 0 0 0 0x17 0 0 0
    ++ word 8 0 0 0 1 0 0 0 ++ word 1 0 0 0 0 0 0 0 ++ word 2 0 0 0 0 0 0 0)
    ≡ Struct [] (trees (Null ∷ Null ∷ Null ∷ Composite 1 0 (flat_structs (word 1 0 0 0 0 0 0 0 ∷ word 2 0 0 0 0 0 0 0 ∷ [])) ∷ []))
unfolding tree_at
two_structs = refl

-- two structs of a data word and a pointer each; the second's pointer leads behind the list
pub structs_with_pointers :
    root_of (word 1 0 0 0 0x27 0 0 0 ++ word 8 0 0 0 1 0 1 0 ++ word 1 0 0 0 0 0 0 0 ++ zero_word ++ word 2 0 0 0 0 0 0 0 ++ word 1 0 0 0 0x0a 0 0 0 ++ word 7 0 0 0 0 0 0 0)
    ≡ Composite 1 1 (MoreStructs (word 1 0 0 0 0 0 0 0) (trees (Null ∷ [])) (MoreStructs (word 2 0 0 0 0 0 0 0) (trees (Numbers 1 (7 ∷ []) ∷ [])) NoStructs))
unfolding tree_at
structs_with_pointers = refl

-- three structs of a pointer each: null, a capability, a struct before the segment
pub structs_of_pointers :
    root_of (word 1 0 0 0 0x1f 0 0 0 ++ word 0x0c 0 0 0 0 0 1 0 ++ zero_word ++ word 3 0 0 0 0 0 0 0 ++ word 0xe8 0xff 0xff 0xff 0 0 0 0)
    ≡ Composite 0 1 (pointer_structs ((Null ∷ []) ∷ (capability ∷ []) ∷ (bad ∷ []) ∷ []))
unfolding tree_at
structs_of_pointers = refl

-- no elements, whose sizes stand in the tag all the same
pub no_structs : root_of (word 1 0 0 0 7 0 0 0 ++ word 0 0 0 0 2 0 3 0) ≡ Composite 2 3 NoStructs
unfolding tree_at
no_structs = refl

-- a tag of zeros
pub zero_list_tag : root_of (word 1 0 0 0 7 0 0 0 ++ zero_word) ≡ Composite 0 0 NoStructs
unfolding tree_at
zero_list_tag = refl

-- ---- where it lies ----

-- no elements and no room for the tag
pub tag_outside : root_of (word 1 0 0 0 7 0 0 0) ≡ bad
unfolding tree_at
tag_outside = refl

-- the words that the pointer says end behind the segment, although the tag's elements don't
pub list_words_outside : root_of (word 1 0 0 0 0x17 0 0 0 ++ word 4 0 0 0 1 0 0 0 ++ zero_word) ≡ bad
unfolding tree_at
list_words_outside = refl

-- the tag would stand before the segment
pub tag_before : root_of (word 0xf9 0xff 0xff 0xff 7 0 0 0) ≡ bad
unfolding tree_at
tag_before = refl

-- ---- tags, over one word of elements in the last of four pointers ----

-- the segment with this tag
abbrev pub segment_with_tag : List ℕ → List ℕ
segment_with_tag tag = word 0 0 0 0 0 0 4 0 ++ zero_word ++ zero_word ++ zero_word ++ word 1 0 0 0 0x0f 0 0 0 ++ tag ++ word 5 0 0 0 0 0 0 0

-- its root with this in the last pointer
abbrev pub struct_with_list : Tree → Tree
struct_with_list t = Struct [] (trees (Null ∷ Null ∷ Null ∷ t ∷ []))

-- one element of one data word
pub tag_of_one : root_of (segment_with_tag (word 4 0 0 0 1 0 0 0)) ≡ struct_with_list (Composite 1 0 (flat_structs (word 5 0 0 0 0 0 0 0 ∷ [])))
unfolding tree_at
tag_of_one = refl

-- low bits of a list: a tag has those of a struct
pub list_as_tag : root_of (segment_with_tag (word 9 0 0 0 1 0 0 0)) ≡ struct_with_list bad
unfolding tree_at
list_as_tag = refl

-- low bits of a far pointer
pub far_as_tag : root_of (segment_with_tag (word 6 0 0 0 1 0 0 0)) ≡ struct_with_list bad
unfolding tree_at
far_as_tag = refl

-- low bits of a capability: as broken as the others
pub capability_as_tag : root_of (segment_with_tag (word 7 0 0 0 1 0 0 0)) ≡ struct_with_list bad
unfolding tree_at
capability_as_tag = refl

-- two elements of one data word where there is one word
pub elements_past_words : root_of (segment_with_tag (word 8 0 0 0 1 0 0 0)) ≡ struct_with_list bad
unfolding tree_at
elements_past_words = refl

-- two elements of one pointer
pub pointers_past_words : root_of (segment_with_tag (word 8 0 0 0 0 0 1 0)) ≡ struct_with_list bad
unfolding tree_at
pointers_past_words = refl

-- one element of a data word and a pointer
pub both_past_words : root_of (segment_with_tag (word 4 0 0 0 1 0 1 0)) ≡ struct_with_list bad
unfolding tree_at
both_past_words = refl

-- two elements of size zero; the word behind the tag is left over
pub elements_of_size_zero : root_of (segment_with_tag (word 8 0 0 0 0 0 0 0)) ≡ struct_with_list (Composite 0 0 (flat_structs ([] ∷ [] ∷ [])))
unfolding tree_at
elements_of_size_zero = refl

-- one element past the greatest count
pub count_past_format : root_of (segment_with_tag (word 0 0 0 0x80 0 0 0 0)) ≡ struct_with_list bad
unfolding tree_at
count_past_format = refl

-- the offset has no sign: all ones are a count too
pub count_without_sign : root_of (segment_with_tag (word 0xfc 0xff 0xff 0xff 0 0 0 0)) ≡ struct_with_list bad
unfolding tree_at
count_without_sign = refl

-- the greatest count, of size zero: where it leads
pub greatest_count :
    target_at (segment_with_tag (word 0xfc 0xff 0xff 0x7f 0 0 0 0) ∷ []) (segment_with_tag (word 0xfc 0xff 0xff 0x7f 0 0 0 0)) 4
    ≡ CompositeAt (segment_with_tag (word 0xfc 0xff 0xff 0x7f 0 0 0 0)) 6 536870911 0 0
greatest_count = refl

-- a list of structs has as many elements as it was asked for
pub structs_counted : (f : ℕ → StructTree) (first count : ℕ) → struct_count (structs_from f first count) ≡ count
structs_counted f first zero = refl
structs_counted f first (suc count) = ap suc (structs_counted f (suc first) count)

-- so the tree of a composite list has as many elements as its tag says
pub composite_counted : (levels : ℕ) (segments : Segments) (segment content : List ℕ) (w start count d p : ℕ)
    → target_at segments segment w ≡ CompositeAt content start count d p → list_length (tree_at (suc levels) segments segment w) ≡ count
unfolding tree_at
composite_counted levels segments segment content w start count d p leads =
    ap (λ t. list_length (tree_with_level (tree_at levels segments) (tree_below levels segments) t)) leads ∙ structs_counted _ 0 count

-- the greatest count, of size zero: the tree's length. Its elements are too many to be computed.
pub greatest_count_reads : list_length (tree_at 63 (segment_with_tag (word 0xfc 0xff 0xff 0x7f 0 0 0 0) ∷ []) (segment_with_tag (word 0xfc 0xff 0xff 0x7f 0 0 0 0)) 4) ≡ 536870911
greatest_count_reads = composite_counted 62 _ _ _ 4 6 536870911 0 0 greatest_count
