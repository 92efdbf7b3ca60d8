-- Worked rows: levels.
use Rattle.std.specs.Prelude.{◌≡◌, refl, ℕ, zero, suc, List, [], ◌∷◌, ◌++◌}
use Rattle.capnp_wire.specs.Tree.{Tree, Null, Struct, Voids, Numbers, Pointers, Composite, NoTrees}
use Rattle.capnp_wire.specs.Place.{tree_at, tree_below}
use Rattle.capnp_wire.proofs.Rows.{word, zero_word, root_of, trees, flat_structs, pointer_structs, bad, too_deep, capability}

-- the root of a segment with so many levels
abbrev pub root_with : ℕ → List ℕ → Tree
root_with levels segment = tree_at levels (segment ∷ []) segment 0

-- ---- a cycle ----

-- so many structs, each of one data word and a pointer to the next, and then one too deep
abbrev pub chain : ℕ → Tree
chain zero = too_deep
chain (suc n) = Struct (word 1 0 0 0 0 0 0 0) (trees (chain n ∷ []))

-- a struct whose pointer leads back to it
pub cycle : root_of (word 0 0 0 0 1 0 1 0 ++ word 1 0 0 0 0 0 0 0 ++ word 0xf8 0xff 0xff 0xff 1 0 1 0) ≡ chain 64
unfolding tree_at
cycle = refl

-- ---- no level left ----

-- a byte list reads
pub bytes_without_level : root_with 0 (word 1 0 0 0 0x12 0 0 0 ++ word 8 9 0 0 0 0 0 0) ≡ Numbers 1 (8 ∷ 9 ∷ [])
unfolding tree_at
bytes_without_level = refl

-- an empty byte list reads
pub no_bytes_without_level : root_with 0 (word 1 0 0 0 2 0 0 0) ≡ Numbers 1 []
unfolding tree_at
no_bytes_without_level = refl

-- a null stays null
pub null_without_level : root_with 0 zero_word ≡ Null
unfolding tree_at
null_without_level = refl

-- a struct is too deep
pub struct_without_level : root_with 0 (word 0 0 0 0 1 0 0 0 ++ zero_word) ≡ too_deep
unfolding tree_at
struct_without_level = refl

-- so is one of size zero
pub size_zero_without_level : root_with 0 (word 0xfc 0xff 0xff 0xff 0 0 0 0) ≡ too_deep
unfolding tree_at
size_zero_without_level = refl

-- so is a list of each other element size: voids
pub voids_without_level : root_with 0 (word 1 0 0 0 0x10 0 0 0 ++ zero_word) ≡ too_deep
unfolding tree_at
voids_without_level = refl

-- bits
pub bits_without_level : root_with 0 (word 1 0 0 0 0x11 0 0 0 ++ zero_word) ≡ too_deep
unfolding tree_at
bits_without_level = refl

-- numbers of two bytes
pub pairs_without_level : root_with 0 (word 1 0 0 0 0x13 0 0 0 ++ zero_word) ≡ too_deep
unfolding tree_at
pairs_without_level = refl

-- numbers of four bytes
pub fours_without_level : root_with 0 (word 1 0 0 0 0x14 0 0 0 ++ zero_word) ≡ too_deep
unfolding tree_at
fours_without_level = refl

-- a number of eight bytes
pub eight_without_level : root_with 0 (word 1 0 0 0 0x0d 0 0 0 ++ zero_word) ≡ too_deep
unfolding tree_at
eight_without_level = refl

-- a pointer, though it is null
pub pointer_without_level : root_with 0 (word 1 0 0 0 0x0e 0 0 0 ++ zero_word) ≡ too_deep
unfolding tree_at
pointer_without_level = refl

-- a composite list, though it has no elements
pub no_structs_without_level : root_with 0 (word 1 0 0 0 7 0 0 0 ++ zero_word) ≡ too_deep
unfolding tree_at
no_structs_without_level = refl

-- what is broken or a capability says so first: a struct outside its segment
pub outside_without_level : root_with 0 (word 0 0 0 0 1 0 0 0) ≡ bad
unfolding tree_at
outside_without_level = refl

-- a composite list whose tag is none is broken
pub broken_tag_without_level : root_with 0 (word 1 0 0 0 7 0 0 0 ++ word 1 0 0 0 0 0 0 0) ≡ bad
unfolding tree_at
broken_tag_without_level = refl

-- a capability stays one
pub capability_without_level : root_with 0 (word 3 0 0 0 0 0 0 0) ≡ capability
unfolding tree_at
capability_without_level = refl

-- a landing pad takes no level
pub pad_takes_no_level : root_with 1 (word 0x0a 0 0 0 0 0 0 0 ++ word 0 0 0 0 1 0 0 0 ++ word 7 0 0 0 0 0 0 0) ≡ Struct (word 7 0 0 0 0 0 0 0) NoTrees
unfolding tree_at
pad_takes_no_level = refl

-- ---- the pointers of a struct, of a list of pointers, of a composite list's elements ----

-- six pointers, then a word: null, two bytes, a struct of that word, one far outside, a capability, three voids
abbrev pub six_pointers : List ℕ
six_pointers =
    zero_word ++ word 0x11 0 0 0 0x12 0 0 0 ++ word 0x0c 0 0 0 1 0 0 0 ++ word 0xfc 0xff 0xff 0x7f 1 0 0 0 ++ word 3 0 0 0 0 0 0 0 ++ word 1 0 0 0 0x18 0 0 0
    ++ word 8 9 0 0 0 0 0 0

-- what they stand for where a level is left
abbrev pub six_with_level : List Tree
six_with_level = Null ∷ Numbers 1 (8 ∷ 9 ∷ []) ∷ Struct (word 8 9 0 0 0 0 0 0) NoTrees ∷ bad ∷ capability ∷ Voids 3 ∷ []

-- where none is left
abbrev pub six_without_level : List Tree
six_without_level = Null ∷ Numbers 1 (8 ∷ 9 ∷ []) ∷ too_deep ∷ bad ∷ capability ∷ too_deep ∷ []

-- with fewer than none
abbrev pub six_below_levels : List Tree
six_below_levels = Null ∷ too_deep ∷ too_deep ∷ too_deep ∷ too_deep ∷ too_deep ∷ []

-- a struct's pointers have a level less than it: with two they have one
pub struct_at_two : root_with 2 (word 0 0 0 0 0 0 6 0 ++ six_pointers) ≡ Struct [] (trees six_with_level)
unfolding tree_at
struct_at_two = refl

-- with one level they have none
pub struct_at_one : root_with 1 (word 0 0 0 0 0 0 6 0 ++ six_pointers) ≡ Struct [] (trees six_without_level)
unfolding tree_at
struct_at_one = refl

-- so have those of a list of pointers
pub pointers_at_two : root_with 2 (word 1 0 0 0 0x36 0 0 0 ++ six_pointers) ≡ Pointers (trees six_with_level)
unfolding tree_at
pointers_at_two = refl

-- with one level they have none
pub pointers_at_one : root_with 1 (word 1 0 0 0 0x36 0 0 0 ++ six_pointers) ≡ Pointers (trees six_without_level)
unfolding tree_at
pointers_at_one = refl

-- with no level the list itself is too deep
pub pointers_at_zero : root_with 0 (word 1 0 0 0 0x36 0 0 0 ++ six_pointers) ≡ too_deep
unfolding tree_at
pointers_at_zero = refl

-- those of a composite list's elements have two less than the list; here six elements of a pointer each
abbrev pub six_elements : List ℕ
six_elements = word 1 0 0 0 0x37 0 0 0 ++ word 0x18 0 0 0 0 0 1 0 ++ six_pointers

-- each in a row of its own
abbrev pub each_alone : List Tree → List (List Tree)
each_alone [] = []
each_alone (t ∷ ts) = (t ∷ []) ∷ each_alone ts

-- with three levels they have one
pub composite_at_three : root_with 3 six_elements ≡ Composite 0 1 (pointer_structs (each_alone six_with_level))
unfolding tree_at tree_below
composite_at_three = refl

-- with two they have none
pub composite_at_two : root_with 2 six_elements ≡ Composite 0 1 (pointer_structs (each_alone six_without_level))
unfolding tree_at tree_below
composite_at_two = refl

-- with one they have fewer than none, and the list reads
pub composite_at_one : root_with 1 six_elements ≡ Composite 0 1 (pointer_structs (each_alone six_below_levels))
unfolding tree_at tree_below
composite_at_one = refl

-- with none the list itself is too deep
pub composite_at_zero : root_with 0 six_elements ≡ too_deep
unfolding tree_at tree_below
composite_at_zero = refl

-- the data of its elements reads with one level
pub flat_composite_at_one : root_with 1 (word 1 0 0 0 0x0f 0 0 0 ++ word 4 0 0 0 1 0 0 0 ++ word 5 0 0 0 0 0 0 0) ≡ Composite 1 0 (flat_structs (word 5 0 0 0 0 0 0 0 ∷ []))
unfolding tree_at tree_below
flat_composite_at_one = refl

-- one element whose pointer leads back to the list: two levels a turn
abbrev pub list_chain : ℕ → Tree
list_chain zero = too_deep
list_chain (suc n) = Composite 0 1 (pointer_structs ((list_chain n ∷ []) ∷ []))

-- from 64 levels it is entered 32 times
pub list_cycle : root_of (word 1 0 0 0 0x0f 0 0 0 ++ word 4 0 0 0 0 0 1 0 ++ word 0xf9 0xff 0xff 0xff 0x0f 0 0 0) ≡ list_chain 32
unfolding tree_at tree_below
list_cycle = refl

-- from five levels three times
pub list_cycle_odd : root_with 5 (word 1 0 0 0 0x0f 0 0 0 ++ word 4 0 0 0 0 0 1 0 ++ word 0xf9 0xff 0xff 0xff 0x0f 0 0 0) ≡ list_chain 3
unfolding tree_at tree_below
list_cycle_odd = refl
