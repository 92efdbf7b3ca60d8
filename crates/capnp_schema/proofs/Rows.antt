-- Worked examples of the definitions, computed.
use Rattle.std.specs.Prelude.{ℕ, ◌≡◌, refl, [], ◌∷◌, Bool, true, false, length, replicate, codes, Some, None}
use Rattle.capnp_wire.specs.Tree as tree
use Rattle.capnp_wire.specs.Tree.{NoTrees, MoreTrees}
use Rattle.capnp_wire.specs.Place.{tree_at, tree_below}
use Rattle.capnp_schema.specs.Types.{UIntType, TextType, is_pointer, ListType, EnumType, VoidType, lists_of}
use Rattle.capnp_schema.specs.Schema.{fields_of, field_at, node_of, VoidValue, BoolValue}
use Rattle.capnp_schema.specs.Footprint.{Spot, DataBit, PointerAt, footprint, discriminant_names}
use Rattle.capnp_schema.specs.Accepted.{words_root}
use Rattle.capnp_schema.specs.Query.{member_of, non_union_fields, field_named, records_of, annotation_of}
use Rattle.capnp_schema.specs.Laws.{height_within, group_height}
use Rattle.capnp_schema.specs.Builtin.{annotation, builtin, loop_words, zero_word}

-- a field of a brand of the built-in set
abbrev names : ℕ → ℕ → Spot → Bool
names brand field place = footprint builtin (field_at builtin brand field) place

-- Mixed.y: byte 4
mixed_y_first : names 1 2 (DataBit 32) ≡ true
mixed_y_first = refl

mixed_y_last : names 1 2 (DataBit 39) ≡ true
mixed_y_last = refl

mixed_y_before : names 1 2 (DataBit 31) ≡ false
mixed_y_before = refl

mixed_y_after : names 1 2 (DataBit 40) ≡ false
mixed_y_after = refl

mixed_y_pointer : names 1 2 (PointerAt 0) ≡ false
mixed_y_pointer = refl

-- Mixed.x stands nowhere, Mixed.b is the only pointer
mixed_x : names 1 1 (DataBit 0) ≡ false
mixed_x = refl

mixed_b : names 1 3 (PointerAt 0) ≡ true
mixed_b = refl

mixed_discriminant : discriminant_names (node_of builtin 1) (DataBit 16) ≡ true
mixed_discriminant = refl

mixed_discriminant_end : discriminant_names (node_of builtin 1) (DataBit 32) ≡ false
mixed_discriminant_end = refl

flat_discriminant : discriminant_names (node_of builtin 0) (DataBit 0) ≡ false
flat_discriminant = refl

-- Shapes.circle and Shapes.tag share bits and pointers, through their groups
circle_r : names 3 1 (DataBit 32) ≡ true
circle_r = refl

circle_pointer : names 3 1 (PointerAt 0) ≡ false
circle_pointer = refl

tag_n : names 3 2 (DataBit 32) ≡ true
tag_n = refl

tag_discriminant : names 3 2 (DataBit 48) ≡ true
tag_discriminant = refl

tag_member : names 3 2 (DataBit 64) ≡ true
tag_member = refl

tag_any : names 3 2 (PointerAt 0) ≡ true
tag_any = refl

tag_outside : names 3 2 (DataBit 72) ≡ false
tag_outside = refl

-- past the end of the lists nothing is named
no_brand_names : names 9 0 (DataBit 0) ≡ false
no_brand_names = refl

types_are_paired : length (fields_of builtin 5) ≡ 5
types_are_paired = refl

-- the default of Loop.again is a struct, which leads nowhere
loop_default : words_root loop_words ≡ tree.Struct (1 ∷ replicate 7 0) (MoreTrees tree.Null NoTrees)
unfolding tree_at tree_below
loop_default = refl

zero_default : words_root zero_word ≡ tree.Null
unfolding tree_at
zero_default = refl

list_is_pointer : is_pointer (ListType (UIntType 1)) ≡ true
list_is_pointer = refl

enum_is_not : is_pointer (EnumType 0) ≡ false
enum_is_not = refl

void_is_not : is_pointer VoidType ≡ false
void_is_not = refl

two_lists : lists_of 2 TextType ≡ ListType (ListType TextType)
two_lists = refl

-- queries of the built-in set
shapes_members : member_of (records_of builtin 3) 1 ≡ Some 2
shapes_members = refl

shapes_past_members : member_of (records_of builtin 3) 3 ≡ None
shapes_past_members = refl

non_union_is_no_member : member_of (records_of builtin 3) 65535 ≡ None
non_union_is_no_member = refl

shapes_non_union : non_union_fields (records_of builtin 3) ≡ 0 ∷ []
shapes_non_union = refl

tag_non_union : non_union_fields (records_of builtin 5) ≡ 0 ∷ 3 ∷ 4 ∷ []
tag_non_union = refl

tag_named : field_named (records_of builtin 5) (codes "any") ≡ Some 3
tag_named = refl

names_are_exact : field_named (records_of builtin 3) (codes "ID") ≡ None
names_are_exact = refl

flat_members : member_of (records_of builtin 0) 0 ≡ None
flat_members = refl

no_records_past_the_end : records_of builtin 9 ≡ []
no_records_past_the_end = refl

first_annotation : annotation_of (annotation 8 VoidValue ∷ annotation 9 VoidValue ∷ annotation 8 (BoolValue true) ∷ []) 8 ≡ Some 0
first_annotation = refl

no_annotation : annotation_of (annotation 8 VoidValue ∷ []) 11 ≡ None
no_annotation = refl

-- Shapes has groups, which have none
shapes_height : group_height builtin 3 ≡ 1
unfolding group_height height_within
shapes_height = refl

circle_height : group_height builtin 4 ≡ 0
unfolding group_height height_within
circle_height = refl

loop_height : group_height builtin 6 ≡ 0
unfolding group_height height_within
loop_height = refl
