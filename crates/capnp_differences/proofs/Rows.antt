-- Worked rows of what differs: `Mixed`, and `Mixed2` with a non-union field and a member more; `Tally` of numbers, and `Tally2`
-- of structs where numbers stood.
use Rattle.std.proofs.Common.{ℕ, ◌≡◌, inl, inr, refl, List, [], ◌∷◌, ◌++◌, Option, Some, None, codes, arith, ap}
use Rattle.capnp_wire.specs.Place.{tree_at}
use Rattle.capnp_schema.specs.Types.{SchemaType, BoolType, DataType, EnumType, IntType, ListType, StructType, TextType, UIntType}
use Rattle.capnp_schema.specs.SlotValue.{default_bits}
use Rattle.capnp_schema.specs.Schema.{Field, Group, ListValue, Node, Schemas, Slot, TypedField, UIntValue, Value, VoidValue}
use Rattle.capnp_schema.specs.Builtin.{builtin, builtin_brand, builtin_field, builtin_struct_node, enumerant, member, union_node, zero_word}
use Rattle.capnp_differences.specs.Differences.{ComesFirst, DiffersAt, FieldsDiffer, Given, IsCompared, Named, SameDefaults, kind_change, member_change, members_change, place_change, struct_pair, type_change}
use Rattle.capnp_differences.specs.Steps.Comparing.{pair_of}
use Rattle.capnp_differences.specs.declared.differences.Cause.{Cause}
use Rattle.capnp_differences.specs.declared.differences.Cause.TheVariants as cause
use Rattle.capnp_differences.specs.declared.differences.Difference.{Difference}

-- ---- fields ----

same_slots : kind_change (Slot 3 (UIntValue 2 0)) (Slot 3 (UIntValue 2 7)) ≡ None
same_slots = refl

slots_apart : kind_change (Slot 3 (UIntValue 2 0)) (Slot 4 (UIntValue 2 0)) ≡ Some cause.PlaceChanged
slots_apart = refl

groups_of_any_node : kind_change (Group 4) (Group 5) ≡ None
groups_of_any_node = refl

slot_became_group : kind_change (Slot 0 VoidValue) (Group 5) ≡ Some cause.KindChanged
slot_became_group = refl

group_became_slot : kind_change (Group 5) (Slot 0 VoidValue) ≡ Some cause.KindChanged
group_became_slot = refl

equal_defaults : SameDefaults (Slot 3 (UIntValue 2 7)) (Slot 4 (UIntValue 2 7))
equal_defaults = refl

other_defaults : SameDefaults (Slot 3 (UIntValue 2 7)) (Slot 3 (UIntValue 2 8)) → ⊥
other_defaults e = omega (arith, ap default_bits e)

abbrev plain : Field
plain = builtin_field (codes "a") 0 VoidValue

abbrev as_member : ℕ → Field
as_member number = member number (codes "a") 0 VoidValue

no_members : member_change plain plain ≡ None
no_members = refl

same_member : member_change (as_member 2) (as_member 2) ≡ None
same_member = refl

other_member : member_change (as_member 2) (as_member 3) ≡ Some cause.DiscriminantChanged
other_member = refl

entered : member_change plain (as_member 0) ≡ Some cause.EnteredUnion
entered = refl

left : member_change (as_member 0) plain ≡ Some cause.LeftUnion
left = refl

-- ---- types ----

-- the built-in set with an enum of two enumerants, lists of a type, and a struct of number 9
abbrev with_pair : Node → List SchemaType → Schemas
with_pair pair types = record builtin {
  nodes = builtin.nodes ++ pair ∷ [];
  brands = builtin.brands ++ builtin_brand 9 types ∷ [];
  enums = builtin.enums ++ record { id = 201; display_name = codes "Two"; annotations = []; enumerants = enumerant (codes "a") ∷ enumerant (codes "b") ∷ []; annotation_types = record { own = []; children = [] ∷ [] ∷ [] } } ∷ [];
}

abbrev numbers_node : ℕ → ℕ → Node
numbers_node offset default = builtin_struct_node 109 (codes "Pair") 1 0 (builtin_field (codes "v") offset (UIntValue 2 default) ∷ [])

-- a struct that stands where a number of two bytes stood, and one whose field has a default
abbrev first : Schemas
first = with_pair (numbers_node 0 0) (UIntType 2 ∷ [])

abbrev with_default : Schemas
with_default = with_pair (numbers_node 0 7) (UIntType 2 ∷ [])

same_types : type_change cause.TypeChanged first TextType TextType ≡ None
same_types = refl

text_became_data : type_change cause.TypeChanged first TextType DataType ≡ Some cause.TypeChanged
text_became_data = refl

number_grew : type_change cause.TypeChanged first (UIntType 2) (UIntType 4) ≡ Some cause.TypeChanged
number_grew = refl

number_got_a_sign : type_change cause.TypeChanged first (UIntType 2) (IntType 2) ≡ Some cause.TypeChanged
number_got_a_sign = refl

enum_grew : type_change cause.TypeChanged first (EnumType 1) (EnumType 0) ≡ None
enum_grew = refl

enum_shrank : type_change cause.TypeChanged first (ListType (EnumType 0)) (ListType (EnumType 1)) ≡ Some cause.FewerEnumerants
enum_shrank = refl

structs_are_a_pair : type_change cause.TypeChanged first (StructType 0 0) (StructType 9 9) ≡ None
structs_are_a_pair = refl

number_became_struct : type_change cause.TypeChanged first (UIntType 2) (StructType 9 9) ≡ Some cause.TypeChanged
number_became_struct = refl

numbers_became_structs : type_change cause.TypeChanged first (ListType (UIntType 2)) (ListType (StructType 9 9)) ≡ None
numbers_became_structs = refl

of_another_number : type_change cause.TypeChanged first (ListType (UIntType 4)) (ListType (StructType 9 9)) ≡ Some cause.TypeChanged
of_another_number = refl

not_with_a_default : type_change cause.TypeChanged with_default (ListType (UIntType 2)) (ListType (StructType 9 9)) ≡ Some cause.ElementsBecameStructs
not_with_a_default = refl

bits_became_structs : type_change cause.TypeChanged first (ListType BoolType) (ListType (StructType 9 9)) ≡ Some cause.ElementsBecameStructs
bits_became_structs = refl

list_became_struct : type_change cause.TypeChanged first (ListType BoolType) (StructType 9 9) ≡ Some cause.TypeChanged
list_became_struct = refl

structs_became_numbers : type_change cause.TypeChanged first (ListType (StructType 9 9)) (ListType (UIntType 2)) ≡ Some cause.TypeChanged
structs_became_numbers = refl

-- ---- pairs ----

lists_of_structs : struct_pair first (ListType (ListType (StructType 1 1))) (ListType (ListType (StructType 2 2))) ≡ Some (pair_of 1 2)
lists_of_structs = refl

of_one_list : struct_pair first (ListType (StructType 1 1)) (StructType 2 2) ≡ None
of_one_list = refl

no_structs : struct_pair first (ListType (UIntType 2)) (ListType (StructType 9 9)) ≡ None
no_structs = refl

-- a list of lists of structs became one of structs that begin with such a list
lists_in_structs : struct_pair (with_pair (builtin_struct_node 109 (codes "Row") 0 1 (builtin_field (codes "xs") 0 (ListValue zero_word) ∷ [])) (ListType (StructType 2 2) ∷ []))
    (ListType (ListType (StructType 1 1))) (ListType (StructType 9 9)) ≡ Some (pair_of 1 2)
unfolding tree_at
lists_in_structs = refl

-- the groups of `Shapes`
groups_are_compared : IsCompared builtin 3 3 4 4
groups_are_compared = Named 3 3 1 4 4 Given (omega arith) (omega arith) refl

-- ---- unions and structs ----

abbrev with_union : ℕ → ℕ → Node
with_union count offset = union_node 101 (codes "Mixed") 1 1 count offset []

grew : members_change (with_union 2 1) (with_union 3 1) ≡ None
grew = refl

shrank : members_change (with_union 3 1) (with_union 2 1) ≡ Some cause.FewerMembers
shrank = refl

went : members_change (with_union 3 1) (with_union 0 0) ≡ Some cause.UnionGone
went = refl

was_none : members_change (with_union 0 0) (with_union 0 0) ≡ None
was_none = refl

moved : place_change (with_union 2 1) (with_union 2 2) ≡ Some cause.UnionMoved
moved = refl

-- where there was none, or none is left, nothing moved
not_moved : place_change (with_union 0 0) (with_union 2 2) ≡ None
not_moved = refl

went_alone : place_change (with_union 2 1) (with_union 0 0) ≡ None
went_alone = refl

-- `Mixed` without its later fields is `Flat`
field_is_gone : DiffersAt builtin (pair_of 1 0) (Some 1) cause.FieldGone
field_is_gone = (omega arith, inl (omega arith, refl))

field_stands : DiffersAt builtin (pair_of 1 0) (Some 0) cause.FieldGone → ⊥
field_stands (below, inl gone) = let past = gone.0 in omega arith
field_stands (below, inr (here, inl e)) = cc
field_stands (below, inr (here, inr (inl h))) = let e = h.0 in cc
field_stands (below, inr (here, inr (inr (inl e)))) = cc
field_stands (below, inr (here, inr (inr (inr e)))) = cc

no_field_past_the_end : DiffersAt builtin (pair_of 1 0) (Some 4) cause.FieldGone → ⊥
no_field_past_the_end h = let below = h.0 in omega arith

union_is_gone : DiffersAt builtin (pair_of 1 0) None cause.UnionGone
union_is_gone = inl refl

union_did_not_move : DiffersAt builtin (pair_of 1 0) None cause.UnionMoved → ⊥
union_did_not_move (inl e) = cc
union_did_not_move (inr e) = cc

-- a default of another type is none that changed, and one of the same type is
abbrev number_field : Value → SchemaType → TypedField
number_field default type = record { field = builtin_field (codes "a") 0 default; type = type }

default_changed : FieldsDiffer builtin (number_field (UIntValue 2 7) (UIntType 2)) (number_field (UIntValue 2 8) (UIntType 2)) cause.DefaultChanged
default_changed = inr (inl (refl, other_defaults, λ e. cc))

default_of_another_type : FieldsDiffer builtin (number_field (UIntValue 2 7) (UIntType 2)) (number_field (UIntValue 4 8) (UIntType 4)) cause.DefaultChanged → ⊥
default_of_another_type (inl e) = cc
default_of_another_type (inr (inl h)) = h.2 refl
default_of_another_type (inr (inr (inl e))) = cc
default_of_another_type (inr (inr (inr e))) = cc

-- ---- the order ----

abbrev told_at : Option ℕ → Cause → Difference
told_at o c = record { pair = pair_of 1 0; field = o; cause = c }

union_before_fields : ComesFirst (told_at None cause.UnionMoved) (told_at (Some 0) cause.FieldGone)
union_before_fields same = omega arith

fields_by_index : ComesFirst (told_at (Some 1) cause.FewerEnumerants) (told_at (Some 2) cause.PlaceChanged)
fields_by_index same = omega arith

causes_in_order : ComesFirst (told_at (Some 1) cause.PlaceChanged) (told_at (Some 1) cause.TypeChanged)
causes_in_order same = omega arith

not_the_other_way : ComesFirst (told_at (Some 1) cause.TypeChanged) (told_at (Some 1) cause.PlaceChanged) → ⊥
not_the_other_way h = let less = h refl in omega arith

not_before_itself : ComesFirst (told_at None cause.UnionGone) (told_at None cause.UnionGone) → ⊥
not_before_itself h = let less = h refl in omega arith
