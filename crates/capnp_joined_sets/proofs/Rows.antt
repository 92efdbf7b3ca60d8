-- Worked examples of joined sets, computed.
use Rattle.std.specs.Prelude.{ℕ, ◌≡◌, refl, [], ◌∷◌, true, false, ◌==◌, length}
use Rattle.std.proofs.Common.{arith}
use Rattle.capnp_schema.specs.Types.{EnumType, ListType, StructType, TextType, UIntType, struct_number}
use Rattle.capnp_schema.specs.Schema.{Schemas, AnnotationTypes, Enum, FieldKind, Group, Slot, UIntValue, EnumValue, ListValue, brand_at, enum_at, field_at, node_of}
use Rattle.capnp_schema.specs.Making.{as_group, non_union_field, node_without_union, unannotated_brand}
use Rattle.capnp_joined_sets.specs.declared.moves.Moves.{Moves}
use Rattle.capnp_joined_sets.specs.Joined.{joined, moved_annotation_types, moved_type}
use Rattle.capnp_joined_sets.specs.Refusals.{TypeFits}

abbrev no_types : AnnotationTypes
no_types = record { own = []; children = [] }

abbrev an_enum : ℕ → Enum
an_enum id = record { id = id; display_name = []; annotations = []; enumerants = []; annotation_types = no_types }

-- one struct with a number, and one enum
abbrev older : Schemas
older = record {
  nodes = node_without_union 7 (65 ∷ []) 1 0 (non_union_field (120 ∷ []) (Slot 3 (UIntValue 1 5)) ∷ []) ∷ [];
  brands = unannotated_brand 0 (UIntType 1 ∷ []) ∷ [];
  enums = an_enum 9 ∷ [];
}

-- a struct of the same id and name with a group and a list of itself, the group with an enum, and one enum
abbrev newer : Schemas
newer = record {
  nodes =
      node_without_union 7 (65 ∷ []) 1 1 (non_union_field (103 ∷ []) (Group 1) ∷ non_union_field (108 ∷ []) (Slot 0 (ListValue [])) ∷ [])
      ∷ as_group (node_without_union 8 (66 ∷ []) 1 1 (non_union_field (101 ∷ []) (Slot 2 (EnumValue 0)) ∷ []))
      ∷ [];
  brands = unannotated_brand 0 (StructType 1 1 ∷ ListType (StructType 0 0) ∷ []) ∷ unannotated_brand 1 (EnumType 0 ∷ []) ∷ [];
  enums = an_enum 9 ∷ [];
}

-- ---- all entries of both ----

node_count : length (joined older newer).nodes ≡ 3
node_count = refl

brand_count : length (joined older newer).brands ≡ 3
brand_count = refl

enum_count : length (joined older newer).enums ≡ 2
enum_count = refl

-- ---- the first set is as it was ----

first_field : field_at (joined older newer) 0 0 ≡ field_at older 0 0
first_field = refl

first_node : node_of (joined older newer) 0 ≡ node_of older 0
first_node = refl

first_enum : enum_at (joined older newer) 0 ≡ enum_at older 0
first_enum = refl

-- ---- the second set names its own entries ----

node_moved : (brand_at (joined older newer) 1).node ≡ 1
node_moved = refl

group_moved : (field_at (joined older newer) 1 0).field.kind ≡ Group 2
group_moved = refl

group_type_moved : (field_at (joined older newer) 1 0).type ≡ StructType 2 2
group_type_moved = refl

group_stays_group : (node_of (joined older newer) 2).is_group ≡ true
group_stays_group = refl

list_moved : (field_at (joined older newer) 1 1).type ≡ ListType (StructType 1 1)
list_moved = refl

enum_moved : (field_at (joined older newer) 2 0).type ≡ EnumType 1
enum_moved = refl

-- what is no number of an entry stays: an offset, a default, a name and an id
slot_stays : (field_at (joined older newer) 2 0).field.kind ≡ Slot 2 (EnumValue 0)
slot_stays = refl

id_stays : (node_of (joined older newer) 1).id ≡ 7
id_stays = refl

name_stays : (node_of (joined older newer) 1).display_name ≡ (node_of (joined older newer) 0).display_name
name_stays = refl

-- ---- what would be wrong ----

-- the second set's struct is no entry of the first
not_the_first : (struct_number (field_at (joined older newer) 1 0).type == 1) ≡ false
not_the_first = refl

abbrev group_number : FieldKind → ℕ
group_number (Slot offset default) = 0
group_number (Group node) = node

group_not_left : (group_number (field_at (joined older newer) 1 0).field.kind == 1) ≡ false
group_not_left = refl

-- the other way round the lists stand in another order
other_order : (node_of (joined newer older) 0).pointer_count ≡ 1
other_order = refl

other_type : (field_at (joined newer older) 0 0).type ≡ StructType 1 1
other_type = refl

-- ---- types of annotations, and numbers that fit ----

abbrev far : Moves
far = record { nodes = 10; brands = 20; enums = 30 }

types_moved : moved_annotation_types far (record { own = TextType ∷ EnumType 4 ∷ []; children = (StructType 5 6 ∷ []) ∷ [] ∷ [] })
    ≡ record { own = TextType ∷ EnumType 34 ∷ []; children = (StructType 25 16 ∷ []) ∷ [] ∷ [] }
types_moved = refl

lists_inside : moved_type far (ListType (ListType (EnumType 1))) ≡ ListType (ListType (EnumType 31))
lists_inside = refl

last_fits : TypeFits (moved_type far (EnumType 4_294_967_265))
last_fits = omega arith

one_more_is_past : TypeFits (moved_type far (ListType (EnumType 4_294_967_266))) → ⊥
one_more_is_past h = absurd (omega arith)

brand_is_past : TypeFits (moved_type far (StructType 4_294_967_295 0)) → ⊥
brand_is_past h = absurd (omega arith)
