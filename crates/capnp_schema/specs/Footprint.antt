-- The data bits and pointers that a field names.
use Rattle.std.specs.Prelude.{ℕ, zero, suc, ◌+◌, ◌*◌, List, [], ◌∷◌, Bool, false, ◌&&◌, ◌||◌, ◌==◌, nat_le, nat_lt, length, Option, Some, None}
use Rattle.capnp_schema.specs.Types.{SchemaType, is_pointer, struct_brand, width}
use Rattle.capnp_schema.specs.Schema.{Schemas, Node, FieldKind, Slot, Group, TypedField, node_of, fields_of}

-- a spot in a struct: a data bit or a pointer
pub data Spot : Type 0 where
  DataBit : ℕ → Spot
  PointerAt : ℕ → Spot

abbrev pub is_in : ℕ → ℕ → ℕ → Bool
is_in first count i = nat_le first i && nat_lt i (first + count)

-- a slot names its bits or its pointer; a slot of nothing has no bits
abbrev pub slot_names : ℕ → SchemaType → Spot → Bool
slot_names offset t (DataBit i) = is_in (offset * width t) (width t) i
slot_names offset t (PointerAt i) = is_pointer t && (i == offset)

-- the 16 bits that say which member of a union is active
abbrev pub discriminant_names : Node → Spot → Bool
discriminant_names n (DataBit i) = nat_lt 0 n.discriminant_count && is_in (16 * n.discriminant_offset) 16 i
discriminant_names n (PointerAt i) = false

-- whether one of the fields names the spot
abbrev pub some_field : (TypedField → Spot → Bool) → List TypedField → Spot → Bool
some_field names [] p = false
some_field names (f ∷ fs) p = names f p || some_field names fs p

-- what a group names; without a group nothing is named
abbrev pub group_names : (ℕ → Spot → Bool) → Option ℕ → Spot → Bool
group_names group None p = false
group_names group (Some g) p = group g p

-- a group field names what its group's fields and discriminant name, and nothing where its type is no struct type
abbrev pub kind_names : (ℕ → Spot → Bool) → FieldKind → SchemaType → Spot → Bool
kind_names group (Slot offset default) t p = slot_names offset t p
kind_names group (Group node) t p = group_names group (struct_brand t) p

-- what a struct's fields and discriminant name, through at most so many groups
abbrev pub brand_names : ℕ → Schemas → ℕ → Spot → Bool
brand_names zero set b p = false
brand_names (suc groups) set b p =
    some_field (λ f. kind_names (brand_names groups set) f.field.kind f.type) (fields_of set b) p || discriminant_names (node_of set b) p

-- the footprint of a field, through at most as many groups as there are brands
abbrev pub footprint : Schemas → TypedField → Spot → Bool
footprint set f = kind_names (brand_names (length set.brands) set) f.field.kind f.type
