-- Where a field stands, in one entry.
use Rattle.std.specs.Prelude.{ℕ, zero, suc, ◌+◌, ◌*◌, ◌%◌, ◌^◌, ◌<◌, ◌≤◌, ◌≡◌, List, Bool, true, false, ◌||◌, ◌==◌, IsTrue, IsFalse, IfSome, IfNone, ⊤, Option, Some, None, length, bit_xor}
use Rattle.capnp_wire.specs.Edits.{HasAtLeast}
use Rattle.capnp_wire.specs.Tree.{StructTree, tree_count}
use Rattle.capnp_wire.specs.declared.size.StructSize.{StructSize}
use Rattle.capnp_schema.specs.Types.{SchemaType, is_pointer, struct_number, width}
use Rattle.capnp_schema.specs.Schema.{Schemas, Node, Field, FieldKind, Slot, Group, Value, TypedField, node_of, fields_of, field_at, is_member}
use Rattle.capnp_schema.specs.Footprint.{Spot, DataBit, PointerAt, is_in, discriminant_names, footprint}
use Rattle.capnp_schema.specs.SlotValue.{bits_at, default_bits, slot_number}
use Rattle.capnp_schema.specs.Laws.{struct_spots}
use Rattle.capnp_schema.specs.Accepted.{IsAccepted, SlotLiesInside}
use Rattle.capnp_schema.specs.Ranges.{HasRanges}
use Rattle.capnp_schema.specs.declared.plan.Place.{Place}
use Rattle.capnp_schema.specs.declared.plan.Place.TheVariants as place
use Rattle.capnp_schema.specs.declared.plan.SlotPlan.{SlotPlan}

-- so many bits at an offset in units of that width; no bits are nowhere
abbrev pub data_place : ℕ → ℕ → Value → Place
data_place zero offset default = place.Nothing
data_place (suc bits) offset default = place.Bits (offset * suc bits) (suc bits) (default_bits default)

-- a pointer, or a data slot of so many bits
abbrev pub slot_place : (stands_behind_pointer : Bool) → (bits : ℕ) → (offset : ℕ) → Value → Place
slot_place true bits offset default = place.Pointer offset
slot_place false bits offset default = data_place bits offset default

abbrev pub plan_place : FieldKind → SchemaType → Place
plan_place (Slot offset default) t = slot_place (is_pointer t) (width t) offset default
plan_place (Group node) t = place.Group (struct_number t)

-- a member's discriminant: its first bit in the data section, and the value there while the member is active
abbrev pub member_plan : (member : Bool) → Node → Field → Option (ℕ × ℕ)
member_plan true n f = Some (16 * n.discriminant_offset, f.discriminant_value)
member_plan false n f = None

-- the plan of a field of a node
abbrev pub plan_in : Node → TypedField → SlotPlan
plan_in n f = record { place = plan_place f.field.kind f.type; member = member_plan (is_member f.field) n f.field }

-- the plan of a field of a brand
abbrev pub plan_of : Schemas → ℕ → TypedField → SlotPlan
plan_of set b f = plan_in (node_of set b) f

-- what an accepted set gives of a field, and what its plan's numbers fit by: the slot and a member's discriminant lie
-- inside the sections
pub record LiesInNode (n : Node) (f : TypedField) : Type 0 where
  pub slot : SlotLiesInside n f
  pub discriminant : IsTrue (is_member f.field) → 16 * (n.discriminant_offset + 1) ≤ 64 * n.data_word_count

-- ---- what plans promise ----

-- the data bits and pointers that a plan's place names
abbrev pub place_names : Schemas → Place → Spot → Bool
place_names set place.Nothing p = false
place_names set (place.Bits start bits mask) (DataBit i) = is_in start bits i
place_names set (place.Bits start bits mask) (PointerAt i) = false
place_names set (place.Pointer number) (DataBit i) = false
place_names set (place.Pointer number) (PointerAt i) = i == number
place_names set (place.Group brand) p = struct_spots set brand p

-- the number that stands at a plan's place: its bits, each changed where the mask's is 1; 0 where the place has no bits
abbrev pub place_number : List ℕ → Place → ℕ
place_number bytes place.Nothing = 0
place_number bytes (place.Bits start bits mask) = bit_xor (bits_at bytes start bits) mask
place_number bytes (place.Pointer number) = 0
place_number bytes (place.Group brand) = 0

-- where a slot has bits in the data section, the number at its place is the slot's
abbrev pub HasSlotNumber : FieldKind → SchemaType → Place → Type 0
HasSlotNumber (Slot offset default) t p = (bytes : List ℕ) → 0 < width t → place_number bytes p ≡ slot_number bytes offset default t
HasSlotNumber (Group node) t p = ⊤

-- the 16 bits from the first on
abbrev pub discriminant_bits : ℕ → Spot → Bool
discriminant_bits first (DataBit i) = is_in first 16 i
discriminant_bits first (PointerAt i) = false

-- a data slot has 1, 8, 16, 32 or 64 bits
abbrev pub is_slot_width : ℕ → Bool
is_slot_width bits = (bits == 1) || (bits == 8) || (bits == 16) || (bits == 32) || (bits == 64)

-- a data slot starts at a multiple of its bits, and its mask has no more of them
pub record IsDataSlot (start bits mask : ℕ) : Type 0 where
  pub is_width : IsTrue (is_slot_width bits)
  pub is_aligned : start % bits ≡ 0
  pub mask_fits : mask < 2 ^ bits

abbrev pub IsSlotPlace : Place → Type 0
IsSlotPlace place.Nothing = ⊤
IsSlotPlace (place.Bits start bits mask) = IsDataSlot start bits mask
IsSlotPlace (place.Pointer number) = ⊤
IsSlotPlace (place.Group brand) = ⊤

-- a place's bits lie inside a struct's data section, and its pointer inside the pointer section
abbrev pub PlaceFits : Place → StructTree → Type 0
PlaceFits place.Nothing s = ⊤
PlaceFits (place.Bits start bits mask) s = start + bits ≤ 8 * length s.bytes
PlaceFits (place.Pointer number) s = number < tree_count s.pointers
PlaceFits (place.Group brand) s = ⊤

-- a plan's place lies inside a struct, and so do the 16 bits of a member's discriminant
pub record PlanFits (plan : SlotPlan) (s : StructTree) : Type 0 where
  pub place : PlaceFits plan.place s
  pub member : IfSome plan.member (λ m. m.0 + 16 ≤ 8 * length s.bytes)

-- the sections of a node's structs, and of a brand's
abbrev pub node_size : Node → StructSize
node_size n = record { data_words = n.data_word_count; pointers = n.pointer_count }

abbrev pub brand_size : Schemas → ℕ → StructSize
brand_size set b = node_size (node_of set b)

-- a plan's place is the field's footprint and has the slot's number; its member is the discriminant with the field's
-- value, and there is none for a non-union field; both lie inside each struct that has the brand's sections
pub record IsPlan (set : Schemas) (b : ℕ) (f : TypedField) (plan : SlotPlan) : Type 0 where
  pub names : (p : Spot) → place_names set plan.place p ≡ footprint set f p
  pub number : HasSlotNumber f.field.kind f.type plan.place
  pub member : IfSome plan.member (λ m. IsTrue (is_member f.field) × (m.1 ≡ f.field.discriminant_value) × ((p : Spot) → discriminant_bits m.0 p ≡ discriminant_names (node_of set b) p))
  pub non_union : IfNone plan.member (IsFalse (is_member f.field))
  pub slot : IsSlotPlace plan.place
  pub discriminant : IfSome plan.member (λ m. (m.0 % 16 ≡ 0) × (m.1 < 2 ^ 16))
  pub fits : (s : StructTree) → HasAtLeast (brand_size set b) s → PlanFits plan s

-- the plan of each field of an accepted set is that, where the set's numbers fit their integer types
abbrev pub PlansStand : Type 0
PlansStand = (set : Schemas) → IsAccepted set → HasRanges set → (b i : ℕ) → b < length set.brands → i < length (fields_of set b) →
    LiesInNode (node_of set b) (field_at set b i) × IsPlan set b (field_at set b i) (plan_of set b (field_at set b i))
