-- Writes of a field by its handle, in the words of writes on trees.
use Rattle.std.specs.Prelude.{ℕ, ◌+◌, ◌*◌, ◌<◌, ◌≤◌, ◌≡◌, Bool, ◌&&◌, true, false, length, IfSome, Option}
use Rattle.capnp_wire.specs.Tree.{StructTree, Tree, tree_count}
use Rattle.capnp_wire.specs.Place.{struct_tree}
use Rattle.capnp_wire.specs.Edits.{with_pointer_tree}
use Rattle.capnp_wire.specs.WellFormed.{IsWellFormed}
use Rattle.capnp_schema.specs.FieldLists.{field_schema, typed_of}
use Rattle.capnp_schema.specs.Footprint.{Spot, discriminant_names}
use Rattle.capnp_schema.specs.Plan.{PlanFits}
use Rattle.capnp_schema.specs.Schema.{Schemas, is_member}
use Rattle.capnp_schema.specs.StructHandles.{number_of, set_of, struct_node}
use Rattle.capnp_schema.specs.Types.{is_pointer}
use Rattle.capnp_schema.specs.declared.plan.SlotPlan.{SlotPlan}
use Rattle.capnp_schema.specs.declared.schema.fields.Field.{Field}
use Rattle.capnp_records.specs.Step.{is_group_field}
use Rattle.capnp_records.specs.Writes.Overlay.{field_spots, switched_struct}
use Rattle.capnp_records.specs.Writes.Slots.{Content, At, Fits, Writes}
use Rattle.capnp_records.specs.Writes.TreeEnds.{offset_of, slot_written}
use Rattle.capnp_slots.specs.Planned.{member_switched}

-- the set and the brand that a field is of
abbrev pub field_set : Field → Schemas
field_set f = set_of (field_schema f)

abbrev pub field_brand : Field → ℕ
field_brand f = number_of (field_schema f)

-- a struct has at least the sections of the field's schema
abbrev pub IsRoomFor : Field → StructTree → Type 0
IsRoomFor f s = Fits (field_set f) (field_brand f) s

-- a field is a slot and no group
abbrev pub IsSlot : Field → Type 0
IsSlot f = is_group_field (typed_of f).field.kind ≡ false

-- the union switched to the field; a non-union field changes nothing
abbrev pub switched_to : Field → StructTree → StructTree
switched_to f s = switched_struct (struct_node (field_schema f)) (typed_of f).field s

-- the field's slot with that in it, and the union switched to the field
abbrev pub slot_with : Field → Content → StructTree → StructTree
slot_with f c s = slot_written (field_set f) (field_brand f) (typed_of f) c s

-- a slot whose values stand behind a pointer, and the number of the pointer
abbrev pub IsPointerField : Field → Type 0
IsPointerField f = is_pointer (typed_of f).type ≡ true

abbrev pub pointer_index : Field → ℕ
pointer_index f = offset_of (typed_of f).field.kind

-- ---- what stays ----

-- the places of a member's discriminant, of a non-union field none
abbrev pub switch_names : Field → Spot → Bool
switch_names f p = is_member (typed_of f).field && discriminant_names (struct_node (field_schema f)) p

-- the places of the field's slot or group, and of a member's discriminant
abbrev pub names_of : Field → Spot → Bool
names_of f = field_spots (field_set f) (field_brand f) (typed_of f)

-- one struct became another: it is of the same size, the same but for these places, and well-formed where it was
pub record Keeps (inside : Spot → Bool) (s s' : StructTree) : Type 0 where
  pub writes : Writes inside s s'
  pub formed : IsWellFormed (struct_tree s) → IsWellFormed (struct_tree s')

-- ---- plans ----

-- the plan of a field: its member is the field's discriminant, and lies inside each struct that is room for the field
pub record IsFieldPlan (f : Field) (plan : SlotPlan) : Type 0 where
  pub fits : (s : StructTree) → IsRoomFor f s → PlanFits plan s
  pub switches : (s : StructTree) → member_switched plan.member s ≡ switched_to f s
  pub keeps : (s : StructTree) → IsRoomFor f s → Keeps (switch_names f) s (switched_to f s)

-- the pointer of a slot, and the discriminant of its field: both lie inside each struct that is room for the field; what is
-- put at the pointer, and the union switched after it, is written into the slot, and keeps the rest
pub record IsPointerSlot (f : Field) (index : ℕ) (member : Option (ℕ × ℕ)) : Type 0 where
  pub is : index ≡ pointer_index f
  pub inside : (s : StructTree) → IsRoomFor f s → index < tree_count s.pointers
  pub member_inside : (s : StructTree) → IsRoomFor f s → IfSome member (λ m. m.0 + 16 ≤ 8 * length s.bytes)
  pub writes : (t : Tree) (s : StructTree) → member_switched member (with_pointer_tree s index t) ≡ slot_with f (At t) s
  pub keeps : (t : Tree) (s : StructTree) → IsRoomFor f s → IsWellFormed t → Keeps (names_of f) s (slot_with f (At t) s)
