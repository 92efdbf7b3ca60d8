-- Writes of a field by its handle, in the words of writes on trees: steps of the code.
use Rattle.std.specs.Prelude.{ℕ, List, ◌*◌, ◌^◌, ◌<◌, ◌≡◌, ⊤, false, bit_xor}
use Rattle.capnp_wire.specs.Tree.{StructTree}
use Rattle.capnp_wire.specs.WellFormed.{IsWellFormed}
use Rattle.capnp_schema.specs.FieldLists.{typed_of}
use Rattle.capnp_schema.specs.Plan.{IsSlotPlace, PlanFits}
use Rattle.capnp_schema.specs.Schema.{default_of}
use Rattle.capnp_schema.specs.SlotValue.{bits_at, default_bits}
use Rattle.capnp_schema.specs.Types.{is_pointer, width}
use Rattle.capnp_schema.specs.declared.plan.Place.TheVariants as place
use Rattle.capnp_schema.specs.declared.plan.SlotPlan.{SlotPlan}
use Rattle.capnp_schema.specs.declared.schema.fields.Field.{Field}
use Rattle.capnp_records.specs.Facts.Numbers.{IsStored}
use Rattle.capnp_records.specs.Record.{Value}
use Rattle.capnp_records.specs.Writes.Overlay.{cleared_content, stored_number}
use Rattle.capnp_records.specs.Writes.Slots.{Content, Bits, At, Suits}
use Rattle.capnp_slots.specs.Steps.Planned.{HoldsNumber, place_bits, place_cleared, place_mask, plan_written}
use Rattle.capnp_slots.specs.Fields.{IsPointerField, IsRoomFor, Keeps, names_of, pointer_index, slot_with}

abbrev pub IsFormed : Content → Type 0
IsFormed (Bits n) = ⊤
IsFormed (At t) = IsWellFormed t

-- the plan of a slot: it lies inside each struct that is room for the field, what is written by it is written into the
-- slot, and what is written into the slot keeps the rest
pub record IsSlotPlan (f : Field) (plan : SlotPlan) : Type 0 where
  pub slot : IsSlotPlace plan.place
  pub fits : (s : StructTree) → IsRoomFor f s → PlanFits plan s
  pub writes : (c : Content) (s : StructTree) → Suits (typed_of f).type c → plan_written plan c s ≡ slot_with f c s
  pub clears : (s : StructTree) → plan_written plan (place_cleared plan.place) s ≡ plan_written plan (cleared_content (typed_of f).type) s
  pub holds : (v : Value) → IsStored (typed_of f).type v → HoldsNumber plan.place (stored_number (typed_of f).type v)
  pub stores : (n : ℕ) (s : StructTree) → plan_written plan (Bits (bit_xor n (place_mask plan.place))) s ≡ plan_written plan (Bits (bit_xor n (default_bits (default_of (typed_of f).field)))) s
  pub loads : (bytes : List ℕ) → is_pointer (typed_of f).type ≡ false → place_bits plan.place bytes ≡ bits_at bytes (pointer_index f * width (typed_of f).type) (width (typed_of f).type)
  pub pointer : IsPointerField f → plan.place ≡ place.Pointer (pointer_index f)
  pub small : default_bits (default_of (typed_of f).field) < 2 ^ width (typed_of f).type
  pub keeps : (c : Content) (s : StructTree) → IsRoomFor f s → Suits (typed_of f).type c → IsFormed c → Keeps (names_of f) s (slot_with f c s)
