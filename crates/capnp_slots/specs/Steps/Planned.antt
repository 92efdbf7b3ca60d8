-- Writes by a field's plan alone: steps of the code.
use Rattle.std.specs.Prelude.{ℕ, List, ◌^◌, ◌<◌, ⊤}
use Rattle.capnp_wire.specs.Tree.{Null, StructTree}
use Rattle.capnp_wire.specs.Edits.{with_bytes, with_pointer_tree}
use Rattle.capnp_schema.specs.SlotBits.{with_bits}
use Rattle.capnp_schema.specs.SlotValue.{bits_at}
use Rattle.capnp_schema.specs.declared.plan.Place.{Place}
use Rattle.capnp_schema.specs.declared.plan.Place.TheVariants as place
use Rattle.capnp_schema.specs.declared.plan.SlotPlan.{SlotPlan}
use Rattle.capnp_records.specs.Writes.Slots.{Content, Bits, At}
use Rattle.capnp_slots.specs.Planned.{member_switched}

-- a struct with other bits, or another pointer, at a place
abbrev pub place_written : Place → Content → StructTree → StructTree
place_written place.Nothing c s = s
place_written (place.Bits start bits mask) (Bits n) s = with_bytes s (with_bits start bits n s.bytes)
place_written (place.Bits start bits mask) (At t) s = s
place_written (place.Pointer number) (Bits n) s = s
place_written (place.Pointer number) (At t) s = with_pointer_tree s number t
place_written (place.Group brand) c s = s

abbrev pub plan_written : SlotPlan → Content → StructTree → StructTree
plan_written plan c s = place_written plan.place c (member_switched plan.member s)

-- the bits of a place's default
abbrev pub place_mask : Place → ℕ
place_mask place.Nothing = 0
place_mask (place.Bits start bits mask) = mask
place_mask (place.Pointer number) = 0
place_mask (place.Group brand) = 0

-- a place takes a number of no more than its bits
abbrev pub HoldsNumber : Place → ℕ → Type 0
HoldsNumber place.Nothing n = ⊤
HoldsNumber (place.Bits start bits mask) n = n < 2 ^ bits
HoldsNumber (place.Pointer number) n = ⊤
HoldsNumber (place.Group brand) n = ⊤

-- what a place holds once it is cleared
abbrev pub place_cleared : Place → Content
place_cleared place.Nothing = Bits 0
place_cleared (place.Bits start bits mask) = Bits 0
place_cleared (place.Pointer number) = At Null
place_cleared (place.Group brand) = Bits 0

-- the bits that stand at a place of a data section
abbrev pub place_bits : Place → List ℕ → ℕ
place_bits place.Nothing bytes = 0
place_bits (place.Bits start bits mask) bytes = bits_at bytes start bits
place_bits (place.Pointer number) bytes = 0
place_bits (place.Group brand) bytes = 0
