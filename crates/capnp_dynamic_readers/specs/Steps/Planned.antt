-- Reads by a field's place alone: steps of the code.
use Rattle.std.specs.Prelude.{ℕ, Bool, ◌&&◌, ◌==◌, true, List, length, Option, Some, None, ◌≡◌, ◌^◌, ◌<◌, ◌%◌, bit_xor}
use Rattle.capnp_wire.specs.Tree.{StructTree, nth_tree}
use Rattle.capnp_schema.specs.Schema.{Schemas, brand_at, Value as SchemaValue}
use Rattle.capnp_schema.specs.SlotValue.{bits_at}
use Rattle.capnp_schema.specs.Types.{SchemaType, VoidType, StructType, is_pointer, width}
use Rattle.capnp_schema.specs.declared.plan.Place.{Place}
use Rattle.capnp_schema.specs.declared.plan.Place.TheVariants as place
use Rattle.capnp_schema.specs.declared.plan.SlotPlan.{SlotPlan}
use Rattle.capnp_records.specs.Default.{read_of}
use Rattle.capnp_records.specs.Reading.{number_value, struct_record, value_of}
use Rattle.capnp_records.specs.Record as value
use Rattle.capnp_records.specs.Record.{Levels, Value}
use Rattle.capnp_dynamic_readers.specs.Planned.{place_there}

-- the read of a slot or group by its place, its type and its default
abbrev pub placed_read : Schemas → Levels → StructTree → SchemaValue → SchemaType → Place → Value
placed_read set l s d t place.Nothing = value.Void
placed_read set l s d t (place.Bits start bits mask) = number_value t (bit_xor (bits_at s.bytes start (width t)) mask)
placed_read set l s d t (place.Pointer i) = read_of set d t (value_of set (nth_tree s.pointers i) l t)
placed_read set l s d t (place.Group b) = value.Struct (struct_record set l s b)

-- what a place of a type is in an accepted set
abbrev pub IsSound : Schemas → SchemaType → Place → Type 0
IsSound set t place.Nothing = VoidType ≡ t
IsSound set t (place.Bits start bits mask) = (0 < width t) × (start % width t ≡ 0) × (mask < 2 ^ width t)
IsSound set t (place.Pointer i) = is_pointer t ≡ true
IsSound set t (place.Group b) = (b < length set.brands) × (StructType b (brand_at set b).node ≡ t)

-- whether a member is active, what stands at a place is no null, and both
abbrev pub member_there : List ℕ → Option (ℕ × ℕ) → Bool
member_there bytes None = true
member_there bytes (Some m) = bits_at bytes m.0 16 == m.1

abbrev pub planned_has : StructTree → SlotPlan → Bool
planned_has s plan = member_there s.bytes plan.member && place_there s plan.place
