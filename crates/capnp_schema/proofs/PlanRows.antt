-- Plans and slot values of the built-in set, computed.
use Rattle.std.specs.Prelude.{ℕ, negsuc, pos, ◌≡◌, refl, [], ◌∷◌, true, Some, None}
use Rattle.capnp_schema.specs.Types.{BoolType, IntType, UIntType}
use Rattle.capnp_schema.specs.Schema.{field_at, BoolValue, IntValue, UIntValue}
use Rattle.capnp_schema.specs.SlotValue.{bits_at, slot_number, unsigned_number}
use Rattle.capnp_schema.specs.SlotBits.{stored_bits, with_bits}
use Rattle.capnp_schema.specs.Plan.{plan_of}
use Rattle.capnp_schema.specs.Builtin.{builtin}
use Rattle.capnp_schema.specs.declared.plan.SlotPlan.{SlotPlan}
use Rattle.capnp_schema.specs.declared.plan.Place.TheVariants as place

-- the plan of a field of a brand of the built-in set
abbrev plan_at : ℕ → ℕ → SlotPlan
plan_at brand field = plan_of builtin brand (field_at builtin brand field)

many_flag : plan_at 2 0 ≡ record { place = place.Bits 0 1 1; member = None }
many_flag = refl

many_s : plan_at 2 1 ≡ record { place = place.Bits 8 8 255; member = None }
many_s = refl

many_n : plan_at 2 2 ≡ record { place = place.Bits 16 16 7; member = None }
many_n = refl

many_q : plan_at 2 4 ≡ record { place = place.Bits 64 64 0; member = None }
many_q = refl

many_z : plan_at 2 5 ≡ record { place = place.Nothing; member = None }
many_z = refl

mixed_x : plan_at 1 1 ≡ record { place = place.Nothing; member = Some (16, 0) }
mixed_x = refl

mixed_y : plan_at 1 2 ≡ record { place = place.Bits 32 8 0; member = Some (16, 1) }
mixed_y = refl

mixed_b : plan_at 1 3 ≡ record { place = place.Pointer 0; member = None }
mixed_b = refl

shapes_circle : plan_at 3 1 ≡ record { place = place.Group 4; member = Some (16, 0) }
shapes_circle = refl

shapes_word : plan_at 3 3 ≡ record { place = place.Pointer 0; member = Some (16, 2) }
shapes_word = refl

tag_u1 : plan_at 5 2 ≡ record { place = place.Bits 64 8 0; member = Some (48, 1) }
tag_u1 = refl

node_size : plan_at 8 2 ≡ record { place = place.Bits 64 16 0; member = None }
node_size = refl

-- a number as bits without a sign
minus_one : unsigned_number 8 (negsuc 0) ≡ 255
minus_one = refl

least_byte : unsigned_number 8 (negsuc 127) ≡ 128
least_byte = refl

greatest_byte : unsigned_number 8 (pos 127) ≡ 127
greatest_byte = refl

-- bits are counted lowest first, and are 0 past the end
low_bits : bits_at (52 ∷ 18 ∷ []) 4 8 ≡ 35
low_bits = refl

past_the_end : bits_at (52 ∷ 18 ∷ []) 12 8 ≡ 1
past_the_end = refl

-- where nothing is stored a slot has its default
default_number : slot_number [] 1 (UIntValue 2 7) (UIntType 2) ≡ 7
default_number = refl

default_sign : slot_number [] 1 (IntValue 1 (negsuc 0)) (IntType 1) ≡ 255
default_sign = refl

stored_default : slot_number (0 ∷ 0 ∷ 7 ∷ []) 1 (UIntValue 2 7) (UIntType 2) ≡ 0
stored_default = refl

true_by_default : slot_number (1 ∷ []) 0 (BoolValue true) BoolType ≡ 0
true_by_default = refl

-- what the wire reads in a slot, and what it writes there
stored_truth : stored_bits 9 1 (1 ∷ 2 ∷ []) ≡ 1
stored_truth = refl

stored_byte : stored_bits 8 8 (1 ∷ 2 ∷ []) ≡ 2
stored_byte = refl

stored_past_the_end : stored_bits 16 16 (1 ∷ 2 ∷ 3 ∷ []) ≡ 3
stored_past_the_end = refl

truth_cleared : with_bits 9 1 0 (1 ∷ 3 ∷ []) ≡ 1 ∷ 1 ∷ []
truth_cleared = refl

number_written : with_bits 16 16 515 (1 ∷ 2 ∷ 0 ∷ 0 ∷ 5 ∷ []) ≡ 1 ∷ 2 ∷ 3 ∷ 2 ∷ 5 ∷ []
number_written = refl
