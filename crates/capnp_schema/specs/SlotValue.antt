-- The number that a data slot of a struct spells.
use Rattle.std.specs.Prelude.{ℕ, zero, suc, ℤ, pos, negsuc, ◌+◌, ◌-◌, ◌*◌, ◌^◌, List, Bool, true, false, bit_xor}
use Rattle.capnp_wire.specs.Slot.{bit_at}
use Rattle.capnp_schema.specs.Types.{SchemaType, width}
use Rattle.capnp_schema.specs.Schema.{Value, VoidValue, BoolValue, IntValue, UIntValue, EnumValue, TextValue, DataValue, StructValue, ListValue, AnyPointerValue}

abbrev pub bit_number : Bool → ℕ
bit_number true = 1
bit_number false = 0

-- the number of so many bits of a data section from the first on, lowest first; bits past the end are 0
abbrev pub bits_at : List ℕ → ℕ → ℕ → ℕ
bits_at bytes first zero = 0
bits_at bytes first (suc count) = bit_number (bit_at bytes first) + 2 * bits_at bytes (first + 1) count

-- an integer as a number without a sign, in two's complement of so many bits
abbrev pub unsigned_number : ℕ → ℤ → ℕ
unsigned_number bits (pos x) = x
unsigned_number bits (negsuc x) = 2 ^ bits - suc x

-- a default's bits; every other default stands behind a pointer, or is nothing
abbrev pub default_bits : Value → ℕ
default_bits VoidValue = 0
default_bits (BoolValue x) = bit_number x
default_bits (IntValue bytes x) = unsigned_number (8 * bytes) x
default_bits (UIntValue bytes x) = x
default_bits (EnumValue x) = x
default_bits (TextValue bytes) = 0
default_bits (DataValue bytes) = 0
default_bits (StructValue words) = 0
default_bits (ListValue words) = 0
default_bits (AnyPointerValue words) = 0

-- what a slot at an offset, in units of its width, spells: each bit changed where the default's is 1
abbrev pub slot_number : List ℕ → ℕ → Value → SchemaType → ℕ
slot_number bytes offset default t = bit_xor (bits_at bytes (offset * width t) (width t)) (default_bits default)
