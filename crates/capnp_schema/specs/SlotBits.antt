-- The bits of a slot as numbers that the wire reads and writes.
use Rattle.std.specs.Prelude.{ℕ, ◌+◌, ◌*◌, ◌/◌, ◌^◌, ◌<◌, ◌≤◌, ◌≡◌, ◌≢◌, List, Bool, ◌==◌, IsFalse, cond, length, bit_xor}
use Rattle.capnp_wire.specs.Edits.{with_bit, with_number}
use Rattle.capnp_wire.specs.Slot.{bit_at, masked_bit, number_at}
use Rattle.capnp_wire.specs.WellFormed.{AreBytes}
use Rattle.capnp_schema.specs.Footprint.{is_in}
use Rattle.capnp_schema.specs.Plan.{IsDataSlot, place_number}
use Rattle.capnp_schema.specs.SlotValue.{bit_number, bits_at}
use Rattle.capnp_schema.specs.declared.plan.Place.TheVariants as place

-- ---- bits, bytes and masks ----

-- of bytes, the bits of so many whole ones are the number that they spell
abbrev pub BitsAreNumbers : Type 0
BitsAreNumbers = (bytes : List ℕ) (width offset : ℕ) → AreBytes bytes → bits_at bytes (offset * (8 * width)) (8 * width) ≡ number_at width offset bytes

-- a single bit is itself
abbrev pub BitsAreSingle : Type 0
BitsAreSingle = (bytes : List ℕ) (i : ℕ) → bits_at bytes i 1 ≡ bit_number (bit_at bytes i)

-- so many bits are a number below 2 to their count
abbrev pub BitsAreBounded : Type 0
BitsAreBounded = (bytes : List ℕ) (first count : ℕ) → bits_at bytes first count < 2 ^ count

-- a number with a mask, and the mask again, is the number; a mask of so many bits leaves it below 2 to their count
abbrev pub MasksUndo : Type 0
MasksUndo = (n mask : ℕ) → bit_xor (bit_xor n mask) mask ≡ n

abbrev pub MasksKeepBounds : Type 0
MasksKeepBounds = (count n mask : ℕ) → n < 2 ^ count → mask < 2 ^ count → bit_xor n mask < 2 ^ count

-- a bit with a mask is the wire's bit with its default
abbrev pub BitsAreMasked : Type 0
BitsAreMasked = (stored : Bool) (mask : ℕ) → mask < 2 → bit_xor (bit_number stored) mask ≡ bit_number (masked_bit stored (mask == 1))

-- ---- what is written ----

-- a number is there once it is written, and every other bit is as it was
abbrev pub NumbersAreWritten : Type 0
NumbersAreWritten = (bytes : List ℕ) (width offset n : ℕ) → (offset + 1) * width ≤ length bytes → n < 2 ^ (8 * width) →
    (bits_at (with_number width offset n bytes) (offset * (8 * width)) (8 * width) ≡ n)
    × ((i : ℕ) → IsFalse (is_in (offset * (8 * width)) (8 * width) i) → bit_at (with_number width offset n bytes) i ≡ bit_at bytes i)

-- and so is a bit
abbrev pub BitsAreWritten : Type 0
BitsAreWritten = (bytes : List ℕ) (i : ℕ) (bit : Bool) → i < 8 * length bytes →
    (bit_at (with_bit i bit bytes) i ≡ bit) × ((j : ℕ) → j ≢ i → bit_at (with_bit i bit bytes) j ≡ bit_at bytes j)

-- ---- data slots ----

-- what is stored in a data slot, as the wire reads it: a bit, or a number of whole bytes
abbrev pub stored_bits : (start bits : ℕ) → List ℕ → ℕ
stored_bits start bits bytes = cond (bits == 1) (bit_number (bit_at bytes start)) (number_at (bits / 8) (start / bits) bytes)

-- bytes with another number stored in a data slot
abbrev pub with_bits : (start bits n : ℕ) → List ℕ → List ℕ
with_bits start bits n bytes = cond (bits == 1) (with_bit start (n == 1) bytes) (with_number (bits / 8) (start / bits) n bytes)

-- a slot's number is what is stored there, with the mask
abbrev pub SlotsAreRead : Type 0
SlotsAreRead = (bytes : List ℕ) (start bits mask : ℕ) → AreBytes bytes → IsDataSlot start bits mask →
    place_number bytes (place.Bits start bits mask) ≡ bit_xor (stored_bits start bits bytes) mask

-- a number that was stored with the mask is the slot's, in as many bytes, and every other bit is as it was
abbrev pub SlotsAreWritten : Type 0
SlotsAreWritten = (bytes : List ℕ) (start bits mask n : ℕ) → IsDataSlot start bits mask → start + bits ≤ 8 * length bytes → n < 2 ^ bits →
    (place_number (with_bits start bits (bit_xor n mask) bytes) (place.Bits start bits mask) ≡ n)
    × ((i : ℕ) → IsFalse (is_in start bits i) → bit_at (with_bits start bits (bit_xor n mask) bytes) i ≡ bit_at bytes i)
    × (length (with_bits start bits (bit_xor n mask) bytes) ≡ length bytes)
