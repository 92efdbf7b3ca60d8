-- Data slots: the number that is stored there, and what it is once another one was.
use Rattle.std.proofs.Common.{ℕ, ◌+◌, ◌*◌, ◌/◌, ◌%◌, ◌^◌, ◌<◌, ◌≤◌, ◌≡◌, ◌≢◌, ◌⊎◌, List, true, false, ◌==◌, length, bit_xor, arith, inl, inr, ⊎_elim, ap, sym, subst, ◌∙◌}
use Rattle.std.proofs.lemmas.Bool.Decides.{nat_tests}
use Rattle.capnp_wire.specs.Slot.{bit_at, number_at}
use Rattle.capnp_wire.specs.Edits.{with_bit, with_number}
use Rattle.capnp_wire.specs.WellFormed.{AreBytes}
use Rattle.capnp_wire.specs.Facts.Bits.{bit_at_with_bit, bit_at_with_other}
use Rattle.capnp_wire.specs.Facts.Bytes.{length_with_bit, length_with_number}
use Rattle.capnp_schema.specs.Footprint.{is_in}
use Rattle.capnp_schema.specs.SlotValue.{bit_number, bits_at}
use Rattle.capnp_schema.specs.Plan.{IsDataSlot, is_slot_width, place_number}
use Rattle.capnp_schema.specs.SlotBits.{stored_bits, with_bits}
use Rattle.capnp_schema.specs.declared.plan.Place.TheVariants as place
use Rattle.capnp_schema.specs.Facts.Bits.{bit_at_with_number, bit_number_of, bits_at_bit, bits_at_number, bits_at_with_number, is_in_false, xor_bounded, xor_undone}

-- ---- the widths of slots ----

-- what holds at each width of a slot
by_width : (P : ℕ → Type 0) → P 1 → P 8 → P 16 → P 32 → P 64 → (bits : ℕ) → is_slot_width bits ≡ true → P bits
by_width P one byte two four eight bits h = ⊎_elim (at 1 one) (⊎_elim (at 8 byte) (⊎_elim (at 16 two) (⊎_elim (at 32 four) (at 64 eight)))) (widths bits h)
  where
    widths : (w : ℕ) → is_slot_width w ≡ true → (w ≡ 1) ⊎ ((w ≡ 8) ⊎ ((w ≡ 16) ⊎ ((w ≡ 32) ⊎ (w ≡ 64))))
    widths w h = grind (arith, nat_tests)

    at : (m : ℕ) → P m → bits ≡ m → P bits
    at m p e = subst P (sym e) p

-- ---- what is stored ----

-- whole bytes from a multiple of their bits on
bytes_at : (bytes : List ℕ) (k start : ℕ) → AreBytes bytes → start ≡ start / (8 * k) * (8 * k) → bits_at bytes start (8 * k) ≡ number_at k (start / (8 * k)) bytes
bytes_at bytes k start h e = ap (λ f. bits_at bytes f (8 * k)) e ∙ bits_at_number bytes k (start / (8 * k)) h

pub bits_at_stored : (bytes : List ℕ) (start bits : ℕ) → AreBytes bytes → is_slot_width bits ≡ true → start % bits ≡ 0 → bits_at bytes start bits ≡ stored_bits start bits bytes
bits_at_stored bytes start bits h = by_width (λ n. start % n ≡ 0 → bits_at bytes start n ≡ stored_bits start n bytes)
    (λ a. bits_at_bit bytes start)
    (λ a. bytes_at bytes 1 start h (omega arith))
    (λ a. bytes_at bytes 2 start h (omega arith))
    (λ a. bytes_at bytes 4 start h (omega arith))
    (λ a. bytes_at bytes 8 start h (omega arith))
    bits

-- ---- what is written ----

-- a number is stored, in as many bytes, and every other bit is as it was
pub record IsStored (start bits n : ℕ) (before after : List ℕ) : Type 0 where
  pub stored : bits_at after start bits ≡ n
  pub others : (i : ℕ) → is_in start bits i ≡ false → bit_at after i ≡ bit_at before i
  pub same_length : length after ≡ length before

bit_is_stored : (bytes : List ℕ) (start n : ℕ) → start + 1 ≤ 8 * length bytes → n < 2 → IsStored start 1 n bytes (with_bit start (n == 1) bytes)
bit_is_stored bytes start n inside small = record {
  stored = bits_at_bit (with_bit start (n == 1) bytes) start ∙ (ap bit_number (bit_at_with_bit bytes start (n == 1) (omega arith)) ∙ bit_number_of n small);
  others = λ i out. bit_at_with_other bytes start (n == 1) (omega arith) i (apart i (is_in_false start 1 i out));
  same_length = length_with_bit start (n == 1) bytes;
}
  where
    apart : (i : ℕ) → i < start ⊎ start + 1 ≤ i → i ≢ start
    apart i (inl a) = omega arith
    apart i (inr a) = omega arith

number_is_stored : (bytes : List ℕ) (k start n : ℕ) → start ≡ start / (8 * k) * (8 * k) → start + 8 * k ≤ 8 * length bytes → n < 2 ^ (8 * k) → IsStored start (8 * k) n bytes (with_number k (start / (8 * k)) n bytes)
number_is_stored bytes k start n e inside small = record {
  stored = ap (λ f. bits_at (with_number k offset n bytes) f (8 * k)) e ∙ bits_at_with_number bytes k offset n room small;
  others = λ i out. bit_at_with_number bytes k offset n i room (ap (λ f. is_in f (8 * k) i) (sym e) ∙ out);
  same_length = length_with_number k offset n bytes room;
}
  where
    offset : ℕ
    offset = start / (8 * k)

    room : (offset + 1) * k ≤ length bytes
    room = omega (arith, e, inside)

pub bits_are_stored : (bytes : List ℕ) (start bits n : ℕ) → is_slot_width bits ≡ true → start % bits ≡ 0 → start + bits ≤ 8 * length bytes → n < 2 ^ bits → IsStored start bits n bytes (with_bits start bits n bytes)
bits_are_stored bytes start bits n = by_width (λ m. start % m ≡ 0 → start + m ≤ 8 * length bytes → n < 2 ^ m → IsStored start m n bytes (with_bits start m n bytes))
    (λ a inside small. bit_is_stored bytes start n inside small)
    (λ a inside small. number_is_stored bytes 1 start n (omega arith) inside small)
    (λ a inside small. number_is_stored bytes 2 start n (omega arith) inside small)
    (λ a inside small. number_is_stored bytes 4 start n (omega arith) inside small)
    (λ a inside small. number_is_stored bytes 8 start n (omega arith) inside small)
    bits

-- ---- plans ----

pub place_number_read : (bytes : List ℕ) (start bits mask : ℕ) → AreBytes bytes → IsDataSlot start bits mask → place_number bytes (place.Bits start bits mask) ≡ bit_xor (stored_bits start bits bytes) mask
place_number_read bytes start bits mask h slot = ap (λ n. bit_xor n mask) (bits_at_stored bytes start bits h slot.is_width slot.is_aligned)

-- a number that was stored with the mask
pub masked_is_stored : (bytes : List ℕ) (start bits mask n : ℕ) → IsDataSlot start bits mask → start + bits ≤ 8 * length bytes → n < 2 ^ bits → IsStored start bits (bit_xor n mask) bytes (with_bits start bits (bit_xor n mask) bytes)
masked_is_stored bytes start bits mask n slot inside small =
    bits_are_stored bytes start bits (bit_xor n mask) slot.is_width slot.is_aligned inside (xor_bounded bits n mask small slot.mask_fits)

pub place_number_written : (bytes : List ℕ) (start bits mask n : ℕ) → IsDataSlot start bits mask → start + bits ≤ 8 * length bytes → n < 2 ^ bits → place_number (with_bits start bits (bit_xor n mask) bytes) (place.Bits start bits mask) ≡ n
place_number_written bytes start bits mask n slot inside small =
    ap (λ m. bit_xor m mask) (masked_is_stored bytes start bits mask n slot inside small).stored ∙ xor_undone n mask
