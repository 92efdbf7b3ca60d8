-- The bits of a place are the number that the wire reads there.
use Rattle.std.proofs.Common.{ℕ, ◌*◌, ◌/◌, ◌%◌, ◌^◌, ◌<◌, ◌≡◌, List, arith, ap, sym, subst, ◌∙◌}
use Rattle.capnp_wire.specs.Slot.{bit_at, number_at}
use Rattle.capnp_wire.specs.WellFormed.{AreBytes}
use Rattle.capnp_schema.specs.SlotValue.{bit_number, bits_at}
use Rattle.capnp_schema.specs.Facts.Bits.{bits_at_bounded, bits_at_number}

whole : (k : ℕ) (bytes : List ℕ) (start offset : ℕ) → AreBytes bytes → start ≡ offset * (8 * k) → number_at k offset bytes ≡ bits_at bytes start (8 * k)
whole k bytes start offset bounded e = sym (ap (λ i. bits_at bytes i (8 * k)) e ∙ bits_at_number bytes k offset bounded)

pub load_1 : (bytes : List ℕ) (start : ℕ) → bit_number (bit_at bytes start) ≡ bits_at bytes start 1
load_1 bytes start = omega arith

pub load_8 : (bytes : List ℕ) (start : ℕ) → AreBytes bytes → start % 8 ≡ 0 → number_at 1 (start / 8) bytes ≡ bits_at bytes start 8
load_8 bytes start bounded e = whole 1 bytes start (start / 8) bounded (omega (arith, e))

pub load_16 : (bytes : List ℕ) (start : ℕ) → AreBytes bytes → start % 16 ≡ 0 → number_at 2 (start / 16) bytes ≡ bits_at bytes start 16
load_16 bytes start bounded e = whole 2 bytes start (start / 16) bounded (omega (arith, e))

pub load_32 : (bytes : List ℕ) (start : ℕ) → AreBytes bytes → start % 32 ≡ 0 → number_at 4 (start / 32) bytes ≡ bits_at bytes start 32
load_32 bytes start bounded e = whole 4 bytes start (start / 32) bounded (omega (arith, e))

pub load_64 : (bytes : List ℕ) (start : ℕ) → AreBytes bytes → start % 64 ≡ 0 → number_at 8 (start / 64) bytes ≡ bits_at bytes start 64
load_64 bytes start bounded e = whole 8 bytes start (start / 64) bounded (omega (arith, e))

pub load_bounded : (bytes : List ℕ) (start bits n : ℕ) → n ≡ bits_at bytes start bits → n < 2 ^ bits
load_bounded bytes start bits n e = subst (λ k. k < 2 ^ bits) (sym e) (bits_at_bounded bytes start bits)
