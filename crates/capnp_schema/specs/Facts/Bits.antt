-- Bits of a data section: the numbers that they are, and what they are once a number was written.
use Rattle.std.proofs.Common.{ℕ, zero, suc, ◌+◌, ◌*◌, ◌/◌, ◌%◌, ◌^◌, ◌<◌, ◌≤◌, ◌≡◌, ◌⊎◌, refl, List, Bool, true, false, ◌==◌, length, get_or, take, drop, bit_xor, arith, inl, inr, ap, ap₂, sym, ◌∙◌}
use Rattle.std.specs.Int.Bits.{xor_assoc, xor_self, xor_zero_r}
use Rattle.std.proofs.lemmas.Nat.{xor_lt}
use Rattle.std.proofs.Math.Nat.{pow-suc}
use Rattle.capnp_wire.specs.Slot.{bit_at, little_endian, masked_bit, number_at}
use Rattle.capnp_wire.specs.Edits.{with_number}
use Rattle.capnp_wire.specs.WellFormed.{AreBytes}
use Rattle.capnp_wire.specs.Facts.Bits.{byte_after, byte_before, byte_inside, number_at_with_number}
use Rattle.capnp_wire.specs.Facts.Bytes.{AreBytes_spelled, spelled_first}
use Rattle.capnp_schema.specs.Footprint.{is_in}
use Rattle.capnp_schema.specs.SlotValue.{bit_number, bits_at}

-- ---- powers ----

pub pow_next : (m : ℕ) → 2 ^ suc m ≡ 2 * 2 ^ m
pow_next m = omega (arith, pow-suc 2 m)

pow_add_8 : (m : ℕ) → 2 ^ (8 + m) ≡ 256 * 2 ^ m
pow_add_8 m =
    let e : 8 + m ≡ suc (suc (suc (suc (suc (suc (suc (suc m))))))) = omega arith in
    ap (λ k. 2 ^ k) e ∙ omega (
      arith,
      pow_next m,
      pow_next (suc m),
      pow_next (suc (suc m)),
      pow_next (suc (suc (suc m))),
      pow_next (suc (suc (suc (suc m)))),
      pow_next (suc (suc (suc (suc (suc m))))),
      pow_next (suc (suc (suc (suc (suc (suc m)))))),
      pow_next (suc (suc (suc (suc (suc (suc (suc m))))))),
    )

-- the numbers of so many bytes
pub pow_bytes : (k : ℕ) → 2 ^ (8 * k) ≡ 256 ^ k
pow_bytes zero = refl
pow_bytes (suc k) =
    let wide : 8 * suc k ≡ 8 + 8 * k = omega arith in
    let one : 256 ^ suc k ≡ 256 * 256 ^ k = omega (arith, pow-suc 256 k) in
    ap (λ m. 2 ^ m) wide ∙ (pow_add_8 (8 * k) ∙ (ap (λ m. 256 * m) (pow_bytes k) ∙ sym one))

-- ---- masks ----

pub xor_undone : (n mask : ℕ) → bit_xor (bit_xor n mask) mask ≡ n
xor_undone n mask = xor_assoc n mask mask ∙ (ap (bit_xor n) (xor_self mask) ∙ xor_zero_r n)

pub xor_bounded : (count n mask : ℕ) → n < 2 ^ count → mask < 2 ^ count → bit_xor n mask < 2 ^ count
xor_bounded count n mask = xor_lt count n mask

pub bit_masked : (stored : Bool) (mask : ℕ) → mask < 2 → bit_xor (bit_number stored) mask ≡ bit_number (masked_bit stored (mask == 1))
bit_masked true zero h = refl
bit_masked false zero h = refl
bit_masked true (suc zero) h = refl
bit_masked false (suc zero) h = refl
bit_masked stored (suc (suc mask)) h = absurd (omega arith)

-- ---- bits of bytes ----

-- a bit as it is read is its number
pub bit_number_is : (x : ℕ) → bit_number (x % 2 == 1) ≡ x % 2
bit_number_is x = go (x % 2) (omega arith)
  where
    go : (y : ℕ) → y < 2 → bit_number (y == 1) ≡ y
    go zero a = refl
    go (suc zero) a = refl
    go (suc (suc y)) a = absurd (omega arith)

-- a number of one bit is that of its bit
pub bit_number_of : (n : ℕ) → n < 2 → bit_number (n == 1) ≡ n
bit_number_of zero a = refl
bit_number_of (suc zero) a = refl
bit_number_of (suc (suc n)) a = absurd (omega arith)

-- bit j of byte m
bit_of_byte : (bytes : List ℕ) (i m j : ℕ) → i ≡ 8 * m + j → j < 8 → bit_number (bit_at bytes i) ≡ (get_or bytes m 0 / 2 ^ j) % 2
bit_of_byte bytes i m j e small =
    let byte : i / 8 ≡ m = omega (arith, e, small) in
    let at : i % 8 ≡ j = omega (arith, e, small) in
    bit_number_is (get_or bytes (i / 8) 0 / 2 ^ (i % 8)) ∙ ap₂ (λ a b. (get_or bytes a 0 / 2 ^ b) % 2) byte at

eight_bits : (b : ℕ) → b < 256 →
    (b / 1) % 2 + 2 * ((b / 2) % 2 + 2 * ((b / 4) % 2 + 2 * ((b / 8) % 2 + 2 * ((b / 16) % 2 + 2 * ((b / 32) % 2 + 2 * ((b / 64) % 2 + 2 * ((b / 128) % 2 + 0))))))) ≡ b
eight_bits b small = omega arith

-- the eight bits of a byte spell it
bits_at_byte : (bytes : List ℕ) (first m : ℕ) → first ≡ 8 * m → get_or bytes m 0 < 256 → bits_at bytes first 8 ≡ get_or bytes m 0
bits_at_byte bytes first m e small =
    rw (
      bit_of_byte bytes first m 0 (omega arith) (omega arith),
      bit_of_byte bytes (first + 1) m 1 (omega arith) (omega arith),
      bit_of_byte bytes (first + 1 + 1) m 2 (omega arith) (omega arith),
      bit_of_byte bytes (first + 1 + 1 + 1) m 3 (omega arith) (omega arith),
      bit_of_byte bytes (first + 1 + 1 + 1 + 1) m 4 (omega arith) (omega arith),
      bit_of_byte bytes (first + 1 + 1 + 1 + 1 + 1) m 5 (omega arith) (omega arith),
      bit_of_byte bytes (first + 1 + 1 + 1 + 1 + 1 + 1) m 6 (omega arith) (omega arith),
      bit_of_byte bytes (first + 1 + 1 + 1 + 1 + 1 + 1 + 1) m 7 (omega arith) (omega arith),
    )
    (eight_bits (get_or bytes m 0) small)

-- the bits in two parts
bits_at_byte_more : (bytes : List ℕ) (first n : ℕ) → bits_at bytes first (8 + n) ≡ bits_at bytes first 8 + 256 * bits_at bytes (first + 8) n
bits_at_byte_more bytes first n =
    let more : bits_at bytes first (suc (suc (suc (suc (suc (suc (suc (suc n)))))))) ≡ bits_at bytes first (suc (suc (suc (suc (suc (suc (suc (suc zero)))))))) + 256 * bits_at bytes (first + 1 + 1 + 1 + 1 + 1 + 1 + 1 + 1) n = omega arith in
    let eight : 8 + n ≡ suc (suc (suc (suc (suc (suc (suc (suc n))))))) = omega arith in
    let next : first + 1 + 1 + 1 + 1 + 1 + 1 + 1 + 1 ≡ first + 8 = omega arith in
    ap (bits_at bytes first) eight ∙ (more ∙ ap (λ f. bits_at bytes first 8 + 256 * bits_at bytes f n) next)

-- the bits of bytes in a row are the number that they spell
pub bits_at_bytes : (bytes : List ℕ) (m k : ℕ) → ((r : ℕ) → r < k → get_or bytes (m + r) 0 < 256) → bits_at bytes (8 * m) (8 * k) ≡ little_endian (take k (drop m bytes))
bits_at_bytes bytes m zero h = refl
bits_at_bytes bytes m (suc k) h =
    let byte : get_or bytes m 0 < 256 = omega (arith, h 0 (omega arith), ap (λ i. get_or bytes i 0) (at_zero m)) in
    let low : bits_at bytes (8 * m) 8 ≡ get_or bytes m 0 = bits_at_byte bytes (8 * m) m refl byte in
    let wide : 8 * suc k ≡ 8 + 8 * k = omega arith in
    let after : 8 * m + 8 ≡ 8 * suc m = omega arith in
    let high : bits_at bytes (8 * m + 8) (8 * k) ≡ little_endian (take k (drop (suc m) bytes)) =
    ap (λ f. bits_at bytes f (8 * k)) after ∙ bits_at_bytes bytes (suc m) k (λ r a. omega (arith, h (suc r) (omega (arith, a)), ap (λ i. get_or bytes i 0) (next m r))) in
    ap (bits_at bytes (8 * m)) wide ∙ (bits_at_byte_more bytes (8 * m) (8 * k) ∙ omega (arith, low, high, spelled_first bytes m k))
  where
    at_zero : (m : ℕ) → m + 0 ≡ m
    at_zero m = omega arith

    next : (m r : ℕ) → suc m + r ≡ m + suc r
    next m r = omega arith

-- where a slot of whole bytes starts, in bits and in bytes
first_bit : (offset k : ℕ) → offset * (8 * k) ≡ 8 * (offset * k)
first_bit offset k = omega arith

-- a slot of whole bytes is the number at its place
pub bits_at_number : (bytes : List ℕ) (k offset : ℕ) → AreBytes bytes → bits_at bytes (offset * (8 * k)) (8 * k) ≡ number_at k offset bytes
bits_at_number bytes k offset h = ap (λ f. bits_at bytes f (8 * k)) (first_bit offset k) ∙ bits_at_bytes bytes (offset * k) k (λ r a. h (offset * k + r))

-- a slot of one bit is that bit
pub bits_at_bit : (bytes : List ℕ) (i : ℕ) → bits_at bytes i 1 ≡ bit_number (bit_at bytes i)
bits_at_bit bytes i = omega arith

bit_number_lt : (b : Bool) → bit_number b < 2
bit_number_lt true = omega arith
bit_number_lt false = omega arith

pub bits_at_bounded : (bytes : List ℕ) (first count : ℕ) → bits_at bytes first count < 2 ^ count
bits_at_bounded bytes first zero = omega arith
bits_at_bounded bytes first (suc count) = omega (arith, bit_number_lt (bit_at bytes first), bits_at_bounded bytes (first + 1) count, pow_next count)

-- ---- a number that is written ----

-- the number that was written is what its slot holds
pub bits_at_with_number : (bytes : List ℕ) (k offset n : ℕ) → (offset + 1) * k ≤ length bytes → n < 2 ^ (8 * k) → bits_at (with_number k offset n bytes) (offset * (8 * k)) (8 * k) ≡ n
bits_at_with_number bytes k offset n a small =
    ap (λ f. bits_at z f (8 * k)) (first_bit offset k)
    ∙ (bits_at_bytes z (offset * k) k (λ r b. omega (arith, byte_inside bytes k offset n a r b, AreBytes_spelled k n r))
    ∙ number_at_with_number bytes k offset n a (omega (arith, small, pow_bytes k)))
  where
    z : List ℕ
    z = with_number k offset n bytes

pub is_in_false : (first n i : ℕ) → is_in first n i ≡ false → i < first ⊎ first + n ≤ i
is_in_false first n i e = grind arith

-- and every other bit is as it was
pub bit_at_with_number : (bytes : List ℕ) (k offset n i : ℕ) → (offset + 1) * k ≤ length bytes → is_in (offset * (8 * k)) (8 * k) i ≡ false → bit_at (with_number k offset n bytes) i ≡ bit_at bytes i
bit_at_with_number bytes k offset n i a out = ap (λ b. (b / 2 ^ (i % 8)) % 2 == 1) (side (is_in_false (offset * (8 * k)) (8 * k) i out))
  where
    side : i < offset * (8 * k) ⊎ offset * (8 * k) + 8 * k ≤ i → get_or (with_number k offset n bytes) (i / 8) 0 ≡ get_or bytes (i / 8) 0
    side (inl b) = byte_before bytes k offset n a (i / 8) (omega (arith, b))
    side (inr b) = byte_after bytes k offset n a (i / 8) (omega (arith, b))
