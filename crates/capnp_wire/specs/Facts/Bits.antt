-- Bits and numbers written into bytes: what is read then at their place, and that every other one is as it was.
use Rattle.std.proofs.Common.{ℕ, zero, suc, ◌+◌, ◌-◌, ◌*◌, ◌/◌, ◌%◌, ◌^◌, ◌<◌, ◌≤◌, ◌≡◌, ◌≢◌, ◌⊎◌, refl, List, ◌∷◌, ◌++◌, Bool, true, false, ◌==◌, length, get_or, take, drop, arith, inl, inr, ap, sym, ◌∙◌, get_or-set_other, get_or-set_same}
use Rattle.std.specs.Int.{w8}
use Rattle.std.proofs.lemmas.Bool.{cases_eq, cases_order}
use Rattle.std.proofs.lemmas.List.{get_or_append_left, get_or-append_right, get_or-take, get_or-drop, length-take-le}
use Rattle.std.proofs.lemmas.Nat.Bits as number
use Rattle.std.proofs.lemmas.Nat.{pow_below}
use Rattle.capnp_wire.specs.Slot.{bit_at, little_endian, number_at}
use Rattle.capnp_wire.specs.Edits.{byte_with_bit, with_bit, with_number}
use Rattle.capnp_wire.specs.Encoding.{spelled_number}
use Rattle.capnp_wire.specs.Facts.Bytes.{length_spelled, little_endian_spelled, spelled_first}

-- ---- a number that is written ----

-- the bytes of a number spell it
spelled_whole : (k n : ℕ) → n < 256 ^ k → little_endian (take k (spelled_number k n)) ≡ n
spelled_whole k n h = ap little_endian (all_spelled k n) ∙ little_endian_spelled k n h
  where
    all_spelled : (k n : ℕ) → take k (spelled_number k n) ≡ spelled_number k n
    all_spelled zero n = refl
    all_spelled (suc k) n = ap (λ bs. n % 256 ∷ bs) (all_spelled k (n / 256))

module _ (bytes : List ℕ) (k offset n : ℕ) (inside : (offset + 1) * k ≤ length bytes) where
  before_length : length (take (offset * k) bytes) ≡ offset * k
  before_length = length-take-le (offset * k) bytes (omega (arith, inside))

  pub byte_before : (i : ℕ) → i < offset * k → get_or (with_number k offset n bytes) i 0 ≡ get_or bytes i 0
  byte_before i a = get_or_append_left (take (offset * k) bytes) _ 0 i (omega (arith, before_length, a)) ∙ get_or-take (offset * k) bytes i 0 a

  pub byte_inside : (r : ℕ) → r < k → get_or (with_number k offset n bytes) (offset * k + r) 0 ≡ get_or (spelled_number k n) r 0
  byte_inside r a =
      get_or-append_right (take (offset * k) bytes) _ (offset * k) (offset * k + r) 0 before_length (omega arith)
      ∙ (ap (λ i. get_or (spelled_number k n ++ drop (offset * k + k) bytes) i 0) (omega arith)
      ∙ get_or_append_left (spelled_number k n) (drop (offset * k + k) bytes) 0 r (omega (arith, length_spelled k n, a)))

  pub byte_after : (i : ℕ) → offset * k + k ≤ i → get_or (with_number k offset n bytes) i 0 ≡ get_or bytes i 0
  byte_after i a =
      get_or-append_right (take (offset * k) bytes) _ (offset * k) i 0 before_length (omega (arith, a))
      ∙ (get_or-append_right (spelled_number k n) (drop (offset * k + k) bytes) k (i - offset * k) 0 (length_spelled k n) (omega (arith, a))
      ∙ (get_or-drop (offset * k + k) bytes (i - offset * k - k) 0 ∙ ap (λ j. get_or bytes j 0) (omega (arith, a))))

-- a number depends on its own bytes alone
pub little_endian_same : (k m m' : ℕ) (xs ys : List ℕ) → ((r : ℕ) → r < k → get_or xs (m + r) 0 ≡ get_or ys (m' + r) 0) → little_endian (take k (drop m xs)) ≡ little_endian (take k (drop m' ys))
little_endian_same zero m m' xs ys h = refl
little_endian_same (suc k) m m' xs ys h =
    let here : get_or xs m 0 ≡ get_or ys m' 0 = ap (λ i. get_or xs i 0) (omega arith) ∙ (h 0 (omega arith) ∙ ap (λ i. get_or ys i 0) (omega arith)) in
    let rest : little_endian (take k (drop (suc m) xs)) ≡ little_endian (take k (drop (suc m') ys)) =
    little_endian_same k (suc m) (suc m') xs ys (λ r a. ap (λ i. get_or xs i 0) (omega arith) ∙ (h (suc r) (omega (arith, a)) ∙ ap (λ i. get_or ys i 0) (omega arith))) in
    omega (arith, spelled_first xs m k, spelled_first ys m' k, here, rest)

-- the number that was written is there
pub number_at_with_number : (bytes : List ℕ) (k offset n : ℕ) → (offset + 1) * k ≤ length bytes → n < 256 ^ k → number_at k offset (with_number k offset n bytes) ≡ n
number_at_with_number bytes k offset n inside small =
    little_endian_same k (offset * k) 0 (with_number k offset n bytes) (spelled_number k n) (λ r a. byte_inside bytes k offset n inside r a ∙ ap (λ i. get_or (spelled_number k n) i 0) (omega arith))
    ∙ spelled_whole k n small

-- and every other number is as it was
pub number_at_with_other : (bytes : List ℕ) (k offset n : ℕ) → (offset + 1) * k ≤ length bytes → (i : ℕ) → i ≢ offset → number_at k i (with_number k offset n bytes) ≡ number_at k i bytes
number_at_with_other bytes k offset n inside i other = little_endian_same k (i * k) (i * k) (with_number k offset n bytes) bytes (side (cases_order i offset))
  where
    below : (i j : ℕ) → i < j → i * k + k ≤ j * k
    below i j a = grind (arith, a)

    side : (i ≡ offset) ⊎ (i < offset ⊎ offset < i) → (r : ℕ) → r < k → get_or (with_number k offset n bytes) (i * k + r) 0 ≡ get_or bytes (i * k + r) 0
    side (inl e) r a = absurd (other e)
    side (inr (inl l)) r a = byte_before bytes k offset n inside (i * k + r) (omega (arith, a, below i offset l))
    side (inr (inr l)) r a = byte_after bytes k offset n inside (i * k + r) (omega (arith, a, below offset i l))

-- ---- a bit that is written ----

-- a byte with another bit has this bit
byte_same : (j : ℕ) (bit : Bool) (byte : ℕ) → j < 8 → (((byte_with_bit j bit byte / 2 ^ j) % 2) == 1) ≡ bit
byte_same j true byte h =
    let one : (byte_with_bit j true byte / 2 ^ j) % 2 ≡ 1 = omega (arith, number.bit_at_or byte (2 ^ j) j, number.bit_at-pow_same j, number.bit_at-lt byte j) in
    ap (λ n. n == 1) one
byte_same j false byte h =
    let cleared = number.bit_at_not w8 (2 ^ j) j (pow_below j 8 h) h in
    let none : (byte_with_bit j false byte / 2 ^ j) % 2 ≡ 0 = omega (arith, number.bit_at_and byte (255 - 2 ^ j) j, cleared, number.bit_at-pow_same j) in
    ap (λ n. n == 1) none

-- and the others that it had
byte_other : (j k : ℕ) (bit : Bool) (byte : ℕ) → j < 8 → k < 8 → k ≢ j → (((byte_with_bit j bit byte / 2 ^ k) % 2) == 1) ≡ (((byte / 2 ^ k) % 2) == 1)
byte_other j k true byte h l apart =
    let same : (byte_with_bit j true byte / 2 ^ k) % 2 ≡ (byte / 2 ^ k) % 2 = omega (arith, number.bit_at_or byte (2 ^ j) k, number.bit_at-pow_other j k apart, number.bit_at-lt byte k) in
    ap (λ n. n == 1) same
byte_other j k false byte h l apart =
    let kept = number.bit_at_not w8 (2 ^ j) k (pow_below j 8 h) l in
    let same : (byte_with_bit j false byte / 2 ^ k) % 2 ≡ (byte / 2 ^ k) % 2 = omega (arith, number.bit_at_and byte (255 - 2 ^ j) k, kept, number.bit_at-pow_other j k apart, number.bit_at-lt byte k) in
    ap (λ n. n == 1) same

-- the bit that was written is there
pub bit_at_with_bit : (bytes : List ℕ) (i : ℕ) (bit : Bool) → i < 8 * length bytes → bit_at (with_bit i bit bytes) i ≡ bit
bit_at_with_bit bytes i bit h =
    ap (λ b. ((b / 2 ^ (i % 8)) % 2) == 1) (get_or-set_same bytes (i / 8) _ 0 (omega (arith, h))) ∙ byte_same (i % 8) bit (get_or bytes (i / 8) 0) (omega arith)

-- and every other bit is as it was
pub bit_at_with_other : (bytes : List ℕ) (i : ℕ) (bit : Bool) → i < 8 * length bytes → (j : ℕ) → j ≢ i → bit_at (with_bit i bit bytes) j ≡ bit_at bytes j
bit_at_with_other bytes i bit h j apart = by_byte (cases_eq (j / 8) (i / 8))
  where
    by_byte : (j / 8 ≡ i / 8) ⊎ (j / 8 ≢ i / 8) → bit_at (with_bit i bit bytes) j ≡ bit_at bytes j
    by_byte (inl e) =
        ap (λ k. ((get_or (with_bit i bit bytes) k 0 / 2 ^ (j % 8)) % 2) == 1) e
        ∙ (ap (λ b. ((b / 2 ^ (j % 8)) % 2) == 1) (get_or-set_same bytes (i / 8) _ 0 (omega (arith, h)))
        ∙ (byte_other (i % 8) (j % 8) bit (get_or bytes (i / 8) 0) (omega arith) (omega arith) (λ f. apart (omega (arith, e, f)))
        ∙ ap (λ k. ((get_or bytes k 0 / 2 ^ (j % 8)) % 2) == 1) (sym e)))
    by_byte (inr other) = ap (λ b. ((b / 2 ^ (j % 8)) % 2) == 1) (get_or-set_other bytes (i / 8) (j / 8) _ 0 other)
