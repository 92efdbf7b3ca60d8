-- Bytes: runs of them, the numbers that they spell, and what is written into them.
use Rattle.std.proofs.Common.{slice_set, ◌≡◌, ℕ, zero, suc, ◌+◌, ◌-◌, ◌*◌, ◌/◌, ◌%◌, ◌^◌, ◌<◌, ◌≤◌, refl, ap, ◌∙◌, arith, Bool, true, false, Fits, w8, List, [], ◌∷◌, ◌++◌, length, get_or, take, drop, replicate, length-set}
use Rattle.std.proofs.Math.Nat.{mod-lt, pow-suc}
use Rattle.std.proofs.lemmas.List.{get_or-drop, length-append, length-drop, length-take, length-take-le}
use Rattle.std.proofs.lemmas.Nat.{and_le_l, or_lt, pow_below}
use Rattle.capnp_wire.specs.Slot.{little_endian}
use Rattle.capnp_wire.specs.WellFormed.{AreBytes, AreSegments}
use Rattle.capnp_wire.specs.Edits.{byte_with_bit, with_bit, with_number}
use Rattle.capnp_wire.specs.Encoding.{spelled_number}

-- ---- runs ----

-- what the type of a slice of bytes says
pub AreBytes_fits : (bytes : List ℕ) → ((i : ℕ) → Fits w8 (get_or bytes i 0)) → AreBytes bytes
AreBytes_fits bytes h i = omega (arith, h i)

-- no bytes at all
pub AreBytes_none : AreBytes []
AreBytes_none i = omega arith

-- the first bytes of a run
pub AreBytes_take : (n : ℕ) (bytes : List ℕ) → AreBytes bytes → AreBytes (take n bytes)
AreBytes_take zero bytes h i = omega arith
AreBytes_take (suc n) [] h i = omega arith
AreBytes_take (suc n) (b ∷ bs) h zero = h 0
AreBytes_take (suc n) (b ∷ bs) h (suc i) = AreBytes_take n bs (λ k. h (suc k)) i

-- the bytes of a run after its first ones
pub AreBytes_drop : (n : ℕ) (bytes : List ℕ) → AreBytes bytes → AreBytes (drop n bytes)
AreBytes_drop n bytes h i = rw (get_or-drop n bytes i 0) (h (n + i))

-- a part of a run
pub AreBytes_part : (n i : ℕ) (bytes : List ℕ) → AreBytes bytes → AreBytes (take n (drop i bytes))
AreBytes_part n i bytes h = AreBytes_take n (drop i bytes) (AreBytes_drop i bytes h)

-- a part is no longer than what was asked
pub length_part_le : (n i : ℕ) (bytes : List ℕ) → length (take n (drop i bytes)) ≤ n
length_part_le n i bytes = omega (arith, length-take n (drop i bytes))

-- a message of one segment
pub AreSegments_one : (bytes : List ℕ) → AreBytes bytes → AreSegments (bytes ∷ [])
AreSegments_one bytes h zero = h
AreSegments_one bytes h (suc i) = AreBytes_none

-- ---- numbers that are spelled ----

-- a number is spelled in as many bytes as were asked for
pub length_spelled : (k n : ℕ) → length (spelled_number k n) ≡ k
length_spelled zero n = refl
length_spelled (suc k) n = ap suc (length_spelled k (n / 256))

-- and these bytes are that number
pub little_endian_spelled : (k n : ℕ) → n < 256 ^ k → little_endian (spelled_number k n) ≡ n
little_endian_spelled zero n h = omega arith
little_endian_spelled (suc k) n h =
    let p : 256 ^ suc k ≡ 256 * 256 ^ k = grind (arith, pow-suc) in
    let q : n / 256 < 256 ^ k = omega arith in
    ap (λ m. n % 256 + 256 * m) (little_endian_spelled k (n / 256) q) ∙ omega arith

-- no bytes spell 0
spelled_none : (n : ℕ) → little_endian (take n []) ≡ 0
spelled_none zero = refl
spelled_none (suc n) = refl

-- n + 1 bytes are the first of them and the n after it
pub spelled_first : (bs : List ℕ) (i n : ℕ) → little_endian (take (suc n) (drop i bs)) ≡ get_or bs i 0 + 256 * little_endian (take n (drop (suc i) bs))
spelled_first [] zero n = omega (arith, spelled_none n)
spelled_first [] (suc i) n = omega (arith, spelled_none n)
spelled_first (b ∷ bs) zero n = refl
spelled_first (b ∷ bs) (suc i) n = spelled_first bs i n

-- ---- what is written ----

-- bytes, and then others
pub AreBytes_append : (a b : List ℕ) → AreBytes a → AreBytes b → AreBytes (a ++ b)
AreBytes_append [] b h g i = g i
AreBytes_append (x ∷ a) b h g zero = h 0
AreBytes_append (x ∷ a) b h g (suc i) = AreBytes_append a b (λ k. h (suc k)) g i

-- the bytes of a number
pub AreBytes_spelled : (k n : ℕ) → AreBytes (spelled_number k n)
AreBytes_spelled zero n i = omega arith
AreBytes_spelled (suc k) n zero = mod-lt n (omega arith)
AreBytes_spelled (suc k) n (suc i) = AreBytes_spelled k (n / 256) i

pub AreBytes_zeros : (n : ℕ) → AreBytes (replicate n 0)
AreBytes_zeros zero i = omega arith
AreBytes_zeros (suc n) zero = omega arith
AreBytes_zeros (suc n) (suc i) = AreBytes_zeros n i

-- with another byte
AreBytes_set : (bytes : List ℕ) (i x : ℕ) → AreBytes bytes → x < 2 ^ 8 → AreBytes (slice_set bytes i x)
AreBytes_set [] i x h b k = h k
AreBytes_set (y ∷ bytes) zero x h b zero = b
AreBytes_set (y ∷ bytes) zero x h b (suc k) = h (suc k)
AreBytes_set (y ∷ bytes) (suc i) x h b zero = h 0
AreBytes_set (y ∷ bytes) (suc i) x h b (suc k) = AreBytes_set bytes i x (λ j. h (suc j)) b k

-- with a number
pub AreBytes_with_number : (width offset n : ℕ) (bytes : List ℕ) → AreBytes bytes → AreBytes (with_number width offset n bytes)
AreBytes_with_number width offset n bytes h =
    AreBytes_append (take (offset * width) bytes) (spelled_number width n ++ drop (offset * width + width) bytes) (AreBytes_take (offset * width) bytes h)
    (AreBytes_append (spelled_number width n) (drop (offset * width + width) bytes) (AreBytes_spelled width n) (AreBytes_drop (offset * width + width) bytes h))

pub length_with_number : (width offset n : ℕ) (bytes : List ℕ) → (offset + 1) * width ≤ length bytes → length (with_number width offset n bytes) ≡ length bytes
length_with_number width offset n bytes h = omega (
  arith,
  inside,
  length-append (take (offset * width) bytes) (spelled_number width n ++ drop (offset * width + width) bytes),
  length-append (spelled_number width n) (drop (offset * width + width) bytes),
  length_spelled width n,
  length-take-le (offset * width) bytes (omega (arith, inside)),
  length-drop (offset * width + width) bytes,
)
  where
    inside : offset * width + width ≤ length bytes
    inside = grind (arith, h)

-- with a bit
byte_with_bit_lt : (j : ℕ) (bit : Bool) (byte : ℕ) → j < 8 → byte < 2 ^ 8 → byte_with_bit j bit byte < 2 ^ 8
byte_with_bit_lt j true byte h g = or_lt 8 byte (2 ^ j) g (pow_below j 8 h)
byte_with_bit_lt j false byte h g = omega (arith, and_le_l byte (255 - 2 ^ j), g)

pub AreBytes_with_bit : (i : ℕ) (bit : Bool) (bytes : List ℕ) → AreBytes bytes → AreBytes (with_bit i bit bytes)
AreBytes_with_bit i bit bytes h =
    AreBytes_set bytes (i / 8) _ h (byte_with_bit_lt (i % 8) bit (get_or bytes (i / 8) 0) (mod-lt i (omega arith)) (h (i / 8)))

pub length_with_bit : (i : ℕ) (bit : Bool) (bytes : List ℕ) → length (with_bit i bit bytes) ≡ length bytes
length_with_bit i bit bytes = length-set bytes (i / 8) _
