-- Bits that are packed into bytes, read back.
use Rattle.std.proofs.Common.{◌≡◌, ℕ, zero, suc, ◌+◌, ◌*◌, ◌/◌, ◌%◌, ◌<◌, ◌≤◌, ◌^◌, List, [], ◌∷◌, length, take, drop, refl, sym, ap, ◌∙◌, arith, true, false, Bool, ◌==◌, get_or}
use Rattle.std.proofs.lemmas.List.{drop-drop, get_or-take, get_or-drop}
use Rattle.std.proofs.lemmas.Nat.Bits.{bit_at-suc, bit_at-zero}
use Rattle.capnp_wire.specs.Slot.{bit_at}
use Rattle.capnp_wire.specs.Place.{bits_from}
use Rattle.capnp_wire.specs.Encoding.{bits_number, packed_bits}

-- a bit of the number that bits spell
number_bit : (bs : List Bool) (m : ℕ) → ((bits_number bs / 2 ^ m) % 2 == 1) ≡ get_or bs m false
number_bit [] m = ap (λ n. n == 1) (bit_at-zero m)
number_bit (true ∷ bs) zero =
    let e : ((1 + 2 * bits_number bs) / 2 ^ 0) % 2 ≡ 1 = omega arith in
    ap (λ n. n == 1) e
number_bit (false ∷ bs) zero =
    let e : ((0 + 2 * bits_number bs) / 2 ^ 0) % 2 ≡ 0 = omega arith in
    ap (λ n. n == 1) e
number_bit (true ∷ bs) (suc m) =
    let e : (1 + 2 * bits_number bs) / 2 ≡ bits_number bs = omega arith in
    ap (λ n. n == 1) (bit_at-suc (1 + 2 * bits_number bs) m) ∙ ap (λ n. (n / 2 ^ m) % 2 == 1) e ∙ number_bit bs m
number_bit (false ∷ bs) (suc m) =
    let e : (0 + 2 * bits_number bs) / 2 ≡ bits_number bs = omega arith in
    ap (λ n. n == 1) (bit_at-suc (0 + 2 * bits_number bs) m) ∙ ap (λ n. (n / 2 ^ m) % 2 == 1) e ∙ number_bit bs m

-- a byte of packed bits
pub packed_at : (k : ℕ) (bs : List Bool) (j : ℕ) → j < k → get_or (packed_bits k bs) j 0 ≡ bits_number (take 8 (drop (8 * j) bs))
packed_at zero bs j h = absurd (omega arith)
packed_at (suc k) bs zero h = refl
packed_at (suc k) bs (suc j) h =
    let e : 8 + 8 * j ≡ 8 * suc j = omega arith in
    packed_at k (drop 8 bs) j (omega arith) ∙ ap (λ x. bits_number (take 8 x)) (drop-drop (8 * j) 8 bs ∙ ap (λ n. drop n bs) e)

-- a bit of packed bits
bit_packed : (k : ℕ) (bs : List Bool) (i : ℕ) → i < 8 * k → bit_at (packed_bits k bs) i ≡ get_or bs i false
bit_packed k bs i h =
    let e : 8 * (i / 8) + i % 8 ≡ i = omega arith in
    let l : i % 8 < 8 = omega arith in
    ap (λ n. (n / 2 ^ (i % 8)) % 2 == 1) (packed_at k bs (i / 8) (omega arith))
    ∙ number_bit (take 8 (drop (8 * (i / 8)) bs)) (i % 8)
    ∙ get_or-take 8 (drop (8 * (i / 8)) bs) (i % 8) false l
    ∙ get_or-drop (8 * (i / 8)) bs (i % 8) false
    ∙ ap (λ n. get_or bs n false) e

-- bits that are known one by one
bits_each : (bytes : List ℕ) (bs : List Bool) (first : ℕ) → ((i : ℕ) → i < length bs → bit_at bytes (first + i) ≡ get_or bs i false) → bits_from bytes first (length bs) ≡ bs
bits_each bytes [] first h = refl
bits_each bytes (b ∷ bs) first h =
    let z : first + 0 ≡ first = omega arith in
    let here : bit_at bytes first ≡ b = ap (bit_at bytes) (sym z) ∙ h 0 (omega arith) in
    let rest : bits_from bytes (suc first) (length bs) ≡ bs = bits_each bytes bs (suc first) (λ i l. let s : suc first + i ≡ first + suc i = omega arith in ap (bit_at bytes) s ∙ h (suc i) (omega arith)) in
    ap (λ x. x ∷ bits_from bytes (suc first) (length bs)) here ∙ ap (λ x. b ∷ x) rest

-- all bits that are packed
pub bits_packed : (k : ℕ) (bs : List Bool) → length bs ≤ 8 * k → bits_from (packed_bits k bs) 0 (length bs) ≡ bs
bits_packed k bs h = bits_each (packed_bits k bs) bs 0 (λ i l. let z : 0 + i ≡ i = omega arith in ap (bit_at (packed_bits k bs)) z ∙ bit_packed k bs i (omega arith))
