-- The number that bytes spell.
use Rattle.std.proofs.Common.{◌≡◌, ℕ, zero, suc, ◌+◌, ◌*◌, ◌<◌, ◌≤◌, ◌^◌, List, [], ◌∷◌, length, get_or, take, drop, arith, Fits, w8}
use Rattle.std.proofs.Math.Nat.{pow-le-pow_right, pow-suc, one-le-pow}
use Rattle.std.proofs.lemmas.List.{get_or-drop, length-drop}
use Rattle.capnp_wire.specs.Slot.{little_endian}
pub use Rattle.capnp_wire.specs.Facts.Bytes.{spelled_first}

-- bytes spell a number below 256 to the power of their count
pub spelled_bound : (bs : List ℕ) → ((k : ℕ) → Fits w8 (get_or bs k 0)) → little_endian bs < 256 ^ length bs
spelled_bound [] h = omega arith
spelled_bound (b ∷ bs) h =
    let first : b < 256 = omega (arith, h 0) in
    let rest : little_endian bs < 256 ^ length bs = spelled_bound bs (λ k. h (suc k)) in
    let p : 256 ^ suc (length bs) ≡ 256 * 256 ^ length bs = grind (arith, pow-suc) in
    omega arith

-- the same for at most n bytes
pub spelled_below : (bs : List ℕ) (n : ℕ) → ((k : ℕ) → Fits w8 (get_or bs k 0)) → length bs ≤ n → little_endian bs < 256 ^ n
spelled_below bs n h p =
    let a : little_endian bs < 256 ^ length bs = spelled_bound bs h in
    let b : 256 ^ length bs ≤ 256 ^ n = pow-le-pow_right (omega arith) p in
    omega arith

-- the number of at most eight bytes from index i on, where at least one byte stands before it
pub spelled_drop_below : (bs : List ℕ) (i : ℕ) → ((k : ℕ) → Fits w8 (get_or bs k 0)) → length bs ≤ 8 → 0 < i → little_endian (drop i bs) < 2 ^ 56
spelled_drop_below bs i h p q =
    let l : length (drop i bs) ≤ 7 = omega (arith, length-drop i bs) in
    spelled_below (drop i bs) 7 (λ k. rw (get_or-drop i bs k 0) (h (i + k))) l

-- the first n bytes spell a number below 256 ^ n
pub spelled_part_below : (bs : List ℕ) (n : ℕ) → ((k : ℕ) → Fits w8 (get_or bs k 0)) → little_endian (take n bs) < 256 ^ n
spelled_part_below [] zero h = omega arith
spelled_part_below [] (suc n) h = omega (arith, one-le-pow (suc n) 256 (omega arith))
spelled_part_below (b ∷ bs) zero h = omega arith
spelled_part_below (b ∷ bs) (suc n) h =
    let first : b < 256 = omega (arith, h 0) in
    let rest : little_endian (take n bs) < 256 ^ n = spelled_part_below bs n (λ k. h (suc k)) in
    let p : 256 ^ suc n ≡ 256 * 256 ^ n = grind (arith, pow-suc) in
    omega arith

-- n bytes from index i on spell a number below 256 ^ n
pub spelled_at_below : (bs : List ℕ) (i n : ℕ) → ((k : ℕ) → Fits w8 (get_or bs k 0)) → little_endian (take n (drop i bs)) < 256 ^ n
spelled_at_below bs i n h = spelled_part_below (drop i bs) n (λ k. rw (get_or-drop i bs k 0) (h (i + k)))
