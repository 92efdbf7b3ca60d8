-- Zeros at the end of a word, seen by the number that the word spells.
use Rattle.std.proofs.Common.{◌≡◌, ℕ, zero, suc, get_or, replicate, ◌+◌, ◌-◌, ◌*◌, ◌^◌, ◌%◌, ◌<◌, ◌≤◌, refl, sym, ap, ◌∙◌, arith, List, length, take, drop}
use Rattle.std.proofs.lemmas.List.{ext_get_or, get_or-drop, get_or-replicate, get_or-take, length-drop, length-replicate, length-take-le}
use native.Mathlib.Numerals.{unary_clauses}
use Rattle.capnp_wire.specs.Facts.Bytes.{spelled_first}
use Rattle.capnp_wire.specs.Slot.{little_endian, number_at}

-- a number below 1 is spelled by zeros
zeros_of : (m i : ℕ) (bytes : List ℕ) → little_endian (take m (drop i bytes)) < 1 → (r : ℕ) → r < m → get_or bytes (i + r) 0 ≡ 0
zeros_of zero i bytes h r l = absurd (omega (arith, l))
zeros_of (suc m) i bytes h zero l = ap (λ k. get_or bytes k 0) {x = i + 0} {y = i} (omega arith) ∙ omega (arith, h, spelled_first bytes i m)
zeros_of (suc m) i bytes h (suc r) l =
    ap (λ k. get_or bytes k 0) {x = i + suc r} {y = suc i + r} (omega arith) ∙ zeros_of m (suc i) bytes (omega (arith, h, spelled_first bytes i m)) r (omega (arith, l))

-- and one below a power of 256 by zeros from there on
zeros_after : (k m i : ℕ) (bytes : List ℕ) → little_endian (take (k + m) (drop i bytes)) < 256 ^ k → (r : ℕ) → r < m → get_or bytes (i + k + r) 0 ≡ 0
zeros_after zero m i bytes h r l = ap (λ j. get_or bytes j 0) {x = i + 0 + r} {y = i + r} (omega arith) ∙ zeros_of m i bytes (omega (arith, ap (λ j. little_endian (take j (drop i bytes))) {x = 0 + m} {y = m} (omega arith), h)) r l
zeros_after (suc k) m i bytes h r l =
    let e : little_endian (take (suc k + m) (drop i bytes)) ≡ little_endian (take (suc (k + m)) (drop i bytes)) = ap (λ j. little_endian (take j (drop i bytes))) {x = suc k + m} {y = suc (k + m)} (omega arith) in
    ap (λ j. get_or bytes j 0) {x = i + suc k + r} {y = suc i + k + r} (omega arith) ∙ zeros_after k m (suc i) bytes (omega (arith, h, e, spelled_first bytes i (k + m), pow_more k)) r l
  where
    pow_more : (k : ℕ) → 256 ^ suc k ≡ 256 ^ k * 256
    pow_more k = simp unary_clauses refl

powers : (k : ℕ) → k < 8 → 2 ^ (8 * k) ≡ 256 ^ k
powers zero l = refl
powers (suc zero) l = refl
powers (suc (suc zero)) l = refl
powers (suc (suc (suc zero))) l = refl
powers (suc (suc (suc (suc zero)))) l = refl
powers (suc (suc (suc (suc (suc zero))))) l = refl
powers (suc (suc (suc (suc (suc (suc zero)))))) l = refl
powers (suc (suc (suc (suc (suc (suc (suc zero))))))) l = refl
powers (suc (suc (suc (suc (suc (suc (suc (suc k)))))))) l = absurd (omega (arith, l))

pub zeros_behind : (bytes : List ℕ) (w k : ℕ) → k < 8 → 8 * w + 8 ≤ length bytes → number_at 8 w bytes < 2 ^ (8 * k) → take (8 - k) (drop (8 * w + k) bytes) ≡ replicate (8 - k) 0
zeros_behind bytes w k l f h =
    let part : List ℕ = take (8 - k) (drop (8 * w + k) bytes) in
    let n : length part ≡ 8 - k = length-take-le (8 - k) (drop (8 * w + k) bytes) (omega (arith, l, f, length-drop (8 * w + k) bytes)) in
    let e : little_endian (take (k + (8 - k)) (drop (w * 8) bytes)) ≡ number_at 8 w bytes = ap (λ j. little_endian (take j (drop (w * 8) bytes))) {x = k + (8 - k)} {y = 8} (omega (arith, l)) in
    ext_get_or 0 part (replicate (8 - k) 0) (n ∙ sym (length-replicate (8 - k) 0)) (λ i below.
    get_or-take (8 - k) (drop (8 * w + k) bytes) i 0 (omega (arith, below, n))
    ∙ get_or-drop (8 * w + k) bytes i 0
    ∙ ap (λ j. get_or bytes j 0) {x = 8 * w + k + i} {y = w * 8 + k + i} (omega arith)
    ∙ zeros_after k (8 - k) (w * 8) bytes (omega (arith, e, h, powers k l)) i (omega (arith, below, n))
    ∙ sym (get_or-replicate (8 - k) i 0 0 (omega (arith, below, n))))

-- a shift by less than a word keeps the bit that is shifted
pub shifted : (k : ℕ) → k < 8 → 1 * 2 ^ (8 * k) % 18446744073709551616 ≡ 2 ^ (8 * k)
shifted zero l = refl
shifted (suc zero) l = refl
shifted (suc (suc zero)) l = refl
shifted (suc (suc (suc zero))) l = refl
shifted (suc (suc (suc (suc zero)))) l = refl
shifted (suc (suc (suc (suc (suc zero))))) l = refl
shifted (suc (suc (suc (suc (suc (suc zero)))))) l = refl
shifted (suc (suc (suc (suc (suc (suc (suc zero))))))) l = refl
shifted (suc (suc (suc (suc (suc (suc (suc (suc k)))))))) l = absurd (omega (arith, l))
