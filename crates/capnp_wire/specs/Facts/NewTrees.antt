-- Zero bytes have no bit.
use Rattle.std.proofs.Common.{◌≡◌, ℕ, zero, suc, ◌/◌, ◌%◌, ◌^◌, ◌∷◌, refl, ap, ◌∙◌, false, get_or, replicate, ◌==◌}
use Rattle.std.proofs.Math.Nat.{zero-div}
use Rattle.capnp_wire.specs.Slot.{bit_at}
use Rattle.capnp_wire.specs.Place.{bits_from}

zero_byte : (n k : ℕ) → get_or (replicate {A = ℕ} n 0) k 0 ≡ 0
zero_byte zero k = refl
zero_byte (suc n) zero = refl
zero_byte (suc n) (suc k) = zero_byte n k

no_bit : (n i : ℕ) → bit_at (replicate {A = ℕ} n 0) i ≡ false
no_bit n i =
    let z : (0 / 2 ^ (i % 8)) ≡ 0 = zero-div (2 ^ (i % 8)) in
    ap (λ b. (b / 2 ^ (i % 8)) % 2 == 1) (zero_byte n (i / 8)) ∙ ap (λ b. b % 2 == 1) z

pub no_bits : (n a count : ℕ) → bits_from (replicate {A = ℕ} n 0) a count ≡ replicate count false
no_bits n a zero = refl
no_bits n a (suc count) = ap (λ b. b ∷ bits_from (replicate n 0) (suc a) count) (no_bit n a) ∙ ap (λ bs. false ∷ bs) (no_bits n (suc a) count)
