-- Bits in a row, of which one is written.
use Rattle.std.proofs.Common.{◌≡◌, ℕ, zero, suc, ◌+◌, ◌*◌, ◌<◌, List, ◌∷◌, length, refl, sym, ap, ◌∙◌, arith, Bool, slice_set}
use Rattle.capnp_wire.specs.Slot.{bit_at}
use Rattle.capnp_wire.specs.Place.{bits_from}
use Rattle.capnp_wire.specs.Edits.{with_bit}
use Rattle.capnp_wire.specs.Facts.Bits.{bit_at_with_bit, bit_at_with_other}

-- the bits past it
bits_past : (bytes : List ℕ) (i : ℕ) (bit : Bool) (first n : ℕ) → i < 8 * length bytes → i < first → bits_from (with_bit i bit bytes) first n ≡ bits_from bytes first n
bits_past bytes i bit first zero h l = refl
bits_past bytes i bit first (suc n) h l =
    ap (λ b. b ∷ bits_from (with_bit i bit bytes) (suc first) n) (bit_at_with_other bytes i bit h first (λ e. omega (arith, e, l)))
    ∙ ap (λ bs. bit_at bytes first ∷ bs) (bits_past bytes i bit (suc first) n h (omega arith))

pub bits_with : (bytes : List ℕ) (i : ℕ) (bit : Bool) (first n k : ℕ) → i < 8 * length bytes → i ≡ first + k → bits_from (with_bit i bit bytes) first n ≡ slice_set (bits_from bytes first n) k bit
bits_with bytes i bit first zero k h e = refl
bits_with bytes i bit first (suc n) zero h e =
    let at : i ≡ first = omega (arith, e) in
    ap (λ f. bit_at (with_bit i bit bytes) f ∷ bits_from (with_bit i bit bytes) (suc first) n) (sym at)
    ∙ ap (λ b. b ∷ bits_from (with_bit i bit bytes) (suc first) n) (bit_at_with_bit bytes i bit h)
    ∙ ap (λ bs. bit ∷ bs) (bits_past bytes i bit (suc first) n h (omega (arith, at)))
bits_with bytes i bit first (suc n) (suc k) h e =
    ap (λ b. b ∷ bits_from (with_bit i bit bytes) (suc first) n) (bit_at_with_other bytes i bit h first (λ f. omega (arith, e, f)))
    ∙ ap (λ bs. bit_at bytes first ∷ bs) (bits_with bytes i bit (suc first) n k h (omega (arith, e)))
