-- What holds of each width of a number.
use Rattle.std.proofs.Common.{ℕ, ◌≡◌, ◌⊎◌, true, arith, inl, inr, subst, sym}
use Rattle.std.proofs.lemmas.Bool.Decides.{nat_tests}
use Rattle.capnp_wire.specs.WellFormed.{is_width}

bytes_are : (k : ℕ) → is_width k ≡ true → (k ≡ 1) ⊎ ((k ≡ 2) ⊎ ((k ≡ 4) ⊎ (k ≡ 8)))
bytes_are k h = grind (arith, nat_tests)

-- the widths one by one
pub by_width : (P : ℕ → Type 0) → P 1 → P 2 → P 4 → P 8 → (w : ℕ) → is_width w ≡ true → P w
by_width P one two four eight w h = go (bytes_are w h)
  where
    at : (k : ℕ) → P k → w ≡ k → P w
    at k p e = subst P (sym e) p

    go : (w ≡ 1) ⊎ ((w ≡ 2) ⊎ ((w ≡ 4) ⊎ (w ≡ 8))) → P w
    go (inl e) = at 1 one e
    go (inr (inl e)) = at 2 two e
    go (inr (inr (inl e))) = at 4 four e
    go (inr (inr (inr e))) = at 8 eight e
