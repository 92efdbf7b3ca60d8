-- The values of a list's numbers from an index on, one after another.
use Rattle.std.proofs.Common.{◌≡◌, ℕ, zero, suc, ◌+◌, ◌-◌, ◌<◌, [], ◌∷◌, length, refl, sym, ap, ◌∙◌, arith}
use Rattle.capnp_wire.specs.Tree.{Tree}
use Rattle.capnp_wire.specs.Reading.{element_number}
use Rattle.capnp_wire.specs.Numbers.{numbers_from}

module _ {A : Type 0} (of_number : ℕ → A) (width : ℕ) (t : Tree) where
  -- none from the end on
  pub elements_from_none : (i n : ℕ) → i ≡ n → numbers_from of_number width t i (n - i) ≡ []
  elements_from_none i n h =
      let e : n - i ≡ 0 = omega (arith, h) in
      ap (numbers_from of_number width t i) e

  -- else the first, which is a value x, and those behind it
  pub elements_from_first : (i n : ℕ) (x : A) → i < n → x ≡ of_number (element_number width t i)
      → numbers_from of_number width t i (n - i) ≡ x ∷ numbers_from of_number width t (i + 1) (n - (i + 1))
  elements_from_first i n x h is =
      let e : n - i ≡ suc (n - (i + 1)) = omega (arith, h) in
      ap (numbers_from of_number width t i) e ∙ ap (λ y. y ∷ numbers_from of_number width t (i + 1) (n - (i + 1))) (sym is)

  -- as many as are asked
  pub count_of_elements_from : (i n : ℕ) → length (numbers_from of_number width t i n) ≡ n
  count_of_elements_from i zero = refl
  count_of_elements_from i (suc n) = ap suc (count_of_elements_from (i + 1) n)
