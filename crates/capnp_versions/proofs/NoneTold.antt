-- A struct follows another exactly where no difference is told.
use Rattle.std.proofs.Common.{◌≡◌, ◌↔◌, ◌==◌, ℕ, List, [], ◌∷◌, Bool, IsTrue, arith, length, refl}
use Rattle.std.proofs.lemmas.Bool.Decides.{nat_tests}

pub follows_so : {A P : Type 0} (items : List A) (e : Bool) (n : ℕ) → e ≡ (n == 0) → n ≡ length items → ((items ≡ []) ↔ P) → (IsTrue e ↔ P)
follows_so [] e n h l p = (λ t. p.0 refl, λ q. grind (arith, nat_tests, h, l))
follows_so (x ∷ xs) e n h l p = (λ t. absurd (grind (arith, nat_tests, h, l, t)), λ q. absurd (grind (arith, none (p.1 q))))
  where
    none : x ∷ xs ≡ [] → ⊥
    none e = cc
