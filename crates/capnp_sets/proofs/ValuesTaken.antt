-- Parts of a set, as a loop takes their values from an allowance: what it has left of them.
use Rattle.std.proofs.Common.{ℕ, zero, suc, ◌+◌, ◌<◌, ◌≤◌, ◌≡◌, arith, refl, subst, List, [], ◌∷◌, Some, drop, length, map}
use Rattle.std.specs.Prelude.{slice_get}
use Rattle.capnp_wire.specs.Steps.Unfolding.{IsLeft}
use Rattle.capnp_sets.specs.Unfolded.{total}

-- the next of a list, and what is left after it
drop_next : {A : Type 0} (xs : List A) (i : ℕ) (x : A) → slice_get xs i ≡ Some x → drop i xs ≡ x ∷ drop (suc i) xs
drop_next [] zero x e = cc
drop_next [] (suc i) x e = cc
drop_next (y ∷ ys) zero x e = cc
drop_next (y ∷ ys) (suc i) x e = drop_next ys i x e

drop_end : {A : Type 0} (xs : List A) (i : ℕ) → length xs ≤ i → drop i xs ≡ []
drop_end [] zero h = refl
drop_end [] (suc i) h = refl
drop_end (y ∷ ys) zero h = absurd (omega arith)
drop_end (y ∷ ys) (suc i) h = drop_end ys i (omega arith)

-- the first ones are taken
pub record AreTaken {A B : Type 0} (size : B → ℕ) (seen : A → B) (allowed rest i : ℕ) (xs : List A) : Type 0 where
  pub taken : allowed + total size (map seen (drop i xs)) ≡ total size (map seen xs) + rest

module _ {A B : Type 0} (size : B → ℕ) (seen : A → B) (allowed rest i : ℕ) (xs : List A) (so_far : AreTaken size seen allowed rest i xs) where
  pub all_taken : length xs ≤ i → IsLeft allowed (total size (map seen xs)) (Some rest)
  all_taken end = let e = drop_end xs i end in omega (arith, rw e at so_far.taken)

  next : (x : A) → slice_get xs i ≡ Some x → allowed + (size (seen x) + total size (map seen (drop (suc i) xs))) ≡ total size (map seen xs) + rest
  next x at = rw (drop_next xs i x at) at so_far.taken

  pub one_too_many : (x : A) → slice_get xs i ≡ Some x → rest < size (seen x) → allowed < total size (map seen xs)
  one_too_many x at h = omega (arith, next x at, h)

  pub one_taken : (x : A) → slice_get xs i ≡ Some x → (less j : ℕ) → rest ≡ size (seen x) + less → j ≡ i + 1 → AreTaken size seen allowed less j xs
  one_taken x at less j h k =
      let k' : suc i ≡ j = omega arith in
      subst (λ (z : ℕ). AreTaken size seen allowed less z xs) k' (record { taken = omega (arith, next x at, h) })
