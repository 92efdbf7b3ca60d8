-- The first steps of a path, and one of them, as they are seen.
use Rattle.std.proofs.Common.{ℕ, zero, suc, ◌≤◌, List, [], ◌∷◌, get_or, length, map, take, ◌≡◌, ap, arith, refl}

pub seen_at : {A B : Type 0} (f : A → B) (xs : List A) (i : ℕ) (d : A) → get_or (map f xs) i (f d) ≡ f (get_or xs i d)
seen_at f [] i d = refl
seen_at f (x ∷ xs) zero d = refl
seen_at f (x ∷ xs) (suc i) d = seen_at f xs i d

pub taken_seen : {A B : Type 0} (f : A → B) (xs : List A) (n : ℕ) → map f (take n xs) ≡ take n (map f xs)
taken_seen f [] zero = refl
taken_seen f [] (suc n) = refl
taken_seen f (x ∷ xs) zero = refl
taken_seen f (x ∷ xs) (suc n) = ap (λ ys. f x ∷ ys) (taken_seen f xs n)

pub all_taken : {A B : Type 0} (f : A → B) (xs : List A) (n : ℕ) → length xs ≤ n → map f xs ≡ take n (map f xs)
all_taken f [] zero le = refl
all_taken f [] (suc n) le = refl
all_taken f (x ∷ xs) zero le = absurd (omega (arith, le))
all_taken f (x ∷ xs) (suc n) le = ap (λ ys. f x ∷ ys) (all_taken f xs n (omega (arith, le)))
