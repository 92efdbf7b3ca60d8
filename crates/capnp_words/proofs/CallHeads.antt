-- What a call begins with ends within the word, and the word may be cut there.
use Rattle.std.proofs.Common.{◌==◌, ◌≡◌, ℕ, zero, suc, ◌+◌, ◌<◌, List, [], ◌∷◌, length, get_or, true, cond, arith}
use Rattle.std.specs.Str.{IsUtf8, IsCharBoundary}
use Rattle.std.proofs.lemmas.Str.{IsCharBoundary-after_ascii}
use Rattle.std.proofs.lemmas.Bool.Decides.{nat_tests}
use Rattle.capnp_words.specs.Words.{is_front, shared_length}

same_first : (x y s n : ℕ) → cond (x == y) (1 + s) 0 ≡ suc n → (x ≡ y) × (s ≡ n)
same_first x y s n e = grind (arith, nat_tests)

-- a byte of a word that the bytes begin with
front_at : (w bs : List ℕ) (i : ℕ) → shared_length w bs ≡ length w → i < length w → (i < length bs) × (get_or bs i 0 ≡ get_or w i 0)
front_at [] bs i e h = absurd (omega arith)
front_at (x ∷ w) [] i e h = absurd (omega (arith, e))
front_at (x ∷ w) (y ∷ bs) zero e h = let s = same_first x y (shared_length w bs) (length w) e in (omega arith, omega (arith, s.0))
front_at (x ∷ w) (y ∷ bs) (suc i) e h =
    let s = same_first x y (shared_length w bs) (length w) e in
    let rest = front_at w bs i s.1 (omega arith) in
    (omega (arith, rest.0), rest.1)

-- behind a word that ends in a space
pub front_boundary : (w bs : List ℕ) (last : ℕ) → is_front w bs ≡ true → length w ≡ last + 1 → get_or w last 0 ≡ 32 → IsUtf8 bs → IsCharBoundary bs (last + 1)
front_boundary w bs last e h space text =
    let same : shared_length w bs ≡ length w = grind (arith, nat_tests) in
    let at = front_at w bs last same (omega (arith, h)) in
    IsCharBoundary-after_ascii bs last text at.0 (omega (arith, at.1, space))
