-- What words share.
use Rattle.std.proofs.Common.{◌≡◌, ℕ, List, [], ◌∷◌, refl}
use Rattle.capnp_words.specs.Words.{shared_length}

pub shared_none : (xs : List ℕ) → shared_length xs [] ≡ 0
shared_none [] = refl
shared_none (x ∷ xs) = refl
