-- Words that ask for nothing, whatever they are.
use Rattle.std.proofs.Common.{String, ◌≡◌, ◌<◌, ◌≤◌, List, [], ◌∷◌, None, length, refl, arith}
use Rattle.capnp_show_engine.specs.Command.{asked_show}

pub none_asked : {A : Type 0} (words : List (String A)) → length words < 1 → None ≡ asked_show words
none_asked [] h = refl
none_asked (w ∷ words) h = absurd (omega (arith, h))

pub too_many : {A : Type 0} (words : List (String A)) → 5 ≤ length words → None ≡ asked_show words
too_many [] h = absurd (omega (arith, h))
too_many (a ∷ []) h = absurd (omega (arith, h))
too_many (a ∷ b ∷ []) h = absurd (omega (arith, h))
too_many (a ∷ b ∷ c ∷ []) h = absurd (omega (arith, h))
too_many (a ∷ b ∷ c ∷ d ∷ []) h = absurd (omega (arith, h))
too_many (a ∷ b ∷ c ∷ d ∷ e ∷ words) h = refl
