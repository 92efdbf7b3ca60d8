-- What is left of a source that unpacks another one.
use Rattle.std.proofs.Common.{◌≡◌, ℕ, List, [], ◌∷◌, ◌++◌, length, Option, Some, None, refl, ap, sym, ◌∙◌, arith}
use Rattle.std.proofs.lemmas.List.{append-nil}
use Rattle.std.specs.Io.KnownBytes.{IsAtEnd}
use Rattle.capnp_packed.specs.Sources.{left_unpacked}
use Rattle.capnp_packed.specs.Steps.Windows.{HasRead}
use Rattle.capnp_packed.specs.Unpacking.{piece_of, unpacked_bytes}
use Rattle.capnp_packed.proofs.Pieces.{no_piece}

no_bytes : (bytes : List ℕ) → length bytes ≡ 0 → bytes ≡ []
no_bytes [] h = refl
no_bytes (b ∷ bytes) h = absurd (omega (arith, h))

-- a piece that is cut at the end stands for nothing
pub cut_end : (old new : List ℕ) (left left' : Option (List ℕ)) (n : ℕ) → HasRead old new left left' n → n ≡ 0 → piece_of old ≡ None
    → IsAtEnd (left_unpacked [] new left')
cut_end old new left None n h e none = tt {0}
cut_end old new left (Some ys) n h e none =
    ap (λ x. unpacked_bytes (x ++ ys)) (h.behind ∙ ap (λ x. old ++ x) (no_bytes h.read (h.count ∙ e)) ∙ append-nil old)
    ∙ ap (λ x. unpacked_bytes (old ++ x)) (h.end e) ∙ ap unpacked_bytes (append-nil old) ∙ no_piece old (sym none)
