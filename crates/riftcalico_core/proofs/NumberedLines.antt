-- One more line is numbered behind the others.
use Rattle.std.proofs.Common.{◌≡◌, ◌∙◌, ℕ, List, [], ◌∷◌, ◌++◌, ap, append_assoc, sym}
use Rattle.std.proofs.lemmas.List.{append-nil}
use Rattle.riftcalico_core.specs.Numbered.{each_numbered, numbered_line}

pub one_more : (number : ℕ) (lines : List (List ℕ)) (line : List ℕ) → each_numbered number (lines ++ line ∷ []) ≡ each_numbered number lines ++ numbered_line number line
one_more number [] line = append-nil (numbered_line number line)
one_more number (first ∷ lines) line =
    ap (λ (x : List ℕ). numbered_line number first ++ x) (one_more number lines line)
    ∙ sym (append_assoc (numbered_line number first) (each_numbered number lines) (numbered_line number line))

pub next_numbered : (number : ℕ) (old new : List ℕ) (lines : List (List ℕ)) (line : List ℕ) → old ≡ each_numbered number lines → new ≡ old ++ numbered_line number line
    → new ≡ each_numbered number (lines ++ line ∷ [])
next_numbered number old new lines line h put = put ∙ ap (λ (x : List ℕ). x ++ numbered_line number line) h ∙ sym (one_more number lines line)
