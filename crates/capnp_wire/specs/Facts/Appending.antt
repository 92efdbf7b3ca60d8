-- One step of a loop that appends.
use Rattle.std.proofs.Common.{◌≡◌, ℕ, List, ◌++◌, ap, ◌∙◌}
use Rattle.std.proofs.lemmas.List.{append_assoc}

-- one more part of a list that is appended part by part
pub part_next : (before after part rest whole : List ℕ) → after ≡ before ++ part → before ++ (part ++ rest) ≡ whole → after ++ rest ≡ whole
part_next before after part rest whole a h = ap (λ x. x ++ rest) a ∙ append_assoc before part rest ∙ h

-- two parts, one after the other
pub append_two : (before mid after a b : List ℕ) → mid ≡ before ++ a → after ≡ mid ++ b → after ≡ before ++ (a ++ b)
append_two before mid after a b x y = y ∙ ap (λ z. z ++ b) x ∙ append_assoc before a b
