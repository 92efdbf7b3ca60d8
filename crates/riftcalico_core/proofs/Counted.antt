-- A word whose end is that of a length, and what stands before it.
use Rattle.std.proofs.Common.{ℕ, ◌-◌, List, Bool, true, false, None, cond, length, take, codes, ◌≡◌, ◌∙◌, ap, arith, subst, sym}
use Rattle.std.proofs.lemmas.Str.Pattern.{ends_text}
use Rattle.std.specs.Str.{IsCharBoundary}
use Rattle.std.specs.Str.Pattern.{FindsTextSuffix, StripsSuffix}
use Rattle.riftcalico_core.specs.Queries.{counted_path, steps_before}

abbrev before : List ℕ → List ℕ
before word = take (length word - 2) word

pub not_counted : (word : List ℕ) → FindsTextSuffix (codes ".#") word None → counted_path word ≡ None
not_counted word none = ap (λ (q : Bool). cond q (steps_before (before word)) None) (sym (ends_text false (codes ".#") word none))

pub is_counted : (word path : List ℕ) → StripsSuffix (FindsTextSuffix (codes ".#")) word path → counted_path word ≡ steps_before path
is_counted word path h =
    let found = h.1 in
    let boundary : IsCharBoundary word (length word - h.0) = subst (λ (n : ℕ). IsCharBoundary word (length word - n)) (sym found.0) found.2 in
    let ends = ends_text true (codes ".#") word (h.0, found, omega (arith, h.3), boundary) in
    ap (λ (q : Bool). cond q (steps_before (before word)) None) (sym ends)
    ∙ ap steps_before (sym (h.2 ∙ ap (λ (n : ℕ). take (length word - n) word) found.0))
