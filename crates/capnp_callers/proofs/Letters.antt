-- Letters that are written one behind another over zeros.
use Rattle.std.proofs.Common.{ℕ, suc, ◌+◌, ◌-◌, ◌<◌, ◌≤◌, ◌≡◌, List, [], ◌∷◌, ◌++◌, length, replicate, slice_set, ap, append-nil, append_assoc, arith, sym, ◌∙◌}
use Rattle.std.proofs.lemmas.List.{length-append, length-replicate, replicate_more}
use Rattle.std.proofs.Math.Seq.{set-append_seam}

-- so many letters, and zeros up to a length
abbrev pub row : ℕ → ℕ → ℕ → List ℕ
row n count letter = replicate n letter ++ replicate (count - n) 0

pub row_length : (n count letter : ℕ) → n ≤ count → length (row n count letter) ≡ count
row_length n count letter h =
    let whole = length-append (replicate n letter) (replicate (count - n) 0) in
    let first : length (replicate n letter) ≡ n = length-replicate n letter in
    let rest : length {A = ℕ} (replicate (count - n) 0) ≡ count - n = length-replicate (count - n) 0 in
    omega (arith, whole, first, rest, h)

-- one more letter
pub row_next : (n count letter : ℕ) → n < count → slice_set (row n count letter) n letter ≡ row (n + 1) count letter
row_next n count letter h =
    let k = count - (n + 1) in
    let left : count - n ≡ suc k = omega (arith, h) in
    let as_long : length (replicate n letter) ≡ n = length-replicate n letter in
    ap (λ m. slice_set (replicate n letter ++ replicate m 0) n letter) left
    ∙ (ap (λ i. slice_set (replicate n letter ++ 0 ∷ replicate k 0) i letter) (sym as_long)
    ∙ (set-append_seam (replicate n letter) 0 (replicate k 0) letter
    ∙ (sym (append_assoc (replicate n letter) (letter ∷ []) (replicate k 0))
    ∙ ap (λ t. t ++ replicate k 0) (replicate_more n letter))))

-- no place is left
pub row_full : (n count letter : ℕ) → n ≤ count → count ≤ n → row n count letter ≡ replicate count letter
row_full n count letter h full =
    let none : count - n ≡ 0 = omega (arith, full) in
    let same : n ≡ count = omega (arith, h, full) in
    ap (λ m. replicate n letter ++ replicate m 0) none ∙ append-nil (replicate n letter) ∙ ap (λ m. replicate m letter) same
