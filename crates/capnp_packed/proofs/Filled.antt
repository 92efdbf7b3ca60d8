-- What stands in a place that bytes are written to, one piece after another.
use Rattle.std.proofs.Common.{◌≡◌, ℕ, ◌*◌, ◌+◌, ◌≤◌, List, [], ◌++◌, length, take, replicate, ap, sym, ◌∙◌, arith}
use Rattle.std.proofs.lemmas.List.{append_assoc, append-nil, length-append, length-take, take-append-le, take-replicate, take_all}

pub nothing_left : (at : ℕ) (out all : List ℕ) → at ≤ length out → take at out ++ [] ≡ all → at ≡ length all
nothing_left at out all inside h = let e = ap length (sym (append-nil (take at out)) ∙ h) in let f = length-take at out in omega (arith, e, f, inside)

-- as many of the bytes as there is room for
pub filled : (at end : ℕ) (old new words after all : List ℕ) → at ≤ length old → end ≤ at + length words
    → take end new ≡ take end (take at old ++ words) → take at old ++ (words ++ after) ≡ all → take end new ≡ take end all
filled at end old new words after all inside within bytes h =
    let l = length-append (take at old) words in let t = length-take at old in
    bytes ∙ sym (take-append-le end (take at old ++ words) after (omega (arith, l, t, inside, within)))
    ∙ ap (take end) (append_assoc (take at old) words after ∙ h)

-- all of them
pub filled_rest : (at end : ℕ) (old new words after all : List ℕ) → at ≤ length old → end ≡ at + length words
    → take end new ≡ take end (take at old ++ words) → take at old ++ (words ++ after) ≡ all → take end new ++ after ≡ all
filled_rest at end old new words after all inside whole bytes h =
    let l = length-append (take at old) words in let t = length-take at old in
    ap (λ x. x ++ after) (bytes ∙ take_all end (take at old ++ words) (omega (arith, l, t, inside, whole)))
    ∙ append_assoc (take at old) words after ∙ h

pub zeros_taken : (count : ℕ) → count ≤ 255 → take {A = ℕ} (8 * count) (replicate 2040 0) ≡ replicate (8 * count) 0
zeros_taken count few = take-replicate (8 * count) 2040 0 (omega (arith, few))
