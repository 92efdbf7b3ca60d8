-- The digits of a number, one after another.
use Rattle.std.proofs.Common.{ℕ, ◌≡◌, ◌≤◌, ◌<◌, ◌+◌, ◌/◌, ◌%◌, ◌^◌, ◌++◌, ◌∷◌, [], List, ap, arith, sym, ◌∙◌, length, take, decimal, append_assoc, length-append, slice_set}
use Rattle.std.proofs.lemmas.Fmt.{decimal_digit, decimal_step, length-decimal-le}
use Rattle.std.proofs.lemmas.List.{take_more_set}

pub one_digit : (n : ℕ) → n < 10 → length (decimal n) ≡ 1
one_digit n h = ap length (decimal_digit n h)

pub one_more : (n : ℕ) → 10 ≤ n → n < 2 ^ 64 → length (decimal n) ≡ length (decimal (n / 10)) + 1
one_more n h small = ap length (decimal_step n h small) ∙ length-append (decimal (n / 10)) ((48 + n % 10) ∷ [])

pub few_digits : (n : ℕ) → n < 2 ^ 32 → length (decimal n) ≤ 10
few_digits n h = length-decimal-le 10 n (omega arith) (omega arith) (omega arith)

-- a line up to a place, and the digits there
pub digit_put : (line : List ℕ) (place n : ℕ) → place < length line → n < 10 → take (place + 1) (slice_set line place (48 + n)) ≡ take place line ++ decimal n
digit_put line place n inside h = take_more_set line place (48 + n) inside ∙ ap (λ (ds : List ℕ). take place line ++ ds) (sym (decimal_digit n h))

pub digit_after : (old line : List ℕ) (place last n : ℕ) → last < length line → 10 ≤ n → n < 2 ^ 64 → take last line ≡ take place old ++ decimal (n / 10) →
    take (last + 1) (slice_set line last (48 + n % 10)) ≡ take place old ++ decimal n
digit_after old line place last n inside h small put =
    take_more_set line last (48 + n % 10) inside
    ∙ (ap (λ (ds : List ℕ). ds ++ (48 + n % 10) ∷ []) put
    ∙ (append_assoc (take place old) (decimal (n / 10)) ((48 + n % 10) ∷ [])
    ∙ ap (λ (ds : List ℕ). take place old ++ ds) (sym (decimal_step n h small))))
