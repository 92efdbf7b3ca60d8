-- What holds of an answer for each power of ten that its tens and tenths stand for holds for one.
use Rattle.std.proofs.Common.{ℕ, ◌≡◌, ◌+◌, ◌-◌, ◌*◌, ◌^◌, ◌<◌, ◌≤◌, Option, Some, None, IfSome, IfNone, cond, sym, subst, arith, lit<}
use lib.IntN.{ℤ}
use Rattle.capnp_floats.specs.declared.digits.Digits.{Digits}
use Rattle.capnp_floats.specs.declared.width.Width.{Width}
use Rattle.capnp_floats.specs.declared.width.Width.TheVariants.{Float32, Float64}
use Rattle.capnp_floats.specs.Shortest.{tens, tenths}
use Rattle.capnp_floats.specs.Nearest.{IsNearest, IsPastRange, decimal_numbers, infinity_bits, least_places}
use Rattle.capnp_floats.specs.Steps.Digits.{AreDigits, HoldsDigits, IsCapped}
use Rattle.capnp_floats.specs.Steps.Nearing.{IsChosen}
use Rattle.capnp_floats.proofs.Appending.{capped_is, holds_whole}
use Rattle.capnp_floats.proofs.Cutting.{cut_found}
use Rattle.capnp_floats.proofs.Nearing.{chosen_is_nearest, chosen_is_past, chosen_of}

pub infinity_small : (w : Width) → infinity_bits w < 2 ^ 63
infinity_small Float32 = lit< tt
infinity_small Float64 = lit< tt

pub found_few : (w : Width) (n u d : ℕ) (r : Option ℕ) (k : ℤ) (m : ℕ) → n ≡ m → IsCapped (2 ^ 119) u (tens k) → IsCapped (2 ^ 119) d (tenths k)
    → IfSome r (λ b. (k : ℤ) → IsCapped (2 ^ 119) u (tens k) → IsCapped (2 ^ 119) d (tenths k) → IsNearest w n k b) → IfSome r (λ b. IsNearest w m k b)
found_few w n u d (Some b) k m e x y h = subst (λ z. IsNearest w z k b) e (h k x y)
found_few w n u d None k m e x y h = tt

pub past_few : (w : Width) (n u d : ℕ) (r : Option ℕ) (k : ℤ) (m : ℕ) → n ≡ m → IsCapped (2 ^ 119) u (tens k) → IsCapped (2 ^ 119) d (tenths k)
    → IfNone r ((k : ℤ) → IsCapped (2 ^ 119) u (tens k) → IsCapped (2 ^ 119) d (tenths k) → IsPastRange w n k) → IfNone r (IsPastRange w m k)
past_few w n u d (Some b) k m e x y h = tt
past_few w n u d None k m e x y h = subst (λ z. IsPastRange w z k) e (h k x y)

pub found_many : (w : Width) (s : Digits) (u d : ℕ) (r : Option ℕ) (n : ℕ) (k : ℤ) → HoldsDigits s n → IsCapped (2 ^ 119) u (tens k) → IsCapped (2 ^ 119) d (tenths k)
    → IfSome r (λ b. (n : ℕ) (k : ℤ) → HoldsDigits s n → IsCapped (2 ^ 119) u (tens k) → IsCapped (2 ^ 119) d (tenths k) → IsNearest w n k b) → IfSome r (λ b. IsNearest w n k b)
found_many w s u d (Some b) n k a x y h = h n k a x y
found_many w s u d None n k a x y h = tt

pub past_many : (w : Width) (s : Digits) (u d : ℕ) (r : Option ℕ) (n : ℕ) (k : ℤ) → HoldsDigits s n → IsCapped (2 ^ 119) u (tens k) → IsCapped (2 ^ 119) d (tenths k)
    → IfNone r ((n : ℕ) (k : ℤ) → HoldsDigits s n → IsCapped (2 ^ 119) u (tens k) → IsCapped (2 ^ 119) d (tenths k) → IsPastRange w n k) → IfNone r (IsPastRange w n k)
past_many w s u d (Some b) n k a x y h = tt
past_many w s u d None n k a x y h = h n k a x y

-- ---- what was chosen, where it is finite and where not ----

few_chosen : (w : Width) (d u dn bits : ℕ) (k : ℤ) → u < 2 ^ 119 → dn < 2 ^ 119 → IsChosen w (d * 10 ^ u * 2 ^ least_places w) (10 ^ dn) bits
    → IsCapped (2 ^ 119) u (tens k) → IsCapped (2 ^ 119) dn (tenths k) → IsChosen w (decimal_numbers w d k) (10 ^ tenths k) bits
few_chosen w d u dn bits k l m c x y = chosen_of w d u dn bits k c (capped_is u (tens k) l x) (capped_is dn (tenths k) m y)

pub few_found : (w : Width) (d u dn bits : ℕ) (r : Option ℕ) → u < 2 ^ 119 → dn < 2 ^ 119 → IsChosen w (d * 10 ^ u * 2 ^ least_places w) (10 ^ dn) bits
    → IfSome r (λ b. (b ≡ bits) × (bits < infinity_bits w))
    → IfSome r (λ b. (k : ℤ) → IsCapped (2 ^ 119) u (tens k) → IsCapped (2 ^ 119) dn (tenths k) → IsNearest w d k b)
few_found w d u dn bits (Some b) l m c h = λ k x y. subst (IsNearest w d k) (sym h.0) (chosen_is_nearest w d bits k (few_chosen w d u dn bits k l m c x y) h.1)
few_found w d u dn bits None l m c h = tt

pub few_past : (w : Width) (d u dn bits : ℕ) (r : Option ℕ) → u < 2 ^ 119 → dn < 2 ^ 119 → IsChosen w (d * 10 ^ u * 2 ^ least_places w) (10 ^ dn) bits
    → IfNone r (infinity_bits w ≤ bits)
    → IfNone r ((k : ℤ) → IsCapped (2 ^ 119) u (tens k) → IsCapped (2 ^ 119) dn (tenths k) → IsPastRange w d k)
few_past w d u dn bits (Some b) l m c h = tt
few_past w d u dn bits None l m c h = λ k x y. chosen_is_past w d bits k (few_chosen w d u dn bits k l m c x y) h

pub whole_found : (w : Width) (s : Digits) (u dn bits : ℕ) (r : Option ℕ) → s.cut ≡ 0 → u < 2 ^ 119 → dn < 2 ^ 119 → IsChosen w (s.front * 10 ^ u * 2 ^ least_places w) (10 ^ dn) bits
    → IfSome r (λ b. (b ≡ bits) × (bits < infinity_bits w))
    → IfSome r (λ b. (n : ℕ) (k : ℤ) → HoldsDigits s n → IsCapped (2 ^ 119) u (tens k) → IsCapped (2 ^ 119) dn (tenths k) → IsNearest w n k b)
whole_found w s u dn bits (Some b) whole l m c h = λ n k a x y.
    subst (λ z. IsNearest w z k b) (sym (holds_whole s n whole a))
    (subst (IsNearest w s.front k) (sym h.0) (chosen_is_nearest w s.front bits k (few_chosen w s.front u dn bits k l m c x y) h.1))
whole_found w s u dn bits None whole l m c h = tt

pub whole_past : (w : Width) (s : Digits) (u dn bits : ℕ) (r : Option ℕ) → s.cut ≡ 0 → u < 2 ^ 119 → dn < 2 ^ 119 → IsChosen w (s.front * 10 ^ u * 2 ^ least_places w) (10 ^ dn) bits
    → IfNone r (infinity_bits w ≤ bits)
    → IfNone r ((n : ℕ) (k : ℤ) → HoldsDigits s n → IsCapped (2 ^ 119) u (tens k) → IsCapped (2 ^ 119) dn (tenths k) → IsPastRange w n k)
whole_past w s u dn bits (Some b) whole l m c h = tt
whole_past w s u dn bits None whole l m c h = λ n k a x y.
    subst (λ z. IsPastRange w z k) (sym (holds_whole s n whole a)) (chosen_is_past w s.front bits k (few_chosen w s.front u dn bits k l m c x y) h)

-- the digits that are kept, and one more
cut_chosen : (w : Width) (s : Digits) (dn number bits n : ℕ) (k : ℤ) → AreDigits s → 0 < s.cut → s.cut < dn → dn < 2 ^ 119 → number ≡ s.front * 10 + cond s.more 1 0
    → IsChosen w (number * 10 ^ 0 * 2 ^ least_places w) (10 ^ (dn - s.cut + 1)) bits → HoldsDigits s n → IsCapped (2 ^ 119) dn (tenths k)
    → IsChosen w (decimal_numbers w n k) (10 ^ tenths k) bits
cut_chosen w s dn number bits n k fits cut l m e c a y =
    let f : dn ≡ tenths k = capped_is dn (tenths k) m y in
    cut_found w s n k (dn - s.cut) number bits fits a cut (omega arith) (let g : tenths k ≡ dn - s.cut + s.cut = omega arith in g) e c

pub cut_is_found : (w : Width) (s : Digits) (dn number bits : ℕ) (r : Option ℕ) → AreDigits s → 0 < s.cut → s.cut < dn → dn < 2 ^ 119 → number ≡ s.front * 10 + cond s.more 1 0
    → IsChosen w (number * 10 ^ 0 * 2 ^ least_places w) (10 ^ (dn - s.cut + 1)) bits → IfSome r (λ b. (b ≡ bits) × (bits < infinity_bits w))
    → IfSome r (λ b. (n : ℕ) (k : ℤ) → HoldsDigits s n → IsCapped (2 ^ 119) dn (tenths k) → IsNearest w n k b)
cut_is_found w s dn number bits (Some b) fits cut l m e c h = λ n k a y.
    subst (IsNearest w n k) (sym h.0) (chosen_is_nearest w n bits k (cut_chosen w s dn number bits n k fits cut l m e c a y) h.1)
cut_is_found w s dn number bits None fits cut l m e c h = tt

pub cut_is_not : (w : Width) (s : Digits) (dn number bits : ℕ) (r : Option ℕ) → AreDigits s → 0 < s.cut → s.cut < dn → dn < 2 ^ 119 → number ≡ s.front * 10 + cond s.more 1 0
    → IsChosen w (number * 10 ^ 0 * 2 ^ least_places w) (10 ^ (dn - s.cut + 1)) bits → IfNone r (infinity_bits w ≤ bits)
    → IfNone r ((n : ℕ) (k : ℤ) → HoldsDigits s n → IsCapped (2 ^ 119) dn (tenths k) → IsPastRange w n k)
cut_is_not w s dn number bits (Some b) fits cut l m e c h = tt
cut_is_not w s dn number bits None fits cut l m e c h = λ n k a y. chosen_is_past w n bits k (cut_chosen w s dn number bits n k fits cut l m e c a y) h

pub any_up_found : (w : Width) (s : Digits) (u dn : ℕ) (r : Option ℕ)
    → IfSome r (λ b. (n : ℕ) (k : ℤ) → HoldsDigits s n → IsCapped (2 ^ 119) dn (tenths k) → IsNearest w n k b)
    → IfSome r (λ b. (n : ℕ) (k : ℤ) → HoldsDigits s n → IsCapped (2 ^ 119) u (tens k) → IsCapped (2 ^ 119) dn (tenths k) → IsNearest w n k b)
any_up_found w s u dn (Some b) h = λ n k a x y. h n k a y
any_up_found w s u dn None h = tt

pub any_up_past : (w : Width) (s : Digits) (u dn : ℕ) (r : Option ℕ)
    → IfNone r ((n : ℕ) (k : ℤ) → HoldsDigits s n → IsCapped (2 ^ 119) dn (tenths k) → IsPastRange w n k)
    → IfNone r ((n : ℕ) (k : ℤ) → HoldsDigits s n → IsCapped (2 ^ 119) u (tens k) → IsCapped (2 ^ 119) dn (tenths k) → IsPastRange w n k)
any_up_past w s u dn (Some b) h = tt
any_up_past w s u dn None h = λ n k a x y. h n k a y
