-- Digits that are put behind others, and exponents by their text.
use Rattle.std.proofs.Common.{ℕ, suc, ◌≡◌, ◌+◌, ◌-◌, ◌*◌, ◌^◌, ◌<◌, ◌≤◌, ◌⊎◌, ⊎_elim, inl, inr, Bool, true, false, cond, ltb, List, length, get_or, drop, refl, sym, ap, ◌∙◌, subst, arith, lit<}
use Rattle.std.proofs.Math.Nat.{pow-le-pow_right}
use Rattle.std.proofs.Math.Seq.{drop-cons}
use Rattle.std.proofs.lemmas.Nat.{pow-add}
use Rattle.std.proofs.lemmas.Bool.{both_ways, cases_lt, cond-true, cond-false, cond_both, ltb-true, ltb-false}
use Rattle.std.specs.Char.{is_ascii_digit}
use lib.IntN.{pos, negsuc}
use Rattle.capnp_floats.specs.declared.digits.Digits.{Digits}
use Rattle.capnp_floats.specs.Naturals.{large_room}
use Rattle.capnp_floats.specs.Shortest.{tens, tenths}
use Rattle.capnp_floats.specs.Words.{digits_behind, exponent_by, power_of, with_digit}
use Rattle.capnp_floats.specs.Steps.Digits.{AreDigits, HoldsDigits, IsCapped}

pub tens_more : (c c' : ℕ) → c' ≡ c + 1 → 10 ^ c' ≡ 10 ^ c * 10
tens_more c c' e = ap (λ z. 10 ^ z) e ∙ pow-add 10 c 1

-- ---- one digit more ----

pub keep_fits : (s t : Digits) (d : ℕ) → AreDigits s → d < 10 → s.count < 800 → 0 < s.count + d
    → t.front ≡ s.front * 10 + d → t.count ≡ s.count + 1 → t.cut ≡ s.cut → AreDigits t
keep_fits s t d a h room some ef ec et =
    let p : 10 ^ t.count ≡ 10 ^ s.count * 10 = tens_more s.count t.count ec in
    let f : s.front < 10 ^ s.count = a.small in
    record {
      small = omega arith;
      large = λ m. ⊎_elim
          (λ (l : 0 < s.count).
          let g : 10 ^ (s.count - 1) ≤ s.front = a.large l in
          let q : 10 ^ (t.count - 1) ≡ 10 ^ (s.count - 1) * 10 = tens_more (s.count - 1) (t.count - 1) (omega arith) in
          let r : 10 ^ (t.count - 1) ≤ t.front = omega arith in r)
          (λ (l : s.count ≤ 0).
          let q : 10 ^ (t.count - 1) ≡ 1 = ap (λ z. 10 ^ z) (let e : t.count - 1 ≡ 0 = omega arith in e) in
          let r : 10 ^ (t.count - 1) ≤ t.front = omega arith in r)
          (cases_lt 0 s.count);
      few = omega arith;
      full = λ l. let u : s.count ≡ 800 = a.full (omega arith) in absurd (omega arith);
    }

pub append_fits : (s : Digits) (d : ℕ) → AreDigits s → d < 10 → s.front * 10 + d < large_room
unfolding large_room
append_fits s d a h =
    let f : s.front < 10 ^ s.count = a.small in
    let y : 10 ^ s.count ≤ 10 ^ 800 = pow-le-pow_right {n = 10} (lit< tt) {i = s.count} {j = 800} a.few in
    omega arith

none_cut : (s : Digits) → AreDigits s → s.count < 800 → s.cut ≡ 0
none_cut s a room = ⊎_elim
    (λ (l : 0 < s.cut). let u : s.count ≡ 800 = a.full l in absurd (omega arith))
    (λ (l : s.cut ≤ 0). omega arith)
    (cases_lt 0 s.cut)

pub keep_holds : (s t : Digits) (n d : ℕ) → AreDigits s → s.count < 800 → t.front ≡ s.front * 10 + d → t.cut ≡ s.cut → t.more ≡ s.more
    → HoldsDigits s n → HoldsDigits t (10 * n + d)
keep_holds s t n d a room ef et em h =
    let whole : s.cut ≡ 0 = none_cut s a room in
    let p : 10 ^ s.cut ≡ 1 = ap (λ z. 10 ^ z) whole in
    let q : 10 ^ t.cut ≡ 1 = ap (λ z. 10 ^ z) (et ∙ whole) in
    let l : h.rest < 10 ^ s.cut = h.less in
    let v : n ≡ s.front * 10 ^ s.cut + h.rest = h.value in
    let w : s.front * 10 ^ s.cut ≡ s.front * 1 = ap (λ z. s.front * z) p in
    let x : t.front * 10 ^ t.cut ≡ t.front * 1 = ap (λ z. t.front * z) q in
    record {
      rest = h.rest;
      value = omega arith;
      less = omega arith;
      none_more = λ e. h.none_more (sym em ∙ e);
      some_more = λ e. h.some_more (sym em ∙ e);
    }

pub pass_fits : (s t : Digits) → AreDigits s → s.count ≡ 800 → t.front ≡ s.front → t.count ≡ s.count → AreDigits t
pass_fits s t a full ef ec =
    let p : 10 ^ t.count ≡ 10 ^ s.count = ap (λ z. 10 ^ z) ec in
    let q : 10 ^ (t.count - 1) ≡ 10 ^ (s.count - 1) = ap (λ z. 10 ^ (z - 1)) ec in
    let f : s.front < 10 ^ s.count = a.small in
    let g : 10 ^ (s.count - 1) ≤ s.front = a.large (omega arith) in
    record {
      small = omega arith;
      large = λ l. let r : 10 ^ (t.count - 1) ≤ t.front = omega arith in r;
      few = omega arith;
      full = λ l. ec ∙ full;
    }

pub pass_holds : (s t : Digits) (n d : ℕ) → d < 10 → t.front ≡ s.front → t.cut ≡ s.cut + 1
    → ((d ≡ 0) × (t.more ≡ s.more)) ⊎ ((0 < d) × (t.more ≡ true)) → HoldsDigits s n → HoldsDigits t (10 * n + d)
pass_holds s t n d small ef et em h =
    let p : 10 ^ t.cut ≡ 10 ^ s.cut * 10 = tens_more s.cut t.cut et in
    let l : h.rest < 10 ^ s.cut = h.less in
    let v : n ≡ s.front * 10 ^ s.cut + h.rest = h.value in
    let w : t.front * 10 ^ t.cut ≡ s.front * (10 ^ s.cut * 10) = ap (λ z. z * 10 ^ t.cut) ef ∙ ap (λ z. s.front * z) p in
    record {
      rest = 10 * h.rest + d;
      value = omega arith;
      less = omega arith;
      none_more = λ e. ⊎_elim
          (λ x. let r : h.rest ≡ 0 = h.none_more (sym x.1 ∙ e) in let z : d ≡ 0 = x.0 in let y : 10 * h.rest + d ≡ 0 = omega arith in y)
          (λ x. absurd (both_ways t.more e x.1))
          em;
      some_more = λ e. ⊎_elim
          (λ x. let r : 0 < h.rest = h.some_more (sym x.1 ∙ e) in let y : 0 < 10 * h.rest + d = omega arith in y)
          (λ x. let r : 0 < d = x.0 in let y : 0 < 10 * h.rest + d = omega arith in y)
          em;
    }

-- without a digit that is not 0 the natural is 0
pub holds_zero : (s : Digits) (n : ℕ) → AreDigits s → s.count ≡ 0 → HoldsDigits s n → n ≡ 0
holds_zero s n a none h =
    let whole : s.cut ≡ 0 = none_cut s a (omega arith) in
    let p : 10 ^ s.cut ≡ 1 = ap (λ z. 10 ^ z) whole in
    let q : 10 ^ s.count ≡ 1 = ap (λ z. 10 ^ z) none in
    let f : s.front < 10 ^ s.count = a.small in
    let l : h.rest < 10 ^ s.cut = h.less in
    let v : n ≡ s.front * 10 ^ s.cut + h.rest = h.value in
    let w : s.front * 10 ^ s.cut ≡ s.front * 1 = ap (λ z. s.front * z) p in
    omega arith

pub zero_holds : (s : Digits) (n d : ℕ) → AreDigits s → s.count ≡ 0 → d ≡ 0 → HoldsDigits s n → HoldsDigits s (10 * n + d)
zero_holds s n d a none z h =
    let e : n ≡ 0 = holds_zero s n a none h in
    subst (HoldsDigits s) (let f : n ≡ 10 * n + d = omega arith in f) h

-- all digits are kept
pub holds_whole : (s : Digits) (n : ℕ) → s.cut ≡ 0 → HoldsDigits s n → n ≡ s.front
holds_whole s n whole h =
    let p : 10 ^ s.cut ≡ 1 = ap (λ z. 10 ^ z) whole in
    let l : h.rest < 10 ^ s.cut = h.less in
    let v : n ≡ s.front * 10 ^ s.cut + h.rest = h.value in
    let w : s.front * 10 ^ s.cut ≡ s.front * 1 = ap (λ z. s.front * z) p in
    omega arith

-- ---- bytes ----

pub next_digit : (n : ℕ) (bs : List ℕ) (i : ℕ) → i < length bs → digits_behind (with_digit n (get_or bs i 0)) (drop (i + 1) bs) ≡ digits_behind n (drop i bs)
next_digit n bs i h = sym (ap (digits_behind n) (drop-cons bs i 0 h)
    ∙ ap (λ z. digits_behind (with_digit n (get_or bs i 0)) (drop z bs)) (let e : suc i ≡ i + 1 = omega arith in e))

pub digit_is : (n b : ℕ) → is_ascii_digit b ≡ true → with_digit n b ≡ 10 * n + (b - 48)
digit_is n b e = cond-true (is_ascii_digit b) (10 * n + (b - 48)) n e

pub no_digit_is : (n b : ℕ) → is_ascii_digit b ≡ false → with_digit n b ≡ n
no_digit_is n b e = cond-false (is_ascii_digit b) (10 * n + (b - 48)) n e

pub capped_same : (number n b : ℕ) → is_ascii_digit b ≡ false → IsCapped (2 ^ 120) number n → IsCapped (2 ^ 120) number (with_digit n b)
capped_same number n b d c = subst (λ z. IsCapped (2 ^ 120) number z) (sym (no_digit_is n b d)) c

pub capped_stays : (number n b : ℕ) → 2 ^ 120 ≤ number → IsCapped (2 ^ 120) number n → IsCapped (2 ^ 120) number (with_digit n b)
capped_stays number n b h c =
    let m : 2 ^ 120 ≤ n = ⊎_elim (λ (e : number ≡ n). let r : 2 ^ 120 ≤ n = omega arith in r) (λ x. x.1) c in
    inr (h, cond_both (is_ascii_digit b) (10 * n + (b - 48)) n (λ z. 2 ^ 120 ≤ z) (λ e. omega arith) (λ e. m))

pub capped_goes_on : (number n b : ℕ) → number < 2 ^ 120 → is_ascii_digit b ≡ true → IsCapped (2 ^ 120) number n
    → IsCapped (2 ^ 120) (10 * number + (b - 48)) (with_digit n b)
capped_goes_on number n b h d c = ⊎_elim
    (λ (e : number ≡ n). inl (ap (λ z. 10 * z + (b - 48)) e ∙ sym (digit_is n b d)))
    (λ x. let y : 2 ^ 120 ≤ number = x.0 in absurd (omega arith))
    c

-- ---- powers of ten ----

tens_by : (t : Bool) (a b : ℕ) → tens (cond t (negsuc a) (pos b)) ≡ cond t 0 b
tens_by true a b = refl
tens_by false a b = refl

tenths_by : (t : Bool) (a b : ℕ) → tenths (cond t (negsuc a) (pos b)) ≡ cond t (suc a) 0
tenths_by true a b = refl
tenths_by false a b = refl

pub tens_of_power : (up down : ℕ) → tens (power_of up down) ≡ up - down
tens_of_power up down = tens_by (ltb up down) (down - up - 1) (up - down)
    ∙ cond_both (ltb up down) 0 (up - down) (λ z. z ≡ up - down) (λ e. let l : up < down = ltb-true up down e in omega arith) (λ e. refl)

pub tenths_of_power : (up down : ℕ) → tenths (power_of up down) ≡ down - up
tenths_of_power up down = tenths_by (ltb up down) (down - up - 1) (up - down)
    ∙ cond_both (ltb up down) (suc (down - up - 1)) 0 (λ z. z ≡ down - up)
    (λ e. let l : up < down = ltb-true up down e in omega arith) (λ e. let l : down ≤ up = ltb-false up down e in omega arith)

pub minus_up : (b : Bool) (e p : ℕ) → b ≡ true → tens (exponent_by b e p) ≡ 0
minus_up b e p h = ap (λ z. tens (exponent_by z e p)) h ∙ tens_of_power 0 (p + e) ∙ (let f : 0 - (p + e) ≡ 0 = omega arith in f)

pub minus_down : (b : Bool) (e p : ℕ) → b ≡ true → tenths (exponent_by b e p) ≡ p + e
minus_down b e p h = ap (λ z. tenths (exponent_by z e p)) h ∙ tenths_of_power 0 (p + e) ∙ (let f : p + e - 0 ≡ p + e = omega arith in f)

pub plus_up : (b : Bool) (e p : ℕ) → b ≡ false → tens (exponent_by b e p) ≡ e - p
plus_up b e p h = ap (λ z. tens (exponent_by z e p)) h ∙ tens_of_power e p

pub plus_down : (b : Bool) (e p : ℕ) → b ≡ false → tenths (exponent_by b e p) ≡ p - e
plus_down b e p h = ap (λ z. tenths (exponent_by z e p)) h ∙ tenths_of_power e p

-- what stands for an exponent stands for it with the places too
pub capped_sum : (n e p l : ℕ) → IsCapped (2 ^ 120) n e → l ≡ p + e → IsCapped (2 ^ 119) (p + n) l
capped_sum n e p l c h = ⊎_elim
    (λ (f : n ≡ e). inl (let g : p + n ≡ l = omega arith in g))
    (λ x. let u : 2 ^ 120 ≤ n = x.0 in let v : 2 ^ 120 ≤ e = x.1 in
    inr ((let g : 2 ^ 119 ≤ p + n = omega arith in g), (let g : 2 ^ 119 ≤ l = omega arith in g)))
    c

pub capped_none : (n e p l : ℕ) → IsCapped (2 ^ 120) n e → p ≤ n → p < 2 ^ 64 → l ≡ p - e → IsCapped (2 ^ 119) 0 l
capped_none n e p l c h s f = inl (⊎_elim
    (λ (g : n ≡ e). let r : 0 ≡ l = omega arith in r)
    (λ x. let v : 2 ^ 120 ≤ e = x.1 in let r : 0 ≡ l = omega arith in r)
    c)

pub capped_less : (n e p l : ℕ) → IsCapped (2 ^ 120) n e → p < 2 ^ 64 → l ≡ e - p → IsCapped (2 ^ 119) (n - p) l
capped_less n e p l c s f = ⊎_elim
    (λ (g : n ≡ e). inl (let r : n - p ≡ l = omega arith in r))
    (λ x. let u : 2 ^ 120 ≤ n = x.0 in let v : 2 ^ 120 ≤ e = x.1 in
    inr ((let g : 2 ^ 119 ≤ n - p = omega arith in g), (let g : 2 ^ 119 ≤ l = omega arith in g)))
    c

-- the exponent of a number with more places than that has tenths alone
pub capped_turned : (n e p l : ℕ) → IsCapped (2 ^ 120) n e → n < p → p < 2 ^ 64 → l ≡ p - e → IsCapped (2 ^ 119) (p - n) l
capped_turned n e p l c h s f = inl (⊎_elim
    (λ (g : n ≡ e). let r : p - n ≡ l = omega arith in r)
    (λ x. let u : 2 ^ 120 ≤ n = x.0 in absurd (omega arith))
    c)

pub capped_zero : (n e p l : ℕ) → IsCapped (2 ^ 120) n e → n < p → p < 2 ^ 64 → l ≡ e - p → IsCapped (2 ^ 119) 0 l
capped_zero n e p l c h s f = inl (⊎_elim
    (λ (g : n ≡ e). let r : 0 ≡ l = omega arith in r)
    (λ x. let u : 2 ^ 120 ≤ n = x.0 in absurd (omega arith))
    c)

pub capped_more : (n m x : ℕ) → x < n → x < 2 ^ 119 → IsCapped (2 ^ 119) n m → x < m
capped_more n m x h s c = ⊎_elim (λ (e : n ≡ m). let r : x < m = omega arith in r) (λ y. let u : 2 ^ 119 ≤ m = y.1 in let r : x < m = omega arith in r) c

pub capped_is : (n m : ℕ) → n < 2 ^ 119 → IsCapped (2 ^ 119) n m → n ≡ m
capped_is n m s c = ⊎_elim (λ (e : n ≡ m). e) (λ y. let u : 2 ^ 119 ≤ n = y.0 in absurd (omega arith)) c
