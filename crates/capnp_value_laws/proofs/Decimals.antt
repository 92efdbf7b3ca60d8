-- Each finite float has a decimal, so each float has a text, which is the one that is printed.
use Rattle.std.proofs.Common.{ℕ, zero, suc, ◌≡◌, ◌+◌, ◌-◌, ◌*◌, ◌/◌, ◌%◌, ◌^◌, ◌<◌, ◌≤◌, ◌⊎◌, ⊎_elim, inl, inr, Bool, true, false, ◌++◌, List, codes, refl, sym, ap, ◌∙◌, subst, cond, arith, lit<}
use Rattle.std.proofs.Math.Nat.{pow-suc, pow-zero}
use Rattle.std.proofs.lemmas.Bool.{cases_lt, cases_order, true≢false}
use Rattle.std.proofs.lemmas.Nat.{mul-le, div-add-mod', mod_below}
use lib.IntN.{ℤ, pos, negsuc}
use Rattle.capnp_floats.specs.Floats.{IsDecimalOf, fraction, gap_below, interval_of, is_finite, place, quarter_places, significand}
use Rattle.capnp_floats.specs.Layout.{IsFloatText, is_negative, layout, sign_text}
use Rattle.capnp_floats.specs.Shortest.{Interval, IsRounded, IsShortest, Lies, reaches, tens, tenths}
use Rattle.capnp_floats.specs.Steps.Intervals.{interval}
use Rattle.capnp_floats.specs.declared.width.Width.{Width}
use Rattle.capnp_floats.proofs.Finding.{to_shortest}
use Rattle.capnp_floats.proofs.Nearing.{power_positive}
use Rattle.capnp_floats.proofs.Reaching.{past, reached}
use Rattle.capnp_floats.proofs.Rounding.{ceiling_rounded, floor_rounded, low_scaled, high_scaled, never_above, never_below}
use Rattle.capnp_floats.proofs.Unique.{one_decimal}
use Rattle.capnp_float_texts.specs.Numbers.{float_bytes}
use Rattle.capnp_float_texts.proofs.OneText.{one_text}

-- ---- in one unit ----

-- nothing lies in an interval, or something that is nearest to its value
abbrev NoneOrNearest : Interval → Type 0
NoneOrNearest i = ((n : ℕ) → Lies i n → ⊥) ⊎ ((d : ℕ) × IsRounded i d)

-- the natural below the value, or the one above
module _ (ends : Bool) (s d r b a : ℕ) (less : r < s) (below : 0 < b) (above : 0 < a) (coarse : (n : ℕ) → Lies (interval ends s (d * s + r) b a) (10 * n) → ⊥) where
  abbrev around : Interval
  around = interval ends s (d * s + r) b a

  of_two : reaches ends b r ≡ true → reaches ends (r + a) s ≡ true → NoneOrNearest around
  of_two low high = ⊎_elim
      (λ (same : r + r ≡ s). ⊎_elim
      (λ (even : d % 2 < 1). inr (d, floor_rounded ends s d r b a less above low coarse (λ n l m. inr (same, (let e : d % 2 ≡ 0 = omega arith in e)))))
      (λ (odd : 1 ≤ d % 2).
      let m : d % 2 < 2 = mod_below d 2 (lit< tt) in
      let e : (d + 1) % 2 ≡ 0 = omega arith in
      inr (d + 1, ceiling_rounded ends s d r b a less below high coarse (λ n l k. inr (same, e))))
      (cases_lt (d % 2) 1))
      (λ other. ⊎_elim
      (λ (nearer : r + r < s). inr (d, floor_rounded ends s d r b a less above low coarse (λ n l m. inl nearer)))
      (λ (nearer : s < r + r). inr (d + 1, ceiling_rounded ends s d r b a less below high coarse (λ n l m. inl nearer)))
      other)
      (cases_order (r + r) s)

  pick : (x y : Bool) → reaches ends b r ≡ x → reaches ends (r + a) s ≡ y → NoneOrNearest around
  pick false false low high = inl (λ n l.
      let k : n ≤ d = never_above ends s d r b a n high l in
      let m : d < n = never_below ends s d r b a n low l in
      absurd (omega arith))
  pick true false low high = inr (d, floor_rounded ends s d r b a less above low coarse (λ n l m. let k : n ≤ d = never_above ends s d r b a n high l in absurd (omega arith)))
  pick false true low high = inr (d + 1, ceiling_rounded ends s d r b a less below high coarse (λ n l m. let k : d < n = never_below ends s d r b a n low l in absurd (omega arith)))
  pick true true low high = of_two low high

  none_or_nearest : NoneOrNearest around
  none_or_nearest = pick (reaches ends b r) (reaches ends (r + a) s) refl refl

-- where a unit is less than what is above the value, a natural lies in between
lies_next : (ends : Bool) (s d r b a : ℕ) → r < s → 0 < b → s < a → Lies (interval ends s (d * s + r) b a) (d + 1)
lies_next ends s d r b a less below wide = record {
  above_low = past ends ((d + 1) * s + b) (d * s + r) (omega arith);
  below_high = past ends (d * s + r + a) ((d + 1) * s) (omega arith);
}

-- ---- in units of a tenth each ----

tenfold : (x m : ℕ) → x * 10 ^ suc m ≡ x * 10 ^ m * 10
tenfold x m = ap (λ z. x * z) (pow-suc 10 m) ∙ (let e : x * (10 ^ m * 10) ≡ x * 10 ^ m * 10 = omega arith in e)

module _ (ends : Bool) (s v b a : ℕ) (unit : 0 < s) (below : 0 < b) (above : 0 < a) where
  -- the interval in the m-th tenths of a unit
  abbrev within : ℕ → Interval
  within m = interval ends s (v * 10 ^ m) (b * 10 ^ m) (a * 10 ^ m)

  lies_tenth : (m n : ℕ) → Lies (within (suc m)) (10 * n) → Lies (within m) n
  lies_tenth m n l = record {
    above_low = sym (low_scaled ends 10 s (v * 10 ^ m) (b * 10 ^ m) n (lit< tt))
        ∙ (ap (λ z. reaches ends z (v * 10 ^ m * 10)) (low (b * 10 ^ m) (b * 10 ^ suc m) (tenfold b m)) ∙ (ap (λ z. reaches ends (10 * n * s + b * 10 ^ suc m) z) (sym (tenfold v m)) ∙ l.above_low));
    below_high = sym (high_scaled ends 10 s (v * 10 ^ m) (a * 10 ^ m) n (lit< tt))
        ∙ (ap (λ z. reaches ends z (n * (s * 10))) (high (v * 10 ^ m) (v * 10 ^ suc m) (a * 10 ^ m) (a * 10 ^ suc m) (tenfold v m) (tenfold a m))
        ∙ (ap (λ z. reaches ends (v * 10 ^ suc m + a * 10 ^ suc m) z) times ∙ l.below_high));
  }
    where
      low : (x y : ℕ) → y ≡ x * 10 → n * (s * 10) + x * 10 ≡ 10 * n * s + y
      low x y e = omega (arith, e)

      high : (x y z w : ℕ) → y ≡ x * 10 → w ≡ z * 10 → x * 10 + z * 10 ≡ y + w
      high x y z w e f = omega (arith, e, f)

      times : n * (s * 10) ≡ 10 * n * s
      times = omega arith

  scaled_positive : (x m : ℕ) → 0 < x → 0 < x * 10 ^ m
  scaled_positive x m p =
      let q : 0 < 10 ^ m = power_positive 10 m (lit< tt) in
      let h : 1 * 1 ≤ x * 10 ^ m = mul-le 1 1 x (10 ^ m) (omega (arith, p)) (omega (arith, q)) in
      omega (arith, h)

  split : (m : ℕ) → v * 10 ^ m / s * s + v * 10 ^ m % s ≡ v * 10 ^ m
  split m = div-add-mod' (v * 10 ^ m) s

  in_tenths : (m : ℕ) → ((n : ℕ) → Lies (within m) (10 * n) → ⊥) → NoneOrNearest (within m)
  in_tenths m coarse =
      subst (λ z. NoneOrNearest (interval ends s z (b * 10 ^ m) (a * 10 ^ m))) (split m)
      (none_or_nearest ends s (v * 10 ^ m / s) (v * 10 ^ m % s) (b * 10 ^ m) (a * 10 ^ m) (mod_below (v * 10 ^ m) s unit) (scaled_positive b m below) (scaled_positive a m above)
      (subst (λ z. (n : ℕ) → Lies (interval ends s z (b * 10 ^ m) (a * 10 ^ m)) (10 * n) → ⊥) (sym (split m)) coarse))

  abbrev Found : Type 0
  Found = (m : ℕ) × (d : ℕ) × IsRounded (within m) d

  found_or : (m : ℕ) → (((n : ℕ) → Lies (within m) n → ⊥) → Found) → NoneOrNearest (within m) → Found
  found_or m next (inl none) = next none
  found_or m next (inr found) = (m, found.0, found.1)

  -- the first tenths in which something lies, behind some in which nothing does
  found_from : (fuel m : ℕ) → ((n : ℕ) → Lies (within m) n → ⊥) → s < a * 10 ^ (m + fuel) → Found
  found_from zero m none wide =
      let e : s < a * 10 ^ m = subst (λ z. s < a * 10 ^ z) (let f : m + 0 ≡ m = omega arith in f) wide in
      absurd (none (v * 10 ^ m / s + 1) (subst (λ z. Lies (interval ends s z (b * 10 ^ m) (a * 10 ^ m)) (v * 10 ^ m / s + 1)) (split m)
      (lies_next ends s (v * 10 ^ m / s) (v * 10 ^ m % s) (b * 10 ^ m) (a * 10 ^ m) (mod_below (v * 10 ^ m) s unit) (scaled_positive b m below) e)))
  found_from (suc fuel) m none wide =
      found_or (suc m) (λ more. found_from fuel (suc m) more (subst (λ z. s < a * 10 ^ z) (let f : m + suc fuel ≡ suc m + fuel = omega arith in f) wide))
      (in_tenths (suc m) (λ n l. none n (lies_tenth m n l)))

  none_first : b < v → v + a < s → (n : ℕ) → Lies (within 0) n → ⊥
  none_first low high zero l =
      let e : 10 ^ 0 ≡ 1 = pow-zero 10 in
      let h : v * 10 ^ 0 ≤ 0 * s + b * 10 ^ 0 = reached ends (0 * s + b * 10 ^ 0) (v * 10 ^ 0) l.above_low in
      omega arith
  none_first low high (suc n) l =
      let e : 10 ^ 0 ≡ 1 = pow-zero 10 in
      let h : suc n * s ≤ v * 10 ^ 0 + a * 10 ^ 0 = reached ends (v * 10 ^ 0 + a * 10 ^ 0) (suc n * s) l.below_high in
      let k : 1 * s ≤ suc n * s = mul-le 1 s (suc n) s (omega arith) (omega arith) in
      omega arith

-- ---- the shortest decimal ----

power_grows : (n : ℕ) → n < 10 ^ n
power_grows zero = power_positive 10 0 (lit< tt)
power_grows (suc n) = let p : n < 10 ^ n = power_grows n in let e : 10 ^ suc n ≡ 10 ^ n * 10 = pow-suc 10 n in omega arith

exponent_of : (up down : ℕ) → (k : ℤ) × (up + tenths k ≡ down + tens k)
exponent_of up zero = (pos up, omega arith)
exponent_of zero (suc down) = (negsuc down, omega arith)
exponent_of (suc up) (suc down) = let h = exponent_of up down in (h.0, omega (arith, h.1))

has_shortest : (i : Interval) → 0 < i.one → 0 < i.below → i.below < i.value → 0 < i.above → (d : ℕ) × (k : ℤ) × IsShortest i d k
has_shortest i one below low above = (found.1, k.0, to_shortest i.has_ends i.one i.value i.below i.above found.1 (i.value + i.above) found.0 k.0 k.1 found.2)
  where
    large : i.value + i.above < i.one * 10 ^ (i.value + i.above)
    large =
        let p : i.value + i.above < 10 ^ (i.value + i.above) = power_grows (i.value + i.above) in
        let q : 1 * 10 ^ (i.value + i.above) ≤ i.one * 10 ^ (i.value + i.above) = mul-le 1 (10 ^ (i.value + i.above)) i.one (10 ^ (i.value + i.above)) (omega arith) (omega arith) in
        omega arith

    unit : 0 < i.one * 10 ^ (i.value + i.above)
    unit = omega (arith, large)

    wide : (n : ℕ) → n < i.above * 10 ^ (0 + n)
    wide n =
        let p : n < 10 ^ n = power_grows n in
        let q : 1 * 10 ^ n ≤ i.above * 10 ^ n = mul-le 1 (10 ^ n) i.above (10 ^ n) (omega arith) (omega arith) in
        let r : n < i.above * 10 ^ n = omega arith in
        subst (λ z. n < i.above * 10 ^ z) (let e : n ≡ 0 + n = omega arith in e) r

    found : Found i.has_ends (i.one * 10 ^ (i.value + i.above)) i.value i.below i.above unit below above
    found = found_from i.has_ends (i.one * 10 ^ (i.value + i.above)) i.value i.below i.above unit below above (i.one * 10 ^ (i.value + i.above)) 0
        (none_first i.has_ends (i.one * 10 ^ (i.value + i.above)) i.value i.below i.above unit below above low large) (wide (i.one * 10 ^ (i.value + i.above)))

    k : (k : ℤ) × (i.value + i.above + tenths k ≡ found.0 + tens k)
    k = exponent_of (i.value + i.above) found.0

-- ---- floats ----

gap_some : (q : Bool) → 1 ≤ cond q 1 2
gap_some true = omega arith
gap_some false = omega arith

gap_few : (q : Bool) → cond q 1 2 ≤ 2
gap_few true = omega arith
gap_few false = omega arith

float_shortest : (w : Width) (bits : ℕ) → 0 < significand w bits → (d : ℕ) × (k : ℤ) × IsShortest (interval_of w bits) d k
float_shortest w bits some = has_shortest (interval_of w bits) (power_positive 2 (quarter_places w - place w bits) (lit< tt)) below low above
  where
    power : 0 < 2 ^ (place w bits - quarter_places w)
    power = power_positive 2 (place w bits - quarter_places w) (lit< tt)

    below : 0 < gap_below w bits * 2 ^ (place w bits - quarter_places w)
    below =
        let gap : 1 ≤ gap_below w bits = gap_some _ in
        let h : 1 * 1 ≤ gap_below w bits * 2 ^ (place w bits - quarter_places w) = mul-le 1 1 (gap_below w bits) (2 ^ (place w bits - quarter_places w)) gap (omega (arith, power)) in
        omega (arith, h)

    low : gap_below w bits * 2 ^ (place w bits - quarter_places w) < 4 * significand w bits * 2 ^ (place w bits - quarter_places w)
    low =
        let p : 0 < 2 ^ (place w bits - quarter_places w) = power in
        let gap : gap_below w bits ≤ 2 = gap_few _ in
        let l : gap_below w bits * 2 ^ (place w bits - quarter_places w) ≤ 2 * 2 ^ (place w bits - quarter_places w) = mul-le _ _ 2 _ gap (omega arith) in
        let m : 4 * 2 ^ (place w bits - quarter_places w) ≤ 4 * significand w bits * 2 ^ (place w bits - quarter_places w) = mul-le 4 _ (4 * significand w bits) _ (omega arith) (omega arith) in
        omega arith

    above : 0 < 2 * 2 ^ (place w bits - quarter_places w)
    above = let p : 0 < 2 ^ (place w bits - quarter_places w) = power in omega arith

has_decimal : (w : Width) (bits : ℕ) → (d : ℕ) × (k : ℤ) × IsDecimalOf w bits d k
has_decimal w bits = ⊎_elim
    (λ (some : 0 < significand w bits).
    let h = float_shortest w bits some in
    (h.0, h.1, record { zero_is = λ e. absurd (omega (arith, some, e)); shortest = λ l. h.2 }))
    (λ (none : significand w bits ≤ 0). (0, pos 0, record { zero_is = λ e. (refl, refl); shortest = λ l. absurd (omega (arith, none, l)) }))
    (cases_lt 0 (significand w bits))

-- ---- texts ----

has_text : (w : Width) (bits : ℕ) → (text : List ℕ) × IsFloatText w bits text
has_text w bits = of_kind (is_finite w bits) refl
  where
    of_fraction : (n : ℕ) → fraction w bits ≡ n → is_finite w bits ≡ false → (text : List ℕ) × IsFloatText w bits text
    of_fraction zero is not_finite =
        (sign_text (is_negative w bits) ++ codes "inf", record { finite = λ e. absurd (true≢false (sym e ∙ not_finite)); infinite = λ e z. refl; none = λ e some. absurd (omega (arith, some, is)) })
    of_fraction (suc n) is not_finite = (codes "nan", record { finite = λ e. absurd (true≢false (sym e ∙ not_finite)); infinite = λ e z. absurd (omega (arith, z, is)); none = λ e some. refl })

    of_kind : (q : Bool) → is_finite w bits ≡ q → (text : List ℕ) × IsFloatText w bits text
    of_kind true is =
        let h = has_decimal w bits in
        (sign_text (is_negative w bits) ++ layout w h.0 h.1, record { finite = λ e. (h.0, h.1, h.2, refl); infinite = λ e z. absurd (true≢false (sym is ∙ e)); none = λ e some. absurd (true≢false (sym is ∙ e)) })
    of_kind false is = of_fraction (fraction w bits) refl is

-- what is printed of a float is its text
pub float_text : (w : Width) (bits : ℕ) → IsFloatText w bits (float_bytes w bits)
float_text w bits = let h = has_text w bits in subst (IsFloatText w bits) (sym (one_text one_decimal w bits h.0 h.1)) h.1
