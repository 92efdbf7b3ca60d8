-- A decimal that lies in a number's interval is nearer to it than to any other.
use Rattle.std.proofs.Common.{ℕ, zero, suc, ◌≡◌, ◌+◌, ◌-◌, ◌*◌, ◌/◌, ◌%◌, ◌^◌, ◌<◌, ◌≤◌, ◌==◌, ◌&&◌, ◌⊎◌, ⊎_elim, inl, inr, Bool, true, false, cond, ltb, refl, sym, ap, ◌∙◌, subst, arith, lit<}
use Rattle.std.proofs.lemmas.Nat.{pow-add}
use Rattle.std.proofs.lemmas.Bool.{cases_lt, cases_order, ltb-true}
use Rattle.std.proofs.lemmas.Bool.Decides.{nat_tests}
use lib.IntN.{ℤ}
use Rattle.capnp_floats.specs.declared.width.Width.{Width}
use Rattle.capnp_floats.specs.declared.width.Width.TheVariants.{Float32, Float64}
use Rattle.capnp_floats.specs.Shortest.{Interval, Lies, apart_by, in_units, reaches, tens, tenths}
use Rattle.capnp_floats.specs.Floats.{exponent, fraction, fraction_bits, gap_below, interval_of, is_finite, place, quarter_places, significand}
use Rattle.capnp_floats.specs.Nearest.{IsNearest, decimal_numbers, far_from, infinity_bits, least_numbers, least_places}
use Rattle.capnp_floats.specs.Steps.Nearing.{twice_middle}
use Rattle.capnp_floats.specs.Laws.{DecimalsAreRead, OneIsNearest, without_sign}
use Rattle.capnp_floats.proofs.Reaching.{reached, reaches_times}
use Rattle.capnp_floats.proofs.Nearing.{low_is_nearest, more_than, more_than_parts, next_is_nearest, next_number, numbers_are, power_positive, zero_is_zero}

-- ---- one number alone is the nearest ----

-- two that are as near have a third between them that is nearer
pub between_is_nearer : (a b c d : ℕ) → a < c → c < b → apart_by a d ≡ apart_by b d → apart_by a d ≤ apart_by c d → ⊥
between_is_nearer a b c d h f e g = omega arith

not_two : (w : Width) (d : ℕ) (k : ℤ) (a b : ℕ) → a < b → IsNearest w d k a → IsNearest w d k b → ⊥
not_two w d k a b l x y = ⊎_elim
    (λ (m : far_from w d k a < far_from w d k b). ⊎_elim
    (λ (n : far_from w d k b < far_from w d k a). absurd (omega arith))
    (λ n. let e : far_from w d k b ≡ far_from w d k a = n.0 in absurd (omega arith))
    (y.nearest a x.finite (λ e. omega arith)))
    (λ m.
    let e : far_from w d k a ≡ far_from w d k b = m.0 in
    let even : a % 2 ≡ 0 = m.1 in
    ⊎_elim
    (λ (n : far_from w d k b < far_from w d k a). absurd (omega arith))
    (λ n.
    let even' : b % 2 ≡ 0 = n.1 in
    let f : b < infinity_bits w = y.finite in
    let p : 0 < 10 ^ tenths k = power_positive 10 (tenths k) (lit< tt) in
    let low : least_numbers w a * 10 ^ tenths k < least_numbers w (a + 1) * 10 ^ tenths k = more_than_parts w (10 ^ tenths k) a (a + 1) p (omega arith) (omega arith) in
    let high : least_numbers w (a + 1) * 10 ^ tenths k < least_numbers w b * 10 ^ tenths k = more_than_parts w (10 ^ tenths k) (a + 1) b p (omega arith) (omega arith) in
    between_is_nearer (least_numbers w a * 10 ^ tenths k) (least_numbers w b * 10 ^ tenths k) (least_numbers w (a + 1) * 10 ^ tenths k) (decimal_numbers w d k) low high e
    (⊎_elim
    (λ (o : far_from w d k a < far_from w d k (a + 1)). let q : far_from w d k a ≤ far_from w d k (a + 1) = omega arith in q)
    (λ o. let r : far_from w d k a ≡ far_from w d k (a + 1) = o.0 in let q : far_from w d k a ≤ far_from w d k (a + 1) = omega arith in q)
    (x.nearest (a + 1) (omega arith) (λ r. omega arith))))
    (y.nearest a x.finite (λ r. omega arith)))
    (x.nearest b y.finite (λ r. omega arith))

pub one_nearest : OneIsNearest
one_nearest w d k a b x y = ⊎_elim (λ e. e) (λ m. ⊎_elim
    (λ (l : a < b). absurd (not_two w d k a b l x y))
    (λ (l : b < a). absurd (not_two w d k b a l y x)) m) (cases_order a b)

-- ---- a number's parts without its sign ----

same_fraction : (w : Width) (bits : ℕ) → fraction w bits ≡ fraction w (without_sign w bits)
same_fraction Float32 bits = omega arith
same_fraction Float64 bits = omega arith

same_exponent : (w : Width) (bits : ℕ) → exponent w bits ≡ exponent w (without_sign w bits)
same_exponent Float32 bits = omega arith
same_exponent Float64 bits = omega arith

abbrev significand_by : Width → ℕ → ℕ → ℕ
significand_by w fr ex = cond (ex == 0) fr (fr + 2 ^ fraction_bits w)

abbrev gap_by : ℕ → ℕ → ℕ
gap_by fr ex = cond ((fr == 0) && ltb 1 ex) 1 2

abbrev interval_by : Width → ℕ → ℕ → Interval
interval_by w fr ex = record {
  one = 2 ^ (quarter_places w - (ex - 1));
  value = 4 * significand_by w fr ex * 2 ^ (ex - 1 - quarter_places w);
  below = gap_by fr ex * 2 ^ (ex - 1 - quarter_places w);
  above = 2 * 2 ^ (ex - 1 - quarter_places w);
  has_ends = significand_by w fr ex % 2 == 0;
}

same_interval : (w : Width) (bits : ℕ) → interval_of w bits ≡ interval_of w (without_sign w bits)
same_interval w bits =
    ap (λ z. interval_by w z (exponent w bits)) (same_fraction w bits)
    ∙ ap (λ z. interval_by w (fraction w (without_sign w bits)) z) (same_exponent w bits)

same_significand : (w : Width) (bits : ℕ) → significand w bits ≡ significand w (without_sign w bits)
same_significand w bits =
    ap (λ z. significand_by w z (exponent w bits)) (same_fraction w bits)
    ∙ ap (λ z. significand_by w (fraction w (without_sign w bits)) z) (same_exponent w bits)

below_infinity : (w : Width) (bits : ℕ) → is_finite w bits ≡ true → without_sign w bits < infinity_bits w
below_infinity Float32 bits h = let l : bits / 2 ^ 23 % 2 ^ 8 < 2 ^ 8 - 1 = ltb-true _ _ h in omega arith
below_infinity Float64 bits h = let l : bits / 2 ^ 52 % 2 ^ 11 < 2 ^ 11 - 1 = ltb-true _ _ h in omega arith

-- ---- its neighbours ----

-- the fraction's last bit is the significand's
odd_by : (f end : ℕ) (t : Bool) → end % 2 ≡ 0 → cond t f (f + end) % 2 ≡ f % 2
odd_by f end true h = refl
odd_by f end false h = omega arith

same_parity : (w : Width) (b : ℕ) → significand w b % 2 ≡ b % 2
same_parity Float32 b = odd_by (b % 2 ^ 23) (2 ^ 23) (b / 2 ^ 23 % 2 ^ 8 == 0) refl ∙ (let e : b % 2 ^ 23 % 2 ≡ b % 2 = omega arith in e)
same_parity Float64 b = odd_by (b % 2 ^ 52) (2 ^ 52) (b / 2 ^ 52 % 2 ^ 11 == 0) refl ∙ (let e : b % 2 ^ 52 % 2 ≡ b % 2 = omega arith in e)

pub positive_bits : (w : Width) (b : ℕ) → 0 < significand w b → 0 < b
positive_bits Float32 zero h = absurd (omega arith)
positive_bits Float64 zero h = absurd (omega arith)
positive_bits w (suc b) h = omega arith

pub zero_bits : (w : Width) (b : ℕ) → b < infinity_bits w → significand w b ≡ 0 → b ≡ 0
zero_bits w b f h = ⊎_elim
    (λ (l : 0 < b).
    let m : least_numbers w 0 < least_numbers w b = more_than w 0 b l (omega arith) in
    let e : least_numbers w b ≡ 0 * 2 ^ place w b = numbers_are w b ∙ ap (λ z. z * 2 ^ place w b) h in
    absurd (omega arith))
    (λ (l : b ≤ 0). omega arith)
    (cases_lt 0 b)

-- the gap below is twice the last place of the number before, in quarters
gap_power : (f e f' e' : ℕ) → ((f ≡ 0) × (1 < e) × (e' + 1 ≡ e)) ⊎ (((f ≡ 0) → e ≤ 1) × (e' - 1 ≡ e - 1)) → gap_by f e * 2 ^ (e - 1) ≡ 2 * 2 ^ (e' - 1)
gap_power f e f' e' (inl h) =
    let t : ((f == 0) && ltb 1 e) ≡ true = grind (arith, nat_tests, h.0, h.1) in
    let r : e' + 1 ≡ e = h.2 in
    let l : 1 < e = h.1 in
    ap (λ z. cond z 1 2 * 2 ^ (e - 1)) t ∙ ap (λ z. 1 * 2 ^ z) (let q : e - 1 ≡ (e' - 1) + 1 = omega arith in q)
    ∙ ap (λ z. 1 * z) (pow-add 2 (e' - 1) 1) ∙ (let q : 1 * (2 ^ (e' - 1) * 2) ≡ 2 * 2 ^ (e' - 1) = omega arith in q)
gap_power f e f' e' (inr h) =
    let n : (f ≡ 0) → e ≤ 1 = h.0 in
    let t : ((f == 0) && ltb 1 e) ≡ false = grind (arith, nat_tests, n) in
    ap (λ z. cond z 1 2 * 2 ^ (e - 1)) t ∙ ap (λ z. 2 * 2 ^ z) (sym h.1)

gap_is : (w : Width) (b : ℕ) → 0 < b → b < infinity_bits w → gap_below w b * 2 ^ place w b ≡ 2 * 2 ^ place w (b - 1)
gap_is Float32 b h f = gap_power (b % 2 ^ 23) (b / 2 ^ 23 % 2 ^ 8) 0 ((b - 1) / 2 ^ 23 % 2 ^ 8)
    (⊎_elim
    (λ (l : 0 < b % 2 ^ 23). inr ((λ e. omega arith), omega arith))
    (λ (l : b % 2 ^ 23 ≤ 0). ⊎_elim
    (λ (m : 1 < b / 2 ^ 23 % 2 ^ 8). inl (omega arith, m, omega arith))
    (λ (m : b / 2 ^ 23 % 2 ^ 8 ≤ 1). inr ((λ e. m), omega arith))
    (cases_lt 1 (b / 2 ^ 23 % 2 ^ 8)))
    (cases_lt 0 (b % 2 ^ 23)))
gap_is Float64 b h f = gap_power (b % 2 ^ 52) (b / 2 ^ 52 % 2 ^ 11) 0 ((b - 1) / 2 ^ 52 % 2 ^ 11)
    (⊎_elim
    (λ (l : 0 < b % 2 ^ 52). inr ((λ e. omega arith), omega arith))
    (λ (l : b % 2 ^ 52 ≤ 0). ⊎_elim
    (λ (m : 1 < b / 2 ^ 52 % 2 ^ 11). inl (omega arith, m, omega arith))
    (λ (m : b / 2 ^ 52 % 2 ^ 11 ≤ 1). inr ((λ e. m), omega arith))
    (cases_lt 1 (b / 2 ^ 52 % 2 ^ 11)))
    (cases_lt 0 (b % 2 ^ 52)))

-- ---- the interval in quarters of the least number ----

powers_join : (a b p q : ℕ) → p ≡ a + b → q ≡ 2 ^ b → 2 ^ a * q ≡ 2 ^ p
powers_join a b p q e f = ap (λ z. 2 ^ a * z) f ∙ sym (pow-add 2 a b) ∙ ap (λ z. 2 ^ z) (sym e)

quarters : (w : Width) → 2 ^ quarter_places w ≡ 4 * 2 ^ least_places w
quarters Float32 = refl
quarters Float64 = refl

-- what lies between the ends, over whole powers of two
low_end : (ends : Bool) (d s g t u p q : ℕ) → reaches ends (d * (2 ^ (q - p) * u) + g * 2 ^ (p - q) * t) (4 * s * 2 ^ (p - q) * t) ≡ true
    → reaches ends (d * u * 2 ^ q + g * 2 ^ p * t) (4 * (s * 2 ^ p) * t) ≡ true
low_end ends d s g t u p q h =
    let c : ℕ = 2 ^ (p - (p - q)) in
    let e : 2 ^ (q - p) * 2 ^ (p - (p - q)) ≡ 2 ^ q = powers_join (q - p) (p - (p - q)) q (2 ^ (p - (p - q))) (omega arith) refl in
    let f : 2 ^ (p - q) * 2 ^ (p - (p - q)) ≡ 2 ^ p = powers_join (p - q) (p - (p - q)) p (2 ^ (p - (p - q))) (omega arith) refl in
    let r : 0 < 2 ^ (p - (p - q)) = power_positive 2 (p - (p - q)) (lit< tt) in
    ap (λ z. reaches ends (d * u * z + g * 2 ^ p * t) (4 * (s * 2 ^ p) * t)) (sym e)
    ∙ ap (λ z. reaches ends (d * u * (2 ^ (q - p) * 2 ^ (p - (p - q))) + g * z * t) (4 * (s * z) * t)) (sym f)
    ∙ ap (λ z. reaches ends z (4 * (s * (2 ^ (p - q) * 2 ^ (p - (p - q)))) * t)) (left_side d g u t (2 ^ (q - p)) (2 ^ (p - q)) (2 ^ (p - (p - q))))
    ∙ ap (λ z. reaches ends ((d * (2 ^ (q - p) * u) + g * 2 ^ (p - q) * t) * 2 ^ (p - (p - q))) z) (right_side s t (2 ^ (p - q)) (2 ^ (p - (p - q))))
    ∙ reaches_times ends (2 ^ (p - (p - q))) (d * (2 ^ (q - p) * u) + g * 2 ^ (p - q) * t) (4 * s * 2 ^ (p - q) * t) r ∙ h
  where
    left_side : (d g u t x y c : ℕ) → d * u * (x * c) + g * (y * c) * t ≡ (d * (x * u) + g * y * t) * c
    left_side d g u t x y c = omega arith

    right_side : (s t y c : ℕ) → 4 * (s * (y * c)) * t ≡ 4 * s * y * t * c
    right_side s t y c = omega arith

high_end : (ends : Bool) (d s t u p q : ℕ) → reaches ends (4 * s * 2 ^ (p - q) * t + 2 * 2 ^ (p - q) * t) (d * (2 ^ (q - p) * u)) ≡ true
    → reaches ends (4 * (s * 2 ^ p) * t + 2 * 2 ^ p * t) (d * u * 2 ^ q) ≡ true
high_end ends d s t u p q h =
    let e : 2 ^ (q - p) * 2 ^ (p - (p - q)) ≡ 2 ^ q = powers_join (q - p) (p - (p - q)) q (2 ^ (p - (p - q))) (omega arith) refl in
    let f : 2 ^ (p - q) * 2 ^ (p - (p - q)) ≡ 2 ^ p = powers_join (p - q) (p - (p - q)) p (2 ^ (p - (p - q))) (omega arith) refl in
    let r : 0 < 2 ^ (p - (p - q)) = power_positive 2 (p - (p - q)) (lit< tt) in
    ap (λ z. reaches ends (4 * (s * 2 ^ p) * t + 2 * 2 ^ p * t) (d * u * z)) (sym e)
    ∙ ap (λ z. reaches ends (4 * (s * z) * t + 2 * z * t) (d * u * (2 ^ (q - p) * 2 ^ (p - (p - q))))) (sym f)
    ∙ ap (λ z. reaches ends z (d * u * (2 ^ (q - p) * 2 ^ (p - (p - q))))) (left_side s t (2 ^ (p - q)) (2 ^ (p - (p - q))))
    ∙ ap (λ z. reaches ends ((4 * s * 2 ^ (p - q) * t + 2 * 2 ^ (p - q) * t) * 2 ^ (p - (p - q))) z) (right_side d u (2 ^ (q - p)) (2 ^ (p - (p - q))))
    ∙ reaches_times ends (2 ^ (p - (p - q))) (4 * s * 2 ^ (p - q) * t + 2 * 2 ^ (p - q) * t) (d * (2 ^ (q - p) * u)) r ∙ h
  where
    left_side : (s t y c : ℕ) → 4 * (s * (y * c)) * t + 2 * (y * c) * t ≡ (4 * s * y * t + 2 * y * t) * c
    left_side s t y c = omega arith

    right_side : (d u x c : ℕ) → d * u * (x * c) ≡ d * (x * u) * c
    right_side d u x c = omega arith

-- an end is reached where it belongs, and else passed
ends_even : (n x y : ℕ) → reaches (n % 2 == 0) x y ≡ true → (y < x) ⊎ ((x ≡ y) × (n % 2 ≡ 0))
ends_even n x y h = ⊎_elim
    (λ (l : y < x). inl l)
    (λ (m : x ≤ y). ⊎_elim
    (λ (o : n % 2 < 1).
    let r : y ≤ x = reached (n % 2 == 0) x y h in inr (omega arith, omega arith))
    (λ (o : 1 ≤ n % 2).
    let t : (n % 2 == 0) ≡ false = grind (arith, nat_tests) in
    let r : reaches false x y ≡ true = subst (λ (b : Bool). reaches b x y ≡ true) t h in
    let q : y < x = ltb-true y x r in absurd (omega arith))
    (cases_lt (n % 2) 1))
    (cases_lt y x)

-- ---- a decimal in the interval ----

-- a number and the one before it, and the gaps above and below, all in least numbers over the tenths
record HasGaps (w : Width) (b : ℕ) (k : ℤ) (u v x y : ℕ) : Type 0 where
  -- the number
  here : u ≡ least_numbers w b * 10 ^ tenths k
  -- the one before it
  before : v ≡ least_numbers w (b - 1) * 10 ^ tenths k
  -- the gap between them
  rise : u ≡ v + y
  -- twice the middle of the number and the next
  upper : twice_middle w (10 ^ tenths k) b ≡ 2 * u + x
  -- twice the middle of the number and the one before it
  lower : twice_middle w (10 ^ tenths k) (b - 1) ≡ 2 * u - y

lies_is_nearest : (w : Width) (b d : ℕ) (k : ℤ) → b < infinity_bits w → 0 < b → Lies (in_units (tens k) (tenths k) (interval_of w b)) d → IsNearest w d k b
lies_is_nearest w b d k finite some lies =
    let p : 0 < 10 ^ tenths k = power_positive 10 (tenths k) (lit< tt) in
    let s : least_numbers w b ≡ significand w b * 2 ^ place w b = numbers_are w b in
    let quarter : d * 10 ^ tens k * 2 ^ quarter_places w ≡ 4 * decimal_numbers w d k =
    ap (λ z. d * 10 ^ tens k * z) (quarters w) ∙ (let e : d * 10 ^ tens k * (4 * 2 ^ least_places w) ≡ 4 * (d * 10 ^ tens k * 2 ^ least_places w) = omega arith in e) in
    let value : 4 * (significand w b * 2 ^ place w b) * 10 ^ tenths k ≡ 4 * (least_numbers w b * 10 ^ tenths k) =
    ap (λ z. 4 * z * 10 ^ tenths k) (sym s) ∙ (let e : 4 * least_numbers w b * 10 ^ tenths k ≡ 4 * (least_numbers w b * 10 ^ tenths k) = omega arith in e) in
    let odd : significand w b % 2 ≡ b % 2 = same_parity w b in
    let after : least_numbers w (b + 1) ≡ least_numbers w b + 2 ^ place w b = next_number w b finite in
    let before : least_numbers w (b - 1 + 1) ≡ least_numbers w (b - 1) + 2 ^ place w (b - 1) = next_number w (b - 1) (omega arith) in
    let again : b - 1 + 1 ≡ b = omega arith in
    let here : least_numbers w (b - 1 + 1) ≡ least_numbers w b = ap (least_numbers w) again in
    let gap : gap_below w b * 2 ^ place w b ≡ 2 * 2 ^ place w (b - 1) = gap_is w b some finite in
    let step : gap_below w b * 2 ^ place w b * 10 ^ tenths k ≡ 2 * 2 ^ place w (b - 1) * 10 ^ tenths k = ap (λ z. z * 10 ^ tenths k) gap in
    let mid : twice_middle w (10 ^ tenths k) b ≡ 2 * (least_numbers w b * 10 ^ tenths k) + 2 ^ place w b * 10 ^ tenths k =
    ap (λ z. (least_numbers w b + z) * 10 ^ tenths k) after
    ∙ (let e : (least_numbers w b + (least_numbers w b + 2 ^ place w b)) * 10 ^ tenths k ≡ 2 * (least_numbers w b * 10 ^ tenths k) + 2 ^ place w b * 10 ^ tenths k = omega arith in e) in
    let rise : least_numbers w b * 10 ^ tenths k ≡ least_numbers w (b - 1) * 10 ^ tenths k + 2 ^ place w (b - 1) * 10 ^ tenths k =
    ap (λ z. z * 10 ^ tenths k) (sym here ∙ before)
    ∙ (let e : (least_numbers w (b - 1) + 2 ^ place w (b - 1)) * 10 ^ tenths k ≡ least_numbers w (b - 1) * 10 ^ tenths k + 2 ^ place w (b - 1) * 10 ^ tenths k = omega arith in e) in
    let mid' : twice_middle w (10 ^ tenths k) (b - 1) ≡ 2 * (least_numbers w b * 10 ^ tenths k) - 2 ^ place w (b - 1) * 10 ^ tenths k =
    ap (λ z. (least_numbers w (b - 1) + z) * 10 ^ tenths k) here
    ∙ (let e : (least_numbers w (b - 1) + least_numbers w b) * 10 ^ tenths k ≡ least_numbers w (b - 1) * 10 ^ tenths k + least_numbers w b * 10 ^ tenths k = omega arith in e)
    ∙ (let e : least_numbers w (b - 1) * 10 ^ tenths k + least_numbers w b * 10 ^ tenths k ≡ 2 * (least_numbers w b * 10 ^ tenths k) - 2 ^ place w (b - 1) * 10 ^ tenths k = omega arith in e) in
    let low = ends_even (significand w b) _ _ (low_end (significand w b % 2 == 0) d (significand w b) (gap_below w b) (10 ^ tenths k) (10 ^ tens k) (place w b) (quarter_places w) lies.above_low) in
    let high = ends_even (significand w b) _ _ (high_end (significand w b % 2 == 0) d (significand w b) (10 ^ tenths k) (10 ^ tens k) (place w b) (quarter_places w) lies.below_high) in
    near_of w b d k finite some (least_numbers w b * 10 ^ tenths k) (least_numbers w (b - 1) * 10 ^ tenths k) (2 ^ place w b * 10 ^ tenths k) (2 ^ place w (b - 1) * 10 ^ tenths k) (record { here = refl; before = refl; rise = rise; upper = mid; lower = mid' })
    (⊎_elim
    (λ (l : 4 * (significand w b * 2 ^ place w b) * 10 ^ tenths k < d * 10 ^ tens k * 2 ^ quarter_places w + gap_below w b * 2 ^ place w b * 10 ^ tenths k). inl (omega arith))
    (λ l. let e : d * 10 ^ tens k * 2 ^ quarter_places w + gap_below w b * 2 ^ place w b * 10 ^ tenths k ≡ 4 * (significand w b * 2 ^ place w b) * 10 ^ tenths k = l.0 in let f : significand w b % 2 ≡ 0 = l.1 in inr (omega arith, omega arith))
    low)
    (⊎_elim
    (λ (l : d * 10 ^ tens k * 2 ^ quarter_places w < 4 * (significand w b * 2 ^ place w b) * 10 ^ tenths k + 2 * 2 ^ place w b * 10 ^ tenths k). inl (omega arith))
    (λ l. let e : 4 * (significand w b * 2 ^ place w b) * 10 ^ tenths k + 2 * 2 ^ place w b * 10 ^ tenths k ≡ d * 10 ^ tens k * 2 ^ quarter_places w = l.0 in let f : significand w b % 2 ≡ 0 = l.1 in inr (omega arith, omega arith))
    high)
  where
    near_of : (w : Width) (b d : ℕ) (k : ℤ) → b < infinity_bits w → 0 < b → (u v x y : ℕ) → HasGaps w b k u v x y
        → (4 * u < 4 * decimal_numbers w d k + 2 * y) ⊎ ((4 * decimal_numbers w d k + 2 * y ≡ 4 * u) × (b % 2 ≡ 0))
        → (4 * decimal_numbers w d k < 4 * u + 2 * x) ⊎ ((4 * u + 2 * x ≡ 4 * decimal_numbers w d k) × (b % 2 ≡ 0))
        → IsNearest w d k b
    near_of w b d k finite some u v x y gaps low high =
        let eu : u ≡ least_numbers w b * 10 ^ tenths k = gaps.here in
        let ev : v ≡ least_numbers w (b - 1) * 10 ^ tenths k = gaps.before in
        let rise : u ≡ v + y = gaps.rise in
        let mid : twice_middle w (10 ^ tenths k) b ≡ 2 * u + x = gaps.upper in
        let mid' : twice_middle w (10 ^ tenths k) (b - 1) ≡ 2 * u - y = gaps.lower in
        ⊎_elim
        (λ (l : decimal_numbers w d k < u).
        let again : b - 1 + 1 ≡ b = omega arith in
        subst (IsNearest w d k) again
        (next_is_nearest w d (b - 1) k (omega arith)
        (⊎_elim
        (λ (m : 4 * u < 4 * decimal_numbers w d k + 2 * y). let q : least_numbers w (b - 1) * 10 ^ tenths k ≤ decimal_numbers w d k = omega arith in q)
        (λ m. let e : 4 * decimal_numbers w d k + 2 * y ≡ 4 * u = m.0 in let q : least_numbers w (b - 1) * 10 ^ tenths k ≤ decimal_numbers w d k = omega arith in q)
        low)
        (subst (λ z. decimal_numbers w d k < least_numbers w z * 10 ^ tenths k) (sym again) (omega arith))
        (⊎_elim
        (λ (m : 4 * u < 4 * decimal_numbers w d k + 2 * y). inl (omega arith))
        (λ m. let e : 4 * decimal_numbers w d k + 2 * y ≡ 4 * u = m.0 in let f : b % 2 ≡ 0 = m.1 in inr (omega arith, omega arith))
        low)))
        (λ (l : u ≤ decimal_numbers w d k).
        low_is_nearest w d b k finite (omega arith)
        (⊎_elim
        (λ (m : 4 * decimal_numbers w d k < 4 * u + 2 * x). inl (omega arith))
        (λ m. let e : 4 * u + 2 * x ≡ 4 * decimal_numbers w d k = m.0 in inr (omega arith, m.1))
        high))
        (cases_lt (decimal_numbers w d k) u)

pub decimals_read : DecimalsAreRead
decimals_read w bits d k h decimal =
    let finite : without_sign w bits < infinity_bits w = below_infinity w bits h in
    let same : significand w bits ≡ significand w (without_sign w bits) = same_significand w bits in
    ⊎_elim
    (λ (l : 0 < significand w bits).
    let m : 0 < significand w (without_sign w bits) = omega arith in
    lies_is_nearest w (without_sign w bits) d k finite (positive_bits w (without_sign w bits) m)
    (subst (λ i. Lies (in_units (tens k) (tenths k) i) d) (same_interval w bits) (decimal.shortest l).lies))
    (λ (l : significand w bits ≤ 0).
    let e : significand w bits ≡ 0 = omega arith in
    let z : without_sign w bits ≡ 0 = zero_bits w (without_sign w bits) finite (omega arith) in
    subst (IsNearest w d k) (sym z) (zero_is_zero w d k (decimal.zero_is e).0))
    (cases_lt 0 (significand w bits))
