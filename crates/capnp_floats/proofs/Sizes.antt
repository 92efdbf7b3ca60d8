-- A float's decimal has few digits, and few tens or tenths.
use Rattle.std.proofs.Common.{ℕ, ◌≡◌, ◌+◌, ◌-◌, ◌*◌, ◌/◌, ◌^◌, ◌<◌, ◌≤◌, ◌==◌, ◌&&◌, ⊎_elim, ltb, ap, subst, arith, lit<, lit≤}
use Rattle.std.proofs.Math.Nat.{lt_of_mul-lt-mul_right, pow-le-pow_left, pow-le-pow_right}
use Rattle.std.proofs.lemmas.Nat.{mul-le}
use Rattle.std.proofs.lemmas.Bool.{cases_Bool, cases_lt, cond_both}
use lib.IntN.{ℤ}
use Rattle.capnp_floats.specs.declared.width.Width.{Width}
use Rattle.capnp_floats.specs.Naturals.{room}
use Rattle.capnp_floats.specs.Shortest.{Interval, IsRounded, IsShortest, Lies, in_units, reaches, tens, tenths}
use Rattle.capnp_floats.specs.Floats.{exponent, fraction, gap_below, interval_of, place, quarter_places, significand}
use Rattle.capnp_floats.proofs.Naturals.{few_factors}
use Rattle.capnp_floats.proofs.Reaching.{not_reached, reached}
use Rattle.capnp_floats.proofs.Finding.{places_few, quarters_few}
use Rattle.capnp_floats.proofs.Cutting.{significand_small}
use Rattle.capnp_floats.proofs.Nearing.{only_tens, only_tenths, power_positive}
use Rattle.capnp_floats.proofs.Unique.{reaches_down, reaches_from}

-- An interval in which no multiple of ten lies is not wider than ten.
narrow : (i : Interval) (d : ℕ) → IsRounded i d → i.below + i.above ≤ 10 * i.one
narrow i d r =
    let low : d / 10 * 10 ≤ d = omega arith in
    let high : d < (d / 10 + 1) * 10 = omega arith in
    let down : 10 * (d / 10) * i.one ≤ d * i.one = mul-le (10 * (d / 10)) i.one d i.one (omega arith) (omega arith) in
    let up : d * i.one ≤ 10 * (d / 10 + 1) * i.one = mul-le d i.one (10 * (d / 10 + 1)) i.one (omega arith) (omega arith) in
    let first : 10 * (d / 10) * i.one + i.below ≤ i.value = ⊎_elim
    (λ t. absurd (r.coarsest (d / 10) (record { above_low = t; below_high = reaches_down i.has_ends (i.value + i.above) (d * i.one) (10 * (d / 10) * i.one) down r.lies.below_high })))
    (λ t. not_reached i.has_ends (10 * (d / 10) * i.one + i.below) i.value t)
    (cases_Bool (reaches i.has_ends (10 * (d / 10) * i.one + i.below) i.value)) in
    let second : i.value + i.above ≤ 10 * (d / 10 + 1) * i.one = ⊎_elim
    (λ t. absurd (r.coarsest (d / 10 + 1) (record { above_low = reaches_from i.has_ends (d * i.one + i.below) (10 * (d / 10 + 1) * i.one + i.below) i.value (omega arith) r.lies.above_low; below_high = t })))
    (λ t. not_reached i.has_ends (i.value + i.above) (10 * (d / 10 + 1) * i.one) t)
    (cases_Bool (reaches i.has_ends (i.value + i.above) (10 * (d / 10 + 1) * i.one))) in
    omega arith

some_digits : (i : Interval) (d : ℕ) → IsRounded i d → 0 < d
some_digits i d r = ⊎_elim (λ (l : 0 < d). l)
    (λ (l : d ≤ 0). absurd (r.coarsest 0 (subst (Lies i) (let e : d ≡ 10 * 0 = omega arith in e) r.lies)))
    (cases_lt 0 d)

-- the least bound of all: s is the significand, u a power of two, t the tenths as a power of ten
digits_few : (d s g u t one : ℕ) → s < 2 ^ 53 → 1 ≤ g → g ≤ 2 → 0 < one → d * one ≤ 4 * s * u * t + 2 * u * t → g * u * t + 2 * u * t ≤ 10 * one → d < 2 ^ 64
digits_few d s g u t one small wide narrow p h w =
    let a : 1 * (u * t) ≤ g * (u * t) = mul-le 1 (u * t) g (u * t) wide (omega arith) in
    let b : s * (u * t) ≤ 2 ^ 53 * (u * t) = mul-le s (u * t) (2 ^ 53) (u * t) (omega arith) (omega arith) in
    lt_of_mul-lt-mul_right one {m = d} {n = 2 ^ 64} (let e : d * one < 2 ^ 64 * one = omega arith in e)

tens_few : (k one v : ℕ) → 0 < one → one * 10 ^ k ≤ v → v < room → k < 1152
tens_few k one v p h f =
    let two : 2 ^ k ≤ 10 ^ k = powers_rise k in
    let m : 1 * 2 ^ k ≤ one * 10 ^ k = mul-le 1 (2 ^ k) one (10 ^ k) (omega arith) two in
    few_factors k v (omega arith) f
  where
    powers_rise : (k : ℕ) → 2 ^ k ≤ 10 ^ k
    powers_rise k = pow-le-pow_left {n = 2} {m = 10} (lit≤ tt) k

pub record IsSmall (d : ℕ) (k : ℤ) : Type 0 where
  pub digits : d < 2 ^ 64
  pub tens : tens k < 1152
  pub tenths : tenths k < 1152

gap_wide : (w : Width) (b : ℕ) → 1 ≤ gap_below w b
gap_wide w b = cond_both ((fraction w b == 0) && ltb 1 (exponent w b)) 1 2 (λ z. 1 ≤ z) (λ e. lit≤ tt) (λ e. lit≤ tt)

gap_narrow : (w : Width) (b : ℕ) → gap_below w b ≤ 2
gap_narrow w b = cond_both ((fraction w b == 0) && ltb 1 (exponent w b)) 1 2 (λ z. z ≤ 2) (λ e. lit≤ tt) (λ e. lit≤ tt)

value_fits : (s u : ℕ) → s < 2 ^ 53 → u ≤ 2 ^ 1076 → 4 * s * u + 2 * u < room
unfolding room
value_fits s u h f =
    let m : s * u ≤ 2 ^ 53 * 2 ^ 1076 = mul-le s u (2 ^ 53) (2 ^ 1076) (omega arith) f in
    omega arith

one_fits : (u : ℕ) → u ≤ 2 ^ 1076 → 10 * u < room
unfolding room
one_fits u f = omega arith

pub shortest_is_small : (w : Width) (bits d : ℕ) (k : ℤ) → IsShortest (interval_of w bits) d k → IsSmall d k
shortest_is_small w bits d k r =
    let s : significand w bits < 2 ^ 53 = significand_small w bits in
    let p : 0 < 2 ^ (quarter_places w - place w bits) = power_positive 2 (quarter_places w - place w bits) (lit< tt) in
    let t : 0 < 10 ^ tens k = power_positive 10 (tens k) (lit< tt) in
    let q : 1 * 1 ≤ 2 ^ (quarter_places w - place w bits) * 10 ^ tens k = mul-le 1 1 (2 ^ (quarter_places w - place w bits)) (10 ^ tens k) (omega arith) (omega arith) in
    let x : 2 ^ (place w bits - quarter_places w) ≤ 2 ^ 1076 = pow-le-pow_right {n = 2} (lit< tt) {i = place w bits - quarter_places w} {j = 1076} (places_few w bits) in
    let y : 2 ^ (quarter_places w - place w bits) ≤ 2 ^ 1076 = pow-le-pow_right {n = 2} (lit< tt) {i = quarter_places w - place w bits} {j = 1076} (quarters_few w (place w bits)) in
    let u : 0 < 2 ^ (place w bits - quarter_places w) = power_positive 2 (place w bits - quarter_places w) (lit< tt) in
    let n : gap_below w bits * 2 ^ (place w bits - quarter_places w) * 10 ^ tenths k + 2 * 2 ^ (place w bits - quarter_places w) * 10 ^ tenths k
    ≤ 10 * (2 ^ (quarter_places w - place w bits) * 10 ^ tens k) = narrow (in_units (tens k) (tenths k) (interval_of w bits)) d r in
    let l : d * (2 ^ (quarter_places w - place w bits) * 10 ^ tens k)
    ≤ 4 * significand w bits * 2 ^ (place w bits - quarter_places w) * 10 ^ tenths k + 2 * 2 ^ (place w bits - quarter_places w) * 10 ^ tenths k =
    reached (in_units (tens k) (tenths k) (interval_of w bits)).has_ends _ _ r.lies.below_high in
    let some : 0 < d = some_digits (in_units (tens k) (tenths k) (interval_of w bits)) d r in
    record {
      digits = digits_few d (significand w bits) (gap_below w bits) (2 ^ (place w bits - quarter_places w)) (10 ^ tenths k) (2 ^ (quarter_places w - place w bits) * 10 ^ tens k)
          s (gap_wide w bits) (gap_narrow w bits) (omega arith) l n;
      tens = ⊎_elim
          (λ (h : 0 < tens k).
          let e : 10 ^ tenths k ≡ 1 = ap (λ z. 10 ^ z) (only_tens k h) in
          let f : (4 * significand w bits * 2 ^ (place w bits - quarter_places w) + 2 * 2 ^ (place w bits - quarter_places w)) * 10 ^ tenths k
          ≡ (4 * significand w bits * 2 ^ (place w bits - quarter_places w) + 2 * 2 ^ (place w bits - quarter_places w)) * 1 =
          ap (λ z. (4 * significand w bits * 2 ^ (place w bits - quarter_places w) + 2 * 2 ^ (place w bits - quarter_places w)) * z) e in
          let m : 1 * (2 ^ (quarter_places w - place w bits) * 10 ^ tens k) ≤ d * (2 ^ (quarter_places w - place w bits) * 10 ^ tens k) =
          mul-le 1 (2 ^ (quarter_places w - place w bits) * 10 ^ tens k) d (2 ^ (quarter_places w - place w bits) * 10 ^ tens k) (omega arith) (omega arith) in
          tens_few (tens k) (2 ^ (quarter_places w - place w bits)) (4 * significand w bits * 2 ^ (place w bits - quarter_places w) + 2 * 2 ^ (place w bits - quarter_places w))
          p (omega arith) (value_fits (significand w bits) (2 ^ (place w bits - quarter_places w)) s x))
          (λ (h : tens k ≤ 0). let z : tens k < 1152 = omega arith in z)
          (cases_lt 0 (tens k));
      tenths = ⊎_elim
          (λ (h : 0 < tenths k).
          let e : 10 ^ tens k ≡ 1 = ap (λ z. 10 ^ z) (only_tenths k h) in
          let f : 2 ^ (quarter_places w - place w bits) * 10 ^ tens k ≡ 2 ^ (quarter_places w - place w bits) * 1 = ap (λ z. 2 ^ (quarter_places w - place w bits) * z) e in
          tens_few (tenths k) (2 * 2 ^ (place w bits - quarter_places w)) (10 * 2 ^ (quarter_places w - place w bits)) (omega arith) (omega arith) (one_fits (2 ^ (quarter_places w - place w bits)) y))
          (λ (h : tenths k ≤ 0). let z : tenths k < 1152 = omega arith in z)
          (cases_lt 0 (tenths k));
    }
