-- Values in units: what holds where these grow, and where none of ten lies in the interval.
use Rattle.std.proofs.Common.{ℕ, ◌≡◌, ◌+◌, ◌*◌, ◌/◌, ◌^◌, ◌%◌, ◌<◌, ◌≤◌, ⊎_elim, inl, inr, Bool, true, false, refl, sym, ap, ◌∙◌, subst, arith, lit<}
use Rattle.std.proofs.Math.Nat.{mul-lt-mul_of_pos_right}
use Rattle.std.proofs.lemmas.Bool.{both_ways, cases_lt}
use Rattle.std.proofs.lemmas.Nat.{mul-le, mul-pow, pow-add, pow_pos, div-add-mod', mod_below}
use lib.IntN.{ℤ}
use Rattle.capnp_floats.specs.declared.counted.Counted.{Counted}
use Rattle.capnp_floats.specs.Shortest.{Lies, IsRounded, IsShortest, reaches, apart_by, tens, tenths}
use Rattle.capnp_floats.specs.Steps.Intervals.{interval}
use Rattle.capnp_floats.specs.Steps.Counting.{CountsFrom, CountsTens, IsCounted, IsReached, around_counted, in_tens, tenfold}
use Rattle.capnp_floats.proofs.Rounding.{floor_rounded, ceiling_rounded, never_above, never_below, low_scaled, high_scaled, away_scaled, same_interval}
use Rattle.capnp_floats.proofs.Finding.{to_shortest}

same_value : (s d r : ℕ) → d / 10 * (10 * s) + (d % 10 * s + r) ≡ d * s + r
same_value s d r =
    let e : (d / 10 * 10 + d % 10) * s ≡ d * s = ap (λ z. z * s) (div-add-mod' d 10) in
    omega arith

less_than_ten : (s d r : ℕ) → r < s → d % 10 * s + r < 10 * s
less_than_ten s d r h =
    let m : d % 10 < 10 = mod_below d 10 (lit< tt) in
    let l : d % 10 * s ≤ 9 * s = mul-le (d % 10) s 9 s (omega arith) (omega arith) in
    omega arith

pub tenfold_counted : (s : Counted) → IsCounted s → s.one < 2 ^ 124 → IsCounted (tenfold s)
tenfold_counted s h room =
    let r : s.rest < s.one = h.less in
    let l : s.digits % 10 * s.one + s.rest < 10 * s.one = less_than_ten s.one s.digits s.rest r in
    let m : s.above < 2 ^ 120 = h.small in
    let f : s.digits < 2 ^ 63 = h.few in
    record { less = l; below = h.below; above = h.above; small = m; room = omega arith; few = omega arith }

-- where neither the tens nor these and one more lie in the interval, no multiple of ten does
coarse_none : (ends : Bool) (s d r b a n : ℕ) → reaches ends b (d % 10 * s + r) ≡ false → reaches ends (d % 10 * s + r + a) (10 * s) ≡ false
    → Lies (interval ends s (d * s + r) b a) (10 * n) → ⊥
coarse_none ends s d r b a n down up l =
    let m : Lies (interval ends (10 * s) (d / 10 * (10 * s) + (d % 10 * s + r)) b a) n = record {
      above_low = ap (λ z. reaches ends (z + b) (d / 10 * (10 * s) + (d % 10 * s + r))) (let e : n * (10 * s) ≡ 10 * n * s = omega arith in e)
          ∙ ap (λ z. reaches ends (10 * n * s + b) z) (same_value s d r) ∙ l.above_low;
      below_high = ap (λ z. reaches ends (d / 10 * (10 * s) + (d % 10 * s + r) + a) z) (let e : n * (10 * s) ≡ 10 * n * s = omega arith in e)
          ∙ ap (λ z. reaches ends (z + a) (10 * n * s)) (same_value s d r) ∙ l.below_high;
    } in
    let x : n ≤ d / 10 = never_above ends (10 * s) (d / 10) (d % 10 * s + r) b a n up m in
    let y : d / 10 < n = never_below ends (10 * s) (d / 10) (d % 10 * s + r) b a n down m in
    absurd (omega arith)

pub none_coarser : (s : Counted) → reaches s.has_ends s.below (s.digits % 10 * s.one + s.rest) ≡ false
    → reaches s.has_ends (s.digits % 10 * s.one + s.rest + s.above) (10 * s.one) ≡ false → (n : ℕ) → Lies (around_counted s) (10 * n) → ⊥
none_coarser s down up n l = coarse_none s.has_ends s.one s.digits s.rest s.below s.above n down up l

pub counts_none : (s : Counted) → CountsTens s s 0
counts_none s = record {
  one = let e : s.one ≡ s.one * 1 = omega arith in e;
  value = refl;
  below = refl;
  above = refl;
  ends = refl;
}

pub counts_more : (s t : Counted) (n : ℕ) → CountsTens s t n → CountsTens s (tenfold t) (n + 1)
counts_more s t n h = record {
  one = let p : 10 ^ (n + 1) ≡ 10 ^ n * 10 = pow-add 10 n 1 in
      let q : s.one * 10 ^ (n + 1) ≡ s.one * (10 ^ n * 10) = ap (λ z. s.one * z) p in
      let e : t.one ≡ s.one * 10 ^ n = h.one in
      let f : 10 * t.one ≡ s.one * 10 ^ (n + 1) = omega arith in f;
  value = same_value t.one t.digits t.rest ∙ h.value;
  below = h.below;
  above = h.above;
  ends = h.ends;
}

-- ---- the digits that are nearest ----

pub floor_alone : (s : Counted) → IsCounted s → IsReached s → ((n : ℕ) → Lies (around_counted s) (10 * n) → ⊥)
    → reaches s.has_ends (s.rest + s.above) s.one ≡ false → IsRounded (around_counted s) s.digits
floor_alone s g done coarse up = floor_rounded s.has_ends s.one s.digits s.rest s.below s.above g.less g.above
    (⊎_elim (λ x. x) (λ x. absurd (both_ways _ up x)) done) coarse
    (λ n l m. let k : n ≤ s.digits = never_above s.has_ends s.one s.digits s.rest s.below s.above n up l in absurd (omega arith))

pub floor_nearer : (s : Counted) → IsCounted s → ((n : ℕ) → Lies (around_counted s) (10 * n) → ⊥)
    → reaches s.has_ends s.below s.rest ≡ true → s.rest + s.rest < s.one → IsRounded (around_counted s) s.digits
floor_nearer s g coarse down h = floor_rounded s.has_ends s.one s.digits s.rest s.below s.above g.less g.above down coarse (λ n l m. inl h)

pub ceiling_alone : (s : Counted) → IsCounted s → ((n : ℕ) → Lies (around_counted s) (10 * n) → ⊥)
    → reaches s.has_ends s.below s.rest ≡ false → reaches s.has_ends (s.rest + s.above) s.one ≡ true → IsRounded (around_counted s) (s.digits + 1)
ceiling_alone s g coarse down up = ceiling_rounded s.has_ends s.one s.digits s.rest s.below s.above g.less g.below up coarse
    (λ n l m. let k : s.digits < n = never_below s.has_ends s.one s.digits s.rest s.below s.above n down l in absurd (omega arith))

pub ceiling_nearer : (s : Counted) → IsCounted s → ((n : ℕ) → Lies (around_counted s) (10 * n) → ⊥)
    → reaches s.has_ends (s.rest + s.above) s.one ≡ true → s.one < s.rest + s.rest → IsRounded (around_counted s) (s.digits + 1)
ceiling_nearer s g coarse up h = ceiling_rounded s.has_ends s.one s.digits s.rest s.below s.above g.less g.below up coarse (λ n l m. inl h)

-- of two that are as near, the even one
pub even_nearest : (s : Counted) → IsCounted s → ((n : ℕ) → Lies (around_counted s) (10 * n) → ⊥)
    → reaches s.has_ends s.below s.rest ≡ true → reaches s.has_ends (s.rest + s.above) s.one ≡ true → s.rest + s.rest ≡ s.one
    → IsRounded (around_counted s) (s.digits + s.digits % 2)
even_nearest s g coarse down up h = ⊎_elim
    (λ (z : s.digits % 2 < 1).
    let e : s.digits % 2 ≡ 0 = omega arith in
    subst (λ d. IsRounded (around_counted s) d) (let f : s.digits ≡ s.digits + s.digits % 2 = omega arith in f)
    (floor_rounded s.has_ends s.one s.digits s.rest s.below s.above g.less g.above down coarse (λ n l m. inr (h, e))))
    (λ (z : 1 ≤ s.digits % 2).
    let m : s.digits % 2 < 2 = mod_below s.digits 2 (lit< tt) in
    let e : (s.digits + 1) % 2 ≡ 0 = omega arith in
    subst (λ d. IsRounded (around_counted s) d) (let f : s.digits + 1 ≡ s.digits + s.digits % 2 = omega arith in f)
    (ceiling_rounded s.has_ends s.one s.digits s.rest s.below s.above g.less g.below up coarse (λ n l m. inr (h, e))))
    (cases_lt (s.digits % 2) 1)

-- what is rounded in the units that a value came to
pub rounded_in_tens : (s t : Counted) (n d : ℕ) → CountsTens s t n → IsRounded (around_counted t) d → IsRounded (in_tens s n) d
rounded_in_tens s t n d h r =
    subst (λ i. IsRounded i d) (same_interval s.has_ends _ _ _ _ _ _ _ _ h.one h.value h.below h.above)
    (subst (λ z. IsRounded (interval z t.one (t.digits * t.one + t.rest) t.below t.above) d) h.ends r)

-- ---- back to the interval that was asked for ----

pub rounded_scaled : (ends : Bool) (c s v b a d : ℕ) → 0 < c → IsRounded (interval ends s v b a) d → IsRounded (interval ends (s * c) (v * c) (b * c) (a * c)) d
rounded_scaled ends c s v b a d p h =
    let fewer : (n : ℕ) → Lies (interval ends (s * c) (v * c) (b * c) (a * c)) n → Lies (interval ends s v b a) n =
    λ n l. record { above_low = sym (low_scaled ends c s v b n p) ∙ l.above_low; below_high = sym (high_scaled ends c s v a n p) ∙ l.below_high } in
    record {
      lies = record {
        above_low = low_scaled ends c s v b d p ∙ h.lies.above_low;
        below_high = high_scaled ends c s v a d p ∙ h.lies.below_high;
      };
      coarsest = λ n l. h.coarsest n (fewer (10 * n) l);
      nearest = λ n l e. ⊎_elim
          (λ x. inl (
          let g : apart_by (d * s) v * c < apart_by (n * s) v * c = mul-lt-mul_of_pos_right {m = apart_by (d * s) v} {n = apart_by (n * s) v} {k = c} x p in
          subst (λ z. z < apart_by (n * (s * c)) (v * c)) (sym (away_scaled c s v d))
          (subst (λ z. apart_by (d * s) v * c < z) (sym (away_scaled c s v n)) g)))
          (λ x. inr (away_scaled c s v d ∙ ap (λ z. z * c) x.0 ∙ sym (away_scaled c s v n), x.1))
          (h.nearest n (fewer n l) e);
    }

-- the interval over a power of two that all its numbers share
pub shortest_scaled : (ends : Bool) (s v b a s' v' b' a' c up down more d : ℕ) (k : ℤ) → 0 < c
    → s' * c ≡ s * 10 ^ up → v' * c ≡ v * 10 ^ down → b' * c ≡ b * 10 ^ down → a' * c ≡ a * 10 ^ down
    → up + more + tenths k ≡ down + tens k → IsRounded (interval ends (s' * 10 ^ more) v' b' a') d → IsShortest (interval ends s v b a) d k
shortest_scaled ends s v b a s' v' b' a' c up down more d k p es ev eb ea ek h =
    let q : s * 10 ^ (up + more) ≡ s * (10 ^ up * 10 ^ more) = ap (λ z. s * z) (pow-add 10 up more) in
    let r : s' * c * 10 ^ more ≡ s * 10 ^ up * 10 ^ more = ap (λ z. z * 10 ^ more) es in
    to_shortest ends s v b a d (up + more) down k ek
    (subst (λ i. IsRounded i d)
    (same_interval ends _ _ _ _ _ _ _ _ (let f : s' * 10 ^ more * c ≡ s * 10 ^ (up + more) = omega arith in f) ev eb ea)
    (rounded_scaled ends c (s' * 10 ^ more) v' b' a' d p h))

in_units_from : (t : Counted) (ends : Bool) (one value below above more d : ℕ) → CountsFrom t ends one value below above
    → IsRounded (in_tens t more) d → IsRounded (interval ends (one * 10 ^ more) value below above) d
in_units_from t ends one value below above more d f r =
    subst (λ i. IsRounded i d) (same_interval ends _ _ _ _ _ _ _ _ (ap (λ z. z * 10 ^ more) f.one_is) f.value_is f.below_is f.above_is)
    (subst (λ z. IsRounded (interval z (t.one * 10 ^ more) (t.digits * t.one + t.rest) t.below t.above) d) f.ends_is r)

tens_apart : (x k : ℕ) → x * 5 ^ k * 2 ^ k ≡ x * 10 ^ k
tens_apart x k =
    (let e : x * 5 ^ k * 2 ^ k ≡ x * (5 ^ k * 2 ^ k) = omega arith in e) ∙ ap (λ z. x * z) (sym (mul-pow 5 2 k))

twos_together : (x i j k : ℕ) → i + j ≡ k → x * 2 ^ i * 2 ^ j ≡ x * 2 ^ k * 10 ^ 0
twos_together x i j k e =
    (let f : x * 2 ^ i * 2 ^ j ≡ x * (2 ^ i * 2 ^ j) = omega arith in f) ∙ ap (λ z. x * z) (sym (pow-add 2 i j)) ∙ ap (λ z. x * 2 ^ z) e
    ∙ (let f : x * 2 ^ k ≡ x * 2 ^ k * 1 = omega arith in f)

-- a number in tenths
pub tenths_found : (t : Counted) (ends : Bool) (v gap down fives twos power more d : ℕ) (k : ℤ) → twos + fives ≡ down → power ≡ 5 ^ fives
    → CountsFrom t ends (2 ^ twos) (v * power) (gap * power) (2 * power) → more + tenths k ≡ fives + tens k
    → IsRounded (in_tens t more) d → IsShortest (interval ends (2 ^ down) v gap 2) d k
tenths_found t ends v gap down fives twos power more d k el ep f ek r =
    let one : 2 ^ twos * 2 ^ fives ≡ 2 ^ down * 10 ^ 0 =
    (let g : 2 ^ twos * 2 ^ fives ≡ 1 * 2 ^ twos * 2 ^ fives = omega arith in g) ∙ twos_together 1 twos fives down el ∙ (let g : 1 * 2 ^ down * 1 ≡ 2 ^ down * 1 = omega arith in g) in
    shortest_scaled ends (2 ^ down) v gap 2 (2 ^ twos) (v * power) (gap * power) (2 * power) (2 ^ fives) 0 fives more d k (pow_pos fives) one
    (ap (λ z. v * z * 2 ^ fives) ep ∙ tens_apart v fives) (ap (λ z. gap * z * 2 ^ fives) ep ∙ tens_apart gap fives)
    (ap (λ z. 2 * z * 2 ^ fives) ep ∙ tens_apart 2 fives) (omega arith)
    (in_units_from t ends (2 ^ twos) (v * power) (gap * power) (2 * power) more d f r)

-- a number in tens
pub tens_found : (t : Counted) (ends : Bool) (v gap up fives twos power more d : ℕ) (k : ℤ) → twos + fives ≡ up → power ≡ 5 ^ fives
    → CountsFrom t ends power (v * 2 ^ twos) (gap * 2 ^ twos) (2 * 2 ^ twos) → fives + more + tenths k ≡ 0 + tens k
    → IsRounded (in_tens t more) d → IsShortest (interval ends 1 (v * 2 ^ up) (gap * 2 ^ up) (2 * 2 ^ up)) d k
tens_found t ends v gap up fives twos power more d k el ep f ek r =
    let one : power * 2 ^ fives ≡ 1 * 10 ^ fives =
    ap (λ z. z * 2 ^ fives) ep ∙ (let g : 5 ^ fives * 2 ^ fives ≡ 1 * 5 ^ fives * 2 ^ fives = omega arith in g) ∙ tens_apart 1 fives in
    shortest_scaled ends 1 (v * 2 ^ up) (gap * 2 ^ up) (2 * 2 ^ up) power (v * 2 ^ twos) (gap * 2 ^ twos) (2 * 2 ^ twos) (2 ^ fives) fives 0 more d k (pow_pos fives) one
    (twos_together v twos fives up el) (twos_together gap twos fives up el) (twos_together 2 twos fives up el) ek
    (in_units_from t ends power (v * 2 ^ twos) (gap * 2 ^ twos) (2 * 2 ^ twos) more d f r)
