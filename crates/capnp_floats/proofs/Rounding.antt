-- Where the search for digits stops, one of two naturals is the one that is wanted.
use Rattle.std.proofs.Common.{ℕ, ◌≡◌, ◌+◌, ◌*◌, ◌^◌, ◌%◌, ◌<◌, ◌≤◌, ◌⊎◌, ⊎_elim, inl, inr, Bool, true, false, sym, ap, ◌∙◌, subst, arith, lit<}
use Rattle.std.proofs.Math.Nat.{lt_of_mul-lt-mul_right, mul-lt-mul_of_pos_right}
use Rattle.std.proofs.lemmas.Nat.{mul-le, pow-add}
use Rattle.std.proofs.lemmas.Bool.{cases_lt, cases_order}
use Rattle.capnp_floats.specs.Shortest.{Lies, IsRounded, reaches, apart_by}
use Rattle.capnp_floats.specs.Steps.Intervals.{interval}
use Rattle.capnp_floats.proofs.Reaching.{past, between, reaches_more, reaches_times, apart_by_times}

-- ---- naturals in the interval whose value is d and a rest

pub never_above : (ends : Bool) (s d r b a n : ℕ) → reaches ends (r + a) s ≡ false → Lies (interval ends s (d * s + r) b a) n → n ≤ d
never_above ends s d r b a n h l =
    let k : r + a + n * s < d * s + r + a + s = between ends (r + a) s (d * s + r + a) (n * s) h l.below_high in
    let m : n < d + 1 = lt_of_mul-lt-mul_right s {m = n} {n = d + 1} (let w : n * s < (d + 1) * s = omega arith in w) in
    omega arith

pub never_below : (ends : Bool) (s d r b a n : ℕ) → reaches ends b r ≡ false → Lies (interval ends s (d * s + r) b a) n → d < n
never_below ends s d r b a n h l =
    let k : b + (d * s + r) < n * s + b + r = between ends b r (n * s + b) (d * s + r) h l.above_low in
    lt_of_mul-lt-mul_right s {m = d} {n = n} (let w : d * s < n * s = omega arith in w)

-- a tenth of an interval has no natural, so no multiple of ten lies in the interval
pub coarse_next : (ends : Bool) (s d r b a v b' a' : ℕ) → reaches ends b r ≡ false → reaches ends (r + a) s ≡ false
    → v ≡ (d * s + r) * 10 → b' ≡ b * 10 → a' ≡ a * 10
    → (n : ℕ) → Lies (interval ends s v b' a') (10 * n) → ⊥
coarse_next ends s d r b a v b' a' g h ev eb ea n l =
    let low : reaches ends ((n * s + b) * 10) ((d * s + r) * 10) ≡ true =
    ap (λ z. reaches ends z ((d * s + r) * 10)) (let e : (n * s + b) * 10 ≡ 10 * n * s + b' = omega arith in e)
    ∙ ap (λ z. reaches ends (10 * n * s + b') z) (sym ev) ∙ l.above_low in
    let high : reaches ends ((d * s + r + a) * 10) (n * s * 10) ≡ true =
    ap (λ z. reaches ends z (n * s * 10)) (let e : (d * s + r + a) * 10 ≡ v + a' = omega arith in e)
    ∙ ap (λ z. reaches ends (v + a') z) (let e : n * s * 10 ≡ 10 * n * s = omega arith in e) ∙ l.below_high in
    let m : Lies (interval ends s (d * s + r) b a) n = record {
      above_low = sym (reaches_times ends 10 (n * s + b) (d * s + r) (lit< tt)) ∙ low;
      below_high = sym (reaches_times ends 10 (d * s + r + a) (n * s) (lit< tt)) ∙ high;
    } in
    let x : n ≤ d = never_above ends s d r b a n h m in
    let y : d < n = never_below ends s d r b a n g m in
    absurd (omega arith)

-- ---- the natural below the value, or the one above

pub floor_rounded : (ends : Bool) (s d r b a : ℕ) → r < s → 0 < a → reaches ends b r ≡ true
    → ((n : ℕ) → Lies (interval ends s (d * s + r) b a) (10 * n) → ⊥)
    → ((n : ℕ) → Lies (interval ends s (d * s + r) b a) n → d < n → (r + r < s) ⊎ ((r + r ≡ s) × (d % 2 ≡ 0)))
    → IsRounded (interval ends s (d * s + r) b a) d
floor_rounded ends s d r b a less up down coarse far = record {
  lies = record {
    above_low = reaches_more ends (d * s) b r down;
    below_high = past ends (d * s + r + a) (d * s) (omega arith);
  };
  coarsest = coarse;
  nearest = λ n l e. ⊎_elim
      (λ (m : n < d).
      let k : (n + 1) * s ≤ d * s = mul-le (n + 1) s d s (omega arith) (omega arith) in
      inl (let w : apart_by (d * s) (d * s + r) < apart_by (n * s) (d * s + r) = omega arith in w))
      (λ (m : d ≤ n).
      let d' : d < n = ⊎_elim (λ x. absurd (e x)) (λ x. ⊎_elim (λ y. absurd (let z : n < d = y in omega arith)) (λ y. y) x) (cases_order n d) in
      let k : (d + 1) * s ≤ n * s = mul-le (d + 1) s n s (omega arith) (omega arith) in
      ⊎_elim
      (λ (x : r + r < s). inl (let w : apart_by (d * s) (d * s + r) < apart_by (n * s) (d * s + r) = omega arith in w))
      (λ x. ⊎_elim
      (λ (y : apart_by (d * s) (d * s + r) < apart_by (n * s) (d * s + r)). inl y)
      (λ (y : apart_by (n * s) (d * s + r) ≤ apart_by (d * s) (d * s + r)).
      let x0 : r + r ≡ s = x.0 in
      inr (let w : apart_by (d * s) (d * s + r) ≡ apart_by (n * s) (d * s + r) = omega arith in w, x.1))
      (cases_lt (apart_by (d * s) (d * s + r)) (apart_by (n * s) (d * s + r))))
      (far n l d'))
      (cases_lt n d);
}

pub ceiling_rounded : (ends : Bool) (s d r b a : ℕ) → r < s → 0 < b → reaches ends (r + a) s ≡ true
    → ((n : ℕ) → Lies (interval ends s (d * s + r) b a) (10 * n) → ⊥)
    → ((n : ℕ) → Lies (interval ends s (d * s + r) b a) n → n ≤ d → (s < r + r) ⊎ ((r + r ≡ s) × ((d + 1) % 2 ≡ 0)))
    → IsRounded (interval ends s (d * s + r) b a) (d + 1)
ceiling_rounded ends s d r b a less down up coarse near = record {
  lies = record {
    above_low = past ends ((d + 1) * s + b) (d * s + r) (omega arith);
    below_high =
        ap (λ z. reaches ends z ((d + 1) * s)) (let e : d * s + r + a ≡ d * s + (r + a) = omega arith in e)
        ∙ ap (λ z. reaches ends (d * s + (r + a)) z) (let e : (d + 1) * s ≡ d * s + s = omega arith in e)
        ∙ reaches_more ends (d * s) (r + a) s up;
  };
  coarsest = coarse;
  nearest = λ n l e. ⊎_elim
      (λ (m : n < d + 1).
      let k : n * s ≤ d * s = mul-le n s d s (omega arith) (omega arith) in
      ⊎_elim
      (λ (x : s < r + r). inl (let w : apart_by ((d + 1) * s) (d * s + r) < apart_by (n * s) (d * s + r) = omega arith in w))
      (λ x. ⊎_elim
      (λ (y : apart_by ((d + 1) * s) (d * s + r) < apart_by (n * s) (d * s + r)). inl y)
      (λ (y : apart_by (n * s) (d * s + r) ≤ apart_by ((d + 1) * s) (d * s + r)).
      let x0 : r + r ≡ s = x.0 in
      inr (let w : apart_by ((d + 1) * s) (d * s + r) ≡ apart_by (n * s) (d * s + r) = omega arith in w, x.1))
      (cases_lt (apart_by ((d + 1) * s) (d * s + r)) (apart_by (n * s) (d * s + r))))
      (near n l (omega arith)))
      (λ (m : d + 1 ≤ n).
      let d' : d + 1 < n = ⊎_elim (λ x. absurd (e x)) (λ x. ⊎_elim (λ y. absurd (let z : n < d + 1 = y in omega arith)) (λ y. y) x) (cases_order n (d + 1)) in
      let k : (d + 2) * s ≤ n * s = mul-le (d + 2) s n s (omega arith) (omega arith) in
      inl (let w : apart_by ((d + 1) * s) (d * s + r) < apart_by (n * s) (d * s + r) = omega arith in w))
      (cases_lt n (d + 1));
}

-- ---- an interval over other units

pub cancel_equal : (c a b : ℕ) → 0 < c → a * c ≡ b * c → a ≡ b
cancel_equal c a b p e = ⊎_elim (λ x. x)
    (λ x. ⊎_elim
    (λ (y : a < b). let k : a * c < b * c = mul-lt-mul_of_pos_right {m = a} {n = b} {k = c} y p in absurd (omega arith))
    (λ (y : b < a). let k : b * c < a * c = mul-lt-mul_of_pos_right {m = b} {n = a} {k = c} y p in absurd (omega arith))
    x)
    (cases_order a b)

pub low_scaled : (ends : Bool) (c s v b n : ℕ) → 0 < c → reaches ends (n * (s * c) + b * c) (v * c) ≡ reaches ends (n * s + b) v
low_scaled ends c s v b n p =
    ap (λ z. reaches ends z (v * c)) (let e : n * (s * c) + b * c ≡ (n * s + b) * c = omega arith in e) ∙ reaches_times ends c (n * s + b) v p

pub high_scaled : (ends : Bool) (c s v a n : ℕ) → 0 < c → reaches ends (v * c + a * c) (n * (s * c)) ≡ reaches ends (v + a) (n * s)
high_scaled ends c s v a n p =
    ap (λ z. reaches ends z (n * (s * c))) (let e : v * c + a * c ≡ (v + a) * c = omega arith in e)
    ∙ ap (λ z. reaches ends ((v + a) * c) z) (let e : n * (s * c) ≡ n * s * c = omega arith in e) ∙ reaches_times ends c (v + a) (n * s) p

pub away_scaled : (c s v n : ℕ) → apart_by (n * (s * c)) (v * c) ≡ apart_by (n * s) v * c
away_scaled c s v n = ap (λ z. apart_by z (v * c)) (let e : n * (s * c) ≡ n * s * c = omega arith in e) ∙ apart_by_times c (n * s) v

pub rounded_unscaled : (ends : Bool) (c s v b a d : ℕ) → 0 < c → IsRounded (interval ends (s * c) (v * c) (b * c) (a * c)) d → IsRounded (interval ends s v b a) d
rounded_unscaled ends c s v b a d p h =
    let more : (n : ℕ) → Lies (interval ends s v b a) n → Lies (interval ends (s * c) (v * c) (b * c) (a * c)) n =
    λ n l. record { above_low = low_scaled ends c s v b n p ∙ l.above_low; below_high = high_scaled ends c s v a n p ∙ l.below_high } in
    record {
      lies = record {
        above_low = sym (low_scaled ends c s v b d p) ∙ h.lies.above_low;
        below_high = sym (high_scaled ends c s v a d p) ∙ h.lies.below_high;
      };
      coarsest = λ n l. h.coarsest n (more (10 * n) l);
      nearest = λ n l e. ⊎_elim
          (λ x. inl (lt_of_mul-lt-mul_right c {m = apart_by (d * s) v} {n = apart_by (n * s) v}
          (let g : apart_by (d * (s * c)) (v * c) < apart_by (n * (s * c)) (v * c) = x in
          let i : apart_by (d * (s * c)) (v * c) ≡ apart_by (d * s) v * c = away_scaled c s v d in
          let j : apart_by (n * (s * c)) (v * c) ≡ apart_by (n * s) v * c = away_scaled c s v n in
          subst (λ z. z < apart_by (n * s) v * c) i (subst (λ z. apart_by (d * (s * c)) (v * c) < z) j g))))
          (λ x. inr (cancel_equal c (apart_by (d * s) v) (apart_by (n * s) v) p (sym (away_scaled c s v d) ∙ x.0 ∙ away_scaled c s v n), x.1))
          (h.nearest n (more n l) e);
    }

pub same_interval : (ends : Bool) (s s' v v' b b' a a' : ℕ) → s ≡ s' → v ≡ v' → b ≡ b' → a ≡ a' → interval ends s v b a ≡ interval ends s' v' b' a'
same_interval ends s s' v v' b b' a a' p q r t =
    ap (λ z. interval ends z v b a) p ∙ ap (λ z. interval ends s' z b a) q ∙ ap (λ z. interval ends s' v' z a) r ∙ ap (λ z. interval ends s' v' b' z) t

power_split : (x i j k : ℕ) → k ≡ i + j → x * 10 ^ k ≡ x * 10 ^ i * 10 ^ j
power_split x i j k e =
    ap (λ z. x * 10 ^ z) e ∙ ap (λ z. x * z) (pow-add 10 i j) ∙ (let f : x * (10 ^ i * 10 ^ j) ≡ x * 10 ^ i * 10 ^ j = omega arith in f)

pub units_less : (ends : Bool) (s v b a d up down up' down' j : ℕ) → 0 < 10 ^ j → up ≡ up' + j → down ≡ down' + j
    → IsRounded (interval ends (s * 10 ^ up) (v * 10 ^ down) (b * 10 ^ down) (a * 10 ^ down)) d
    → IsRounded (interval ends (s * 10 ^ up') (v * 10 ^ down') (b * 10 ^ down') (a * 10 ^ down')) d
units_less ends s v b a d up down up' down' j p e f h =
    rounded_unscaled ends (10 ^ j) (s * 10 ^ up') (v * 10 ^ down') (b * 10 ^ down') (a * 10 ^ down') d p
    (subst (λ i. IsRounded i d)
    (same_interval ends _ _ _ _ _ _ _ _ (power_split s up' j up e) (power_split v down' j down f) (power_split b down' j down f) (power_split a down' j down f)) h)
