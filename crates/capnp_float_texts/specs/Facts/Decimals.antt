-- The decimal of a float is found by a search. So some function gives each float its decimal.
use Rattle.std.proofs.Common.{ℕ, refl, zero, suc, ◌+◌, ◌-◌, ◌*◌, ◌/◌, ◌%◌, ◌^◌, ◌<◌, ◌≤◌, ◌≡◌, ◌≢◌, ◌⊎◌, inl, inr, ⊎_elim, Bool, true, false, arith, cond}
use Rattle.std.proofs.Math.Nat.{pow-suc, pow-zero, lt-div-mul-add, div-mul-le_self}
use Rattle.std.proofs.lemmas.Nat.{mul-le}
use Rattle.std.proofs.lemmas.Bool.{cases_eq, cases_lt, le-leb, leb-true, lt-ltb, ltb-true}
use lib.IntN.{ℤ, pos, negsuc}
use Rattle.capnp_floats.specs.Floats.{IsDecimalOf, gap_below, interval_of, place, quarter_places, significand}
use Rattle.capnp_floats.specs.Laws.{OneDecimal}
use Rattle.capnp_floats.specs.Shortest.{Interval, IsRounded, IsShortest, Lies, away, in_units, reaches}
use Rattle.capnp_floats.specs.declared.width.Width.{Width}
use Rattle.capnp_float_texts.specs.Facts.Deciding.{Decided, Each, Found, decided_below, decided_both, decided_either, decided_not, decided_true, decided_where, every, found}

-- ---- numbers in an interval ----

decided_lies : (i : Interval) (n : ℕ) → Decided (Lies i n)
decided_lies i n = go (decided_both (decided_true (reaches i.has_ends (n * i.one + i.below) i.value)) (decided_true (reaches i.has_ends (i.value + i.above) (n * i.one))))
  where
    go : Decided ((reaches i.has_ends (n * i.one + i.below) i.value ≡ true) × (reaches i.has_ends (i.value + i.above) (n * i.one) ≡ true)) → Decided (Lies i n)
    go (inl h) = inl (record { above_low = h.0; below_high = h.1 })
    go (inr never) = inr (λ h. never (h.above_low, h.below_high))

-- what reaches a number is not below it
reached : (ends : Bool) (a b : ℕ) → reaches ends a b ≡ true → b ≤ a
reached true a b h = leb-true b a h
reached false a b h = let l : b < a = ltb-true b a h in omega arith

passed : (ends : Bool) (a b : ℕ) → b < a → reaches ends a b ≡ true
passed true a b h = le-leb b a (omega arith)
passed false a b h = lt-ltb b a h

-- no number in it is greater than its upper end
abbrev end_of : Interval → ℕ
end_of i = i.value + i.above + 1

times_one : (n one : ℕ) → 0 < one → n ≤ n * one
times_one n one p = let h : n * 1 ≤ n * one = mul-le n 1 n one (omega arith) (omega arith) in omega arith

before_end : (i : Interval) (n : ℕ) → 0 < i.one → Lies i n → n < end_of i
before_end i n p h =
    let high : n * i.one ≤ i.value + i.above = reached i.has_ends (i.value + i.above) (n * i.one) h.below_high in
    let low : n ≤ n * i.one = times_one n i.one p in
    omega arith

-- ---- the rounded number of an interval ----

abbrev IsCoarsest : Interval → Type 0
IsCoarsest i = (n : ℕ) → Lies i (10 * n) → ⊥

decided_coarsest : (i : Interval) → 0 < i.one → Decided (IsCoarsest i)
decided_coarsest i p = go (every (λ n. Lies i (10 * n) → ⊥) (λ n. decided_not (decided_lies i (10 * n))) (end_of i))
  where
    go : Decided (Each (λ n. Lies i (10 * n) → ⊥) (end_of i)) → Decided (IsCoarsest i)
    go (inl none) = inl (λ n h. let l : 10 * n < end_of i = before_end i (10 * n) p h in none n (omega arith) h)
    go (inr never) = inr (λ none. never (λ n l. none n))

abbrev IsNearerThan : Interval → ℕ → ℕ → Type 0
IsNearerThan i d n = n ≢ d → (away i d < away i n) ⊎ ((away i d ≡ away i n) × (d % 2 ≡ 0))

abbrev IsNearestIn : Interval → ℕ → Type 0
IsNearestIn i d = (n : ℕ) → Lies i n → IsNearerThan i d n

decided_nearer : (i : Interval) (d n : ℕ) → Decided (Lies i n → IsNearerThan i d n)
decided_nearer i d n =
    decided_where (decided_lies i n)
    (decided_where (decided_not (cases_eq n d))
    (decided_either (decided_below (away i d) (away i n)) (decided_both (cases_eq (away i d) (away i n)) (cases_eq (d % 2) 0))))

decided_nearest : (i : Interval) (d : ℕ) → 0 < i.one → Decided (IsNearestIn i d)
decided_nearest i d p = go (every (λ n. Lies i n → IsNearerThan i d n) (decided_nearer i d) (end_of i))
  where
    go : Decided (Each (λ n. Lies i n → IsNearerThan i d n) (end_of i)) → Decided (IsNearestIn i d)
    go (inl all) = inl (λ n h. all n (before_end i n p h) h)
    go (inr never) = inr (λ all. never (λ n l. all n))

decided_rounded : (i : Interval) → 0 < i.one → (d : ℕ) → Decided (IsRounded i d)
decided_rounded i p d = go (decided_both (decided_lies i d) (decided_both (decided_coarsest i p) (decided_nearest i d p)))
  where
    go : Decided (Lies i d × (IsCoarsest i × IsNearestIn i d)) → Decided (IsRounded i d)
    go (inl h) = inl (record { lies = h.0; coarsest = h.1.0; nearest = h.1.1 })
    go (inr never) = inr (λ h. never (h.lies, (h.coarsest, h.nearest)))

abbrev HasRounded : Interval → Type 0
HasRounded i = (d : ℕ) × IsRounded i d

decided_some : (i : Interval) → 0 < i.one → Decided (HasRounded i)
decided_some i p = go (found (IsRounded i) (decided_rounded i p) (end_of i))
  where
    go : Found (IsRounded i) (end_of i) → Decided (HasRounded i)
    go (inl h) = inl h
    go (inr none) = inr (λ h. none h.0 (before_end i h.0 p h.1.lies) h.1)

-- ---- the power of ten ----

power_positive : (n : ℕ) → 0 < 10 ^ n
power_positive zero = let e : 10 ^ 0 ≡ 1 = pow-zero 10 in omega arith
power_positive (suc n) = let p : 0 < 10 ^ n = power_positive n in let e : 10 ^ suc n ≡ 10 ^ n * 10 = pow-suc 10 n in omega arith

two_positive : (n : ℕ) → 0 < 2 ^ n
two_positive zero = let e : 2 ^ 0 ≡ 1 = pow-zero 2 in omega arith
two_positive (suc n) = let p : 0 < 2 ^ n = two_positive n in let e : 2 ^ suc n ≡ 2 ^ n * 2 = pow-suc 2 n in omega arith

power_grows : (n : ℕ) → n < 10 ^ n
power_grows zero = power_positive 0
power_grows (suc n) = let p : n < 10 ^ n = power_grows n in let e : 10 ^ suc n ≡ 10 ^ n * 10 = pow-suc 10 n in omega arith

positive_times : (a b : ℕ) → 0 < a → 0 < b → 0 < a * b
positive_times a b p q = let h : 1 * 1 ≤ a * b = mul-le 1 1 a b (omega arith) (omega arith) in omega arith

-- units of so many tens, and of so many tenths and one more
abbrev in_tens : Interval → ℕ → Interval
in_tens i n = in_units n 0 i

abbrev in_tenths : Interval → ℕ → Interval
in_tenths i n = in_units 0 (suc n) i

one_in_units : (i : Interval) (up down : ℕ) → 0 < i.one → 0 < (in_units up down i).one
one_in_units i up down p = positive_times i.one (10 ^ up) p (power_positive up)

-- an interval that a float has: zero is not in it, and numbers above its value are
pub record IsWide (i : Interval) : Type 0 where
  pub one : 0 < i.one
  pub below : i.below < i.value
  pub above : 0 < i.above

zero_is_below : (ends : Bool) (one below value : ℕ) → below < value → reaches ends (0 * one + below) value ≡ true → ⊥
zero_is_below ends one below value l h = let r : value ≤ 0 * one + below = reached ends (0 * one + below) value h in omega arith

-- few tens
few_tens : (i : Interval) (n d : ℕ) → IsWide i → Lies (in_tens i n) d → n < end_of i
few_tens i n zero wide h = absurd (zero_is_below i.has_ends (i.one * 10 ^ n) (i.below * 10 ^ 0) (i.value * 10 ^ 0) below h.above_low)
  where
    below : i.below * 10 ^ 0 < i.value * 10 ^ 0
    below = let e : 10 ^ 0 ≡ 1 = pow-zero 10 in let l : i.below < i.value = wide.below in omega arith
few_tens i n (suc d) wide h =
    let e : 10 ^ 0 ≡ 1 = pow-zero 10 in
    let high : suc d * (i.one * 10 ^ n) ≤ i.value * 10 ^ 0 + i.above * 10 ^ 0 = reached i.has_ends (i.value * 10 ^ 0 + i.above * 10 ^ 0) (suc d * (i.one * 10 ^ n)) h.below_high in
    let grows : n < 10 ^ n = power_grows n in
    let p : 1 * 10 ^ n ≤ i.one * 10 ^ n = mul-le 1 (10 ^ n) i.one (10 ^ n) wide.one (omega arith) in
    let q : 1 * (i.one * 10 ^ n) ≤ suc d * (i.one * 10 ^ n) = mul-le 1 (i.one * 10 ^ n) (suc d) (i.one * 10 ^ n) (omega arith) (omega arith) in
    omega arith

-- few tenths: a multiple of ten lies in each wider interval
multiple_lies : (ends : Bool) (one value below above : ℕ) → 0 < one → 10 * one < above →
    (n : ℕ) × (reaches ends (10 * n * one + below) value ≡ true) × (reaches ends (value + above) (10 * n * one) ≡ true)
multiple_lies ends one value below above p h = (
  value / (10 * one) + 1,
  passed ends (10 * (value / (10 * one) + 1) * one + below) value (omega (arith, same, over)),
  passed ends (value + above) (10 * (value / (10 * one) + 1) * one) (omega (arith, same, under, h)),
)
  where
    same : 10 * (value / (10 * one) + 1) * one ≡ value / (10 * one) * (10 * one) + 10 * one
    same = omega arith

    over : value < value / (10 * one) * (10 * one) + 10 * one
    over = lt-div-mul-add (let q : 0 < 10 * one = omega (arith, p) in q)

    under : value / (10 * one) * (10 * one) ≤ value
    under = div-mul-le_self value (10 * one)

abbrev tenths_end : Interval → ℕ
tenths_end i = 10 * i.one + 1

too_wide : (i : Interval) (n : ℕ) → IsWide i → tenths_end i ≤ n → IsCoarsest (in_tenths i n) → ⊥
too_wide i n wide h none = none m.0 (record { above_low = m.1; below_high = m.2 })
  where
    wide_enough : 10 * (i.one * 10 ^ 0) < i.above * 10 ^ suc n
    wide_enough =
        let e : 10 ^ 0 ≡ 1 = pow-zero 10 in
        let grows : suc n < 10 ^ suc n = power_grows (suc n) in
        let p : 1 * 10 ^ suc n ≤ i.above * 10 ^ suc n = mul-le 1 (10 ^ suc n) i.above (10 ^ suc n) wide.above (omega arith) in
        omega arith

    m : (n' : ℕ) × (reaches i.has_ends (10 * n' * (i.one * 10 ^ 0) + i.below * 10 ^ suc n) (i.value * 10 ^ suc n) ≡ true) × (reaches i.has_ends (i.value * 10 ^ suc n + i.above * 10 ^ suc n) (10 * n' * (i.one * 10 ^ 0)) ≡ true)
    m = multiple_lies i.has_ends (i.one * 10 ^ 0) (i.value * 10 ^ suc n) (i.below * 10 ^ suc n) (i.above * 10 ^ suc n) (one_in_units i 0 (suc n) wide.one) wide_enough

few_tenths : (i : Interval) (n : ℕ) → IsWide i → IsCoarsest (in_tenths i n) → n < tenths_end i
few_tenths i n wide none = ⊎_elim (λ (l : n < tenths_end i). l) (λ (l : tenths_end i ≤ n). absurd (too_wide i n wide l none)) (cases_lt n (tenths_end i))

-- ---- the decimal ----

abbrev TensFound : Interval → Type 0
TensFound i = Found (λ n. HasRounded (in_tens i n)) (end_of i)

abbrev TenthsFound : Interval → Type 0
TenthsFound i = Found (λ n. HasRounded (in_tenths i n)) (tenths_end i)

tens_found : (i : Interval) → 0 < i.one → TensFound i
tens_found i p = found (λ n. HasRounded (in_tens i n)) (λ n. decided_some (in_tens i n) (one_in_units i n 0 p)) (end_of i)

tenths_found : (i : Interval) → 0 < i.one → TenthsFound i
tenths_found i p = found (λ n. HasRounded (in_tenths i n)) (λ n. decided_some (in_tenths i n) (one_in_units i 0 (suc n) p)) (tenths_end i)

-- the digits and the power of ten that were found; of zero, and where none were, zero
abbrev picked : (i : Interval) → TensFound i → TenthsFound i → ℕ × ℤ
picked i (inl h) tenths = (h.1.0, pos h.0)
picked i (inr none) (inl h) = (h.1.0, negsuc h.0)
picked i (inr none) (inr nothing) = (0, pos 0)

picked_is : (i : Interval) → IsWide i → (tens : TensFound i) (tenths : TenthsFound i) (d : ℕ) (k : ℤ) → IsShortest i d k → IsShortest i (picked i tens tenths).0 (picked i tens tenths).1
picked_is i wide (inl h) tenths d k s = h.1.1
picked_is i wide (inr none) (inl h) d k s = h.1.1
picked_is i wide (inr none) (inr nothing) d (pos n) s = absurd (none n (few_tens i n d wide s.lies) (d, s))
picked_is i wide (inr none) (inr nothing) d (negsuc n) s = absurd (nothing n (few_tenths i n wide s.coarsest) (d, s))

-- ---- the interval of a float ----

one_of : (w : Width) (bits : ℕ) → 0 < (interval_of w bits).one
one_of w bits = two_positive (quarter_places w - place w bits)

gap_is_small : (q : Bool) → cond q 1 2 ≤ 2
gap_is_small true = omega arith
gap_is_small false = omega arith

wide_of : (w : Width) (bits : ℕ) → 0 < significand w bits → IsWide (interval_of w bits)
wide_of w bits some = record {
  one = one_of w bits;
  below =
      let gap : gap_below w bits ≤ 2 = gap_is_small _ in
      let p : 0 < 2 ^ (place w bits - quarter_places w) = two_positive (place w bits - quarter_places w) in
      let l : gap_below w bits * 2 ^ (place w bits - quarter_places w) ≤ 2 * 2 ^ (place w bits - quarter_places w) = mul-le _ _ 2 _ gap (omega arith) in
      let m : 4 * 2 ^ (place w bits - quarter_places w) ≤ 4 * significand w bits * 2 ^ (place w bits - quarter_places w) = mul-le 4 _ (4 * significand w bits) _ (omega arith) (omega arith) in
      omega arith;
  above = let p : 0 < 2 ^ (place w bits - quarter_places w) = two_positive (place w bits - quarter_places w) in omega arith;
}

abbrev decimal_by : (w : Width) (bits : ℕ) → (0 < significand w bits) ⊎ (significand w bits ≤ 0) → ℕ × ℤ
decimal_by w bits (inl some) = picked (interval_of w bits) (tens_found (interval_of w bits) (one_of w bits)) (tenths_found (interval_of w bits) (one_of w bits))
decimal_by w bits (inr none) = (0, pos 0)

-- the digits and the power of ten of a float
pub decimal_found : Width → (bits : ℕ) → ℕ × ℤ
decimal_found w bits = decimal_by w bits (cases_lt 0 (significand w bits))

by_is : (w : Width) (bits : ℕ) (q : (0 < significand w bits) ⊎ (significand w bits ≤ 0)) (d : ℕ) (k : ℤ) → IsDecimalOf w bits d k →
    IsDecimalOf w bits (decimal_by w bits q).0 (decimal_by w bits q).1
by_is w bits (inl some) d k h = record {
  zero_is = λ e. absurd (omega (arith, some, e));
  shortest = λ l. picked_is (interval_of w bits) (wide_of w bits some) (tens_found (interval_of w bits) (one_of w bits)) (tenths_found (interval_of w bits) (one_of w bits)) d k (h.shortest some);
}
by_is w bits (inr none) d k h = record {
  zero_is = λ e. (refl, refl);
  shortest = λ l. absurd (omega (arith, none, l));
}

-- a float that has a decimal has the one that is found
pub decimal_found_is : OneDecimal → (w : Width) (bits d : ℕ) (k : ℤ) → IsDecimalOf w bits d k → ((decimal_found w bits).0 ≡ d) × ((decimal_found w bits).1 ≡ k)
unfolding decimal_found
decimal_found_is one w bits d k h =
    one w bits (decimal_by w bits (cases_lt 0 (significand w bits))).0 d (decimal_by w bits (cases_lt 0 (significand w bits))).1 k
    (by_is w bits (cases_lt 0 (significand w bits)) d k h) h
