-- Worked rows of floats and their decimals, stated by hand. They judge the definitions.
use Rattle.std.proofs.Common.{ℕ, ◌≡◌, ◌+◌, ◌*◌, ◌/◌, ◌%◌, ◌<◌, ◌≤◌, ⊎_elim, inl, inr, true, false, refl, arith, lit<}
use Rattle.std.proofs.lemmas.Nat.{mul-le}
use Rattle.std.proofs.lemmas.Bool.{cases_lt, cases_order}
use lib.IntN.{pos, negsuc}
use Rattle.capnp_floats.specs.declared.width.Width.TheVariants.{Float32, Float64}
use Rattle.capnp_floats.specs.Shortest.{Interval, Lies, IsRounded, reaches, away, apart_by, in_units}
use Rattle.capnp_floats.specs.Floats.{IsDecimalOf, interval_of, is_finite}
use Rattle.capnp_floats.proofs.Reaching.{between}

-- ---- what is computed of a row, for all naturals ----

-- the tens around a natural lie outside
no_tens : (i : Interval) (t : ℕ) → reaches i.has_ends (10 * t * i.one + i.below) i.value ≡ false
    → reaches i.has_ends (i.value + i.above) (10 * (t + 1) * i.one) ≡ false → (n : ℕ) → Lies i (10 * n) → ⊥
no_tens i t low high n l = ⊎_elim
    (λ (m : t < n).
    let k : 10 * (t + 1) * i.one ≤ 10 * n * i.one = mul-le (10 * (t + 1)) i.one (10 * n) i.one (omega arith) (omega arith) in
    let b : i.value + i.above + 10 * n * i.one < i.value + i.above + 10 * (t + 1) * i.one = between i.has_ends (i.value + i.above) (10 * (t + 1) * i.one) (i.value + i.above) (10 * n * i.one) high l.below_high in
    absurd (omega arith))
    (λ (m : n ≤ t).
    let k : 10 * n * i.one ≤ 10 * t * i.one = mul-le (10 * n) i.one (10 * t) i.one (omega arith) (omega arith) in
    let b : 10 * t * i.one + i.below + i.value < 10 * n * i.one + i.below + i.value = between i.has_ends (10 * t * i.one + i.below) i.value (10 * n * i.one + i.below) i.value low l.above_low in
    absurd (omega arith))
    (cases_lt t n)

-- another natural is further away than one that is at most half a unit away
further : (one value d n : ℕ) → (n ≡ d → ⊥) → one ≤ apart_by (d * one) value + apart_by (n * one) value
further one value d n e = ⊎_elim (λ x. absurd (e x)) (λ x. ⊎_elim
    (λ (m : n < d). let k : (n + 1) * one ≤ d * one = mul-le (n + 1) one d one (omega arith) (omega arith) in omega arith)
    (λ (m : d < n). let k : (d + 1) * one ≤ n * one = mul-le (d + 1) one n one (omega arith) (omega arith) in omega arith)
    x) (cases_order n d)

-- less than half a unit away
rounded : (i : Interval) (d : ℕ) → reaches i.has_ends (d * i.one + i.below) i.value ≡ true → reaches i.has_ends (i.value + i.above) (d * i.one) ≡ true
    → reaches i.has_ends (10 * (d / 10) * i.one + i.below) i.value ≡ false → reaches i.has_ends (i.value + i.above) (10 * (d / 10 + 1) * i.one) ≡ false
    → 2 * away i d < i.one → IsRounded i d
rounded i d low high before after half = record {
  lies = record { above_low = low; below_high = high };
  coarsest = no_tens i (d / 10) before after;
  nearest = λ n l e. inl (let f : i.one ≤ away i d + away i n = further i.one i.value d n e in omega arith);
}

-- half a unit away, and even
rounded_even : (i : Interval) (d : ℕ) → reaches i.has_ends (d * i.one + i.below) i.value ≡ true → reaches i.has_ends (i.value + i.above) (d * i.one) ≡ true
    → reaches i.has_ends (10 * (d / 10) * i.one + i.below) i.value ≡ false → reaches i.has_ends (i.value + i.above) (10 * (d / 10 + 1) * i.one) ≡ false
    → 2 * away i d ≡ i.one → d % 2 ≡ 0 → IsRounded i d
rounded_even i d low high before after half even = record {
  lies = record { above_low = low; below_high = high };
  coarsest = no_tens i (d / 10) before after;
  nearest = λ n l e. let f : i.one ≤ away i d + away i n = further i.one i.value d n e in ⊎_elim
      (λ (m : away i d < away i n). inl m)
      (λ (m : away i n ≤ away i d). inr (let k : away i d ≡ away i n = omega arith in k, even))
      (cases_lt (away i d) (away i n));
}

-- ---- the rows ----

zero_64 : IsDecimalOf Float64 0 0 (pos 0)
zero_64 = record { zero_is = λ h. (refl, refl); shortest = λ h. absurd (omega arith) }

minus_zero_32 : IsDecimalOf Float32 0x80000000 0 (pos 0)
minus_zero_32 = record { zero_is = λ h. (refl, refl); shortest = λ h. absurd (omega arith) }

one_tenth : IsDecimalOf Float64 0x3fb999999999999a 1 (negsuc 0)
one_tenth = record { zero_is = λ h. absurd (omega arith); shortest = λ h. rounded _ 1 refl refl refl refl (lit< tt) }

one_and_a_half : IsDecimalOf Float64 0x3ff8000000000000 15 (negsuc 0)
one_and_a_half = record { zero_is = λ h. absurd (omega arith); shortest = λ h. rounded _ 15 refl refl refl refl (lit< tt) }

one_third : IsDecimalOf Float64 0x3fd5555555555555 3333333333333333 (negsuc 15)
one_third = record { zero_is = λ h. absurd (omega arith); shortest = λ h. rounded _ 3333333333333333 refl refl refl refl (lit< tt) }

ten_to_fifteen : IsDecimalOf Float64 0x430c6bf526340000 1 (pos 15)
ten_to_fifteen = record { zero_is = λ h. absurd (omega arith); shortest = λ h. rounded _ 1 refl refl refl refl (lit< tt) }

ten_to_minus_five : IsDecimalOf Float64 0x3ee4f8b588e368f1 1 (negsuc 4)
ten_to_minus_five = record { zero_is = λ h. absurd (omega arith); shortest = λ h. rounded _ 1 refl refl refl refl (lit< tt) }

least : IsDecimalOf Float64 1 5 (negsuc 323)
least = record { zero_is = λ h. absurd (omega arith); shortest = λ h. rounded _ 5 refl refl refl refl (lit< tt) }

least_normal : IsDecimalOf Float64 0x10000000000000 22250738585072014 (negsuc 323)
least_normal = record { zero_is = λ h. absurd (omega arith); shortest = λ h. rounded _ 22250738585072014 refl refl refl refl (lit< tt) }

largest : IsDecimalOf Float64 0x7fefffffffffffff 17976931348623157 (pos 292)
largest = record { zero_is = λ h. absurd (omega arith); shortest = λ h. rounded _ 17976931348623157 refl refl refl refl (lit< tt) }

minus_largest : IsDecimalOf Float64 0xffefffffffffffff 17976931348623157 (pos 292)
minus_largest = record { zero_is = λ h. absurd (omega arith); shortest = λ h. rounded _ 17976931348623157 refl refl refl refl (lit< tt) }

two_to_53 : IsDecimalOf Float64 0x4340000000000000 9007199254740992 (pos 0)
two_to_53 = record { zero_is = λ h. absurd (omega arith); shortest = λ h. rounded _ 9007199254740992 refl refl refl refl (lit< tt) }

one_quarter_is_even : IsDecimalOf Float64 0x4310000000000001 11258999068426242 (negsuc 0)
one_quarter_is_even = record { zero_is = λ h. absurd (omega arith); shortest = λ h. rounded_even (in_units 0 1 (interval_of Float64 0x4310000000000001)) 11258999068426242 refl refl refl refl refl refl }

three_quarters_are_even : IsDecimalOf Float64 0x4310000000000003 11258999068426248 (negsuc 0)
three_quarters_are_even = record { zero_is = λ h. absurd (omega arith); shortest = λ h. rounded_even (in_units 0 1 (interval_of Float64 0x4310000000000003)) 11258999068426248 refl refl refl refl refl refl }

ends_belong : IsDecimalOf Float32 0x4c3db238 4972771 (pos 1)
ends_belong = record { zero_is = λ h. absurd (omega arith); shortest = λ h. rounded _ 4972771 refl refl refl refl (lit< tt) }

ends_do_not_belong : IsDecimalOf Float32 0x4c8a3bbf 72474104 (pos 0)
ends_do_not_belong = record { zero_is = λ h. absurd (omega arith); shortest = λ h. rounded _ 72474104 refl refl refl refl (lit< tt) }

narrower_gap_below : IsDecimalOf Float32 0x0c000000 98607613 (negsuc 38)
narrower_gap_below = record { zero_is = λ h. absurd (omega arith); shortest = λ h. rounded _ 98607613 refl refl refl refl (lit< tt) }

million : IsDecimalOf Float32 0x49742400 1 (pos 6)
million = record { zero_is = λ h. absurd (omega arith); shortest = λ h. rounded _ 1 refl refl refl refl (lit< tt) }

one_tenth_32 : IsDecimalOf Float32 0x3dcccccd 1 (negsuc 0)
one_tenth_32 = record { zero_is = λ h. absurd (omega arith); shortest = λ h. rounded _ 1 refl refl refl refl (lit< tt) }

two_thirds_32 : IsDecimalOf Float32 0x3f2aaaab 6666667 (negsuc 6)
two_thirds_32 = record { zero_is = λ h. absurd (omega arith); shortest = λ h. rounded _ 6666667 refl refl refl refl (lit< tt) }

largest_32 : IsDecimalOf Float32 0x7f7fffff 34028235 (pos 31)
largest_32 = record { zero_is = λ h. absurd (omega arith); shortest = λ h. rounded _ 34028235 refl refl refl refl (lit< tt) }

least_32 : IsDecimalOf Float32 1 1 (negsuc 44)
least_32 = record { zero_is = λ h. absurd (omega arith); shortest = λ h. rounded _ 1 refl refl refl refl (lit< tt) }

-- ---- no numbers ----

infinity : is_finite Float64 0x7ff0000000000000 ≡ false
infinity = refl

minus_infinity_32 : is_finite Float32 0xff800000 ≡ false
minus_infinity_32 = refl

no_number : is_finite Float32 0x7fc00000 ≡ false
no_number = refl

largest_is_finite : is_finite Float32 0x7f7fffff ≡ true
largest_is_finite = refl
