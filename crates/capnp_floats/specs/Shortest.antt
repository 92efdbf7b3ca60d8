-- The shortest decimal in an interval of numbers.
use Rattle.std.specs.Prelude.{ℕ, ◌+◌, ◌-◌, ◌*◌, ◌^◌, ◌%◌, ◌<◌, ◌≡◌, ◌≢◌, ◌⊎◌, Bool, true, false, nat_lt, nat_le}
use lib.IntN.{ℤ, pos, negsuc}
use Prim.Native.Nat.{suc}

-- Numbers around a value: all stand over one denominator. The ends are so far below the value and above it.
pub record Interval : Type 0 where
  pub one : ℕ
  pub value : ℕ
  pub below : ℕ
  pub above : ℕ
  pub has_ends : Bool

-- whether a number is at least another, or more than it where an end does not belong
abbrev pub reaches : Bool → ℕ → ℕ → Bool
reaches true a b = nat_le b a
reaches false a b = nat_lt b a

-- a natural lies in the interval
pub record Lies (i : Interval) (n : ℕ) : Type 0 where
  pub above_low : reaches i.has_ends (n * i.one + i.below) i.value ≡ true
  pub below_high : reaches i.has_ends (i.value + i.above) (n * i.one) ≡ true

abbrev pub apart_by : ℕ → ℕ → ℕ
apart_by a b = (a - b) + (b - a)

-- how far a natural is from the value
abbrev pub away : Interval → ℕ → ℕ
away i n = apart_by (n * i.one) i.value

-- A natural lies in the interval, and no multiple of ten does. Of all that do it is nearest to the value, of two the
-- even one.
pub record IsRounded (i : Interval) (d : ℕ) : Type 0 where
  pub lies : Lies i d
  pub coarsest : (n : ℕ) → Lies i (10 * n) → ⊥
  pub nearest : (n : ℕ) → Lies i n → n ≢ d → (away i d < away i n) ⊎ ((away i d ≡ away i n) × (d % 2 ≡ 0))

-- the interval in units of 10^up / 10^down
abbrev pub in_units : ℕ → ℕ → Interval → Interval
in_units up down i = record {
  one = i.one * 10 ^ up;
  value = i.value * 10 ^ down;
  below = i.below * 10 ^ down;
  above = i.above * 10 ^ down;
  has_ends = i.has_ends;
}

-- the tens of a power of ten, and the tenths
abbrev pub tens : ℤ → ℕ
tens (pos n) = n
tens (negsuc n) = 0

abbrev pub tenths : ℤ → ℕ
tenths (pos n) = 0
tenths (negsuc n) = suc n

-- A decimal `d 10^k` lies in the interval, and k is the greatest for which there is one; of those it is the nearest.
abbrev pub IsShortest : Interval → ℕ → ℤ → Type 0
IsShortest i d k = IsRounded (in_units (tens k) (tenths k) i) d
