-- Values in units, and how the units grow. No contract of a public function stands on them.
use Rattle.std.specs.Prelude.{ℕ, ◌+◌, ◌*◌, ◌/◌, ◌%◌, ◌^◌, ◌<◌, ◌≡◌, ◌⊎◌, Bool, true}
use Rattle.capnp_floats.specs.declared.counted.Counted.{Counted}
use Rattle.capnp_floats.specs.Shortest.{Interval, reaches}

-- the interval of a value, in its units
abbrev pub around_counted : Counted → Interval
around_counted s = record {
  one = s.one;
  value = s.digits * s.one + s.rest;
  below = s.below;
  above = s.above;
  has_ends = s.has_ends;
}

-- the same interval in units of a power of ten
abbrev pub in_tens : Counted → ℕ → Interval
in_tens s tens = record {
  one = s.one * 10 ^ tens;
  value = s.digits * s.one + s.rest;
  below = s.below;
  above = s.above;
  has_ends = s.has_ends;
}

pub record IsCounted (s : Counted) : Type 0 where
  pub less : s.rest < s.one
  pub below : 0 < s.below
  pub above : 0 < s.above
  pub small : s.above < 2 ^ 120
  pub room : s.rest + s.above < 2 ^ 128
  pub few : s.digits < 2 ^ 63

-- the digits or these and one more lie in the interval
abbrev pub IsReached : Counted → Type 0
IsReached s = (reaches s.has_ends s.below s.rest ≡ true) ⊎ (reaches s.has_ends (s.rest + s.above) s.one ≡ true)

-- the value in units of ten
abbrev pub tenfold : Counted → Counted
tenfold s = record s {
  one = 10 * s.one;
  digits = s.digits / 10;
  rest = s.digits % 10 * s.one + s.rest;
}

-- a value, and the same in units of a power of ten
pub record CountsTens (s t : Counted) (tens : ℕ) : Type 0 where
  pub one : t.one ≡ s.one * 10 ^ tens
  pub value : t.digits * t.one + t.rest ≡ s.digits * s.one + s.rest
  pub below : t.below ≡ s.below
  pub above : t.above ≡ s.above
  pub ends : t.has_ends ≡ s.has_ends

-- what a value in units was counted from
pub record CountsFrom (s : Counted) (ends : Bool) (one value below above : ℕ) : Type 0 where
  pub one_is : s.one ≡ one
  pub value_is : s.digits * s.one + s.rest ≡ value
  pub below_is : s.below ≡ below
  pub above_is : s.above ≡ above
  pub ends_is : s.has_ends ≡ ends
