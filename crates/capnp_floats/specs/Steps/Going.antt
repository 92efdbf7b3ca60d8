-- The states of the search for digits. No contract of a public function stands on them.
use Rattle.std.specs.Prelude.{ℕ, ◌+◌, ◌*◌, ◌^◌, ◌<◌, ◌≤◌, ◌≡◌, false}
use Rattle.capnp_floats.specs.declared.search.Search.{Search}
use Rattle.capnp_floats.specs.Naturals.{room}
use Rattle.capnp_floats.specs.Shortest.{Interval, Lies, reaches}

-- the interval of a state, in units of its last digit
abbrev pub around : Search → Interval
around s = record {
  one = s.one;
  value = s.digits * s.one + s.rest;
  below = s.below;
  above = s.above;
  has_ends = s.has_ends;
}

-- neither the digits found nor these and one more lie in the interval
pub record IsSearchOpen (s : Search) : Type 0 where
  pub not_down : reaches s.has_ends s.below s.rest ≡ false
  pub not_up : reaches s.has_ends (s.rest + s.above) s.one ≡ false
  pub many : 2 ^ s.tenths ≤ s.below
  pub above : 0 < s.above
  pub size : s.digits * s.one + s.rest ≤ s.below * 2 ^ 56
  pub small : 100 * s.one < room

-- no multiple of ten lies in the interval
pub record IsGoing (s : Search) : Type 0 where
  pub less : s.rest < s.one
  pub below_wide : s.below ≤ 10 * s.one
  pub above_wide : s.above ≤ 10 * s.one
  pub coarse : (n : ℕ) → Lies (around s) (10 * n) → ⊥
  pub many : 2 ^ s.tenths ≤ s.below
  pub above : 0 < s.above
  pub size : s.digits * s.one + s.rest ≤ s.below * 2 ^ 56
  pub small : 100 * s.one < room
  pub digits : s.digits < 2 ^ 60
  pub few : s.tenths ≤ 1152

-- a state and that with one digit more
pub record Advances (s t : Search) : Type 0 where
  pub one : t.one ≡ s.one
  pub ends : t.has_ends ≡ s.has_ends
  pub value : t.digits * t.one + t.rest ≡ (s.digits * s.one + s.rest) * 10
  pub below : t.below ≡ s.below * 10
  pub above : t.above ≡ s.above * 10
  pub less : t.rest < t.one
  pub digits : t.digits ≤ 10 * s.digits + 9
  pub tenths : t.tenths ≡ s.tenths + 1

-- a state that came from one without digits
pub record FollowsSearch (s t : Search) : Type 0 where
  pub one : t.one ≡ s.one
  pub ends : t.has_ends ≡ s.has_ends
  pub value : t.digits * t.one + t.rest ≡ s.rest * 10 ^ t.tenths
  pub below : t.below ≡ s.below * 10 ^ t.tenths
  pub above : t.above ≡ s.above * 10 ^ t.tenths
