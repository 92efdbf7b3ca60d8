-- Binary floating point numbers of 32 and 64 bits (IEEE 754), as their bits, and their shortest decimals.
use Rattle.std.specs.Prelude.{ℕ, ◌+◌, ◌-◌, ◌*◌, ◌/◌, ◌%◌, ◌^◌, ◌<◌, ◌≡◌, ◌==◌, ◌&&◌, Bool, cond, nat_lt}
use lib.IntN.{ℤ, pos}
use Rattle.capnp_floats.specs.declared.width.Width.{Width}
use Rattle.capnp_floats.specs.declared.width.Width.TheVariants.{Float32, Float64}
use Rattle.capnp_floats.specs.Shortest.{Interval, IsShortest}

abbrev pub fraction_bits : Width → ℕ
fraction_bits Float32 = 23
fraction_bits Float64 = 52

abbrev pub exponent_bits : Width → ℕ
exponent_bits Float32 = 8
exponent_bits Float64 = 11

-- a quarter of the least number is one halved so often
abbrev pub quarter_places : Width → ℕ
quarter_places Float32 = 151
quarter_places Float64 = 1076

abbrev pub fraction : Width → ℕ → ℕ
fraction w bits = bits % 2 ^ fraction_bits w

abbrev pub exponent : Width → ℕ → ℕ
exponent w bits = bits / 2 ^ fraction_bits w % 2 ^ exponent_bits w

-- the number is neither infinite nor none
abbrev pub is_finite : Width → ℕ → Bool
is_finite w bits = nat_lt (exponent w bits) (2 ^ exponent_bits w - 1)

-- the fraction, behind a one where the exponent is not zero
abbrev pub significand : Width → ℕ → ℕ
significand w bits = cond (exponent w bits == 0) (fraction w bits) (fraction w bits + 2 ^ fraction_bits w)

-- the last place of the significand, from that of the least number
abbrev pub place : Width → ℕ → ℕ
place w bits = exponent w bits - 1

-- The numbers below a power of two lie closer than those above it. So the lower end is one quarter of a place away there,
-- and else two.
abbrev pub gap_below : Width → ℕ → ℕ
gap_below w bits = cond ((fraction w bits == 0) && nat_lt 1 (exponent w bits)) 1 2

-- The numbers that are nearer to this one than to its neighbours, without its sign: all of them are counted in quarters of
-- the last place. The ends, which lie in the middle, belong to it where the significand is even.
abbrev pub interval_of : Width → ℕ → Interval
interval_of w bits = record {
  one = 2 ^ (quarter_places w - place w bits);
  value = 4 * significand w bits * 2 ^ (place w bits - quarter_places w);
  below = gap_below w bits * 2 ^ (place w bits - quarter_places w);
  above = 2 * 2 ^ (place w bits - quarter_places w);
  has_ends = significand w bits % 2 == 0;
}

-- The decimal `d 10^k` of a number's bits, without its sign: 0 of a zero, else the shortest in its interval.
pub record IsDecimalOf (w : Width) (bits : ℕ) (d : ℕ) (k : ℤ) : Type 0 where
  pub zero_is : significand w bits ≡ 0 → (d ≡ 0) × (k ≡ pos 0)
  pub shortest : 0 < significand w bits → IsShortest (interval_of w bits) d k
