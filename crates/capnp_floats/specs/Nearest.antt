-- The binary floating point number that is nearest to a decimal.
use Rattle.std.specs.Prelude.{ℕ, ◌+◌, ◌-◌, ◌*◌, ◌^◌, ◌%◌, ◌<◌, ◌≤◌, ◌≡◌, ◌≢◌, ◌⊎◌}
use lib.IntN.{ℤ}
use Rattle.capnp_floats.specs.declared.width.Width.{Width}
use Rattle.capnp_floats.specs.declared.width.Width.TheVariants.{Float32, Float64}
use Rattle.capnp_floats.specs.Shortest.{apart_by, tens, tenths}
use Rattle.capnp_floats.specs.Floats.{exponent_bits, fraction_bits, place, significand}

-- the least number is one halved so often
abbrev pub least_places : Width → ℕ
least_places Float32 = 149
least_places Float64 = 1074

-- the bits of infinity: those of all finite numbers without sign are below
abbrev pub infinity_bits : Width → ℕ
infinity_bits w = (2 ^ exponent_bits w - 1) * 2 ^ fraction_bits w

-- how many least numbers a number is; infinity counts as the next power of two
unfoldable pub least_numbers : Width → ℕ → ℕ
least_numbers w bits = significand w bits * 2 ^ place w bits

-- how many least numbers a decimal `d 10^k` is, times its tenths
abbrev pub decimal_numbers : Width → ℕ → ℤ → ℕ
decimal_numbers w d k = d * 10 ^ tens k * 2 ^ least_places w

-- how far a number is from a decimal, times its tenths
abbrev pub far_from : Width → ℕ → ℤ → ℕ → ℕ
far_from w d k bits = apart_by (least_numbers w bits * 10 ^ tenths k) (decimal_numbers w d k)

-- twice the middle between the largest number and the next power of two
abbrev pub twice_last_middle : Width → ℕ
twice_last_middle w = least_numbers w (infinity_bits w - 1) + least_numbers w (infinity_bits w)

-- The decimal `d 10^k` is at least that middle.
abbrev pub IsPastRange : Width → ℕ → ℤ → Type 0
IsPastRange w d k = twice_last_middle w * 10 ^ tenths k ≤ 2 * decimal_numbers w d k

-- The number of these bits without sign is the nearest to the decimal `d 10^k`, which is in range; of two the one whose
-- bits are even.
pub record IsNearest (w : Width) (d : ℕ) (k : ℤ) (bits : ℕ) : Type 0 where
  pub finite : bits < infinity_bits w
  pub in_range : 2 * decimal_numbers w d k < twice_last_middle w * 10 ^ tenths k
  pub nearest : (c : ℕ) → c < infinity_bits w → c ≢ bits
      → (far_from w d k bits < far_from w d k c) ⊎ ((far_from w d k bits ≡ far_from w d k c) × (bits % 2 ≡ 0))
