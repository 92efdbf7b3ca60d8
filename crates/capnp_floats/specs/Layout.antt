-- The text of a decimal and of a float, as bytes.
use Rattle.std.specs.Prelude.{ℕ, ◌+◌, ◌-◌, ◌/◌, ◌%◌, ◌^◌, ◌<◌, ◌≡◌, ◌==◌, ◌&&◌, Bool, true, false, cond, nat_lt, nat_le, List, [], ◌++◌, length, take, drop, replicate, decimal, codes}
use lib.IntN.{ℤ}
use Rattle.capnp_floats.specs.declared.width.Width.{Width}
use Rattle.capnp_floats.specs.declared.width.Width.TheVariants.{Float32, Float64}
use Rattle.capnp_floats.specs.Shortest.{tens, tenths}
use Rattle.capnp_floats.specs.Floats.{IsDecimalOf, exponent_bits, fraction, fraction_bits, is_finite}

-- how many places before the point a text without exponent may have where there are few digits, and where there are more
abbrev pub few_places : Width → ℕ
few_places Float32 = 6
few_places Float64 = 15

abbrev pub many_places : Width → ℕ
many_places Float32 = 8
many_places Float64 = 17

abbrev pub places_for : Width → ℕ → ℕ
places_for w count = cond (nat_le count (few_places w)) (few_places w) (many_places w)

-- Whether a decimal of so many digits, tens and tenths stands without exponent: its first digit stands for 10^-4 or more,
-- and has no more places than there may be.
abbrev pub is_plain : Width → ℕ → ℕ → ℕ → Bool
is_plain w count up down = nat_le down (count + up + 3) && nat_le (count + up) (places_for w count + down)

-- digits with their tens as zeros, or with a point among them, or with a point and zeros before them
abbrev pub plain_text : List ℕ → ℕ → ℕ → List ℕ
plain_text ds up down = cond (down == 0) (ds ++ replicate up 48)
    (cond (nat_lt down (length ds))
    (take (length ds - down) ds ++ codes "." ++ drop (length ds - down) ds)
    (codes "0." ++ replicate (down - length ds) 48 ++ ds))

-- a number in at least two digits
abbrev pub two_digits_text : ℕ → List ℕ
two_digits_text n = cond (nat_lt n 10) (codes "0" ++ decimal n) (decimal n)

-- the power of ten that is so many tens over so many
abbrev pub power_text : ℕ → ℕ → List ℕ
power_text up down = cond (nat_lt up down) (codes "e-" ++ two_digits_text (down - up)) (codes "e" ++ two_digits_text (up - down))

-- a point and the digits behind the first, if there are any
abbrev pub others_text : List ℕ → List ℕ
others_text ds = cond (nat_lt 1 (length ds)) (codes "." ++ drop 1 ds) []

-- the first digit, the others, and the power of ten for which the first stands
abbrev pub scientific_text : List ℕ → ℕ → ℕ → List ℕ
scientific_text ds up down = take 1 ds ++ others_text ds ++ power_text (length ds - 1 + up) down

abbrev pub digits_text : Width → List ℕ → ℕ → ℕ → List ℕ
digits_text w ds up down = cond (is_plain w (length ds) up down) (plain_text ds up down) (scientific_text ds up down)

-- The decimal `d 10^k` as text.
abbrev pub layout : Width → ℕ → ℤ → List ℕ
layout w d k = digits_text w (decimal d) (tens k) (tenths k)

abbrev pub is_negative : Width → ℕ → Bool
is_negative w bits = bits / 2 ^ (fraction_bits w + exponent_bits w) % 2 == 1

abbrev pub sign_text : Bool → List ℕ
sign_text true = codes "-"
sign_text false = []

-- The text of a number's bits: of a finite one its decimal, behind `-` where the sign is set. What is no number has no sign.
pub record IsFloatText (w : Width) (bits : ℕ) (text : List ℕ) : Type 0 where
  pub finite : is_finite w bits ≡ true → (d : ℕ) × (k : ℤ) × IsDecimalOf w bits d k × (text ≡ sign_text (is_negative w bits) ++ layout w d k)
  pub infinite : is_finite w bits ≡ false → fraction w bits ≡ 0 → text ≡ sign_text (is_negative w bits) ++ codes "inf"
  pub none : is_finite w bits ≡ false → 0 < fraction w bits → text ≡ codes "nan"

-- a text with that of a number behind it
abbrev pub AppendsFloat : Width → ℕ → List ℕ → List ℕ → Type 0
AppendsFloat w bits old new = (text : List ℕ) × IsFloatText w bits text × (new ≡ old ++ text)
