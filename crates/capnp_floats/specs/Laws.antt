-- What holds of floats and their decimals.
use Rattle.std.specs.Prelude.{ℕ, ◌+◌, ◌^◌, ◌%◌, ◌<◌, ◌≡◌, ◌⊎◌, List, Result, Ok, true, false}
use lib.IntN.{ℤ}
use Rattle.capnp_floats.specs.declared.width.Width.{Width}
use Rattle.capnp_floats.specs.declared.word.Refusal.{Refusal}
use Rattle.capnp_floats.specs.Floats.{IsDecimalOf, exponent_bits, fraction, fraction_bits, is_finite}
use Rattle.capnp_floats.specs.Layout.{IsFloatText}
use Rattle.capnp_floats.specs.Nearest.{IsNearest}
use Rattle.capnp_floats.specs.Words.{IsFloatOf, nan_bits}

-- the bits but for the sign
abbrev pub without_sign : Width → ℕ → ℕ
without_sign w bits = bits % 2 ^ (fraction_bits w + exponent_bits w)

-- The number that is nearest to a finite number's decimal is this number, without its sign.
abbrev pub DecimalsAreRead : Type 0
DecimalsAreRead = (w : Width) (bits d : ℕ) (k : ℤ) → is_finite w bits ≡ true → IsDecimalOf w bits d k → IsNearest w d k (without_sign w bits)

-- No decimal has two nearest numbers.
abbrev pub OneIsNearest : Type 0
OneIsNearest = (w : Width) (d : ℕ) (k : ℤ) (a b : ℕ) → IsNearest w d k a → IsNearest w d k b → a ≡ b

-- No number has two decimals.
abbrev pub OneDecimal : Type 0
OneDecimal = (w : Width) (bits d d' : ℕ) (k k' : ℤ) → IsDecimalOf w bits d k → IsDecimalOf w bits d' k' → (d ≡ d') × (k ≡ k')

-- the bits have no more than the sign before the exponent
abbrev pub IsOfWidth : Width → ℕ → Type 0
IsOfWidth w bits = bits < 2 ^ (fraction_bits w + exponent_bits w + 1)

-- The text of a finite number or an infinity is read as the same bits.
abbrev pub TextsAreRead : Type 0
TextsAreRead =
    (w : Width) (bits : ℕ) (text : List ℕ) (r : Result ℕ Refusal) → IsOfWidth w bits → (is_finite w bits ≡ true) ⊎ (fraction w bits ≡ 0)
    → IsFloatText w bits text → IsFloatOf w text r → r ≡ Ok bits

-- That of what is no number is read as the quiet one.
abbrev pub NansAreOne : Type 0
NansAreOne =
    (w : Width) (bits : ℕ) (text : List ℕ) (r : Result ℕ Refusal) → is_finite w bits ≡ false → 0 < fraction w bits
    → IsFloatText w bits text → IsFloatOf w text r → r ≡ Ok (nan_bits w)

-- Some function gives each word its float, or why it has none: the one answer of which `IsFloatOf` holds, where there is one.
abbrev pub FloatsAreThere : Type 0
FloatsAreThere =
    (floats : Width → List ℕ → Result ℕ Refusal)
    × ((w : Width) (word : List ℕ) (r : Result ℕ Refusal) → IsFloatOf w word r → floats w word ≡ r)
