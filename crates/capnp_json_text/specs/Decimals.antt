-- What a number stands for: (-1)^s d 10^k. Of bytes that are no number these are no words.
use Rattle.std.specs.Prelude.{ℕ, ◌+◌, ◌-◌, ◌*◌, List, [], ◌∷◌, ◌++◌, Bool, false, ◌||◌, cond, ◌==◌, length, take}
use Rattle.capnp_json_text.specs.Numbers.{after_digits, after_minus, after_sign}

-- what stands before what is left
abbrev pub before : List ℕ → List ℕ → List ℕ
before bs rest = take (length bs - length rest) bs

-- the digits at the front
abbrev pub digits_of : List ℕ → List ℕ
digits_of bs = before bs (after_digits bs)

abbrev pub is_minus : List ℕ → Bool
is_minus [] = false
is_minus (b ∷ bs) = b == 45

-- the digits before the point
unfoldable pub whole_digits : List ℕ → List ℕ
whole_digits bs = digits_of (after_minus bs)

-- what stands behind a point, or nothing
abbrev pub behind_point : List ℕ → List ℕ
behind_point [] = []
behind_point (b ∷ bs) = cond (b == 46) bs []

-- the digits behind the point
unfoldable pub fraction_digits : List ℕ → List ℕ
fraction_digits bs = digits_of (behind_point (after_digits (after_minus bs)))

abbrev pub after_point : List ℕ → List ℕ
after_point [] = []
after_point (b ∷ bs) = cond (b == 46) (after_digits bs) (b ∷ bs)

-- what stands behind the letter of the exponent, or nothing
abbrev pub behind_letter : List ℕ → List ℕ
behind_letter [] = []
behind_letter (b ∷ bs) = cond (b == 101 || b == 69) bs []

unfoldable pub exponent_of : List ℕ → List ℕ
exponent_of bs = behind_letter (after_point (after_digits (after_minus bs)))

abbrev pub exponent_digits : List ℕ → List ℕ
exponent_digits bs = digits_of (after_sign (exponent_of bs))

-- a natural in decimal digits, behind one that is read
abbrev pub natural_from : ℕ → List ℕ → ℕ
natural_from n [] = n
natural_from n (b ∷ bs) = natural_from (10 * n + (b - 48)) bs

-- s, d, and k as a difference
pub record Decimal : Type 0 where
  pub negative : Bool
  pub digits : ℕ
  pub tens : ℕ
  pub tenths : ℕ

-- the decimal of a sign, digits before and behind the point, and an exponent's sign and digits
abbrev pub decimal_by : Bool → List ℕ → List ℕ → Bool → List ℕ → Decimal
decimal_by negative whole fraction below exponent =
    record {
      negative = negative;
      digits = natural_from 0 (whole ++ fraction);
      tens = cond below 0 (natural_from 0 exponent);
      tenths = length fraction + cond below (natural_from 0 exponent) 0;
    }

unfoldable pub decimal_of : List ℕ → Decimal
decimal_of bs = decimal_by (is_minus bs) (whole_digits bs) (fraction_digits bs) (is_minus (exponent_of bs)) (exponent_digits bs)
