-- Numbers of bytes among words.
use Rattle.std.specs.Prelude.{ℕ, ◌+◌, ◌-◌, ◌*◌, ◌^◌, List, [], ◌∷◌, ◌&&◌, cond, nat_lt, Option, Some, None}
use Rattle.std.specs.Char.{is_ascii_digit}

-- a number with one more digit; none where the byte is no digit, or takes the number past 64 bits
abbrev pub with_digit : (number byte : ℕ) → Option ℕ
with_digit number byte =
    cond (is_ascii_digit byte && nat_lt (10 * number + (byte - 48)) (2 ^ 64)) (Some (10 * number + (byte - 48))) None

abbrev pub digit_behind : Option ℕ → (byte : ℕ) → Option ℕ
digit_behind None byte = None
digit_behind (Some number) byte = with_digit number byte

abbrev pub more_digits : Option ℕ → List ℕ → Option ℕ
more_digits number [] = number
more_digits number (byte ∷ bytes) = more_digits (digit_behind number byte) bytes

-- the number that a word of decimal digits is, one or more
abbrev pub number_asked : List ℕ → Option ℕ
number_asked [] = None
number_asked (byte ∷ bytes) = more_digits (Some 0) (byte ∷ bytes)
