-- Digits without the zeros at their end, and numbers that are kept up to a limit.
use Rattle.std.specs.Prelude.{ℕ, ◌+◌, ◌-◌, ◌*◌, ◌%◌, ◌^◌, ◌<◌, ◌≤◌, ◌≡◌, ◌≢◌, ◌⊎◌, List, ◌++◌, length, IsTrue, slice_index, nat_lt, cond, Bool, true, false, Option, None}
use Rattle.std.specs.Char.{is_ascii_digit}
use Rattle.capnp_json_text.specs.Decimals.{natural_from}
use Rattle.capnp_from_json.specs.Integers.{in_word, quotient_of, small}

abbrev pub AreDigits : List ℕ → Type 0
AreDigits xs = (i : ℕ) → i < length xs → IsTrue (is_ascii_digit (slice_index xs i))

-- one row of digits is another without zeros at its end
pub record IsTrimmed (xs ys : List ℕ) : Type 0 where
  pub fewer : length ys ≤ length xs
  pub value : (n : ℕ) → natural_from n xs ≡ natural_from n ys * 10 ^ (length xs - length ys)
  pub last : 0 < length ys → (n : ℕ) → natural_from n ys % 10 ≢ 0

-- a number, or one in its place where both reach a limit
abbrev pub IsCapped : (limit found number : ℕ) → Type 0
IsCapped limit n m = (n ≡ m) ⊎ ((limit ≤ n) × (limit ≤ m))

-- d times a power of ten, where that is whole and 64 bits hold it; d does not end in a zero
abbrev pub scaled_by : (d up down : ℕ) → Option ℕ
scaled_by d up down = cond (nat_lt up down) None (in_word (d * 10 ^ (up - down)))

-- the difference of two numbers, or one in its place of 20 or more
abbrev pub IsDifference : (up down u v : ℕ) → Type 0
IsDifference up down u v = ((up < down) × (u < v)) ⊎ ((down ≤ up) × (v ≤ u) × IsCapped 20 (up - down) (u - v))

-- an exponent with its sign, as tens and tenths
abbrev pub ArePowers : (below : Bool) → (exponent up down : ℕ) → Type 0
ArePowers false e up down = IsCapped (2 ^ 100) up e × (down ≡ 0)
ArePowers true e up down = (up ≡ 0) × IsCapped (2 ^ 100) down e

-- the natural of a number by its digits and its exponent, where it is whole and 64 bits hold it
abbrev pub shifted_natural : (below : Bool) → (exponent : ℕ) → (whole fraction : List ℕ) → Option ℕ
shifted_natural below e whole fraction =
    small (quotient_of (natural_from 0 (whole ++ fraction) * 10 ^ cond below 0 e) (10 ^ (length fraction + cond below e 0)))
