-- Whole numbers, exactly: a JSON number stands for (-1)^s d 10^k, and nothing is rounded.
use Rattle.std.specs.Prelude.{ℕ, zero, suc, ◌-◌, ◌*◌, ◌/◌, ◌%◌, ◌^◌, ℤ, pos, negsuc, List, Bool, true, false, cond, ◌==◌, nat_lt, Option, Some, None}
use Rattle.std.specs.Option.{option_map}
use Rattle.capnp_json_text.specs.Decimals.{Decimal, decimal_of}

-- n / m where that is whole
abbrev pub quotient_of : ℕ → ℕ → Option ℕ
quotient_of n m = cond (n % m == 0) (Some (n / m)) None

-- the natural d 10^k, where that is whole
abbrev pub natural_of : Decimal → Option ℕ
natural_of d = quotient_of (d.digits * 10 ^ d.tens) (10 ^ d.tenths)

-- a natural where 64 bits hold it
abbrev pub in_word : ℕ → Option ℕ
in_word n = cond (nat_lt n (2 ^ 64)) (Some n) None

abbrev pub small : Option ℕ → Option ℕ
small None = None
small (Some n) = in_word n

-- a natural with a sign; zero has none
abbrev pub with_sign : (negative : Bool) → ℕ → ℤ
with_sign false n = pos n
with_sign true zero = pos 0
with_sign true (suc n) = negsuc n

-- the whole number that a decimal stands for, if it is whole
abbrev pub integer_of : Decimal → Option ℤ
integer_of d = option_map (with_sign d.negative) (natural_of d)

-- whether so many bits hold a number, with a sign in two's complement and without one
abbrev pub is_in_signed : (bits : ℕ) → ℤ → Bool
is_in_signed bits (pos n) = nat_lt n (2 ^ (bits - 1))
is_in_signed bits (negsuc n) = nat_lt n (2 ^ (bits - 1))

abbrev pub is_in_unsigned : (bits : ℕ) → ℤ → Bool
is_in_unsigned bits (pos n) = nat_lt n (2 ^ bits)
is_in_unsigned bits (negsuc n) = false

-- what passes a test
abbrev pub only_if : (ℤ → Bool) → Option ℤ → Option ℤ
only_if test None = None
only_if test (Some x) = cond (test x) (Some x) None

-- the whole number of a number's bytes, where it is one and so many bits hold it
unfoldable pub signed_of : (bits : ℕ) → List ℕ → Option ℤ
signed_of bits token = only_if (is_in_signed bits) (integer_of (decimal_of token))

unfoldable pub unsigned_of : (bits : ℕ) → List ℕ → Option ℤ
unsigned_of bits token = only_if (is_in_unsigned bits) (integer_of (decimal_of token))
