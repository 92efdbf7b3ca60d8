-- Numbers (RFC 8259, section 6): -? (0 | [1-9][0-9]*) (. [0-9]+)? ([eE] [+-]? [0-9]+)?
use Rattle.std.specs.Prelude.{ℕ, List, [], ◌∷◌, ◌||◌, cond, ◌==◌, Ok, Err}
use Rattle.std.specs.Char.{is_ascii_digit}
use Rattle.capnp_json_text.specs.Readings.{Rest, then_read}

-- digits, if there are any
abbrev pub after_digits : List ℕ → List ℕ
after_digits [] = []
after_digits (b ∷ bs) = cond (is_ascii_digit b) (after_digits bs) (b ∷ bs)

-- one digit or more
abbrev pub after_some_digits : List ℕ → Rest
after_some_digits [] = Err []
after_some_digits (b ∷ bs) = cond (is_ascii_digit b) (Ok (after_digits bs)) (Err (b ∷ bs))

-- a minus, if there is one
abbrev pub after_minus : List ℕ → List ℕ
after_minus [] = []
after_minus (b ∷ bs) = cond (b == 45) bs (b ∷ bs)

-- a plus or a minus, if there is one
abbrev pub after_sign : List ℕ → List ℕ
after_sign [] = []
after_sign (b ∷ bs) = cond (b == 43 || b == 45) bs (b ∷ bs)

-- a zero, or digits with no zero in front
abbrev pub after_whole : List ℕ → Rest
after_whole [] = Err []
after_whole (b ∷ bs) = cond (b == 48) (Ok bs) (after_some_digits (b ∷ bs))

-- a point and digits, if a point is there
abbrev pub after_fraction : List ℕ → Rest
after_fraction [] = Ok []
after_fraction (b ∷ bs) = cond (b == 46) (after_some_digits bs) (Ok (b ∷ bs))

-- e or E, a sign or none, and digits, if e or E is there
abbrev pub after_exponent : List ℕ → Rest
after_exponent [] = Ok []
after_exponent (b ∷ bs) = cond (b == 101 || b == 69) (after_some_digits (after_sign bs)) (Ok (b ∷ bs))

unfoldable pub after_number : List ℕ → Rest
after_number bs = then_read (then_read (after_whole (after_minus bs)) after_fraction) after_exponent
