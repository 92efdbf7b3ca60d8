-- Decimal numbers: no sign but a minus, no zero in front, and no number past a limit. The place is that of the first byte.
use Rattle.std.specs.Prelude.{ℕ, zero, suc, ◌+◌, ◌-◌, ◌*◌, ℤ, pos, negsuc, List, [], ◌∷◌, not, ◌&&◌, cond, nat_lt, ◌==◌, Option, Some, None, Ok, Err}
use Rattle.std.specs.Char.{is_ascii_digit}
use Rattle.capnp_words.specs.Reads.{Read, read_as, stands_or, ended_read}

-- a number with one more digit; none where the byte is no digit, or takes the number past the limit
abbrev pub with_digit : (limit number byte : ℕ) → Option ℕ
with_digit limit number byte =
    cond (is_ascii_digit byte && not (nat_lt limit (10 * number + (byte - 48)))) (Some (10 * number + (byte - 48))) None

abbrev pub more_digits : (limit number place : ℕ) → List ℕ → Read ℕ
more_digits limit number place [] = Ok number
more_digits limit number place (b ∷ bs) = stands_or (with_digit limit number b) place (λ n. more_digits limit n (suc place) bs)

abbrev pub decimal_at : (limit place : ℕ) → List ℕ → Read ℕ
decimal_at limit place [] = Err place
decimal_at limit place (b ∷ bs) = cond (b == 48) (ended_read 0 (suc place) bs) (more_digits limit 0 place (b ∷ bs))

abbrev pub minus : ℕ → ℤ
minus zero = pos 0
minus (suc n) = negsuc n

-- what follows a minus is no zero
abbrev pub negative_at : (limit place : ℕ) → List ℕ → Read ℤ
negative_at limit place [] = Err place
negative_at limit place (b ∷ bs) = cond (b == 48) (Err place) (read_as minus (decimal_at limit place (b ∷ bs)))

-- a number with a sign up to a limit; the least is one further from zero
abbrev pub signed_at : (limit place : ℕ) → List ℕ → Read ℤ
signed_at limit place [] = Err place
signed_at limit place (b ∷ bs) = cond (b == 45) (negative_at (suc limit) (suc place) bs) (read_as pos (decimal_at limit place (b ∷ bs)))
