-- The float of a word as a function: of all numbers in range the nearest to its decimal.
use Rattle.std.specs.Prelude.{ℕ, zero, suc, ◌+◌, ◌%◌, ◌*◌, ◌^◌, ◌≡◌, Bool, true, false, cond, nat_lt, List, Result, Ok, Err}
use lib.IntN.{ℤ}
use Rattle.capnp_floats.specs.Nearest.{decimal_numbers, far_from, infinity_bits, twice_last_middle}
use Rattle.capnp_floats.specs.Shortest.{tenths}
use Rattle.capnp_floats.specs.Words.{IsFloatOf, begins_with_minus, kind_of, nan_bits, with_sign, word_digits, word_exponent}
use Rattle.capnp_floats.specs.declared.grammar.Kind.{Kind}
use Rattle.capnp_floats.specs.declared.grammar.Kind.TheVariants as kind
use Rattle.capnp_floats.specs.declared.word.Refusal.{Refusal}
use Rattle.capnp_floats.specs.declared.word.Refusal.TheVariants.{NoFloat, PastRange}
use Rattle.capnp_floats.specs.declared.width.Width.{Width}

-- Nearer bits rank lower, and of two as near the even ones.
abbrev pub rank : (far : ℕ → ℕ) → (bits : ℕ) → ℕ
rank far bits = 2 * far bits + bits % 2

-- of two the one that ranks lower
abbrev pub lower_of : (far : ℕ → ℕ) → (a b : ℕ) → ℕ
lower_of far a b = cond (nat_lt (rank far b) (rank far a)) b a

-- the lowest of all bits below a bound
unfoldable pub nearest_below : (far : ℕ → ℕ) → (bound : ℕ) → ℕ
nearest_below far zero = 0
nearest_below far (suc n) = lower_of far (nearest_below far n) n

-- whether a decimal `d 10^k` is below the middle between the greatest number and the next power of two
abbrev pub is_in_range : Width → ℕ → ℤ → Bool
is_in_range w d k = nat_lt (2 * decimal_numbers w d k) (twice_last_middle w * 10 ^ tenths k)

abbrev pub float_of_decimal : Width → (negative : Bool) → ℕ → ℤ → (in_range : Bool) → Result ℕ Refusal
float_of_decimal w negative d k true = Ok (with_sign w negative (nearest_below (far_from w d k) (infinity_bits w)))
float_of_decimal w negative d k false = Err PastRange

abbrev pub float_of_kind : Width → List ℕ → Result Kind ℕ → Result ℕ Refusal
float_of_kind w word (Ok kind.Number) =
    float_of_decimal w (begins_with_minus word) (word_digits word) (word_exponent word) (is_in_range w (word_digits word) (word_exponent word))
float_of_kind w word (Ok kind.Infinity) = Ok (with_sign w (begins_with_minus word) (infinity_bits w))
float_of_kind w word (Ok kind.Nan) = Ok (nan_bits w)
float_of_kind w word (Err place) = Err (NoFloat place)

-- the bits of the float that a word is, or why there are none
abbrev pub float_of : Width → List ℕ → Result ℕ Refusal
float_of w word = float_of_kind w word (kind_of word)

-- It is the one of which `IsFloatOf` holds, and it holds of it for each word.
abbrev pub WordsHaveOneFloat : Type 0
WordsHaveOneFloat = (w : Width) (word : List ℕ) (r : Result ℕ Refusal) → IsFloatOf w word r → float_of w word ≡ r

abbrev pub EachWordHasAFloat : Type 0
EachWordHasAFloat = (w : Width) (word : List ℕ) → IsFloatOf w word (float_of w word)
