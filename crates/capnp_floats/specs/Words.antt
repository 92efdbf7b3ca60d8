-- Words of floats: decimal numbers as JSON has them, and `inf`, `-inf`, `nan`.
use Rattle.std.specs.Prelude.{ℕ, suc, ◌+◌, ◌-◌, ◌*◌, ◌^◌, ◌≡◌, ◌==◌, ◌||◌, Bool, true, false, cond, nat_lt, List, [], ◌∷◌, length, slice_index, Option, Some, None, Result, Ok, Err, MatchResult}
use Rattle.std.specs.Char.{is_ascii_digit}
use Rattle.std.specs.List.{before_first, after_first}
use lib.IntN.{ℤ, pos, negsuc}
use Rattle.capnp_floats.specs.declared.grammar.Expected.{Expected}
use Rattle.capnp_floats.specs.declared.grammar.Expected.TheVariants as expected
use Rattle.capnp_floats.specs.declared.grammar.Kind.{Kind}
use Rattle.capnp_floats.specs.declared.grammar.Kind.TheVariants as kind
use Rattle.capnp_floats.specs.declared.word.Refusal.{Refusal}
use Rattle.capnp_floats.specs.declared.word.Refusal.TheVariants.{NoFloat, PastRange}
use Rattle.capnp_floats.specs.declared.width.Width.{Width}
use Rattle.capnp_floats.specs.Floats.{exponent_bits, fraction_bits}
use Rattle.capnp_floats.specs.Nearest.{IsNearest, IsPastRange, infinity_bits}

-- ---- which bytes are a word: what may stand next, or nothing where the byte can't stand ----

abbrev pub only : (wanted b : ℕ) → Expected → Option Expected
only wanted b next = cond (b == wanted) (Some next) None

abbrev pub digit_then : Expected → ℕ → Option Expected
digit_then next b = cond (is_ascii_digit b) (Some next) None

-- `e` or `E`
abbrev pub is_exponent_mark : ℕ → Bool
is_exponent_mark b = b == 101 || b == 69

abbrev pub mark_step : ℕ → Option Expected
mark_step b = cond (is_exponent_mark b) (Some expected.Exponent) None

abbrev pub is_point : ℕ → Bool
is_point b = b == 46

-- a zero in front stands alone before the point
abbrev pub zero_step : ℕ → Option Expected
zero_step b = cond (is_point b) (Some expected.Point) (mark_step b)

abbrev pub whole_step : ℕ → Option Expected
whole_step b = cond (is_ascii_digit b) (Some expected.Whole) (zero_step b)

abbrev pub places_step : ℕ → Option Expected
places_step b = cond (is_ascii_digit b) (Some expected.Places) (mark_step b)

abbrev pub exponent_step : ℕ → Option Expected
exponent_step b = cond (b == 43 || b == 45) (Some expected.SignedExponent) (digit_then expected.ExponentDigits b)

abbrev pub unsigned_step : ℕ → Option Expected
unsigned_step b = cond (b == 105) (Some expected.InfinityN) (cond (b == 48) (Some expected.AfterZero) (digit_then expected.Whole b))

abbrev pub first_step : ℕ → Option Expected
first_step b = cond (b == 45) (Some expected.Unsigned) (cond (b == 110) (Some expected.NanA) (unsigned_step b))

abbrev pub step_of : Expected → ℕ → Option Expected
step_of expected.First b = first_step b
step_of expected.Unsigned b = unsigned_step b
step_of expected.AfterZero b = zero_step b
step_of expected.Whole b = whole_step b
step_of expected.Point b = digit_then expected.Places b
step_of expected.Places b = places_step b
step_of expected.Exponent b = exponent_step b
step_of expected.SignedExponent b = digit_then expected.ExponentDigits b
step_of expected.ExponentDigits b = digit_then expected.ExponentDigits b
step_of expected.InfinityN b = only 110 b expected.InfinityF
step_of expected.InfinityF b = only 102 b expected.AfterInfinity
step_of expected.NanA b = only 97 b expected.NanN
step_of expected.NanN b = only 110 b expected.AfterNan
step_of expected.AfterInfinity b = None
step_of expected.AfterNan b = None

-- what a word is that ends here
abbrev pub end_of : Expected → Option Kind
end_of expected.AfterZero = Some kind.Number
end_of expected.Whole = Some kind.Number
end_of expected.Places = Some kind.Number
end_of expected.ExponentDigits = Some kind.Number
end_of expected.AfterInfinity = Some kind.Infinity
end_of expected.AfterNan = Some kind.Nan
end_of _ = None

abbrev pub ended_at : Option Kind → (place : ℕ) → Result Kind ℕ
ended_at None place = Err place
ended_at (Some k) place = Ok k

abbrev pub then_or : Option Expected → (place : ℕ) → (Expected → Result Kind ℕ) → Result Kind ℕ
then_or None place rest = Err place
then_or (Some next) place rest = rest next

abbrev pub kind_at : Expected → (place : ℕ) → List ℕ → Result Kind ℕ
kind_at next place [] = ended_at (end_of next) place
kind_at next place (b ∷ bs) = then_or (step_of next b) place (λ n. kind_at n (suc place) bs)

-- What a word is, or the place of the first byte that can't stand, which is the word's length where it ends too soon.
abbrev pub kind_of : List ℕ → Result Kind ℕ
kind_of word = kind_at expected.First 0 word

-- ---- what a number's word stands for ----

abbrev pub with_digit : (number b : ℕ) → ℕ
with_digit n b = cond (is_ascii_digit b) (10 * n + (b - 48)) n

abbrev pub digits_behind : (number : ℕ) → List ℕ → ℕ
digits_behind n [] = n
digits_behind n (b ∷ bs) = digits_behind (with_digit n b) bs

-- the natural of the digits that stand among bytes
abbrev pub digits_among : List ℕ → ℕ
digits_among bs = digits_behind 0 bs

abbrev pub begins_with_minus : List ℕ → Bool
begins_with_minus bs = slice_index bs 0 == 45

-- what stands before the exponent's mark, and behind it
abbrev pub significant : List ℕ → List ℕ
significant word = before_first is_exponent_mark word

abbrev pub exponent_text : List ℕ → List ℕ
exponent_text word = after_first is_exponent_mark word

-- how many digits stand behind the point
abbrev pub places_of : List ℕ → ℕ
places_of word = length (after_first is_point (significant word))

-- so many tens over so many, as a power of ten
abbrev pub power_of : (up down : ℕ) → ℤ
power_of up down = cond (nat_lt up down) (negsuc (down - up - 1)) (pos (up - down))

abbrev pub exponent_by : (negative : Bool) → (exponent places : ℕ) → ℤ
exponent_by true e p = power_of 0 (p + e)
exponent_by false e p = power_of e p

-- The decimal `d 10^k` of a number's word, without its sign: all digits before the exponent's mark, and the exponent less the
-- places behind the point.
abbrev pub word_digits : List ℕ → ℕ
word_digits word = digits_among (significant word)

abbrev pub word_exponent : List ℕ → ℤ
word_exponent word = exponent_by (begins_with_minus (exponent_text word)) (digits_among (exponent_text word)) (places_of word)

-- ---- the float of a word ----

-- bits with a sign
abbrev pub with_sign : Width → Bool → ℕ → ℕ
with_sign w true bits = bits + 2 ^ (fraction_bits w + exponent_bits w)
with_sign w false bits = bits

-- the bits that are read for what is no number
abbrev pub nan_bits : Width → ℕ
nan_bits w = infinity_bits w + 2 ^ (fraction_bits w - 1)

-- the nearest to a decimal with a sign, or a decimal past the range
abbrev pub ReadsDecimal : Width → Bool → ℕ → ℤ → Result ℕ Refusal → Type 0
ReadsDecimal w negative d k r = MatchResult r
    (λ bits. (n : ℕ) × IsNearest w d k n × (bits ≡ with_sign w negative n))
    (λ e. (e ≡ PastRange) × IsPastRange w d k)

-- the answer for a word of a kind
abbrev pub ReadsKind : Width → List ℕ → Kind → Result ℕ Refusal → Type 0
ReadsKind w word kind.Number r = ReadsDecimal w (begins_with_minus word) (word_digits word) (word_exponent word) r
ReadsKind w word kind.Infinity r = r ≡ Ok (with_sign w (begins_with_minus word) (infinity_bits w))
ReadsKind w word kind.Nan r = r ≡ Ok (nan_bits w)

abbrev pub ReadsAsKind : Width → List ℕ → Result Kind ℕ → Result ℕ Refusal → Type 0
ReadsAsKind w word (Ok k) r = ReadsKind w word k r
ReadsAsKind w word (Err place) r = r ≡ Err (NoFloat place)

-- The answer for a word: of a number the nearest to its decimal with its sign, which is rounded once.
abbrev pub IsFloatOf : Width → List ℕ → Result ℕ Refusal → Type 0
IsFloatOf w word r = ReadsAsKind w word (kind_of word) r
