-- Texts and data in quotes, byte for byte.
use Rattle.std.specs.Prelude.{ℕ, suc, ◌+◌, ◌-◌, ◌*◌, List, [], ◌∷◌, ◌++◌, Bool, true, false, not, ◌&&◌, ◌||◌, cond, nat_lt, ◌==◌, Option, Some, None, Ok, Err}
use Rattle.std.specs.Char.{encode_utf8}
use Rattle.std.specs.Int.{is_in_range}
use Rattle.capnp_words.specs.Reads.{Read, read_as, stands_or}
use Rattle.capnp_words.specs.declared.quoted.Expected.{Expected}
use Rattle.capnp_words.specs.declared.quoted.Expected.TheVariants as expected
use Rattle.capnp_words.specs.declared.quoted.Piece.{Piece}
use Rattle.capnp_words.specs.declared.quoted.Piece.TheVariants as piece

-- what a byte stands for, and what may stand next; none where the byte can't stand
abbrev pub ByteStep : Type 0
ByteStep = Option (Piece × Expected)

-- the value of a hexadecimal digit, in lower case
abbrev pub hex_value : ℕ → Option ℕ
hex_value b = cond (is_in_range 48 57 b) (Some (b - 48)) (cond (is_in_range 97 102 b) (Some (b - 87)) None)

-- a quote ends the text, and a backslash begins an escape; a control character does not stand as itself
abbrev pub character_step : ℕ → ByteStep
character_step b =
    cond (b == 34) (Some (piece.Nothing, expected.End))
    (cond (b == 92) (Some (piece.Nothing, expected.Escape))
    (cond (nat_lt b 32 || b == 127) None (Some (piece.Byte b, expected.Character))))

-- \" \\ \n \r \t \0, and \u before a character's number
abbrev pub escape_step : ℕ → ByteStep
escape_step b =
    cond (b == 34 || b == 92) (Some (piece.Byte b, expected.Character))
    (cond (b == 110) (Some (piece.Byte 10, expected.Character))
    (cond (b == 114) (Some (piece.Byte 13, expected.Character))
    (cond (b == 116) (Some (piece.Byte 9, expected.Character))
    (cond (b == 48) (Some (piece.Byte 0, expected.Character))
    (cond (b == 117) (Some (piece.Nothing, expected.Brace)) None)))))

-- the numbers of the halves of characters in 16-bit units, which are no characters
abbrev pub is_surrogate : ℕ → Bool
is_surrogate number = is_in_range 55296 57343 number

-- a character's number with so many digits, the last of them six: below 2^20 + 2^16, and at six digits a character's
abbrev pub is_code_begun : (count number : ℕ) → Bool
is_code_begun count number = nat_lt number 1114112 && not (count == 6 && is_surrogate number)

abbrev pub code_digit : (count number : ℕ) → Option ℕ → ByteStep
code_digit count number None = None
code_digit count number (Some digit) =
    cond (nat_lt count 6 && is_code_begun (count + 1) (16 * number + digit)) (Some (piece.Nothing, expected.CodeDigit (count + 1) (16 * number + digit))) None

-- one to six digits of a character's number, and the closing brace
abbrev pub code_step : (count number : ℕ) → ℕ → ByteStep
code_step count number b =
    cond (b == 125)
    (cond (nat_lt 0 count && not (is_surrogate number)) (Some (piece.Character number, expected.Character)) None)
    (code_digit count number (hex_value b))

-- the byte that has to stand here
abbrev pub only : (wanted b : ℕ) → Expected → ByteStep
only wanted b next = cond (b == wanted) (Some (piece.Nothing, next)) None

abbrev pub high_digit : Option ℕ → ByteStep
high_digit None = None
high_digit (Some digit) = Some (piece.Nothing, expected.LowDigit digit)

abbrev pub low_digit : (high : ℕ) → Option ℕ → ByteStep
low_digit high None = None
low_digit high (Some digit) = Some (piece.Byte (16 * high + digit), expected.HighDigit)

-- the closing quote of data, or the first digit of a byte
abbrev pub high_step : ℕ → ByteStep
high_step b = cond (b == 34) (Some (piece.Nothing, expected.End)) (high_digit (hex_value b))

abbrev pub step_of : Expected → ℕ → ByteStep
step_of expected.Character b = character_step b
step_of expected.Escape b = escape_step b
step_of expected.Brace b = only 123 b (expected.CodeDigit 0 0)
step_of (expected.CodeDigit count number) b = code_step count number b
step_of expected.Zero b = only 48 b expected.Ex
step_of expected.Ex b = only 120 b expected.Quote
step_of expected.Quote b = only 34 b expected.HighDigit
step_of expected.HighDigit b = high_step b
step_of (expected.LowDigit high) b = low_digit high (hex_value b)
step_of expected.End b = None

-- the bytes that a piece stands for; a character's are its UTF-8
abbrev pub piece_bytes : Piece → List ℕ
piece_bytes piece.Nothing = []
piece_bytes (piece.Byte b) = b ∷ []
piece_bytes (piece.Character c) = encode_utf8 c

-- a word ends after its closing quote
abbrev pub is_end : Expected → Bool
is_end expected.End = true
is_end _ = false

abbrev pub quoted_end : (ended : Bool) → (place : ℕ) → Read (List ℕ)
quoted_end true place = Ok []
quoted_end false place = Err place

abbrev pub quoted_at : Expected → (place : ℕ) → List ℕ → Read (List ℕ)
quoted_at next place [] = quoted_end (is_end next) place
quoted_at next place (b ∷ bs) = stands_or (step_of next b) place (λ s. read_as (λ rest. piece_bytes s.0 ++ rest) (quoted_at s.1 (suc place) bs))

-- a text: in quotes, or any bytes that begin with none
abbrev pub text_word_at : List ℕ → Read (List ℕ)
text_word_at [] = Ok []
text_word_at (b ∷ bs) = cond (b == 34) (quoted_at expected.Character 1 bs) (Ok (b ∷ bs))

abbrev pub data_at : List ℕ → Read (List ℕ)
data_at bs = quoted_at expected.Zero 0 bs
