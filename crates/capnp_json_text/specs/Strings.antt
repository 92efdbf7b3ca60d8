-- Strings (RFC 8259, section 7), as bytes. That the bytes from 128 on are UTF-8 is asked of the text as a whole.
use Rattle.std.specs.Prelude.{ℕ, zero, suc, List, [], ◌∷◌, Bool, true, false, ◌||◌, cond, nat_lt, ◌==◌, length, Result, Ok, Err}
use Rattle.std.specs.Char.{is_ascii_hexdigit}
use Rattle.std.specs.Int.{is_in_range}
use Rattle.capnp_json_text.specs.Readings.{Rest, then_read, after_one, after_only}
use Rattle.capnp_json_text.specs.declared.strings.Character.{Character}
use Rattle.capnp_json_text.specs.declared.strings.Character.TheVariants.{Quote, Backslash, Control, Plain}

-- \" \\ \/ \b \f \n \r \t
abbrev pub is_short_escape : ℕ → Bool
is_short_escape b = b == 34 || b == 92 || b == 47 || b == 98 || b == 102 || b == 110 || b == 114 || b == 116

-- Four hexadecimal digits are a number of 16 bits. Those from D800 to DBFF are the first half of a character past 65,535,
-- and those from DC00 to DFFF its second half: no half stands alone. So D as the first digit is looked at, and then the second.
abbrev pub is_d : ℕ → Bool
is_d b = b == 68 || b == 100

-- 0 to 7: behind D, a number that is no half
abbrev pub is_octal : ℕ → Bool
is_octal b = is_in_range 48 55 b

-- 8, 9, A, B: behind D, a first half
abbrev pub is_high : ℕ → Bool
is_high b = is_in_range 56 57 b || is_in_range 65 66 b || is_in_range 97 98 b

-- C to F: behind D, a second half
abbrev pub is_low : ℕ → Bool
is_low b = is_in_range 67 70 b || is_in_range 99 102 b

abbrev pub after_two_digits : List ℕ → Rest
after_two_digits bs = then_read (after_one is_ascii_hexdigit bs) (after_one is_ascii_hexdigit)

-- the second half, with its backslash and u
abbrev pub after_second_half : List ℕ → Rest
after_second_half bs = then_read (then_read (then_read (then_read (after_only 92 bs) (after_only 117)) (after_one is_d)) (after_one is_low)) after_two_digits

-- behind \uD
abbrev pub after_d : List ℕ → Rest
after_d [] = Err []
after_d (b ∷ bs) = cond (is_octal b) (after_two_digits bs) (cond (is_high b) (then_read (after_two_digits bs) after_second_half) (Err (b ∷ bs)))

-- behind \u
abbrev pub after_unicode : List ℕ → Rest
after_unicode [] = Err []
after_unicode (b ∷ bs) = cond (is_d b) (after_d bs) (cond (is_ascii_hexdigit b) (then_read (after_one is_ascii_hexdigit bs) after_two_digits) (Err (b ∷ bs)))

-- behind a backslash
unfoldable pub after_escape : List ℕ → Rest
after_escape [] = Err []
after_escape (b ∷ bs) = cond (b == 117) (after_unicode bs) (cond (is_short_escape b) (Ok bs) (Err (b ∷ bs)))

-- what a byte is within a string
abbrev pub character_of : ℕ → Character
character_of b = cond (b == 34) Quote (cond (b == 92) Backslash (cond (nat_lt b 32) Control Plain))

-- one character, with true, or the closing quote, with false
abbrev pub CharacterRead : Type 0
CharacterRead = Result (Bool × List ℕ) (List ℕ)

abbrev pub with_more : Rest → CharacterRead
with_more (Ok rest) = Ok (true, rest)
with_more (Err fault) = Err fault

abbrev pub after_character_by : Character → ℕ → List ℕ → CharacterRead
after_character_by Quote b bs = Ok (false, bs)
after_character_by Backslash b bs = with_more (after_escape bs)
after_character_by Control b bs = Err (b ∷ bs)
after_character_by Plain b bs = Ok (true, bs)

abbrev pub after_character : List ℕ → CharacterRead
after_character [] = Err []
after_character (b ∷ bs) = after_character_by (character_of b) b bs

abbrev pub more_characters : (List ℕ → Rest) → CharacterRead → Rest
more_characters again (Ok (true, rest)) = again rest
more_characters again (Ok (false, rest)) = Ok rest
more_characters again (Err fault) = Err fault

-- so many characters at the most
abbrev pub after_string_within : ℕ → List ℕ → Rest
after_string_within zero bs = Err bs
after_string_within (suc n) bs = more_characters (after_string_within n) (after_character bs)

-- characters, and the closing quote: the string behind its opening quote; it has no more characters than bytes
unfoldable pub after_string : List ℕ → Rest
after_string bs = after_string_within (length bs) bs
