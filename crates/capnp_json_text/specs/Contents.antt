-- What strings stand for (RFC 8259, section 7): bytes in UTF-8. Of bytes that are no string these are no words.
use Rattle.std.specs.Prelude.{ℕ, zero, suc, ◌+◌, ◌-◌, ◌*◌, ◌%◌, List, [], ◌∷◌, ◌++◌, true, false, cond, ◌==◌, get_or, drop, length, Ok, Err}
use Rattle.std.specs.Char.{encode_utf8, is_ascii_digit}
use Rattle.std.specs.Int.{is_in_range}
use Rattle.capnp_json_text.specs.Strings.{CharacterRead, after_character, character_of}
use Rattle.capnp_json_text.specs.declared.strings.Character.{Character}
use Rattle.capnp_json_text.specs.declared.strings.Character.TheVariants.{Quote, Backslash, Control, Plain}

-- the number of a hexadecimal digit of either case
abbrev pub hex_value : ℕ → ℕ
hex_value b = cond (is_ascii_digit b) (b - 48) (cond (is_in_range 65 70 b) (b - 55) (cond (is_in_range 97 102 b) (b - 87) 0))

-- the number that four digits write
abbrev pub unit_of : List ℕ → ℕ
unit_of bs = 4096 * hex_value (get_or bs 0 0) + 256 * hex_value (get_or bs 1 0) + 16 * hex_value (get_or bs 2 0) + hex_value (get_or bs 3 0)

-- The character whose number stands behind \u. Two halves, the second behind another \u, have ten bits of it each.
abbrev pub escaped_character : List ℕ → ℕ
escaped_character bs = cond (is_in_range 55296 56319 (unit_of bs)) (65536 + 1024 * (unit_of bs % 1024) + unit_of (drop 6 bs) % 1024) (unit_of bs)

-- the bytes of a character; a half is none
abbrev pub character_bytes : ℕ → List ℕ
character_bytes c = cond (is_in_range 55296 57343 c) [] (encode_utf8 c)

-- what a letter behind a backslash stands for
abbrev pub short_meaning : ℕ → ℕ
short_meaning b = cond (b == 98) 8 (cond (b == 102) 12 (cond (b == 110) 10 (cond (b == 114) 13 (cond (b == 116) 9 b))))

-- behind a backslash
abbrev pub escape_content : List ℕ → List ℕ
escape_content [] = []
escape_content (b ∷ bs) = cond (b == 117) (character_bytes (escaped_character bs)) (short_meaning b ∷ [])

abbrev pub character_content_by : Character → ℕ → List ℕ → List ℕ
character_content_by Quote b bs = []
character_content_by Backslash b bs = escape_content bs
character_content_by Control b bs = []
character_content_by Plain b bs = b ∷ []

-- what the first character stands for
unfoldable pub character_content : List ℕ → List ℕ
character_content [] = []
character_content (b ∷ bs) = character_content_by (character_of b) b bs

abbrev pub more_content : (List ℕ → List ℕ) → List ℕ → CharacterRead → List ℕ
more_content again content (Ok (true, rest)) = content ++ again rest
more_content again content (Ok (false, rest)) = []
more_content again content (Err fault) = []

abbrev pub string_content_within : ℕ → List ℕ → List ℕ
string_content_within zero bs = []
string_content_within (suc n) bs = more_content (string_content_within n) (character_content bs) (after_character bs)

-- what a string stands for, behind its opening quote
unfoldable pub string_content : List ℕ → List ℕ
string_content bs = string_content_within (length bs) bs
