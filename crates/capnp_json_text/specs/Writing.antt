-- Strings as they are written.
use Rattle.std.specs.Prelude.{ℕ, ◌+◌, ◌/◌, ◌%◌, List, [], ◌∷◌, ◌++◌, ◌||◌, cond, nat_lt, ◌==◌, ◌≡◌, Ok}
use Rattle.std.specs.List.{flat_map}
use Rattle.std.specs.Char.{digit_char}
use Rattle.capnp_json_text.specs.Contents.{string_content}
use Rattle.capnp_json_text.specs.Strings.{after_string}

-- a byte below 32: \b \t \n \f \r, or its number in two digits
abbrev pub control_written : ℕ → List ℕ
control_written b =
    cond (b == 8) (92 ∷ 98 ∷ [])
    (cond (b == 9) (92 ∷ 116 ∷ [])
    (cond (b == 10) (92 ∷ 110 ∷ [])
    (cond (b == 12) (92 ∷ 102 ∷ [])
    (cond (b == 13) (92 ∷ 114 ∷ []) (92 ∷ 117 ∷ 48 ∷ 48 ∷ digit_char (b / 16) ∷ digit_char (b % 16) ∷ [])))))

-- a byte of a string: a quote and a backslash behind a backslash, and what is not below 32 as it is
unfoldable pub byte_written : ℕ → List ℕ
byte_written b = cond (b == 34 || b == 92) (92 ∷ b ∷ []) (cond (nat_lt b 32) (control_written b) (b ∷ []))

-- bytes between quotes
abbrev pub string_written : List ℕ → List ℕ
string_written bs = 34 ∷ (flat_map byte_written bs ++ 34 ∷ [])

-- What is written is a string that stands for the bytes, whatever follows.
abbrev pub IsReadBack : List ℕ → List ℕ → Type 0
IsReadBack bs rest = (after_string (flat_map byte_written bs ++ 34 ∷ rest) ≡ Ok rest) × (string_content (flat_map byte_written bs ++ 34 ∷ rest) ≡ bs)
