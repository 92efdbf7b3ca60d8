-- Data as strings: in base64 (RFC 4648, section 4) and by hexadecimal digits.
use Rattle.std.specs.Prelude.{ℕ, ◌+◌, ◌-◌, ◌*◌, ◌/◌, ◌%◌, List, [], ◌∷◌, ◌++◌, Bool, true, false, ◌&&◌, cond, ◌==◌, Option, Some, None}
use Rattle.std.specs.Char.{is_ascii_digit, is_ascii_hexdigit}
use Rattle.std.specs.Int.{is_in_range}
use Rattle.capnp_json_text.specs.Contents.{hex_value}

-- a byte before what follows, where that is there
abbrev pub before_bytes : List ℕ → Option (List ℕ) → Option (List ℕ)
before_bytes front None = None
before_bytes front (Some rest) = Some (front ++ rest)

abbrev pub hex_pair : Bool → (a b : ℕ) → Option (List ℕ) → Option (List ℕ)
hex_pair true a b rest = before_bytes ((16 * hex_value a + hex_value b) ∷ []) rest
hex_pair false a b rest = None

-- two digits of either case for each byte
abbrev pub hex_decoded : List ℕ → Option (List ℕ)
hex_decoded [] = Some []
hex_decoded (a ∷ []) = None
hex_decoded (a ∷ b ∷ bs) = hex_pair (is_ascii_hexdigit a && is_ascii_hexdigit b) a b (hex_decoded bs)

-- the six bits of a character: A to Z, a to z, 0 to 9, + and /
abbrev pub base64_value : ℕ → Option ℕ
base64_value b =
    cond (is_in_range 65 90 b) (Some (b - 65))
    (cond (is_in_range 97 122 b) (Some (b - 71))
    (cond (is_ascii_digit b) (Some (b + 4))
    (cond (b == 43) (Some 62) (cond (b == 47) (Some 63) None))))

-- three bytes of four characters
abbrev pub three_bytes : Option ℕ → Option ℕ → Option ℕ → Option ℕ → Option (List ℕ) → Option (List ℕ)
three_bytes (Some p) (Some q) (Some r) (Some s) rest = before_bytes ((4 * p + q / 16) ∷ (16 * (q % 16) + r / 4) ∷ (64 * (r % 4) + s) ∷ []) rest
three_bytes p q r s rest = None

-- two of three and one =, with two bits that are not used and zero
abbrev pub two_bytes : Option ℕ → Option ℕ → Option ℕ → Option (List ℕ)
two_bytes (Some p) (Some q) (Some r) = cond (r % 4 == 0) (Some ((4 * p + q / 16) ∷ (16 * (q % 16) + r / 4) ∷ [])) None
two_bytes p q r = None

-- one of two and ==, with four such bits
abbrev pub one_byte : Option ℕ → Option ℕ → Option (List ℕ)
one_byte (Some p) (Some q) = cond (q % 16 == 0) (Some ((4 * p + q / 16) ∷ [])) None
one_byte p q = None

-- the last four characters, which may be padded
abbrev pub last_bytes : (a b c d : ℕ) → Option (List ℕ)
last_bytes a b c d =
    cond (d == 61) (cond (c == 61) (one_byte (base64_value a) (base64_value b)) (two_bytes (base64_value a) (base64_value b) (base64_value c)))
    (three_bytes (base64_value a) (base64_value b) (base64_value c) (base64_value d) (Some []))

-- with full padding and no blanks
abbrev pub base64_decoded : List ℕ → Option (List ℕ)
base64_decoded [] = Some []
base64_decoded (a ∷ []) = None
base64_decoded (a ∷ b ∷ []) = None
base64_decoded (a ∷ b ∷ c ∷ []) = None
base64_decoded (a ∷ b ∷ c ∷ d ∷ []) = last_bytes a b c d
base64_decoded (a ∷ b ∷ c ∷ d ∷ e ∷ rest) = three_bytes (base64_value a) (base64_value b) (base64_value c) (base64_value d) (base64_decoded (e ∷ rest))
