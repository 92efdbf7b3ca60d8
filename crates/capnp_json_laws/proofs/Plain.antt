-- Strings of bytes that stand as they are: digits, names and encodings.
use Rattle.std.proofs.Common.{◌≡◌, ℕ, ◌+◌, ◌*◌, ◌/◌, ◌%◌, ◌<◌, ◌==◌, ◌&&◌, ◌||◌, nat_lt, Bool, true, false, cond, List, [], ◌∷◌, ◌++◌, flat_map, All, refl, ap₂, subst, arith}
use Rattle.std.proofs.lemmas.Bool.{and_parts}
use Rattle.std.proofs.lemmas.Bool.Decides.{nat_tests}
use Rattle.std.proofs.lemmas.List.Elements.{All-head, All-tail}
use Rattle.std.specs.Char.{digit_char, is_ascii_digit}
use Rattle.capnp_json_text.specs.Writing.{byte_written, control_written}
use Rattle.capnp_json.specs.Leaves.{base64_digit, base64_text, hex_text, quoted}
use Rattle.capnp_json_laws.specs.Stands.{IsString, IsValue}
use Rattle.capnp_json_laws.proofs.Ascii.{are_ascii, ascii_utf8}
use Rattle.capnp_json_laws.proofs.Words.{string_value}

-- neither a quote nor a backslash, and no control character
abbrev pub is_plain : ℕ → Bool
is_plain b = nat_lt 34 b && ((nat_lt b 92 || nat_lt 92 b) && nat_lt b 128)

abbrev pub are_plain : List ℕ → Bool
are_plain [] = true
are_plain (b ∷ bs) = is_plain b && are_plain bs

plain_by : (b : ℕ) (t u v : Bool) → t ≡ false → u ≡ false → v ≡ false → cond (t || u) (92 ∷ b ∷ []) (cond v (control_written b) (b ∷ [])) ≡ b ∷ []
plain_by b true u v e f g = let no : ⊥ = cc in absurd no
plain_by b false true v e f g = let no : ⊥ = cc in absurd no
plain_by b false false true e f g = let no : ⊥ = cc in absurd no
plain_by b false false false e f g = refl

plain_byte : (b : ℕ) → is_plain b ≡ true → byte_written b ≡ b ∷ []
unfolding byte_written
plain_byte b h =
    let quote : (b == 34) ≡ false = grind (arith, nat_tests) in
    let backslash : (b == 92) ≡ false = grind (arith, nat_tests) in
    let control : nat_lt b 32 ≡ false = grind (arith, nat_tests) in
    plain_by b (b == 34) (b == 92) (nat_lt b 32) quote backslash control

plain_small : (b : ℕ) → is_plain b ≡ true → nat_lt b 128 ≡ true
plain_small b h = grind (arith, nat_tests)

pub plain_written : (bs : List ℕ) → are_plain bs ≡ true → flat_map byte_written bs ≡ bs
plain_written [] h = refl
plain_written (b ∷ bs) h = let p = and_parts _ _ h in ap₂ (λ (x y : List ℕ). x ++ y) (plain_byte b p.0) (plain_written bs p.1)

pub both_true : (s t : Bool) → s ≡ true → t ≡ true → (s && t) ≡ true
both_true true t e f = f
both_true false t e f = let no : ⊥ = cc in absurd no

pub plain_ascii : (bs : List ℕ) → are_plain bs ≡ true → are_ascii bs ≡ true
plain_ascii [] h = refl
plain_ascii (b ∷ bs) h = let p = and_parts _ _ h in both_true (nat_lt b 128) (are_ascii bs) (plain_small b p.0) (plain_ascii bs p.1)

pub quoted_value : (bs : List ℕ) → are_plain bs ≡ true → IsValue (quoted bs) (IsString bs)
quoted_value bs h = subst (λ x. IsValue (34 ∷ (x ++ 34 ∷ [])) (IsString bs)) (plain_written bs h) (string_value bs (ascii_utf8 bs (plain_ascii bs h)))

-- ---- digits ----

pub digit_plain : (b : ℕ) → is_ascii_digit b ≡ true → is_plain b ≡ true
digit_plain b h = grind (arith, nat_tests)

-- ---- base64 ----

base64_plain : (n : ℕ) → is_plain (base64_digit n) ≡ true
base64_plain n = grind (arith, nat_tests)

two_plain : (a b : ℕ) (bs : List ℕ) → is_plain a ≡ true → is_plain b ≡ true → are_plain bs ≡ true → are_plain (a ∷ b ∷ bs) ≡ true
two_plain a b bs h k l = both_true (is_plain a) (are_plain (b ∷ bs)) h (both_true (is_plain b) (are_plain bs) k l)

-- characters of six bits each, before others
pair_plain : (m n : ℕ) (bs : List ℕ) → are_plain bs ≡ true → are_plain (base64_digit m ∷ base64_digit n ∷ bs) ≡ true
pair_plain m n bs l = two_plain (base64_digit m) (base64_digit n) bs (base64_plain m) (base64_plain n) l

last_plain : (m : ℕ) → are_plain (base64_digit m ∷ 61 ∷ []) ≡ true
last_plain m = two_plain (base64_digit m) 61 [] (base64_plain m) refl refl

pub base64_text_plain : (bs : List ℕ) → are_plain (base64_text bs) ≡ true
base64_text_plain [] = refl
base64_text_plain (a ∷ []) = pair_plain (a / 4) (a % 4 * 16) (61 ∷ 61 ∷ []) refl
base64_text_plain (a ∷ b ∷ []) = pair_plain (a / 4) (a % 4 * 16 + b / 16) (base64_digit (b % 16 * 4) ∷ 61 ∷ []) (last_plain (b % 16 * 4))
base64_text_plain (a ∷ b ∷ c ∷ rest) =
    pair_plain (a / 4) (a % 4 * 16 + b / 16) (base64_digit (b % 16 * 4 + c / 64) ∷ base64_digit (c % 64) ∷ base64_text rest)
    (pair_plain (b % 16 * 4 + c / 64) (c % 64) (base64_text rest) (base64_text_plain rest))

-- ---- hexadecimal digits ----

hex_plain : (n : ℕ) → n < 16 → is_plain (digit_char n) ≡ true
hex_plain n h = grind (arith, nat_tests)

pub hex_text_plain : (bs : List ℕ) → All (λ (b : ℕ). b < 256) bs → are_plain (hex_text bs) ≡ true
hex_text_plain [] h = refl
hex_text_plain (b ∷ bs) h =
    let small : b < 256 = All-head (λ (x : ℕ). x < 256) b bs h in
    two_plain (digit_char (b / 16)) (digit_char (b % 16)) (hex_text bs) (hex_plain (b / 16) (omega arith)) (hex_plain (b % 16) (omega arith)) (hex_text_plain bs (All-tail (λ (x : ℕ). x < 256) b bs h))
