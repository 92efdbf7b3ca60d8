-- Base64 and hexadecimal digits are read as the bytes for which they were written.
use Rattle.std.proofs.Common.{◌≡◌, ℕ, zero, suc, ◌+◌, ◌*◌, ◌/◌, ◌%◌, ◌<◌, ◌==◌, ◌&&◌, nat_lt, Bool, true, false, cond, List, [], ◌∷◌, All, Option, Some, None, refl, ap, subst, ◌∙◌, arith}
use Rattle.std.proofs.lemmas.Bool.Decides.{nat_tests}
use Rattle.std.specs.Char.{digit_char, is_ascii_hexdigit}
use Rattle.capnp_json_text.specs.Contents.{hex_value}
use Rattle.capnp_json.specs.Leaves.{base64_digit, base64_text, hex_text}
use Rattle.capnp_from_json.specs.Encodings.{base64_decoded, base64_value, before_bytes, hex_decoded, hex_pair, one_byte, three_bytes, two_bytes}
use Rattle.capnp_json_messages.specs.ReadBack.{IsDataReadBack}

-- ---- what holds of each natural below a number ----

abbrev all_below : ℕ → (ℕ → Bool) → Bool
all_below zero p = true
all_below (suc n) p = p n && all_below n p

both : (x y : Bool) → (x && y) ≡ true → (x ≡ true) × (y ≡ true)
both true true e = (refl, refl)
both true false e = (refl, e)
both false y e = let no : ⊥ = cc in absurd no

at_table : (n : ℕ) (p : ℕ → Bool) (c : ℕ) → p n ≡ true → (c < n → p c ≡ true) → c < suc n → (t : Bool) → nat_lt c n ≡ t → p c ≡ true
at_table n p c here below h true f = below (grind (arith, nat_tests))
at_table n p c here below h false f = let same : n ≡ c = grind (arith, nat_tests) in subst (λ (x : ℕ). p x ≡ true) same here

in_table : (n : ℕ) (p : ℕ → Bool) → all_below n p ≡ true → (c : ℕ) → c < n → p c ≡ true
in_table zero p e c h = absurd (omega arith)
in_table (suc n) p e c h =
    let b = both (p n) (all_below n p) e in
    at_table n p c b.0 (λ q. in_table n p b.1 c q) h (nat_lt c n) refl

-- ---- hexadecimal digits ----

abbrev are_digits : ℕ → Bool
are_digits b = is_ascii_hexdigit (digit_char (b / 16)) && (is_ascii_hexdigit (digit_char (b % 16)) && (16 * hex_value (digit_char (b / 16)) + hex_value (digit_char (b % 16)) == b))

digits_table : all_below 256 are_digits ≡ true
digits_table = refl

pair_read : (b : ℕ) (rest : List ℕ) → b < 256 → hex_pair (is_ascii_hexdigit (digit_char (b / 16)) && is_ascii_hexdigit (digit_char (b % 16))) (digit_char (b / 16)) (digit_char (b % 16)) (Some rest) ≡ Some (b ∷ rest)
pair_read b rest h =
    let t = both (is_ascii_hexdigit (digit_char (b / 16))) _ (in_table 256 are_digits digits_table b h) in
    let u = both (is_ascii_hexdigit (digit_char (b % 16))) _ t.1 in
    let is : 16 * hex_value (digit_char (b / 16)) + hex_value (digit_char (b % 16)) ≡ b = grind (arith, nat_tests, u.1) in
    ap (λ x. hex_pair (x && is_ascii_hexdigit (digit_char (b % 16))) (digit_char (b / 16)) (digit_char (b % 16)) (Some rest)) t.0
    ∙ ap (λ x. hex_pair x (digit_char (b / 16)) (digit_char (b % 16)) (Some rest)) u.0
    ∙ ap (λ n. Some (n ∷ rest)) is

first_small : (b : ℕ) (bs : List ℕ) → All (λ (x : ℕ). x < 256) (b ∷ bs) → b < 256
first_small b bs h = h 0 0 (omega arith)

others_small : (b : ℕ) (bs : List ℕ) → All (λ (x : ℕ). x < 256) (b ∷ bs) → All (λ (x : ℕ). x < 256) bs
others_small b bs h = λ k d l. h (suc k) d (omega (arith, l))

hex_back : (bytes : List ℕ) → All (λ (b : ℕ). b < 256) bytes → hex_decoded (hex_text bytes) ≡ Some bytes
hex_back [] h = refl
hex_back (b ∷ bs) h =
    ap (hex_pair (is_ascii_hexdigit (digit_char (b / 16)) && is_ascii_hexdigit (digit_char (b % 16))) (digit_char (b / 16)) (digit_char (b % 16))) (hex_back bs (others_small b bs h))
    ∙ pair_read b bs (first_small b bs h)

-- ---- base64 ----

abbrev is_number : ℕ → Option ℕ → Bool
is_number n None = false
is_number n (Some m) = m == n

number_is : (n : ℕ) (o : Option ℕ) → is_number n o ≡ true → o ≡ Some n
number_is n None e = let no : ⊥ = cc in absurd no
number_is n (Some m) e = ap (λ x. Some x) (grind (arith, nat_tests))

abbrev is_letter : ℕ → Bool
is_letter n = is_number n (base64_value (base64_digit n))

letters_table : all_below 64 is_letter ≡ true
letters_table = refl

letter_read : (n : ℕ) → n < 64 → base64_value (base64_digit n) ≡ Some n
letter_read n h = number_is n (base64_value (base64_digit n)) (in_table 64 is_letter letters_table n h)

-- no letter is the padding
abbrev is_no_padding : ℕ → Bool
is_no_padding n = cond (base64_digit n == 61) false true

padding_table : all_below 64 is_no_padding ≡ true
padding_table = refl

not_either : (t : Bool) → cond t false true ≡ true → t ≡ false
not_either true e = let no : ⊥ = cc in absurd no
not_either false e = refl

no_padding : (n : ℕ) → n < 64 → (base64_digit n == 61) ≡ false
no_padding n h = not_either (base64_digit n == 61) (in_table 64 is_no_padding padding_table n h)

-- the six bits of each letter
first_six : (a : ℕ) → a < 256 → a / 4 < 64
first_six a h = omega arith

second_six : (a b : ℕ) → b < 256 → a % 4 * 16 + b / 16 < 64
second_six a b h = omega arith

third_six : (b c : ℕ) → c < 256 → b % 16 * 4 + c / 64 < 64
third_six b c h = omega arith

first_byte : (a b : ℕ) → b < 256 → 4 * (a / 4) + (a % 4 * 16 + b / 16) / 16 ≡ a
first_byte a b h = omega arith

second_byte : (a b c : ℕ) → b < 256 → c < 256 → 16 * ((a % 4 * 16 + b / 16) % 16) + (b % 16 * 4 + c / 64) / 4 ≡ b
second_byte a b c h k = omega arith

third_byte : (b c : ℕ) → c < 256 → 64 * ((b % 16 * 4 + c / 64) % 4) + c % 64 ≡ c
third_byte b c h = omega arith

-- four letters before what follows
four_read : (a b c d : ℕ) (rest : List ℕ) → (d == 61) ≡ false
    → base64_decoded (a ∷ b ∷ c ∷ d ∷ rest) ≡ three_bytes (base64_value a) (base64_value b) (base64_value c) (base64_value d) (base64_decoded rest)
four_read a b c d [] h = ap (λ t. cond t (cond (c == 61) (one_byte (base64_value a) (base64_value b)) (two_bytes (base64_value a) (base64_value b) (base64_value c))) (three_bytes (base64_value a) (base64_value b) (base64_value c) (base64_value d) (Some []))) h
four_read a b c d (e ∷ rest) h = refl

three_known : (p q r s : ℕ) (o1 o2 o3 o4 : Option ℕ) (rest : Option (List ℕ)) → o1 ≡ Some p → o2 ≡ Some q → o3 ≡ Some r → o4 ≡ Some s
    → three_bytes o1 o2 o3 o4 rest ≡ before_bytes ((4 * p + q / 16) ∷ (16 * (q % 16) + r / 4) ∷ (64 * (r % 4) + s) ∷ []) rest
three_known p q r s o1 o2 o3 o4 rest e1 e2 e3 e4 =
    ap (λ o. three_bytes o o2 o3 o4 rest) e1 ∙ ap (λ o. three_bytes (Some p) o o3 o4 rest) e2 ∙ ap (λ o. three_bytes (Some p) (Some q) o o4 rest) e3
    ∙ ap (λ o. three_bytes (Some p) (Some q) (Some r) o rest) e4

-- three bytes are read of their four letters
triple_read : (a b c : ℕ) (text rest : List ℕ) → a < 256 → b < 256 → c < 256 → base64_decoded text ≡ Some rest
    → base64_decoded (base64_digit (a / 4) ∷ base64_digit (a % 4 * 16 + b / 16) ∷ base64_digit (b % 16 * 4 + c / 64) ∷ base64_digit (c % 64) ∷ text) ≡ Some (a ∷ b ∷ c ∷ rest)
triple_read a b c text rest ha hb hc h =
    let p : c % 64 < 64 = omega arith in
    four_read (base64_digit (a / 4)) (base64_digit (a % 4 * 16 + b / 16)) (base64_digit (b % 16 * 4 + c / 64)) (base64_digit (c % 64)) text (no_padding (c % 64) p)
    ∙ three_known (a / 4) (a % 4 * 16 + b / 16) (b % 16 * 4 + c / 64) (c % 64) _ _ _ _ (base64_decoded text)
    (letter_read (a / 4) (first_six a ha)) (letter_read (a % 4 * 16 + b / 16) (second_six a b hb)) (letter_read (b % 16 * 4 + c / 64) (third_six b c hc)) (letter_read (c % 64) p)
    ∙ ap (before_bytes ((4 * (a / 4) + (a % 4 * 16 + b / 16) / 16) ∷ (16 * ((a % 4 * 16 + b / 16) % 16) + (b % 16 * 4 + c / 64) / 4) ∷ (64 * ((b % 16 * 4 + c / 64) % 4) + c % 64) ∷ [])) h
    ∙ ap (λ x. Some (x ∷ (16 * ((a % 4 * 16 + b / 16) % 16) + (b % 16 * 4 + c / 64) / 4) ∷ (64 * ((b % 16 * 4 + c / 64) % 4) + c % 64) ∷ rest)) (first_byte a b hb)
    ∙ ap (λ x. Some (a ∷ x ∷ (64 * ((b % 16 * 4 + c / 64) % 4) + c % 64) ∷ rest)) (second_byte a b c hb hc)
    ∙ ap (λ x. Some (a ∷ b ∷ x ∷ rest)) (third_byte b c hc)

one_known : (p q a : ℕ) (o1 o2 : Option ℕ) → o1 ≡ Some p → o2 ≡ Some q → (q % 16 == 0) ≡ true → 4 * p + q / 16 ≡ a → one_byte o1 o2 ≡ Some (a ∷ [])
one_known p q a o1 o2 e1 e2 z is =
    ap (λ o. one_byte o o2) e1 ∙ ap (one_byte (Some p)) e2 ∙ ap (λ t. cond t (Some ((4 * p + q / 16) ∷ [])) None) z ∙ ap (λ x. Some (x ∷ [])) is

two_known : (p q r a b : ℕ) (o1 o2 o3 : Option ℕ) → o1 ≡ Some p → o2 ≡ Some q → o3 ≡ Some r → (r % 4 == 0) ≡ true → 4 * p + q / 16 ≡ a → 16 * (q % 16) + r / 4 ≡ b
    → two_bytes o1 o2 o3 ≡ Some (a ∷ b ∷ [])
two_known p q r a b o1 o2 o3 e1 e2 e3 z is next =
    ap (λ o. two_bytes o o2 o3) e1 ∙ ap (λ o. two_bytes (Some p) o o3) e2 ∙ ap (two_bytes (Some p) (Some q)) e3
    ∙ ap (λ t. cond t (Some ((4 * p + q / 16) ∷ (16 * (q % 16) + r / 4) ∷ [])) None) z
    ∙ ap (λ x. Some (x ∷ (16 * (q % 16) + r / 4) ∷ [])) is ∙ ap (λ x. Some (a ∷ x ∷ [])) next

is_zero : (n : ℕ) → n ≡ 0 → (n == 0) ≡ true
is_zero n e = grind (arith, nat_tests)

base64_back : (bytes : List ℕ) → All (λ (b : ℕ). b < 256) bytes → base64_decoded (base64_text bytes) ≡ Some bytes
base64_back [] h = refl
base64_back (a ∷ []) h =
    let ha : a < 256 = first_small a [] h in
    let q : a % 4 * 16 < 64 = omega arith in
    one_known (a / 4) (a % 4 * 16) a _ _ (letter_read (a / 4) (first_six a ha)) (letter_read (a % 4 * 16) q) (is_zero (a % 4 * 16 % 16) (omega arith)) (omega arith)
base64_back (a ∷ b ∷ []) h =
    let ha : a < 256 = first_small a (b ∷ []) h in
    let hb : b < 256 = first_small b [] (others_small a (b ∷ []) h) in
    let r : b % 16 * 4 < 64 = omega arith in
    ap (λ t. cond t (one_byte (base64_value (base64_digit (a / 4))) (base64_value (base64_digit (a % 4 * 16 + b / 16))))
    (two_bytes (base64_value (base64_digit (a / 4))) (base64_value (base64_digit (a % 4 * 16 + b / 16))) (base64_value (base64_digit (b % 16 * 4))))) (no_padding (b % 16 * 4) r)
    ∙ two_known (a / 4) (a % 4 * 16 + b / 16) (b % 16 * 4) a b _ _ _ (letter_read (a / 4) (first_six a ha)) (letter_read (a % 4 * 16 + b / 16) (second_six a b hb)) (letter_read (b % 16 * 4) r)
    (is_zero (b % 16 * 4 % 4) (omega arith)) (first_byte a b hb) (omega arith)
base64_back (a ∷ b ∷ c ∷ rest) h =
    let second = others_small a (b ∷ c ∷ rest) h in
    let third = others_small b (c ∷ rest) second in
    triple_read a b c (base64_text rest) rest (first_small a (b ∷ c ∷ rest) h) (first_small b (c ∷ rest) second) (first_small c rest third)
    (base64_back rest (others_small c rest third))

pub data_back : (bytes : List ℕ) → All (λ (b : ℕ). b < 256) bytes → IsDataReadBack bytes
data_back bytes h = record { base64 = base64_back bytes h; hexadecimal = hex_back bytes h }
