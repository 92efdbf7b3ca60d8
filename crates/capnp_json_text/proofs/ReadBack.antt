-- What is written of a string is read as the bytes for which it was written.
use Rattle.std.proofs.Common.{◌≡◌, ℕ, zero, suc, ◌+◌, ◌*◌, ◌/◌, ◌%◌, ◌<◌, ◌==◌, ◌&&◌, ◌||◌, nat_lt, Bool, true, false, cond, List, [], ◌∷◌, ◌++◌, flat_map, drop, Ok, Err, refl, ap, sym, subst, ◌∙◌, append_assoc, arith}
use Rattle.std.proofs.lemmas.Bool.Decides.{nat_tests}
use Rattle.std.proofs.lemmas.Str.{encode_ascii}
use Rattle.std.specs.Char.{digit_char, encode_utf8, is_ascii_hexdigit}
use Rattle.std.specs.Int.{is_in_range}
use Rattle.capnp_json_text.specs.Readings.{after_one, then_read}
use Rattle.capnp_json_text.specs.Strings.{after_character, after_character_by, after_escape, after_string, after_two_digits, character_of, more_characters, with_more}
use Rattle.capnp_json_text.specs.declared.strings.Character.{Character}
use Rattle.capnp_json_text.specs.declared.strings.Character.TheVariants.{Quote, Backslash, Control, Plain}
use Rattle.capnp_json_text.specs.Contents.{character_bytes, character_content, character_content_by, escaped_character, hex_value, more_content, string_content, unit_of}
use Rattle.capnp_json_text.specs.Writing.{IsReadBack, byte_written, control_written}
use Rattle.capnp_json_text.proofs.Enough.{string_equation}
use Rattle.capnp_json_text.proofs.ContentSteps.{content_equation}

-- a text before any other is read as one character, which stands for a byte
abbrev IsRead : ℕ → List ℕ → List ℕ → Type 0
IsRead b text tail = (after_character (text ++ tail) ≡ Ok (true, tail)) × (character_content (text ++ tail) ≡ b ∷ [])

read_either : (b : ℕ) (tail : List ℕ) (t : Bool) (p q : List ℕ) → (t ≡ true → IsRead b p tail) → (t ≡ false → IsRead b q tail) → IsRead b (cond t p q) tail
read_either b tail true p q h k = h refl
read_either b tail false p q h k = k refl

is_number : (b n : ℕ) → (b == n) ≡ true → n ≡ b
is_number b n e = grind (arith, nat_tests)

-- ---- a letter behind a backslash ----

quote_read : (tail : List ℕ) → IsRead 34 (92 ∷ 34 ∷ []) tail
unfolding after_escape character_content
quote_read tail = (refl, refl)

backslash_read : (tail : List ℕ) → IsRead 92 (92 ∷ 92 ∷ []) tail
unfolding after_escape character_content
backslash_read tail = (refl, refl)

backspace_read : (tail : List ℕ) → IsRead 8 (92 ∷ 98 ∷ []) tail
unfolding after_escape character_content
backspace_read tail = (refl, refl)

tab_read : (tail : List ℕ) → IsRead 9 (92 ∷ 116 ∷ []) tail
unfolding after_escape character_content
tab_read tail = (refl, refl)

line_feed_read : (tail : List ℕ) → IsRead 10 (92 ∷ 110 ∷ []) tail
unfolding after_escape character_content
line_feed_read tail = (refl, refl)

form_feed_read : (tail : List ℕ) → IsRead 12 (92 ∷ 102 ∷ []) tail
unfolding after_escape character_content
form_feed_read tail = (refl, refl)

return_read : (tail : List ℕ) → IsRead 13 (92 ∷ 114 ∷ []) tail
unfolding after_escape character_content
return_read tail = (refl, refl)

marked_by : (b : ℕ) (tail : List ℕ) (t u : Bool) → (b == 34) ≡ t → (b == 92) ≡ u → (t || u) ≡ true → IsRead b (92 ∷ b ∷ []) tail
marked_by b tail true u e f h = subst (λ (x : ℕ). IsRead x (92 ∷ x ∷ []) tail) (is_number b 34 e) (quote_read tail)
marked_by b tail false true e f h = subst (λ (x : ℕ). IsRead x (92 ∷ x ∷ []) tail) (is_number b 92 f) (backslash_read tail)
marked_by b tail false false e f h = let no : ⊥ = cc in absurd no

-- ---- a number of two digits ----

abbrev all_below : ℕ → (ℕ → Bool) → Bool
all_below zero p = true
all_below (suc n) p = p n && all_below n p

both : (x y : Bool) → (x && y) ≡ true → (x ≡ true) × (y ≡ true)
both true true e = (refl, refl)
both true false e = (refl, e)
both false y e = let no : ⊥ = cc in absurd no

at_table : (n : ℕ) (p : ℕ → Bool) (c : ℕ) → p n ≡ true → (c < n → p c ≡ true) → c < suc n → (t : Bool) → nat_lt c n ≡ t → p c ≡ true
at_table n p c here below h true f = below (grind (arith, nat_tests))
at_table n p c here below h false f = let same : n ≡ c = grind (arith, nat_tests) in subst (λ (x : ℕ). p x ≡ true) same here

in_table : (n : ℕ) (p : ℕ → Bool) → all_below n p ≡ true → (c : ℕ) → c < n → p c ≡ true
in_table zero p e c h = absurd (omega arith)
in_table (suc n) p e c h =
    let b = both (p n) (all_below n p) e in
    at_table n p c b.0 (λ q. in_table n p b.1 c q) h (nat_lt c n) refl

-- two digits are hexadecimal, and their number is this
abbrev are_digits : ℕ → Bool
are_digits b = is_ascii_hexdigit (digit_char (b / 16)) && (is_ascii_hexdigit (digit_char (b % 16)) && (16 * hex_value (digit_char (b / 16)) + hex_value (digit_char (b % 16)) == b))

digits_table : all_below 32 are_digits ≡ true
digits_table = refl

small_bytes : (n : ℕ) → n < 128 → character_bytes n ≡ n ∷ []
small_bytes n h =
    let no_half : is_in_range 55296 57343 n ≡ false = grind (arith, nat_tests) in
    ap (λ t. cond t [] (encode_utf8 n)) no_half ∙ encode_ascii n h

small_character : (n : ℕ) (bs : List ℕ) → n < 128 → unit_of bs ≡ n → escaped_character bs ≡ n
small_character n bs h e =
    let no_half : is_in_range 55296 56319 n ≡ false = grind (arith, nat_tests) in
    ap (λ u. cond (is_in_range 55296 56319 u) (65536 + 1024 * (u % 1024) + unit_of (drop 6 bs) % 1024) u) e
    ∙ ap (λ t. cond t (65536 + 1024 * (n % 1024) + unit_of (drop 6 bs) % 1024) n) no_half

digit_read : (b : ℕ) (bs : List ℕ) → is_ascii_hexdigit b ≡ true → after_one is_ascii_hexdigit (b ∷ bs) ≡ Ok bs
digit_read b bs e = ap (λ t. cond t (Ok bs) (Err (b ∷ bs))) e

digits_read : (d e n : ℕ) (tail : List ℕ) → is_ascii_hexdigit d ≡ true → is_ascii_hexdigit e ≡ true → 16 * hex_value d + hex_value e ≡ n → n < 128
    → IsRead n (92 ∷ 117 ∷ 48 ∷ 48 ∷ d ∷ e ∷ []) tail
unfolding after_escape character_content
digits_read d e n tail hd he same h =
    let unit : unit_of (48 ∷ 48 ∷ d ∷ e ∷ tail) ≡ n = omega (arith, same) in
    let two : after_two_digits (d ∷ e ∷ tail) ≡ Ok tail = ap (λ r. then_read r (after_one is_ascii_hexdigit)) (digit_read d (e ∷ tail) hd) ∙ digit_read e tail he in
    (ap with_more two, ap character_bytes (small_character n (48 ∷ 48 ∷ d ∷ e ∷ tail) h unit) ∙ small_bytes n h)

number_read : (b : ℕ) (tail : List ℕ) → b < 32 → IsRead b (92 ∷ 117 ∷ 48 ∷ 48 ∷ digit_char (b / 16) ∷ digit_char (b % 16) ∷ []) tail
number_read b tail h =
    let row = both (is_ascii_hexdigit (digit_char (b / 16))) (is_ascii_hexdigit (digit_char (b % 16)) && (16 * hex_value (digit_char (b / 16)) + hex_value (digit_char (b % 16)) == b)) (in_table 32 are_digits digits_table b h) in
    let second = both (is_ascii_hexdigit (digit_char (b % 16))) (16 * hex_value (digit_char (b / 16)) + hex_value (digit_char (b % 16)) == b) row.1 in
    digits_read (digit_char (b / 16)) (digit_char (b % 16)) b tail row.0 second.0 (sym (is_number (16 * hex_value (digit_char (b / 16)) + hex_value (digit_char (b % 16))) b second.1)) (omega (arith, h))

abbrev by_number : ℕ → List ℕ
by_number b = 92 ∷ 117 ∷ 48 ∷ 48 ∷ digit_char (b / 16) ∷ digit_char (b % 16) ∷ []

abbrev from_return : ℕ → List ℕ
from_return b = cond (b == 13) (92 ∷ 114 ∷ []) (by_number b)

abbrev from_form_feed : ℕ → List ℕ
from_form_feed b = cond (b == 12) (92 ∷ 102 ∷ []) (from_return b)

abbrev from_line_feed : ℕ → List ℕ
from_line_feed b = cond (b == 10) (92 ∷ 110 ∷ []) (from_form_feed b)

abbrev from_tab : ℕ → List ℕ
from_tab b = cond (b == 9) (92 ∷ 116 ∷ []) (from_line_feed b)

control_read : (b : ℕ) (tail : List ℕ) → nat_lt b 32 ≡ true → IsRead b (control_written b) tail
control_read b tail s =
    let small : b < 32 = grind (arith, nat_tests) in
    read_either b tail (b == 8) (92 ∷ 98 ∷ []) (from_tab b) (λ e. subst (λ (x : ℕ). IsRead x (92 ∷ 98 ∷ []) tail) (is_number b 8 e) (backspace_read tail)) (λ _.
    read_either b tail (b == 9) (92 ∷ 116 ∷ []) (from_line_feed b) (λ e. subst (λ (x : ℕ). IsRead x (92 ∷ 116 ∷ []) tail) (is_number b 9 e) (tab_read tail)) (λ _.
    read_either b tail (b == 10) (92 ∷ 110 ∷ []) (from_form_feed b) (λ e. subst (λ (x : ℕ). IsRead x (92 ∷ 110 ∷ []) tail) (is_number b 10 e) (line_feed_read tail)) (λ _.
    read_either b tail (b == 12) (92 ∷ 102 ∷ []) (from_return b) (λ e. subst (λ (x : ℕ). IsRead x (92 ∷ 102 ∷ []) tail) (is_number b 12 e) (form_feed_read tail)) (λ _.
    read_either b tail (b == 13) (92 ∷ 114 ∷ []) (by_number b) (λ e. subst (λ (x : ℕ). IsRead x (92 ∷ 114 ∷ []) tail) (is_number b 13 e) (return_read tail)) (λ _.
    number_read b tail small)))))

-- ---- a byte as it is ----

plain_by : (t u v : Bool) → (t || u) ≡ false → v ≡ false → cond t Quote (cond u Backslash (cond v Control Plain)) ≡ Plain
plain_by true u v e f = let no : ⊥ = cc in absurd no
plain_by false true v e f = let no : ⊥ = cc in absurd no
plain_by false false true e f = let no : ⊥ = cc in absurd no
plain_by false false false e f = refl

plain_read : (b : ℕ) (tail : List ℕ) → (b == 34 || b == 92) ≡ false → nat_lt b 32 ≡ false → IsRead b (b ∷ []) tail
unfolding character_content
plain_read b tail e s =
    let plain : character_of b ≡ Plain = plain_by (b == 34) (b == 92) (nat_lt b 32) e s in
    (ap (λ c. after_character_by c b tail) plain, ap (λ c. character_content_by c b tail) plain)

byte_read : (b : ℕ) (tail : List ℕ) → IsRead b (byte_written b) tail
unfolding byte_written
byte_read b tail =
    read_either b tail (b == 34 || b == 92) (92 ∷ b ∷ []) (cond (nat_lt b 32) (control_written b) (b ∷ [])) (marked_by b tail (b == 34) (b == 92) refl refl) (λ e.
    read_either b tail (nat_lt b 32) (control_written b) (b ∷ []) (control_read b tail) (plain_read b tail e))

-- ---- whole strings ----

pub read_back : (bs rest : List ℕ) → IsReadBack bs rest
read_back [] rest = (string_equation (34 ∷ rest), content_equation (34 ∷ rest))
read_back (b ∷ bs) rest =
    let tail : List ℕ = flat_map byte_written bs ++ 34 ∷ rest in
    let text : List ℕ = byte_written b ++ tail in
    let joined : (byte_written b ++ flat_map byte_written bs) ++ 34 ∷ rest ≡ text = append_assoc (byte_written b) (flat_map byte_written bs) (34 ∷ rest) in
    let first = byte_read b tail in
    let more = read_back bs rest in (
      ap after_string joined ∙ string_equation text ∙ ap (more_characters after_string) first.0 ∙ more.0,
      ap string_content joined ∙ content_equation text ∙ ap (λ x. more_content string_content x (after_character text)) first.1
          ∙ ap (more_content string_content (b ∷ [])) first.0 ∙ ap (λ x. b ∷ x) more.1,
    )
