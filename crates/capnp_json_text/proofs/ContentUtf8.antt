-- What a string of a UTF-8 text stands for is UTF-8.
use Rattle.std.proofs.Common.{◌≡◌, ℕ, zero, suc, ◌+◌, ◌*◌, ◌%◌, ◌/◌, ◌-◌, ◌<◌, ◌≤◌, ◌==◌, ◌&&◌, nat_lt, Bool, true, false, cond, List, [], ◌∷◌, ◌++◌, length, drop, get_or, Ok, Err, refl, ap, sym, subst, ◌∙◌, length-append, arith}
use Rattle.std.specs.Prelude.{⊤}
use Rattle.std.proofs.lemmas.Bool.Decides.{nat_tests}
use Rattle.std.proofs.lemmas.Str.{IsUtf8-append, IsUtf8-encode, IsUtf8-nil, encode_ascii, len_utf8_bounds, length-encode}
use lib.Utf8.{scalar, scalars, encode, encodes, next}
use Rattle.std.specs.Char.{encode_utf8}
use Rattle.std.specs.Int.{is_in_range}
use Rattle.std.specs.Str.{IsUtf8}
use Rattle.capnp_json_text.specs.Readings.{Rest}
use Rattle.capnp_json_text.specs.Strings.{after_character_by, after_escape, after_string, after_unicode, character_of, is_short_escape, more_characters, with_more}
use Rattle.capnp_json_text.specs.declared.strings.Character.{Character}
use Rattle.capnp_json_text.specs.declared.strings.Character.TheVariants.{Quote, Backslash, Control, Plain}
use Rattle.capnp_json_text.specs.Contents.{character_bytes, character_content, character_content_by, escape_content, escaped_character, hex_value, more_content, short_meaning, string_content, unit_of}
use Rattle.capnp_json_text.proofs.Shorter.{Below}
use Rattle.capnp_json_text.proofs.ShorterTokens.{escape_shrinks}
use Rattle.capnp_json_text.proofs.Enough.{string_equation}
use Rattle.capnp_json_text.proofs.ContentSteps.{content_equation}
use Rattle.capnp_json_text.proofs.KeptUtf8.{escape_keeps}

one_byte : (b : ℕ) → b < 128 → IsUtf8 (b ∷ [])
one_byte b h = subst IsUtf8 (encode_ascii b h) (IsUtf8-encode b (grind (arith, nat_tests)))

-- ---- what an escape stands for ----

hex_few : (b : ℕ) → hex_value b < 16
hex_few b = grind (arith, nat_tests)

unit_few : (bs : List ℕ) → unit_of bs < 65536
unit_few bs =
    let first = hex_few (get_or bs 0 0) in
    let second = hex_few (get_or bs 1 0) in
    let third = hex_few (get_or bs 2 0) in
    let fourth = hex_few (get_or bs 3 0) in
    omega (arith, first, second, third, fourth)

either_few : (most : ℕ) (t : Bool) (m n : ℕ) → m < most → n < most → cond t m n < most
either_few most true m n h k = h
either_few most false m n h k = k

character_few : (bs : List ℕ) → escaped_character bs < 1114112
character_few bs =
    let unit = unit_few bs in
    either_few 1114112 (is_in_range 55296 56319 (unit_of bs)) (65536 + 1024 * (unit_of bs % 1024) + unit_of (drop 6 bs) % 1024) (unit_of bs) (omega arith) (omega (arith, unit))

bytes_by : (c : ℕ) (t : Bool) → is_in_range 55296 57343 c ≡ t → c < 1114112 → IsUtf8 (cond t [] (encode_utf8 c))
bytes_by c true e h = IsUtf8-nil
bytes_by c false e h = IsUtf8-encode c (grind (arith, nat_tests))

meaning_ascii : (b : ℕ) → b < 128 → short_meaning b < 128
meaning_ascii b h =
    either_few 128 (b == 98) 8 (cond (b == 102) 12 (cond (b == 110) 10 (cond (b == 114) 13 (cond (b == 116) 9 b)))) (omega arith)
    (either_few 128 (b == 102) 12 (cond (b == 110) 10 (cond (b == 114) 13 (cond (b == 116) 9 b))) (omega arith)
    (either_few 128 (b == 110) 10 (cond (b == 114) 13 (cond (b == 116) 9 b)) (omega arith)
    (either_few 128 (b == 114) 13 (cond (b == 116) 9 b) (omega arith)
    (either_few 128 (b == 116) 9 b (omega arith) h))))

escape_by : (b : ℕ) (bs rest : List ℕ) (t s : Bool) → is_short_escape b ≡ s → cond t (after_unicode bs) (cond s (Ok bs) (Err (b ∷ bs))) ≡ Ok rest
    → IsUtf8 (cond t (character_bytes (escaped_character bs)) (short_meaning b ∷ []))
escape_by b bs rest true s f e = bytes_by (escaped_character bs) (is_in_range 55296 57343 (escaped_character bs)) refl (character_few bs)
escape_by b bs rest false true f e = one_byte (short_meaning b) (meaning_ascii b (grind (arith, nat_tests)))
escape_by b bs rest false false f e = let no : ⊥ = cc in absurd no

escape_utf8 : (bs rest : List ℕ) → after_escape bs ≡ Ok rest → IsUtf8 (escape_content bs)
unfolding after_escape
escape_utf8 [] rest e = IsUtf8-nil
escape_utf8 (b ∷ bs) rest e = escape_by b bs rest (b == 117) (is_short_escape b) refl e

-- ---- characters past 127 ----

plain_past : (b : ℕ) → 128 ≤ b → character_of b ≡ Plain
plain_past b h =
    let quote : (b == 34) ≡ false = grind (arith, nat_tests) in
    let backslash : (b == 92) ≡ false = grind (arith, nat_tests) in
    let control : nat_lt b 32 ≡ false = grind (arith, nat_tests) in
    ap (λ t. cond t Quote (cond (b == 92) Backslash (cond (nat_lt b 32) Control Plain))) quote
    ∙ ap (λ t. cond t Backslash (cond (nat_lt b 32) Control Plain)) backslash ∙ ap (λ t. cond t Control Plain) control

plain_string : (b : ℕ) (bs : List ℕ) → character_of b ≡ Plain → after_string (b ∷ bs) ≡ after_string bs
plain_string b bs p = string_equation (b ∷ bs) ∙ ap (λ c. more_characters after_string (after_character_by c b bs)) p

plain_content : (b : ℕ) (bs : List ℕ) → character_of b ≡ Plain → string_content (b ∷ bs) ≡ b ∷ string_content bs
unfolding character_content
plain_content b bs p = content_equation (b ∷ bs) ∙ ap (λ c. more_content string_content (character_content_by c b bs) (after_character_by c b bs)) p

-- bytes from 128 on stand for themselves
abbrev ArePast : List ℕ → Type 0
ArePast [] = ⊤
ArePast (b ∷ bs) = (128 ≤ b) × ArePast bs

past_string : (xs bs : List ℕ) → ArePast xs → after_string (xs ++ bs) ≡ after_string bs
past_string [] bs h = refl
past_string (x ∷ xs) bs h = plain_string x (xs ++ bs) (plain_past x h.0) ∙ past_string xs bs h.1

past_content : (xs bs : List ℕ) → ArePast xs → string_content (xs ++ bs) ≡ xs ++ string_content bs
past_content [] bs h = refl
past_content (x ∷ xs) bs h = plain_content x (xs ++ bs) (plain_past x h.0) ∙ ap (λ y. x ∷ y) (past_content xs bs h.1)

past_either : (t : Bool) (p q : List ℕ) → ArePast p → ArePast q → ArePast (cond t p q)
past_either true p q h k = h
past_either false p q h k = k

past_encoded : (c : ℕ) → 128 ≤ c → ArePast (encode c)
unfolding encode
past_encoded c h =
    let wide : nat_lt c 128 ≡ false = grind (arith, nat_tests) in
    let two : List ℕ = (192 + c / 64) ∷ next c ∷ [] in
    let three : List ℕ = (224 + c / 4096) ∷ next (c / 64) ∷ next c ∷ [] in
    let four : List ℕ = (240 + c / 262144) ∷ next (c / 4096) ∷ next (c / 64) ∷ next c ∷ [] in
    subst (λ (t : Bool). ArePast (cond t (c ∷ []) (cond (nat_lt c 2048) two (cond (nat_lt c 65536) three four)))) (sym wide)
    (past_either (nat_lt c 2048) two (cond (nat_lt c 65536) three four) (omega arith, (omega arith, tt))
    (past_either (nat_lt c 65536) three four (omega arith, (omega arith, (omega arith, tt))) (omega arith, (omega arith, (omega arith, (omega arith, tt))))))

-- ---- strings ----

abbrev Goal : List ℕ → Type 0
Goal bs = (rest : List ℕ) → IsUtf8 bs → after_string bs ≡ Ok rest → IsUtf8 (string_content bs)

escaped_by : (bs : List ℕ) (r : Rest) → after_escape bs ≡ r → IsUtf8 bs → ((q : List ℕ) → length q < length bs → Goal q) → (rest : List ℕ) → more_characters after_string (with_more r) ≡ Ok rest
    → IsUtf8 (more_content string_content (escape_content bs) (with_more r))
escaped_by bs (Ok q) e u again rest h =
    let shorter : length q < length bs = subst (Below (length bs)) e (escape_shrinks bs) in
    IsUtf8-append (escape_content bs) (string_content q) (escape_utf8 bs q e) (again q shorter rest (escape_keeps bs q u e) h)
escaped_by bs (Err fault) e u again rest h = IsUtf8-nil

ascii_by : (k : Character) (c : ℕ) (bs : List ℕ) → c < 128 → IsUtf8 bs → ((q : List ℕ) → length q ≤ length bs → Goal q) → (rest : List ℕ)
    → more_characters after_string (after_character_by k c bs) ≡ Ok rest → IsUtf8 (more_content string_content (character_content_by k c bs) (after_character_by k c bs))
ascii_by Quote c bs small u again rest h = IsUtf8-nil
ascii_by Backslash c bs small u again rest h = escaped_by bs (after_escape bs) refl u (λ q shorter. again q (omega (arith, shorter))) rest h
ascii_by Control c bs small u again rest h = IsUtf8-nil
ascii_by Plain c bs small u again rest h = IsUtf8-append (c ∷ []) (string_content bs) (one_byte c small) (again bs (omega arith) rest u h)

ascii_first : (c : ℕ) (bs : List ℕ) → c < 128 → IsUtf8 bs → ((q : List ℕ) → length q ≤ length bs → Goal q) → (rest : List ℕ) → after_string (c ∷ bs) ≡ Ok rest → IsUtf8 (string_content (c ∷ bs))
unfolding character_content
ascii_first c bs small u again rest h =
    subst IsUtf8 (sym (content_equation (c ∷ bs))) (ascii_by (character_of c) c bs small u again rest (sym (string_equation (c ∷ bs)) ∙ h))

past_first : (c : ℕ) (bs : List ℕ) → 128 ≤ c → scalar c ≡ true → IsUtf8 bs → Goal bs → (rest : List ℕ) → after_string (encode c ++ bs) ≡ Ok rest → IsUtf8 (string_content (encode c ++ bs))
past_first c bs past s u again rest h =
    let all = past_encoded c past in
    subst IsUtf8 (sym (past_content (encode c) bs all))
    (IsUtf8-append (encode c) (string_content bs) (IsUtf8-encode c s) (again rest u (sym (past_string (encode c) bs all) ∙ h)))

first_by : (c : ℕ) (bs : List ℕ) (t : Bool) → nat_lt c 128 ≡ t → scalar c ≡ true → IsUtf8 bs → ((q : List ℕ) → length q ≤ length bs → Goal q) → (rest : List ℕ)
    → after_string (encode c ++ bs) ≡ Ok rest → IsUtf8 (string_content (encode c ++ bs))
first_by c bs true e s u again rest h =
    let small : c < 128 = grind (arith, nat_tests) in
    let same : encode c ++ bs ≡ c ∷ bs = ap (λ x. x ++ bs) (encode_ascii c small) in
    subst (λ (x : List ℕ). IsUtf8 (string_content x)) (sym same) (ascii_first c bs small u again rest (ap after_string (sym same) ∙ h))
first_by c bs false e s u again rest h = past_first c bs (grind (arith, nat_tests)) s u (again bs (omega arith)) rest h

both : (x y : Bool) → (x && y) ≡ true → (x ≡ true) × (y ≡ true)
both true true e = (refl, refl)
both true false e = (refl, e)
both false y e = let no : ⊥ = cc in absurd no

by_characters : (n : ℕ) (cs : List ℕ) → scalars cs ≡ true → length (encodes cs) ≤ n → (rest : List ℕ) → after_string (encodes cs) ≡ Ok rest → IsUtf8 (string_content (encodes cs))
by_characters n [] s h rest e = subst IsUtf8 (sym (content_equation [])) IsUtf8-nil
by_characters zero (c ∷ cs) s h rest e =
    let long = length-append (encode c) (encodes cs) in
    let some = (len_utf8_bounds c).0 in
    let same = length-encode c in
    absurd (omega (arith, h, long, some, same))
by_characters (suc n) (c ∷ cs) s h rest e =
    let each = both (scalar c) (scalars cs) s in
    let long = length-append (encode c) (encodes cs) in
    let some = (len_utf8_bounds c).0 in
    let same = length-encode c in
    let fewer : length (encodes cs) ≤ n = omega (arith, h, long, some, same) in
    first_by c (encodes cs) (nat_lt c 128) refl each.0 (cs, (each.1, refl))
    (λ q shorter left u f.
    subst (λ (x : List ℕ). IsUtf8 (string_content x)) u.1.1
    (by_characters n u.0 u.1.0 (let known = ap length u.1.1 in omega (arith, known, shorter, fewer)) left (ap after_string u.1.1 ∙ f)))
    rest e

-- a string that is whole, in UTF-8
pub content_utf8 : (bs rest : List ℕ) → IsUtf8 bs → after_string bs ≡ Ok rest → IsUtf8 (string_content bs)
content_utf8 bs rest u e =
    subst (λ (x : List ℕ). IsUtf8 (string_content x)) u.1.1 (by_characters (length (encodes u.0)) u.0 u.1.0 (omega arith) rest (ap after_string u.1.1 ∙ e))
