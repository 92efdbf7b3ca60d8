-- What is left of UTF-8 behind an escape is UTF-8.
use Rattle.std.proofs.Common.{◌≡◌, ℕ, ◌+◌, ◌-◌, ◌<◌, ◌==◌, Bool, true, false, cond, List, [], ◌∷◌, ◌++◌, Ok, Err, refl, ap, sym, subst, arith}
use Rattle.std.proofs.lemmas.Bool.Decides.{nat_tests}
use Rattle.std.proofs.lemmas.Str.{IsUtf8-past_char, encode_ascii}
use Rattle.std.specs.Char.{is_ascii_hexdigit}
use Rattle.std.specs.Str.{IsUtf8}
use Rattle.capnp_json_text.specs.Readings.{Rest, then_read, after_one, after_only}
use Rattle.capnp_json_text.specs.Strings.{after_d, after_escape, after_second_half, after_two_digits, after_unicode, is_d, is_high, is_low, is_octal, is_short_escape}

abbrev pub Keeps : (List ℕ → Rest) → Type 0
Keeps f = (bs rest : List ℕ) → IsUtf8 bs → f bs ≡ Ok rest → IsUtf8 rest

pub past_ascii : (b : ℕ) (bs : List ℕ) → b < 128 → IsUtf8 (b ∷ bs) → IsUtf8 bs
past_ascii b bs h u = IsUtf8-past_char (b ∷ bs) bs b u (ap (λ x. x ++ bs) (sym (encode_ascii b h)))

pub kept_either : (t : Bool) (p q : Rest) (rest : List ℕ) → (t ≡ true → p ≡ Ok rest → IsUtf8 rest) → (t ≡ false → q ≡ Ok rest → IsUtf8 rest) → cond t p q ≡ Ok rest → IsUtf8 rest
kept_either true p q rest h k e = h refl e
kept_either false p q rest h k e = k refl e

pub kept_same : (bs rest : List ℕ) → IsUtf8 bs → ◌≡◌ {A = Rest} (Ok bs) (Ok rest) → IsUtf8 rest
kept_same bs rest u e = let same : bs ≡ rest = cc in subst IsUtf8 same u

pub kept_none : (fault rest : List ℕ) → ◌≡◌ {A = Rest} (Err fault) (Ok rest) → IsUtf8 rest
kept_none fault rest e = let no : ⊥ = cc in absurd no

kept_then : (r : Rest) (f : List ℕ → Rest) (rest : List ℕ) → ((q : List ℕ) → r ≡ Ok q → IsUtf8 q) → Keeps f → then_read r f ≡ Ok rest → IsUtf8 rest
kept_then (Ok q) f rest h k e = k q rest (h q refl) e
kept_then (Err fault) f rest h k e = kept_none fault rest e

one_keeps : (test : ℕ → Bool) → ((b : ℕ) → test b ≡ true → b < 128) → (bs rest : List ℕ) → IsUtf8 bs → after_one test bs ≡ Ok rest → IsUtf8 rest
one_keeps test ascii [] rest u e = kept_none [] rest e
one_keeps test ascii (b ∷ bs) rest u e = kept_either (test b) (Ok bs) (Err (b ∷ bs)) rest (λ t. kept_same bs rest (past_ascii b bs (ascii b t) u)) (λ t. kept_none (b ∷ bs) rest) e

only_keeps : (wanted : ℕ) → wanted < 128 → (bs rest : List ℕ) → IsUtf8 bs → after_only wanted bs ≡ Ok rest → IsUtf8 rest
only_keeps wanted small [] rest u e = kept_none [] rest e
only_keeps wanted small (b ∷ bs) rest u e =
    kept_either (b == wanted) (Ok bs) (Err (b ∷ bs)) rest (λ t. kept_same bs rest (past_ascii b bs (grind (arith, nat_tests)) u)) (λ t. kept_none (b ∷ bs) rest) e

hex_ascii : (b : ℕ) → is_ascii_hexdigit b ≡ true → b < 128
hex_ascii b e = grind (arith, nat_tests)

d_ascii : (b : ℕ) → is_d b ≡ true → b < 128
d_ascii b e = grind (arith, nat_tests)

low_ascii : (b : ℕ) → is_low b ≡ true → b < 128
low_ascii b e = grind (arith, nat_tests)

high_ascii : (b : ℕ) → is_high b ≡ true → b < 128
high_ascii b e = grind (arith, nat_tests)

octal_ascii : (b : ℕ) → is_octal b ≡ true → b < 128
octal_ascii b e = grind (arith, nat_tests)

short_ascii : (b : ℕ) → is_short_escape b ≡ true → b < 128
short_ascii b e = grind (arith, nat_tests)

digit_keeps : Keeps (after_one is_ascii_hexdigit)
digit_keeps = one_keeps is_ascii_hexdigit hex_ascii

two_digits_keep : Keeps after_two_digits
two_digits_keep bs rest u e = kept_then (after_one is_ascii_hexdigit bs) (after_one is_ascii_hexdigit) rest (λ q. digit_keeps bs q u) digit_keeps e

second_half_keeps : Keeps after_second_half
second_half_keeps bs rest u e =
    let first : Rest = then_read (after_only 92 bs) (after_only 117) in
    let second : Rest = then_read first (after_one is_d) in
    let third : Rest = then_read second (after_one is_low) in
    kept_then third after_two_digits rest
    (λ q. kept_then second (after_one is_low) q
    (λ r. kept_then first (after_one is_d) r
    (λ s. kept_then (after_only 92 bs) (after_only 117) s (λ t. only_keeps 92 (omega arith) bs t u) (only_keeps 117 (omega arith)))
    (one_keeps is_d d_ascii))
    (one_keeps is_low low_ascii))
    two_digits_keep e

d_keeps : (bs rest : List ℕ) → IsUtf8 bs → after_d bs ≡ Ok rest → IsUtf8 rest
d_keeps [] rest u e = kept_none [] rest e
d_keeps (b ∷ bs) rest u e =
    kept_either (is_octal b) (after_two_digits bs) (cond (is_high b) (then_read (after_two_digits bs) after_second_half) (Err (b ∷ bs))) rest
    (λ t. two_digits_keep bs rest (past_ascii b bs (octal_ascii b t) u))
    (λ _. kept_either (is_high b) (then_read (after_two_digits bs) after_second_half) (Err (b ∷ bs)) rest
    (λ t. kept_then (after_two_digits bs) after_second_half rest (λ q. two_digits_keep bs q (past_ascii b bs (high_ascii b t) u)) second_half_keeps)
    (λ _. kept_none (b ∷ bs) rest)) e

unicode_keeps : (bs rest : List ℕ) → IsUtf8 bs → after_unicode bs ≡ Ok rest → IsUtf8 rest
unicode_keeps [] rest u e = kept_none [] rest e
unicode_keeps (b ∷ bs) rest u e =
    kept_either (is_d b) (after_d bs) (cond (is_ascii_hexdigit b) (then_read (after_one is_ascii_hexdigit bs) after_two_digits) (Err (b ∷ bs))) rest
    (λ t. d_keeps bs rest (past_ascii b bs (d_ascii b t) u))
    (λ _. kept_either (is_ascii_hexdigit b) (then_read (after_one is_ascii_hexdigit bs) after_two_digits) (Err (b ∷ bs)) rest
    (λ t. kept_then (after_one is_ascii_hexdigit bs) after_two_digits rest (λ q. digit_keeps bs q (past_ascii b bs (hex_ascii b t) u)) two_digits_keep)
    (λ _. kept_none (b ∷ bs) rest)) e

pub escape_keeps : (bs rest : List ℕ) → IsUtf8 bs → after_escape bs ≡ Ok rest → IsUtf8 rest
unfolding after_escape
escape_keeps [] rest u e = kept_none [] rest e
escape_keeps (b ∷ bs) rest u e =
    kept_either (b == 117) (after_unicode bs) (cond (is_short_escape b) (Ok bs) (Err (b ∷ bs))) rest
    (λ t. unicode_keeps bs rest (past_ascii b bs (grind (arith, nat_tests)) u))
    (λ _. kept_either (is_short_escape b) (Ok bs) (Err (b ∷ bs)) rest (λ t. kept_same bs rest (past_ascii b bs (short_ascii b t) u)) (λ _. kept_none (b ∷ bs) rest)) e
