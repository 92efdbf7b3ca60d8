-- What is left behind the tokens of a text is shorter than what they were read from.
use Rattle.std.proofs.Common.{◌≡◌, ℕ, suc, ◌<◌, ◌≤◌, ◌==◌, ◌||◌, Bool, cond, List, [], ◌∷◌, length, Ok, Err, sym, subst, arith}
use Rattle.std.specs.Prelude.{⊤}
use Rattle.std.specs.Char.{is_ascii_digit, is_ascii_hexdigit}
use Rattle.capnp_json_text.specs.Readings.{Rest, then_read, after_one, after_only}
use Rattle.capnp_json_text.specs.Numbers.{after_digits, after_exponent, after_fraction, after_minus, after_number, after_sign, after_some_digits, after_whole}
use Rattle.capnp_json_text.specs.Strings.{CharacterRead, after_character, after_character_by, after_d, after_escape, after_second_half, after_two_digits, after_unicode, character_of, is_d, is_high, is_low, is_octal, is_short_escape, with_more}
use Rattle.capnp_json_text.specs.declared.strings.Character.{Character}
use Rattle.capnp_json_text.specs.declared.strings.Character.TheVariants.{Quote, Backslash, Control, Plain}
use Rattle.capnp_json_text.proofs.Shorter.{Below, Shrinks, below_either, below_then, below_wider, one_shrinks, one_stays, only_shrinks, only_stays, shorter_either, shrinks_stays}

-- ---- numbers ----

digits_shorter : (bs : List ℕ) → length (after_digits bs) ≤ length bs
digits_shorter [] = omega arith
digits_shorter (b ∷ bs) = shorter_either (suc (length bs)) (is_ascii_digit b) (after_digits bs) (b ∷ bs) (let h = digits_shorter bs in omega (arith, h)) (omega arith)

minus_shorter : (bs : List ℕ) → length (after_minus bs) ≤ length bs
minus_shorter [] = omega arith
minus_shorter (b ∷ bs) = shorter_either (suc (length bs)) (b == 45) bs (b ∷ bs) (omega arith) (omega arith)

sign_shorter : (bs : List ℕ) → length (after_sign bs) ≤ length bs
sign_shorter [] = omega arith
sign_shorter (b ∷ bs) = shorter_either (suc (length bs)) (b == 43 || b == 45) bs (b ∷ bs) (omega arith) (omega arith)

some_digits_shrink : (bs : List ℕ) → Below (length bs) (after_some_digits bs)
some_digits_shrink [] = tt
some_digits_shrink (b ∷ bs) = below_either (suc (length bs)) (is_ascii_digit b) (Ok (after_digits bs)) (Err (b ∷ bs)) (let h = digits_shorter bs in omega (arith, h)) tt

whole_shrinks : (bs : List ℕ) → Below (length bs) (after_whole bs)
whole_shrinks [] = tt
whole_shrinks (b ∷ bs) = below_either (suc (length bs)) (b == 48) (Ok bs) (after_some_digits (b ∷ bs)) (omega arith) (some_digits_shrink (b ∷ bs))

fraction_stays : (bs : List ℕ) → Below (suc (length bs)) (after_fraction bs)
fraction_stays [] = omega arith
fraction_stays (b ∷ bs) = below_either (suc (suc (length bs))) (b == 46) (after_some_digits bs) (Ok (b ∷ bs))
    (below_wider (length bs) (suc (suc (length bs))) (after_some_digits bs) (omega arith) (some_digits_shrink bs)) (omega arith)

exponent_stays : (bs : List ℕ) → Below (suc (length bs)) (after_exponent bs)
exponent_stays [] = omega arith
exponent_stays (b ∷ bs) = below_either (suc (suc (length bs))) (b == 101 || b == 69) (after_some_digits (after_sign bs)) (Ok (b ∷ bs))
    (below_wider (length (after_sign bs)) (suc (suc (length bs))) (after_some_digits (after_sign bs)) (let h = sign_shorter bs in omega (arith, h)) (some_digits_shrink (after_sign bs)))
    (omega arith)

pub number_shrinks : Shrinks after_number
unfolding after_number
number_shrinks bs =
    below_then (length bs) (then_read (after_whole (after_minus bs)) after_fraction) after_exponent
    (below_then (length bs) (after_whole (after_minus bs)) after_fraction
    (below_wider (length (after_minus bs)) (length bs) (after_whole (after_minus bs)) (minus_shorter bs) (whole_shrinks (after_minus bs)))
    fraction_stays)
    exponent_stays

-- ---- strings ----

two_digits_shrink : Shrinks after_two_digits
two_digits_shrink bs = below_then (length bs) (after_one is_ascii_hexdigit bs) (after_one is_ascii_hexdigit) (one_shrinks is_ascii_hexdigit bs) (one_stays is_ascii_hexdigit)

second_half_shrinks : Shrinks after_second_half
second_half_shrinks bs =
    let first : Rest = then_read (after_only 92 bs) (after_only 117) in
    let second : Rest = then_read first (after_one is_d) in
    let third : Rest = then_read second (after_one is_low) in
    below_then (length bs) third after_two_digits
    (below_then (length bs) second (after_one is_low)
    (below_then (length bs) first (after_one is_d)
    (below_then (length bs) (after_only 92 bs) (after_only 117) (only_shrinks 92 bs) (only_stays 117))
    (one_stays is_d))
    (one_stays is_low))
    (shrinks_stays after_two_digits two_digits_shrink)

d_shrinks : (bs : List ℕ) → Below (length bs) (after_d bs)
d_shrinks [] = tt
d_shrinks (b ∷ bs) =
    let two : Below (suc (length bs)) (after_two_digits bs) = shrinks_stays after_two_digits two_digits_shrink bs in
    below_either (suc (length bs)) (is_octal b) (after_two_digits bs) (cond (is_high b) (then_read (after_two_digits bs) after_second_half) (Err (b ∷ bs))) two
    (below_either (suc (length bs)) (is_high b) (then_read (after_two_digits bs) after_second_half) (Err (b ∷ bs))
    (below_then (suc (length bs)) (after_two_digits bs) after_second_half two (shrinks_stays after_second_half second_half_shrinks)) tt)

unicode_shrinks : (bs : List ℕ) → Below (length bs) (after_unicode bs)
unicode_shrinks [] = tt
unicode_shrinks (b ∷ bs) =
    below_either (suc (length bs)) (is_d b) (after_d bs) (cond (is_ascii_hexdigit b) (then_read (after_one is_ascii_hexdigit bs) after_two_digits) (Err (b ∷ bs)))
    (shrinks_stays after_d d_shrinks bs)
    (below_either (suc (length bs)) (is_ascii_hexdigit b) (then_read (after_one is_ascii_hexdigit bs) after_two_digits) (Err (b ∷ bs))
    (below_then (suc (length bs)) (after_one is_ascii_hexdigit bs) after_two_digits (one_stays is_ascii_hexdigit bs) (shrinks_stays after_two_digits two_digits_shrink)) tt)

pub escape_shrinks : (bs : List ℕ) → Below (length bs) (after_escape bs)
unfolding after_escape
escape_shrinks [] = tt
escape_shrinks (b ∷ bs) =
    below_either (suc (length bs)) (b == 117) (after_unicode bs) (cond (is_short_escape b) (Ok bs) (Err (b ∷ bs))) (shrinks_stays after_unicode unicode_shrinks bs)
    (below_either (suc (length bs)) (is_short_escape b) (Ok bs) (Err (b ∷ bs)) (omega arith) tt)

-- a character takes a byte
abbrev pub CharacterBelow : ℕ → CharacterRead → Type 0
CharacterBelow n (Ok c) = length c.1 < n
CharacterBelow n (Err fault) = ⊤

more_below : (n : ℕ) (r : Rest) → Below n r → CharacterBelow n (with_more r)
more_below n (Ok rest) h = h
more_below n (Err fault) h = tt

by_below : (c : Character) (b : ℕ) (bs : List ℕ) → CharacterBelow (suc (length bs)) (after_character_by c b bs)
by_below Quote b bs = omega arith
by_below Backslash b bs = more_below (suc (length bs)) (after_escape bs) (shrinks_stays after_escape escape_shrinks bs)
by_below Control b bs = tt
by_below Plain b bs = omega arith

pub character_below : (bs : List ℕ) → CharacterBelow (length bs) (after_character bs)
character_below [] = tt
character_below (b ∷ bs) = by_below (character_of b) b bs

pub character_shorter : (more : Bool) (rest bs : List ℕ) → Ok (more, rest) ≡ after_character bs → length rest < length bs
character_shorter more rest bs e = subst (CharacterBelow (length bs)) (sym e) (character_below bs)
