-- What is printed of a float is a leaf.
use Rattle.std.proofs.Common.{ℕ, zero, suc, ◌≡◌, ◌+◌, ◌-◌, ◌/◌, ◌%◌, ◌^◌, ◌<◌, ◌≤◌, ⊎_elim, Bool, true, false, cond, nat_lt, decimal, codes, replicate, take, drop, length, List, [], ◌∷◌, ◌++◌, refl, ap, sym, length-append, subst, arith}
use Rattle.std.specs.Prelude.{◌==◌}
use Rattle.std.specs.List.{list_all}
use Rattle.std.proofs.lemmas.Bool.{cases_lt}
use Rattle.std.proofs.lemmas.Bool.Decides.{nat_tests}
use Rattle.std.proofs.lemmas.Fmt.{decimal_by_steps, decimal_nonempty, length-decimal-le}
use lib.IntN.{ℤ}
use Rattle.capnp_floats.specs.Floats.{IsDecimalOf, fraction, is_finite, significand}
use Rattle.capnp_floats.specs.Layout.{IsFloatText, digits_text, is_negative, is_plain, layout, others_text, plain_text, power_text, scientific_text, sign_text, two_digits_text}
use Rattle.capnp_floats.specs.Shortest.{tens, tenths}
use Rattle.capnp_floats.specs.declared.width.Width.{Width}
use Rattle.capnp_floats.proofs.Scanning.{Each, each_append, each_drop, each_replicate, each_take}
use Rattle.capnp_floats.proofs.Sizes.{IsSmall, shortest_is_small}
use Rattle.capnp_float_texts.specs.Numbers.{float_bytes}
use Rattle.capnp_value_texts.specs.Laws.{is_leaf_byte}
use Rattle.capnp_value_texts.proofs.LeavesStand.{StandsAlone, plain_stands}
use Rattle.capnp_value_laws.proofs.Decimals.{float_text}

-- ---- bytes ----

-- some bytes, none of which ends a leaf
record AreLeafBytes (bs : List ℕ) : Type 0 where
  some : 0 < length bs
  each : Each is_leaf_byte bs

all_of : (bs : List ℕ) → Each is_leaf_byte bs → list_all is_leaf_byte bs ≡ true
all_of [] h = refl
all_of (b ∷ bs) h = rw (h.0, all_of bs h.1) refl

stands : (bs : List ℕ) → AreLeafBytes bs → StandsAlone bs
stands bs h = plain_stands bs h.some (all_of bs h.each)

first_some : (xs ys : List ℕ) → AreLeafBytes xs → Each is_leaf_byte ys → AreLeafBytes (xs ++ ys)
first_some xs ys h e = record { some = omega (arith, h.some, length-append xs ys); each = each_append is_leaf_byte xs ys h.each e }

last_some : (xs ys : List ℕ) → Each is_leaf_byte xs → AreLeafBytes ys → AreLeafBytes (xs ++ ys)
last_some xs ys e h = record { some = omega (arith, h.some, length-append xs ys); each = each_append is_leaf_byte xs ys e h.each }

-- ---- digits ----

DigitBytes : ℕ → List ℕ → Type 0
DigitBytes n ds = Each is_leaf_byte ds

digit_byte : (d : ℕ) → d < 10 → is_leaf_byte (48 + d) ≡ true
digit_byte d h = grind (arith, nat_tests)

one_digit : (n : ℕ) → n < 10 → DigitBytes n ((48 + n) ∷ [])
unfolding DigitBytes
one_digit n h = (digit_byte n h, tt)

more_digits : (n : ℕ) (ds : List ℕ) → 10 ≤ n → DigitBytes (n / 10) ds → DigitBytes n (ds ++ ((48 + n % 10) ∷ []))
unfolding DigitBytes
more_digits n ds h before = each_append is_leaf_byte ds ((48 + n % 10) ∷ []) before (digit_byte (n % 10) (omega arith), tt)

digits_each : (n : ℕ) → n < 2 ^ 64 → Each is_leaf_byte (decimal n)
unfolding DigitBytes
digits_each n h = decimal_by_steps DigitBytes one_digit more_digits n h

number_bytes : (n : ℕ) → n < 2 ^ 64 → AreLeafBytes (decimal n)
number_bytes n h = record { some = decimal_nonempty n h; each = digits_each n h }

-- ---- decimals ----

plain_bytes : (ds : List ℕ) (up down : ℕ) → AreLeafBytes ds → AreLeafBytes (plain_text ds up down)
plain_bytes ds up down h = by_place (down == 0) (nat_lt down (length ds))
  where
    by_place : (p q : Bool) → AreLeafBytes (cond p (ds ++ replicate up 48) (cond q (take (length ds - down) ds ++ codes "." ++ drop (length ds - down) ds) (codes "0." ++ replicate (down - length ds) 48 ++ ds)))
    by_place true q = first_some ds (replicate up 48) h (each_replicate is_leaf_byte up 48 refl)
    by_place false true =
        first_some (take (length ds - down) ds ++ codes ".") (drop (length ds - down) ds)
        (last_some (take (length ds - down) ds) (codes ".") (each_take is_leaf_byte (length ds - down) ds h.each) (record { some = omega arith; each = (refl, tt) })) (each_drop is_leaf_byte (length ds - down) ds h.each)
    by_place false false =
        first_some (codes "0." ++ replicate (down - length ds) 48) ds
        (first_some (codes "0.") (replicate (down - length ds) 48) (record { some = omega arith; each = (refl, (refl, tt)) }) (each_replicate is_leaf_byte (down - length ds) 48 refl)) h.each

two_digits_bytes : (n : ℕ) → n < 2 ^ 64 → Each is_leaf_byte (two_digits_text n)
two_digits_bytes n h = by_size (nat_lt n 10)
  where
    by_size : (p : Bool) → Each is_leaf_byte (cond p (codes "0" ++ decimal n) (decimal n))
    by_size true = each_append is_leaf_byte (codes "0") (decimal n) (refl, tt) (digits_each n h)
    by_size false = digits_each n h

power_bytes : (up down : ℕ) → up < 2 ^ 64 → down < 2 ^ 64 → AreLeafBytes (power_text up down)
power_bytes up down h k = by_sign (nat_lt up down)
  where
    by_sign : (p : Bool) → AreLeafBytes (cond p (codes "e-" ++ two_digits_text (down - up)) (codes "e" ++ two_digits_text (up - down)))
    by_sign true = first_some (codes "e-") (two_digits_text (down - up)) (record { some = omega arith; each = (refl, (refl, tt)) }) (two_digits_bytes (down - up) (omega (arith, k)))
    by_sign false = first_some (codes "e") (two_digits_text (up - down)) (record { some = omega arith; each = (refl, tt) }) (two_digits_bytes (up - down) (omega (arith, h)))

others_bytes : (ds : List ℕ) → Each is_leaf_byte ds → Each is_leaf_byte (others_text ds)
others_bytes ds h = by_count (nat_lt 1 (length ds))
  where
    by_count : (p : Bool) → Each is_leaf_byte (cond p (codes "." ++ drop 1 ds) [])
    by_count true = each_append is_leaf_byte (codes ".") (drop 1 ds) (refl, tt) (each_drop is_leaf_byte 1 ds h)
    by_count false = tt

scientific_bytes : (ds : List ℕ) (up down : ℕ) → Each is_leaf_byte ds → length ds - 1 + up < 2 ^ 64 → down < 2 ^ 64 → AreLeafBytes (scientific_text ds up down)
scientific_bytes ds up down h few k =
    last_some (take 1 ds ++ others_text ds) (power_text (length ds - 1 + up) down) (each_append is_leaf_byte (take 1 ds) (others_text ds) (each_take is_leaf_byte 1 ds h) (others_bytes ds h))
    (power_bytes (length ds - 1 + up) down few k)

digits_bytes : (w : Width) (ds : List ℕ) (up down : ℕ) → AreLeafBytes ds → length ds - 1 + up < 2 ^ 64 → down < 2 ^ 64 → AreLeafBytes (digits_text w ds up down)
digits_bytes w ds up down h few k = by_layout (is_plain w (length ds) up down)
  where
    by_layout : (p : Bool) → AreLeafBytes (cond p (plain_text ds up down) (scientific_text ds up down))
    by_layout true = plain_bytes ds up down h
    by_layout false = scientific_bytes ds up down h.each few k

-- ---- floats ----

small_of : (w : Width) (bits d : ℕ) (k : ℤ) → IsDecimalOf w bits d k → IsSmall d k
small_of w bits d k h = ⊎_elim
    (λ (l : 0 < significand w bits). shortest_is_small w bits d k (h.shortest l))
    (λ (l : significand w bits ≤ 0).
    let z = h.zero_is (let e : significand w bits ≡ 0 = omega arith in e) in
    let f : d ≡ 0 = z.0 in
    record {
      digits = omega arith;
      tens = let e : tens k ≡ 0 = ap tens z.1 in omega arith;
      tenths = let e : tenths k ≡ 0 = ap tenths z.1 in omega arith;
    })
    (cases_lt 0 (significand w bits))

layout_bytes : (w : Width) (d : ℕ) (k : ℤ) → IsSmall d k → AreLeafBytes (layout w d k)
layout_bytes w d k small =
    let short : length (decimal d) ≤ 20 = length-decimal-le 20 d (omega arith) (omega arith) (omega (arith, small.digits)) in
    digits_bytes w (decimal d) (tens k) (tenths k) (number_bytes d small.digits) (omega (arith, short, small.tens)) (omega (arith, small.tenths))

sign_bytes : (q : Bool) → Each is_leaf_byte (sign_text q)
sign_bytes true = (refl, tt)
sign_bytes false = tt

float_bytes_are : (w : Width) (bits : ℕ) (text : List ℕ) → IsFloatText w bits text → AreLeafBytes text
float_bytes_are w bits text h = of_kind (is_finite w bits) (fraction w bits) refl refl
  where
    of_kind : (q : Bool) (n : ℕ) → is_finite w bits ≡ q → fraction w bits ≡ n → AreLeafBytes text
    of_kind true n is same =
        let of : (d : ℕ) × (k : ℤ) × IsDecimalOf w bits d k × (text ≡ sign_text (is_negative w bits) ++ layout w d k) = h.finite is in
        subst AreLeafBytes (sym of.3) (last_some (sign_text (is_negative w bits)) (layout w of.0 of.1) (sign_bytes (is_negative w bits)) (layout_bytes w of.0 of.1 (small_of w bits of.0 of.1 of.2)))
    of_kind false zero is same =
        subst AreLeafBytes (sym (h.infinite is same)) (last_some (sign_text (is_negative w bits)) (codes "inf") (sign_bytes (is_negative w bits)) (record { some = omega arith; each = (refl, (refl, (refl, tt))) }))
    of_kind false (suc n) is same = subst AreLeafBytes (sym (h.none is (omega (arith, same)))) (record { some = omega arith; each = (refl, (refl, (refl, tt))) })

pub float_stands : (w : Width) (bits : ℕ) → StandsAlone (float_bytes w bits)
float_stands w bits = stands (float_bytes w bits) (float_bytes_are w bits (float_bytes w bits) (float_text w bits))
