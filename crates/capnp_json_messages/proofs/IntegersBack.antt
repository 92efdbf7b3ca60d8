-- Decimal digits are read as the integer for which they were written.
use Rattle.std.proofs.Common.{◌≡◌, ℕ, ℤ, pos, negsuc, suc, ◌+◌, ◌-◌, ◌*◌, ◌/◌, ◌%◌, ◌^◌, ◌<◌, ◌≤◌, ◌==◌, nat_lt, Bool, true, false, cond, List, [], ◌∷◌, length, take, decimal, Option, Some, None, refl, ap, sym, ◌∙◌, arith, lit<}
use Rattle.std.proofs.Math.Nat.{pow-le-pow_right}
use Rattle.std.proofs.lemmas.Bool.Decides.{nat_tests}
use Rattle.std.proofs.lemmas.Fmt.{decimal_is_IsNumeral}
use Rattle.std.proofs.lemmas.List.{append-nil, take_all}
use Rattle.std.proofs.lemmas.Str.Parse.{digit_from_value}
use Rattle.std.specs.Char.{digit_value, is_ascii_digit}
use Rattle.std.specs.Fmt.{signed_decimal}
use Rattle.std.specs.Int.{IsInRange}
use Rattle.std.specs.Option.{option_map}
use Rattle.std.specs.Str.Parse.{AllDigits, digits_value_after}
use Rattle.capnp_json_text.specs.Numbers.{after_digits, after_minus, after_sign}
use Rattle.capnp_json_text.specs.Decimals.{Decimal, after_point, behind_letter, behind_point, decimal_by, decimal_of, digits_of, exponent_digits, exponent_of, fraction_digits, is_minus, natural_from, whole_digits}
use Rattle.capnp_from_json.specs.Integers.{integer_of, is_in_signed, is_in_unsigned, only_if, quotient_of, signed_of, unsigned_of, with_sign}
use Rattle.capnp_json_messages.specs.ReadBack.{IsIntegerReadBack}

-- ---- digits ----

is_digit : (c : ℕ) → digit_value c < 10 → is_ascii_digit c ≡ true
is_digit c h = let r : IsInRange 48 57 c = digit_from_value c h in let l : 48 ≤ c = r.0 in let m : c ≤ 57 = r.1 in grind (arith, nat_tests)

no_minus : (c : ℕ) → digit_value c < 10 → (c == 45) ≡ false
no_minus c h = let r : IsInRange 48 57 c = digit_from_value c h in let l : 48 ≤ c = r.0 in grind (arith, nat_tests)

all_taken : (ds : List ℕ) → AllDigits 10 ds → after_digits ds ≡ []
all_taken [] h = refl
all_taken (c ∷ cs) h = ap (λ t. cond t (after_digits cs) (c ∷ cs)) (is_digit c h.0) ∙ all_taken cs h.1

minus_stays : (ds : List ℕ) → AllDigits 10 ds → after_minus ds ≡ ds
minus_stays [] h = refl
minus_stays (c ∷ cs) h = ap (λ t. cond t cs (c ∷ cs)) (no_minus c h.0)

none_minus : (ds : List ℕ) → AllDigits 10 ds → is_minus ds ≡ false
none_minus [] h = refl
none_minus (c ∷ cs) h = no_minus c h.0

weight : (n c : ℕ) → digit_value c < 10 → n * 10 + digit_value c ≡ 10 * n + (c - 48)
weight n c h =
    let r : IsInRange 48 57 c = digit_from_value c h in
    let l : 48 ≤ c = r.0 in
    let m : c ≤ 57 = r.1 in
    let v : digit_value c ≡ c - 48 = grind (arith, nat_tests) in omega arith

same_value : (n : ℕ) (ds : List ℕ) → AllDigits 10 ds → digits_value_after 10 n ds ≡ natural_from n ds
same_value n [] h = refl
same_value n (c ∷ cs) h = ap (λ m. digits_value_after 10 m cs) (weight n c h.0) ∙ same_value (10 * n + (c - 48)) cs h.1

-- ---- the decimal of digits, with a minus or without ----

abbrev sign : Bool → List ℕ → List ℕ
sign true ds = 45 ∷ ds
sign false ds = ds

sign_taken : (t : Bool) (ds : List ℕ) → AllDigits 10 ds → after_minus (sign t ds) ≡ ds
sign_taken true ds h = refl
sign_taken false ds h = minus_stays ds h

sign_is : (t : Bool) (ds : List ℕ) → AllDigits 10 ds → is_minus (sign t ds) ≡ t
sign_is true ds h = refl
sign_is false ds h = none_minus ds h

abbrev whole_decimal : Bool → ℕ → Decimal
whole_decimal t n = record { negative = t; digits = n; tens = 0; tenths = 0 }

whole_is : (bs ds : List ℕ) → after_minus bs ≡ ds → AllDigits 10 ds → whole_digits bs ≡ ds
unfolding whole_digits
whole_is bs ds e h = ap digits_of e ∙ ap (λ (rest : List ℕ). take (length ds - length rest) ds) (all_taken ds h) ∙ take_all (length ds - length {A = ℕ} []) ds (omega arith)

fraction_is : (bs ds : List ℕ) → after_minus bs ≡ ds → AllDigits 10 ds → fraction_digits bs ≡ []
unfolding fraction_digits
fraction_is bs ds e h = ap (λ x. digits_of (behind_point (after_digits x))) e ∙ ap (λ x. digits_of (behind_point x)) (all_taken ds h)

exponent_is : (bs ds : List ℕ) → after_minus bs ≡ ds → AllDigits 10 ds → exponent_of bs ≡ []
unfolding exponent_of
exponent_is bs ds e h = ap (λ x. behind_letter (after_point (after_digits x))) e ∙ ap (λ x. behind_letter (after_point x)) (all_taken ds h)

parts_are : (t : Bool) (n : ℕ) (ds : List ℕ) → natural_from 0 ds ≡ n → decimal_by t ds [] false [] ≡ whole_decimal t n
parts_are t n ds e = ap (λ x. whole_decimal t (natural_from 0 x)) (append-nil ds) ∙ ap (whole_decimal t) e

by_parts : (bs ds : List ℕ) (t : Bool) → is_minus bs ≡ t → whole_digits bs ≡ ds → fraction_digits bs ≡ [] → exponent_of bs ≡ [] → decimal_of bs ≡ decimal_by t ds [] false []
unfolding decimal_of
by_parts bs ds t e1 e2 e3 e4 =
    ap (λ x. decimal_by x (whole_digits bs) (fraction_digits bs) (is_minus (exponent_of bs)) (exponent_digits bs)) e1
    ∙ ap (λ x. decimal_by t x (fraction_digits bs) (is_minus (exponent_of bs)) (exponent_digits bs)) e2
    ∙ ap (λ x. decimal_by t ds x (is_minus (exponent_of bs)) (exponent_digits bs)) e3
    ∙ ap (λ x. decimal_by t ds [] (is_minus x) (digits_of (after_sign x))) e4

decimal_is : (t : Bool) (n : ℕ) → n < 2 ^ 64 → decimal_of (sign t (decimal n)) ≡ whole_decimal t n
decimal_is t n h =
    let d = decimal_is_IsNumeral n h in
    let all : AllDigits 10 (decimal n) = d.0.1 in
    let taken = sign_taken t (decimal n) all in
    by_parts (sign t (decimal n)) (decimal n) t (sign_is t (decimal n) all) (whole_is _ (decimal n) taken all) (fraction_is _ (decimal n) taken all) (exponent_is _ (decimal n) taken all)
    ∙ parts_are t n (decimal n) (sym (same_value 0 (decimal n) all) ∙ d.1)

-- ---- integers ----

whole_quotient : (n : ℕ) → quotient_of (n * 1) 1 ≡ Some n
whole_quotient n =
    let one : n * 1 ≡ n = omega arith in
    let none : (n % 1 == 0) ≡ true = grind (arith, nat_tests) in
    let all : n / 1 ≡ n = omega arith in
    ap (λ m. quotient_of m 1) one ∙ ap (λ t. cond t (Some (n / 1)) None) none ∙ ap (λ m. Some m) all

integer_is : (t : Bool) (n : ℕ) → n < 2 ^ 64 → integer_of (decimal_of (sign t (decimal n))) ≡ Some (with_sign t n)
integer_is t n h = ap integer_of (decimal_is t n h) ∙ ap (option_map (with_sign t)) (whole_quotient n)

-- so many bits hold it, and so 64 do
few_bits : (bits n k : ℕ) → nat_lt n (2 ^ bits) ≡ true → bits ≤ k → n < 2 ^ k
few_bits bits n k h l =
    let less : n < 2 ^ bits = grind (arith, nat_tests) in
    let more : 2 ^ bits ≤ 2 ^ k = pow-le-pow_right {n = 2} (lit< tt) {i = bits} {j = k} l in omega arith

kept : (test : ℤ → Bool) (x : ℤ) (o : Option ℤ) → o ≡ Some x → test x ≡ true → only_if test o ≡ Some x
kept test x o e h = ap (only_if test) e ∙ ap (λ t. cond t (Some x) None) h

signed_back : (bits : ℕ) (x : ℤ) → bits ≤ 64 → is_in_signed bits x ≡ true → signed_of bits (signed_decimal x) ≡ Some x
unfolding signed_of
signed_back bits (pos n) few h =
    kept (is_in_signed bits) (pos n) (integer_of (decimal_of (decimal n))) (integer_is false n (few_bits (bits - 1) n 64 h (omega arith))) h
signed_back bits (negsuc n) few h =
    let less : n < 2 ^ 63 = few_bits (bits - 1) n 63 h (omega arith) in
    kept (is_in_signed bits) (negsuc n) (integer_of (decimal_of (45 ∷ decimal (suc n)))) (integer_is true (suc n) (omega arith)) h

unsigned_back : (bits : ℕ) (x : ℤ) → bits ≤ 64 → is_in_unsigned bits x ≡ true → unsigned_of bits (signed_decimal x) ≡ Some x
unfolding unsigned_of
unsigned_back bits (pos n) few h =
    kept (is_in_unsigned bits) (pos n) (integer_of (decimal_of (decimal n))) (integer_is false n (few_bits bits n 64 h few)) h
unsigned_back bits (negsuc n) few h = let no : ⊥ = cc in absurd no

pub integer_back : (bits : ℕ) (x : ℤ) → bits ≤ 64 → IsIntegerReadBack bits x
integer_back bits x few = record { signed = signed_back bits x few; unsigned = unsigned_back bits x few }
