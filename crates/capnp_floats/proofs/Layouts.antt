-- The text of a decimal is the word of a number with the same value.
use Rattle.std.proofs.Common.{ℕ, zero, suc, ◌≡◌, ◌+◌, ◌-◌, ◌*◌, ◌^◌, ◌<◌, ◌≤◌, ◌==◌, ◌||◌, ◌⊎◌, ⊎_elim, inl, inr, Bool, true, false, cond, not, ltb, List, [], ◌∷◌, ◌++◌, length, take, drop, get_or, replicate, codes, decimal, Some, None, Ok, refl, sym, ap, ◌∙◌, subst, arith}
use Rattle.std.proofs.lemmas.List.{append_assoc, length-append, length-drop, length-replicate, length-take-le, take-append-drop}
use Rattle.std.proofs.lemmas.Bool.{cases_lt, cond_both, eqb-true, eqb-false, ne_eqb, ltb-true, ltb-false, lt-ltb}
use Rattle.std.proofs.lemmas.Bool.Decides.{nat_tests}
use Rattle.std.proofs.lemmas.Fmt.{decimal_is_IsNumeral, first_decimal, length-decimal-le}
use Rattle.std.proofs.lemmas.Str.Parse.{digit_from_value}
use Rattle.std.specs.Char.{digit_value, is_ascii_digit}
use Rattle.std.specs.Fmt.{digits}
use Rattle.std.specs.Int.{IsInRange}
use Rattle.std.specs.List.{after_first}
use Rattle.std.specs.Str.Parse.{AllDigits, digits_value_after}
use lib.IntN.{ℤ, pos}
use Rattle.capnp_floats.specs.declared.grammar.Expected.TheVariants as expected
use Rattle.capnp_floats.specs.declared.grammar.Kind.TheVariants as kind
use Rattle.capnp_floats.specs.declared.width.Width.{Width}
use Rattle.capnp_floats.specs.declared.width.Width.TheVariants.{Float32, Float64}
use Rattle.capnp_floats.specs.Shortest.{tens, tenths}
use Rattle.capnp_floats.specs.Layout.{is_plain, layout, others_text, plain_text, scientific_text, sign_text, two_digits_text}
use Rattle.capnp_floats.specs.Words.{begins_with_minus, digits_among, digits_behind, exponent_by, is_exponent_mark, is_point, kind_of, places_of, step_of, with_digit, word_digits, word_exponent}
use Rattle.capnp_floats.proofs.Appending.{digit_is, minus_down, minus_up, plus_down, plus_up}
use Rattle.capnp_floats.proofs.Nearing.{only_tenths}
use Rattle.capnp_floats.proofs.Scanning.{Each, EndsNumber, after_at, after_none, before_at, before_none, digits_apart, digits_append, each_append, each_as, each_drop, each_replicate, each_take, ends_all, ends_byte, ends_digits, exponent_stays, places_stay, whole_stays, zeros_before, zeros_behind}

-- ---- digits ----

abbrev no_mark : ℕ → Bool
no_mark c = not (is_exponent_mark c)

abbrev no_point : ℕ → Bool
no_point c = not (is_point c)

digit_no_mark : (c : ℕ) → is_ascii_digit c ≡ true → no_mark c ≡ true
digit_no_mark c h = grind (arith, nat_tests)

digit_no_point : (c : ℕ) → is_ascii_digit c ≡ true → no_point c ≡ true
digit_no_point c h = grind (arith, nat_tests)

digit_no_minus : (c : ℕ) → is_ascii_digit c ≡ true → (c == 45) ≡ false
digit_no_minus c h = grind (arith, nat_tests)

in_range_digit : (c : ℕ) → 48 ≤ c → c ≤ 57 → is_ascii_digit c ≡ true
in_range_digit c h k = grind (arith, nat_tests)

value_digit : (c : ℕ) → digit_value c < 10 → is_ascii_digit c ≡ true
value_digit c h = let r : IsInRange 48 57 c = digit_from_value c h in in_range_digit c r.0 r.1

all_digits : (ds : List ℕ) → AllDigits 10 ds → Each is_ascii_digit ds
all_digits [] h = tt
all_digits (c ∷ cs) h = (value_digit c h.0, all_digits cs h.1)

-- the digits of a number, of which the first is not 0
pub record AreDigitsOf (d : ℕ) (ds : List ℕ) : Type 0 where
  pub each : Each is_ascii_digit ds
  pub some : 0 < length ds
  pub value : digits_among ds ≡ d

digit_weight : (n c : ℕ) → digit_value c < 10 → n * 10 + digit_value c ≡ with_digit n c
digit_weight n c h =
    let r : IsInRange 48 57 c = digit_from_value c h in
    let l : 48 ≤ c = r.0 in
    let m : c ≤ 57 = r.1 in
    let v : digit_value c ≡ c - 48 = grind (arith, nat_tests) in
    (let e : n * 10 + digit_value c ≡ 10 * n + (c - 48) = omega arith in e) ∙ sym (digit_is n c (value_digit c h))

same_value : (n : ℕ) (ds : List ℕ) → AllDigits 10 ds → digits_value_after 10 n ds ≡ digits_behind n ds
same_value n [] h = refl
same_value n (c ∷ cs) h = ap (λ m. digits_value_after 10 m cs) (digit_weight n c h.0) ∙ same_value (with_digit n c) cs h.1

pub decimal_digits_of : (d : ℕ) → d < 2 ^ 64 → AreDigitsOf d (decimal d)
decimal_digits_of d h =
    let n = decimal_is_IsNumeral d h in
    record {
      each = all_digits (decimal d) n.0.1;
      some = n.0.0;
      value = sym (same_value 0 (decimal d) n.0.1) ∙ n.1;
    }

-- ---- signs ----

sign_each : (p : ℕ → Bool) (t : Bool) (a : List ℕ) → p 45 ≡ true → Each p a → Each p (sign_text t ++ a)
sign_each p true a h k = (h, k)
sign_each p false a h k = k

sign_digits : (t : Bool) (a : List ℕ) → digits_among (sign_text t ++ a) ≡ digits_among a
sign_digits true a = refl
sign_digits false a = refl

sign_kind : (t : Bool) (a : List ℕ) → EndsNumber expected.First a → EndsNumber expected.Unsigned a → kind_of (sign_text t ++ a) ≡ Ok kind.Number
sign_kind true a h k = ends_byte expected.First expected.Unsigned 45 a refl k 0
sign_kind false a h k = h 0

sign_is : (t : Bool) (a : List ℕ) → begins_with_minus a ≡ false → begins_with_minus (sign_text t ++ a) ≡ t
sign_is true a h = refl
sign_is false a h = h

-- ---- a word without exponent, and one with one ----

plain_digits : (t : Bool) (a : List ℕ) → Each no_mark a → word_digits (sign_text t ++ a) ≡ digits_among a
plain_digits t a h = ap digits_among (before_none is_exponent_mark (sign_text t ++ a) (sign_each no_mark t a refl h)) ∙ sign_digits t a

plain_exponent : (t : Bool) (a : List ℕ) (p : ℕ) → Each no_mark a → length (after_first is_point (sign_text t ++ a)) ≡ p → word_exponent (sign_text t ++ a) ≡ exponent_by false 0 p
plain_exponent t a p h e =
    let none = sign_each no_mark t a refl h in
    ap (λ z. exponent_by (begins_with_minus z) (digits_among z) (places_of (sign_text t ++ a))) (after_none is_exponent_mark (sign_text t ++ a) none)
    ∙ ap (λ z. exponent_by false 0 (length (after_first is_point z))) (before_none is_exponent_mark (sign_text t ++ a) none)
    ∙ ap (λ z. exponent_by false 0 z) e

marked_digits : (t : Bool) (a b : List ℕ) → Each no_mark a → word_digits (sign_text t ++ (a ++ (101 ∷ b))) ≡ digits_among a
marked_digits t a b h =
    ap word_digits (sym (append_assoc (sign_text t) a (101 ∷ b)))
    ∙ ap digits_among (before_at is_exponent_mark (sign_text t ++ a) 101 b (sign_each no_mark t a refl h) refl) ∙ sign_digits t a

marked_exponent : (t : Bool) (a b : List ℕ) (p : ℕ) → Each no_mark a → length (after_first is_point (sign_text t ++ a)) ≡ p
    → word_exponent (sign_text t ++ (a ++ (101 ∷ b))) ≡ exponent_by (begins_with_minus b) (digits_among b) p
marked_exponent t a b p h e =
    let none = sign_each no_mark t a refl h in
    ap word_exponent (sym (append_assoc (sign_text t) a (101 ∷ b)))
    ∙ ap (λ z. exponent_by (begins_with_minus z) (digits_among z) (places_of ((sign_text t ++ a) ++ (101 ∷ b)))) (after_at is_exponent_mark (sign_text t ++ a) 101 b none refl)
    ∙ ap (λ z. exponent_by (begins_with_minus b) (digits_among b) (length (after_first is_point z))) (before_at is_exponent_mark (sign_text t ++ a) 101 b none refl)
    ∙ ap (λ z. exponent_by (begins_with_minus b) (digits_among b) z) e

no_places : (t : Bool) (a : List ℕ) → Each no_point a → length (after_first is_point (sign_text t ++ a)) ≡ 0
no_places t a h = ap length (after_none is_point (sign_text t ++ a) (sign_each no_point t a refl h))

places_at : (t : Bool) (x y : List ℕ) → Each no_point x → length (after_first is_point (sign_text t ++ (x ++ (46 ∷ y)))) ≡ length y
places_at t x y h =
    ap (λ z. length (after_first is_point z)) (sym (append_assoc (sign_text t) x (46 ∷ y)))
    ∙ ap length (after_at is_point (sign_text t ++ x) 46 y (sign_each no_point t x refl h) refl)

-- ---- values ----

-- a decimal is as much as another, whose tens and tenths are given
abbrev pub IsSameDecimal : (d up down : ℕ) → (d' : ℕ) → ℤ → Type 0
IsSameDecimal d up down d' k' = d' * 10 ^ tens k' * 10 ^ down ≡ d * 10 ^ up * 10 ^ tenths k'

-- a text is, behind each sign, the word of a number of this value
pub record ReadsAs (d up down : ℕ) (body : List ℕ) (t : Bool) : Type 0 where
  pub number : kind_of (sign_text t ++ body) ≡ Ok kind.Number
  pub sign : begins_with_minus (sign_text t ++ body) ≡ t
  pub same : IsSameDecimal d up down (word_digits (sign_text t ++ body)) (word_exponent (sign_text t ++ body))

same_parts : (d up down d' : ℕ) (k' : ℤ) → d' ≡ d → tens k' ≡ up → tenths k' ≡ down → IsSameDecimal d up down d' k'
same_parts d up down d' k' e f g =
    ap (λ z. z * 10 ^ tens k' * 10 ^ down) e ∙ ap (λ z. d * 10 ^ z * 10 ^ down) f ∙ ap (λ z. d * 10 ^ up * 10 ^ z) (sym g)

same_by : (d up down d' d'' : ℕ) (k' k'' : ℤ) → d' ≡ d'' → k' ≡ k'' → IsSameDecimal d up down d'' k'' → IsSameDecimal d up down d' k'
same_by d up down d' d'' k' k'' e f h = subst (λ z. IsSameDecimal d up down z k') (sym e) (subst (λ z. IsSameDecimal d up down d'' z) (sym f) h)

-- ---- the first digit ----

first_whole : (c : ℕ) → 48 < c → c ≤ 57 → step_of expected.First c ≡ Some expected.Whole
first_whole c h k =
    let minus : (c == 45) ≡ false = ne_eqb c 45 (λ e. omega arith) in
    let nan : (c == 110) ≡ false = ne_eqb c 110 (λ e. omega arith) in
    let infinity : (c == 105) ≡ false = ne_eqb c 105 (λ e. omega arith) in
    let zero : (c == 48) ≡ false = ne_eqb c 48 (λ e. omega arith) in
    let digit : is_ascii_digit c ≡ true = in_range_digit c (omega arith) k in
    rw (minus, nan, infinity, zero, digit) refl

unsigned_whole : (c : ℕ) → 48 < c → c ≤ 57 → step_of expected.Unsigned c ≡ Some expected.Whole
unsigned_whole c h k =
    let infinity : (c == 105) ≡ false = ne_eqb c 105 (λ e. omega arith) in
    let zero : (c == 48) ≡ false = ne_eqb c 48 (λ e. omega arith) in
    let digit : is_ascii_digit c ≡ true = in_range_digit c (omega arith) k in
    rw (infinity, zero, digit) refl

point_digit : (c : ℕ) → is_ascii_digit c ≡ true → step_of expected.Point c ≡ Some expected.Places
point_digit c h = ap (λ (t : Bool). cond t (Some expected.Places) None) h

exponent_digit : (c : ℕ) → is_ascii_digit c ≡ true → step_of expected.Exponent c ≡ Some expected.ExponentDigits
exponent_digit c h =
    let e : (c == 43 || c == 45) ≡ false = grind (arith, nat_tests) in
    ap (λ (t : Bool). cond t (Some expected.SignedExponent) (cond (is_ascii_digit c) (Some expected.ExponentDigits) None)) e
    ∙ ap (λ (t : Bool). cond t (Some expected.ExponentDigits) None) h

signed_digit : (c : ℕ) → is_ascii_digit c ≡ true → step_of expected.SignedExponent c ≡ Some expected.ExponentDigits
signed_digit c h = ap (λ (t : Bool). cond t (Some expected.ExponentDigits) None) h

digit_high : (c : ℕ) → is_ascii_digit c ≡ true → c ≤ 57
digit_high c h = grind (arith, nat_tests)

digit_low : (c : ℕ) → is_ascii_digit c ≡ true → 48 ≤ c
digit_low c h = grind (arith, nat_tests)

-- digits behind a point, behind a mark and behind its sign
ends_places : (ds rest : List ℕ) → Each is_ascii_digit ds → 0 < length ds → EndsNumber expected.Places rest → EndsNumber expected.Point (ds ++ rest)
ends_places [] rest h s e = absurd (omega arith)
ends_places (c ∷ cs) rest h s e =
    ends_byte expected.Point expected.Places c (cs ++ rest) (point_digit c h.0) (ends_digits expected.Places cs rest places_stay h.1 e)

ends_last_places : (ds : List ℕ) → Each is_ascii_digit ds → 0 < length ds → EndsNumber expected.Point ds
ends_last_places [] h s = absurd (omega arith)
ends_last_places (c ∷ cs) h s = ends_byte expected.Point expected.Places c cs (point_digit c h.0) (ends_all expected.Places cs places_stay h.1 (λ place. refl))

ends_exponent : (ds : List ℕ) → Each is_ascii_digit ds → 0 < length ds → EndsNumber expected.Exponent ds
ends_exponent [] h s = absurd (omega arith)
ends_exponent (c ∷ cs) h s =
    ends_byte expected.Exponent expected.ExponentDigits c cs (exponent_digit c h.0) (ends_all expected.ExponentDigits cs exponent_stays h.1 (λ place. refl))

ends_signed : (ds : List ℕ) → Each is_ascii_digit ds → 0 < length ds → EndsNumber expected.SignedExponent ds
ends_signed [] h s = absurd (omega arith)
ends_signed (c ∷ cs) h s =
    ends_byte expected.SignedExponent expected.ExponentDigits c cs (signed_digit c h.0) (ends_all expected.ExponentDigits cs exponent_stays h.1 (λ place. refl))

-- ---- no exponent ----

-- digits and zeros
whole_reads : (d up : ℕ) (ds : List ℕ) (t : Bool) → AreDigitsOf d ds → 48 < get_or ds 0 0 → ReadsAs d up 0 (ds ++ replicate up 48) t
whole_reads d up [] t a h = absurd (omega arith)
whole_reads d up (c ∷ cs) t a h =
    let zeros : Each is_ascii_digit (replicate up 48) = each_replicate is_ascii_digit up 48 refl in
    let all : Each is_ascii_digit (cs ++ replicate up 48) = each_append is_ascii_digit cs (replicate up 48) a.each.1 zeros in
    let high : c ≤ 57 = digit_high c a.each.0 in
    let marks : Each no_mark (c ∷ (cs ++ replicate up 48)) = each_as is_ascii_digit no_mark (c ∷ (cs ++ replicate up 48)) digit_no_mark (a.each.0, all) in
    let points : Each no_point (c ∷ (cs ++ replicate up 48)) = each_as is_ascii_digit no_point (c ∷ (cs ++ replicate up 48)) digit_no_point (a.each.0, all) in
    let rest : EndsNumber expected.Whole (cs ++ replicate up 48) = ends_all expected.Whole (cs ++ replicate up 48) whole_stays all (λ place. refl) in
    let value : digits_among ((c ∷ cs) ++ replicate up 48) ≡ d * 10 ^ up =
    digits_append 0 (c ∷ cs) (replicate up 48) ∙ zeros_behind (digits_among (c ∷ cs)) up ∙ ap (λ z. z * 10 ^ up) a.value in
    record {
      number = sign_kind t (c ∷ (cs ++ replicate up 48)) (ends_byte expected.First expected.Whole c (cs ++ replicate up 48) (first_whole c h high) rest)
          (ends_byte expected.Unsigned expected.Whole c (cs ++ replicate up 48) (unsigned_whole c h high) rest);
      sign = sign_is t (c ∷ (cs ++ replicate up 48)) (digit_no_minus c a.each.0);
      same = same_by d up 0 _ (d * 10 ^ up) _ (pos 0) (plain_digits t (c ∷ (cs ++ replicate up 48)) marks ∙ value)
          (plain_exponent t (c ∷ (cs ++ replicate up 48)) 0 marks (no_places t (c ∷ (cs ++ replicate up 48)) points)) (let e : d * 10 ^ up * 1 * 1 ≡ d * 10 ^ up * 1 = omega arith in e);
    }

-- digits with a point among them
pointed_reads : (d : ℕ) (xs ys : List ℕ) (t : Bool) → AreDigitsOf d (xs ++ ys) → Each is_ascii_digit xs → Each is_ascii_digit ys → 0 < length xs → 0 < length ys → 48 < get_or xs 0 0
    → ReadsAs d 0 (length ys) (xs ++ (46 ∷ ys)) t
pointed_reads d [] ys t a x y some some' h = absurd (omega arith)
pointed_reads d (c ∷ xs) ys t a x y some some' h =
    let high : c ≤ 57 = digit_high c x.0 in
    let marks : Each no_mark ((c ∷ xs) ++ (46 ∷ ys)) =
    each_append no_mark (c ∷ xs) (46 ∷ ys) (each_as is_ascii_digit no_mark (c ∷ xs) digit_no_mark x) (refl, each_as is_ascii_digit no_mark ys digit_no_mark y) in
    let points : Each no_point (c ∷ xs) = each_as is_ascii_digit no_point (c ∷ xs) digit_no_point x in
    let last : EndsNumber expected.Point ys = ends_last_places ys y some' in
    let point : EndsNumber expected.Whole (46 ∷ ys) = ends_byte expected.Whole expected.Point 46 ys refl last in
    let rest : EndsNumber expected.Whole (xs ++ (46 ∷ ys)) = ends_digits expected.Whole xs (46 ∷ ys) whole_stays x.1 point in
    let value : digits_among ((c ∷ xs) ++ (46 ∷ ys)) ≡ d = digits_apart 0 (c ∷ xs) 46 ys refl ∙ a.value in
    record {
      number = sign_kind t (c ∷ (xs ++ (46 ∷ ys))) (ends_byte expected.First expected.Whole c (xs ++ (46 ∷ ys)) (first_whole c h high) rest)
          (ends_byte expected.Unsigned expected.Whole c (xs ++ (46 ∷ ys)) (unsigned_whole c h high) rest);
      sign = sign_is t (c ∷ (xs ++ (46 ∷ ys))) (digit_no_minus c x.0);
      same = same_by d 0 (length ys) _ d _ (exponent_by false 0 (length ys)) (plain_digits t ((c ∷ xs) ++ (46 ∷ ys)) marks ∙ value)
          (plain_exponent t ((c ∷ xs) ++ (46 ∷ ys)) (length ys) marks (places_at t (c ∷ xs) ys points))
          (same_parts d 0 (length ys) d (exponent_by false 0 (length ys)) refl
          (plus_up false 0 (length ys) refl ∙ (let e : 0 - length ys ≡ 0 = omega arith in e)) (plus_down false 0 (length ys) refl ∙ (let e : length ys - 0 ≡ length ys = omega arith in e)));
    }

-- digits with a point and zeros before them
fraction_reads : (d m : ℕ) (ds : List ℕ) (t : Bool) → AreDigitsOf d ds → ReadsAs d 0 (m + length ds) (48 ∷ (46 ∷ (replicate m 48 ++ ds))) t
fraction_reads d m ds t a =
    let zeros : Each is_ascii_digit (replicate m 48) = each_replicate is_ascii_digit m 48 refl in
    let all : Each is_ascii_digit (replicate m 48 ++ ds) = each_append is_ascii_digit (replicate m 48) ds zeros a.each in
    let long : length (replicate m 48 ++ ds) ≡ m + length ds = length-append (replicate m 48) ds ∙ ap (λ z. z + length ds) (length-replicate m 48) in
    let marks : Each no_mark (48 ∷ (46 ∷ (replicate m 48 ++ ds))) = (refl, (refl, each_as is_ascii_digit no_mark (replicate m 48 ++ ds) digit_no_mark all)) in
    let points : Each no_point (48 ∷ []) = (refl, tt) in
    let some : 0 < length ds = a.some in
    let last : EndsNumber expected.Point (replicate m 48 ++ ds) = ends_last_places (replicate m 48 ++ ds) all (omega arith) in
    let point : EndsNumber expected.AfterZero (46 ∷ (replicate m 48 ++ ds)) = ends_byte expected.AfterZero expected.Point 46 (replicate m 48 ++ ds) refl last in
    let value : digits_among (48 ∷ (46 ∷ (replicate m 48 ++ ds))) ≡ d = zeros_before m ds ∙ a.value in
    record {
      number = sign_kind t (48 ∷ (46 ∷ (replicate m 48 ++ ds)))
          (ends_byte expected.First expected.AfterZero 48 (46 ∷ (replicate m 48 ++ ds)) refl point)
          (ends_byte expected.Unsigned expected.AfterZero 48 (46 ∷ (replicate m 48 ++ ds)) refl point);
      sign = sign_is t (48 ∷ (46 ∷ (replicate m 48 ++ ds))) refl;
      same = same_by d 0 (m + length ds) _ d _ (exponent_by false 0 (m + length ds)) (plain_digits t (48 ∷ (46 ∷ (replicate m 48 ++ ds))) marks ∙ value)
          (plain_exponent t (48 ∷ (46 ∷ (replicate m 48 ++ ds))) (m + length ds) marks (places_at t (48 ∷ []) (replicate m 48 ++ ds) points ∙ long))
          (same_parts d 0 (m + length ds) d (exponent_by false 0 (m + length ds)) refl
          (plus_up false 0 (m + length ds) refl ∙ (let e : 0 - (m + length ds) ≡ 0 = omega arith in e)) (plus_down false 0 (m + length ds) refl ∙ (let e : m + length ds - 0 ≡ m + length ds = omega arith in e)));
    }

first_of_front : (i : ℕ) (ds : List ℕ) → 0 < i → 48 < get_or ds 0 0 → 48 < get_or (take i ds) 0 0
first_of_front zero ds h k = absurd (omega arith)
first_of_front (suc i) [] h k = k
first_of_front (suc i) (c ∷ cs) h k = k

among_reads : (d down : ℕ) (ds : List ℕ) (t : Bool) → AreDigitsOf d ds → 48 < get_or ds 0 0 → 0 < down → down < length ds
    → ReadsAs d 0 down (take (length ds - down) ds ++ codes "." ++ drop (length ds - down) ds) t
among_reads d down ds t a h some l =
    let parts : take (length ds - down) ds ++ drop (length ds - down) ds ≡ ds = take-append-drop (length ds - down) ds in
    let front : length (take (length ds - down) ds) ≡ length ds - down = length-take-le (length ds - down) ds (omega arith) in
    let back : length (drop (length ds - down) ds) ≡ down = length-drop (length ds - down) ds ∙ (let e : length ds - (length ds - down) ≡ down = omega arith in e) in
    subst (λ z. ReadsAs d 0 down z t) (sym (append_assoc (take (length ds - down) ds) (46 ∷ []) (drop (length ds - down) ds)))
    (subst (λ z. ReadsAs d 0 z (take (length ds - down) ds ++ (46 ∷ drop (length ds - down) ds)) t) back
    (pointed_reads d (take (length ds - down) ds) (drop (length ds - down) ds) t (subst (AreDigitsOf d) (sym parts) a)
    (each_take is_ascii_digit (length ds - down) ds a.each) (each_drop is_ascii_digit (length ds - down) ds a.each) (omega arith) (omega arith)
    (first_of_front (length ds - down) ds (omega arith) h)))

before_reads : (d down : ℕ) (ds : List ℕ) (t : Bool) → AreDigitsOf d ds → length ds ≤ down → ReadsAs d 0 down (codes "0." ++ replicate (down - length ds) 48 ++ ds) t
before_reads d down ds t a l = subst (λ z. ReadsAs d 0 z (48 ∷ (46 ∷ (replicate (down - length ds) 48 ++ ds))) t)
    (let e : down - length ds + length ds ≡ down = omega arith in e) (fraction_reads d (down - length ds) ds t a)

plain_reads : (d up down : ℕ) (ds : List ℕ) (t : Bool) → AreDigitsOf d ds → 48 < get_or ds 0 0 → (0 < down → up ≡ 0) → ReadsAs d up down (plain_text ds up down) t
plain_reads d up down ds t a h one =
    cond_both (down == 0) (ds ++ replicate up 48)
    (cond (ltb down (length ds)) (take (length ds - down) ds ++ codes "." ++ drop (length ds - down) ds) (codes "0." ++ replicate (down - length ds) 48 ++ ds))
    (λ z. ReadsAs d up down z t)
    (λ e. subst (λ z. ReadsAs d up z (ds ++ replicate up 48) t) (sym (eqb-true down 0 e)) (whole_reads d up ds t a h))
    (λ e.
    let some : 0 < down = ⊎_elim (λ (l : 0 < down). l) (λ (l : down ≤ 0). absurd (eqb-false down 0 e (omega arith))) (cases_lt 0 down) in
    let none : up ≡ 0 = one some in
    subst (λ z. ReadsAs d z down (cond (ltb down (length ds)) (take (length ds - down) ds ++ codes "." ++ drop (length ds - down) ds) (codes "0." ++ replicate (down - length ds) 48 ++ ds)) t)
    (sym none)
    (cond_both (ltb down (length ds)) (take (length ds - down) ds ++ codes "." ++ drop (length ds - down) ds) (codes "0." ++ replicate (down - length ds) 48 ++ ds)
    (λ z. ReadsAs d 0 down z t)
    (λ f. among_reads d down ds t a h some (ltb-true down (length ds) f))
    (λ f. before_reads d down ds t a (ltb-false down (length ds) f))))

-- ---- an exponent ----

zero_front : (n : ℕ) (ds : List ℕ) → AreDigitsOf n ds → AreDigitsOf n (48 ∷ ds)
zero_front n ds a = record { each = (refl, a.each); some = omega arith; value = a.value }

two_digits_of : (n : ℕ) → n < 2 ^ 64 → AreDigitsOf n (two_digits_text n)
two_digits_of n h = cond_both (ltb n 10) (codes "0" ++ decimal n) (decimal n) (AreDigitsOf n) (λ e. zero_front n (decimal n) (decimal_digits_of n h)) (λ e. decimal_digits_of n h)

no_minus : (n : ℕ) (ds : List ℕ) → AreDigitsOf n ds → begins_with_minus ds ≡ false
no_minus n [] a = refl
no_minus n (c ∷ cs) a = digit_no_minus c a.each.0

-- what stands before a mark
record IsFront (d p : ℕ) (a b : List ℕ) (t : Bool) : Type 0 where
  number : kind_of (sign_text t ++ (a ++ (101 ∷ b))) ≡ Ok kind.Number
  sign : begins_with_minus (sign_text t ++ (a ++ (101 ∷ b))) ≡ t
  marks : Each no_mark a
  value : digits_among a ≡ d
  places : length (after_first is_point (sign_text t ++ a)) ≡ p

front_one : (d c : ℕ) (b : List ℕ) (t : Bool) → AreDigitsOf d (c ∷ []) → 48 < c → EndsNumber expected.Exponent b → IsFront d 0 (c ∷ []) b t
front_one d c b t a h e =
    let high : c ≤ 57 = digit_high c a.each.0 in
    let rest : EndsNumber expected.Whole (101 ∷ b) = ends_byte expected.Whole expected.Exponent 101 b refl e in
    record {
      number = sign_kind t (c ∷ (101 ∷ b)) (ends_byte expected.First expected.Whole c (101 ∷ b) (first_whole c h high) rest) (ends_byte expected.Unsigned expected.Whole c (101 ∷ b) (unsigned_whole c h high) rest);
      sign = sign_is t (c ∷ (101 ∷ b)) (digit_no_minus c a.each.0);
      marks = (digit_no_mark c a.each.0, tt);
      value = a.value;
      places = no_places t (c ∷ []) (digit_no_point c a.each.0, tt);
    }

front_more : (d c y : ℕ) (ys b : List ℕ) (t : Bool) → AreDigitsOf d (c ∷ (y ∷ ys)) → 48 < c → EndsNumber expected.Exponent b
    → IsFront d (length (y ∷ ys)) (c ∷ (46 ∷ (y ∷ ys))) b t
front_more d c y ys b t a h e =
    let high : c ≤ 57 = digit_high c a.each.0 in
    let mark : EndsNumber expected.Places (101 ∷ b) = ends_byte expected.Places expected.Exponent 101 b refl e in
    let digits : EndsNumber expected.Point ((y ∷ ys) ++ (101 ∷ b)) = ends_places (y ∷ ys) (101 ∷ b) a.each.1 (omega arith) mark in
    let rest : EndsNumber expected.Whole (46 ∷ ((y ∷ ys) ++ (101 ∷ b))) = ends_byte expected.Whole expected.Point 46 ((y ∷ ys) ++ (101 ∷ b)) refl digits in
    let others : Each no_mark (y ∷ ys) = each_as is_ascii_digit no_mark (y ∷ ys) digit_no_mark a.each.1 in
    record {
      number = sign_kind t (c ∷ (46 ∷ ((y ∷ ys) ++ (101 ∷ b))))
          (ends_byte expected.First expected.Whole c (46 ∷ ((y ∷ ys) ++ (101 ∷ b))) (first_whole c h high) rest)
          (ends_byte expected.Unsigned expected.Whole c (46 ∷ ((y ∷ ys) ++ (101 ∷ b))) (unsigned_whole c h high) rest);
      sign = sign_is t (c ∷ (46 ∷ ((y ∷ ys) ++ (101 ∷ b)))) (digit_no_minus c a.each.0);
      marks = (digit_no_mark c a.each.0, (refl, others));
      value = digits_apart 0 (c ∷ []) 46 (y ∷ ys) refl ∙ a.value;
      places = places_at t (c ∷ []) (y ∷ ys) (digit_no_point c a.each.0, tt);
    }

front_of : (d : ℕ) (ds b : List ℕ) (t : Bool) → AreDigitsOf d ds → 48 < get_or ds 0 0 → EndsNumber expected.Exponent b
    → IsFront d (length ds - 1) (take 1 ds ++ others_text ds) b t
front_of d [] b t a h e = absurd (omega arith)
front_of d (c ∷ []) b t a h e = front_one d c b t a h e
front_of d (c ∷ (y ∷ ys)) b t a h e =
    let long : ltb 1 (length (c ∷ (y ∷ ys))) ≡ true = lt-ltb 1 (length (c ∷ (y ∷ ys))) (omega arith) in
    let others : c ∷ (46 ∷ (y ∷ ys)) ≡ take 1 (c ∷ (y ∷ ys)) ++ others_text (c ∷ (y ∷ ys)) = ap (λ (x : Bool). c ∷ cond x (46 ∷ (y ∷ ys)) []) (sym long) in
    subst (λ z. IsFront d (length (c ∷ (y ∷ ys)) - 1) z b t) others
    (subst (λ z. IsFront d z (c ∷ (46 ∷ (y ∷ ys))) b t) (let f : length (y ∷ ys) ≡ length (c ∷ (y ∷ ys)) - 1 = omega arith in f) (front_more d c y ys b t a h e))

-- a front, a mark and an exponent
negative_reads : (d up down e p : ℕ) (a two : List ℕ) (t : Bool) → AreDigitsOf e two → IsFront d p a (45 ∷ two) t → up ≡ 0 → p + e ≡ down → ReadsAs d up down (a ++ (101 ∷ (45 ∷ two))) t
negative_reads d up down e p a two t x f none all = record {
  number = f.number;
  sign = f.sign;
  same = same_by d up down _ d _ (exponent_by true e p) (marked_digits t a (45 ∷ two) f.marks ∙ f.value)
      (marked_exponent t a (45 ∷ two) p f.marks f.places ∙ ap (λ z. exponent_by true z p) x.value)
      (same_parts d up down d (exponent_by true e p) refl (minus_up true e p refl ∙ sym none) (minus_down true e p refl ∙ all));
}

positive_reads : (d up down e p : ℕ) (a two : List ℕ) (t : Bool) → AreDigitsOf e two → IsFront d p a two t → e - p ≡ up → p - e ≡ down → ReadsAs d up down (a ++ (101 ∷ two)) t
positive_reads d up down e p a two t x f one all = record {
  number = f.number;
  sign = f.sign;
  same = same_by d up down _ d _ (exponent_by false e p) (marked_digits t a two f.marks ∙ f.value)
      (marked_exponent t a two p f.marks f.places ∙ ap (λ z. exponent_by z (digits_among two) p) (no_minus e two x) ∙ ap (λ z. exponent_by false z p) x.value)
      (same_parts d up down d (exponent_by false e p) refl (plus_up false e p refl ∙ one) (plus_down false e p refl ∙ all));
}

scientific_reads : (d up down : ℕ) (ds : List ℕ) (t : Bool) → AreDigitsOf d ds → 48 < get_or ds 0 0 → (0 < down → up ≡ 0) → down < 2 ^ 32 → up < 2 ^ 32 → length ds < 2 ^ 32
    → ReadsAs d up down (scientific_text ds up down) t
scientific_reads d up down ds t a h one small small' short =
    let some : 0 < length ds = a.some in
    cond_both (ltb (length ds - 1 + up) down) (codes "e-" ++ two_digits_text (down - (length ds - 1 + up))) (codes "e" ++ two_digits_text (length ds - 1 + up - down))
    (λ z. ReadsAs d up down (take 1 ds ++ others_text ds ++ z) t)
    (λ e.
    let l : length ds - 1 + up < down = ltb-true (length ds - 1 + up) down e in
    let none : up ≡ 0 = one (omega arith) in
    let x : AreDigitsOf (down - (length ds - 1 + up)) (two_digits_text (down - (length ds - 1 + up))) = two_digits_of (down - (length ds - 1 + up)) (omega arith) in
    negative_reads d up down (down - (length ds - 1 + up)) (length ds - 1) (take 1 ds ++ others_text ds) (two_digits_text (down - (length ds - 1 + up))) t x
    (front_of d ds (45 ∷ two_digits_text (down - (length ds - 1 + up))) t a h
    (ends_byte expected.Exponent expected.SignedExponent 45 (two_digits_text (down - (length ds - 1 + up))) refl (ends_signed (two_digits_text (down - (length ds - 1 + up))) x.each x.some)))
    none (omega arith))
    (λ e.
    let l : down ≤ length ds - 1 + up = ltb-false (length ds - 1 + up) down e in
    let x : AreDigitsOf (length ds - 1 + up - down) (two_digits_text (length ds - 1 + up - down)) = two_digits_of (length ds - 1 + up - down) (omega arith) in
    let either : (down ≡ 0) ⊎ (up ≡ 0) = ⊎_elim (λ (m : 0 < down). inr (one m)) (λ (m : down ≤ 0). inl (let g : down ≡ 0 = omega arith in g)) (cases_lt 0 down) in
    positive_reads d up down (length ds - 1 + up - down) (length ds - 1) (take 1 ds ++ others_text ds) (two_digits_text (length ds - 1 + up - down)) t x
    (front_of d ds (two_digits_text (length ds - 1 + up - down)) t a h (ends_exponent (two_digits_text (length ds - 1 + up - down)) x.each x.some))
    (⊎_elim (λ (g : down ≡ 0). let f : length ds - 1 + up - down - (length ds - 1) ≡ up = omega arith in f) (λ (g : up ≡ 0). let f : length ds - 1 + up - down - (length ds - 1) ≡ up = omega arith in f) either)
    (⊎_elim (λ (g : down ≡ 0). let f : length ds - 1 - (length ds - 1 + up - down) ≡ down = omega arith in f) (λ (g : up ≡ 0). let f : length ds - 1 - (length ds - 1 + up - down) ≡ down = omega arith in f) either))

-- ---- all decimals ----

zero_word : (t : Bool) → ReadsAs 0 0 0 (48 ∷ []) t
zero_word true = record { number = refl; sign = refl; same = refl }
zero_word false = record { number = refl; sign = refl; same = refl }

zero_reads : (w : Width) (t : Bool) → ReadsAs 0 0 0 (layout w 0 (pos 0)) t
unfolding digits
zero_reads Float32 t = zero_word t
zero_reads Float64 t = zero_word t

pub layout_reads : (w : Width) (d : ℕ) (k : ℤ) (t : Bool) → d < 2 ^ 64 → tens k < 1152 → tenths k < 1152 → (d ≡ 0 → k ≡ pos 0)
    → ReadsAs d (tens k) (tenths k) (layout w d k) t
layout_reads w zero k t small up down z = subst (λ x. ReadsAs 0 (tens x) (tenths x) (layout w 0 x) t) (sym (z refl)) (zero_reads w t)
layout_reads w (suc d) k t small up down z =
    let a : AreDigitsOf (suc d) (decimal (suc d)) = decimal_digits_of (suc d) small in
    let first : 48 < get_or (decimal (suc d)) 0 0 = first_decimal (suc d) (omega arith) small in
    let short : length (decimal (suc d)) ≤ 20 = length-decimal-le 20 (suc d) (omega arith) (omega arith) small in
    cond_both (is_plain w (length (decimal (suc d))) (tens k) (tenths k)) (plain_text (decimal (suc d)) (tens k) (tenths k)) (scientific_text (decimal (suc d)) (tens k) (tenths k))
    (λ x. ReadsAs (suc d) (tens k) (tenths k) x t)
    (λ e. plain_reads (suc d) (tens k) (tenths k) (decimal (suc d)) t a first (only_tenths k))
    (λ e. scientific_reads (suc d) (tens k) (tenths k) (decimal (suc d)) t a first (only_tenths k) (omega arith) (omega arith) (omega arith))
