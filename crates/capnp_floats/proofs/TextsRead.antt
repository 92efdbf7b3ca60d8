-- The text of a float is read as the bits that it was written of.
use Rattle.std.proofs.Common.{ℕ, ◌≡◌, ◌+◌, ◌-◌, ◌*◌, ◌/◌, ◌%◌, ◌^◌, ◌<◌, ◌≤◌, ◌⊎◌, ⊎_elim, inl, inr, Bool, true, false, List, ◌++◌, Result, Ok, Err, codes, refl, sym, ap, ◌∙◌, subst, arith, lit<}
use Rattle.std.proofs.Math.Nat.{lt_of_mul-lt-mul_right, mul-lt-mul_of_pos_right}
use Rattle.std.proofs.lemmas.Bool.{cases_lt, eq-eqb, ltb-false, ne_eqb, cases_Bool, both_ways}
use lib.IntN.{ℤ, pos}
use Rattle.capnp_floats.specs.declared.grammar.Kind.TheVariants as kind
use Rattle.capnp_floats.specs.declared.width.Width.{Width}
use Rattle.capnp_floats.specs.declared.width.Width.TheVariants.{Float32, Float64}
use Rattle.capnp_floats.specs.declared.word.Refusal.{Refusal}
use Rattle.capnp_floats.specs.Shortest.{Lies, apart_by, in_units, tens, tenths}
use Rattle.capnp_floats.specs.Floats.{IsDecimalOf, exponent_bits, fraction, fraction_bits, interval_of, is_finite, significand}
use Rattle.capnp_floats.specs.Layout.{is_negative, layout, sign_text}
use Rattle.capnp_floats.specs.Nearest.{IsNearest, IsPastRange, decimal_numbers, far_from, infinity_bits, least_numbers, least_places, twice_last_middle}
use Rattle.capnp_floats.specs.Words.{IsFloatOf, ReadsAsKind, ReadsDecimal, begins_with_minus, kind_of, with_sign, word_digits, word_exponent}
use Rattle.capnp_floats.specs.Laws.{IsOfWidth, NansAreOne, TextsAreRead, without_sign}
use Rattle.capnp_floats.proofs.Layouts.{IsSameDecimal, ReadsAs, layout_reads}
use Rattle.capnp_floats.proofs.Nearing.{power_positive}
use Rattle.capnp_floats.proofs.ReadBack.{decimals_read, one_nearest}
use Rattle.capnp_floats.proofs.Reaching.{apart_by_times}
use Rattle.capnp_floats.proofs.Rounding.{cancel_equal}
use Rattle.capnp_floats.proofs.Sizes.{IsSmall, shortest_is_small}

-- ---- decimals of one value have one nearest number ----

-- the same number of least numbers, over the tenths of both
numbers_same : (w : Width) (d d' : ℕ) (k k' : ℤ) → IsSameDecimal d (tens k) (tenths k) d' k' → decimal_numbers w d k * 10 ^ tenths k' ≡ decimal_numbers w d' k' * 10 ^ tenths k
numbers_same w d d' k k' h =
    turned (d * 10 ^ tens k) (2 ^ least_places w) (10 ^ tenths k') ∙ ap (λ z. z * 2 ^ least_places w) (sym h) ∙ sym (turned (d' * 10 ^ tens k') (2 ^ least_places w) (10 ^ tenths k))
  where
    turned : (a b c : ℕ) → a * b * c ≡ a * c * b
    turned a b c = omega arith

far_same : (w : Width) (d d' : ℕ) (k k' : ℤ) (b : ℕ) → IsSameDecimal d (tens k) (tenths k) d' k' → far_from w d k b * 10 ^ tenths k' ≡ far_from w d' k' b * 10 ^ tenths k
far_same w d d' k k' b h =
    sym (apart_by_times (10 ^ tenths k') (least_numbers w b * 10 ^ tenths k) (decimal_numbers w d k))
    ∙ ap (λ z. apart_by (least_numbers w b * 10 ^ tenths k * 10 ^ tenths k') z) (numbers_same w d d' k k' h)
    ∙ ap (λ z. apart_by z (decimal_numbers w d' k' * 10 ^ tenths k)) (turned (least_numbers w b) (10 ^ tenths k) (10 ^ tenths k'))
    ∙ apart_by_times (10 ^ tenths k) (least_numbers w b * 10 ^ tenths k') (decimal_numbers w d' k')
  where
    turned : (a b c : ℕ) → a * b * c ≡ a * c * b
    turned a b c = omega arith

less_same : (a b c d x y : ℕ) → 0 < x → a * x ≡ c * y → b * x ≡ d * y → a < b → c < d
less_same a b c d x y p e f l =
    let m : a * x < b * x = mul-lt-mul_of_pos_right {m = a} {n = b} {k = x} l p in
    lt_of_mul-lt-mul_right y {m = c} {n = d} (omega arith)

equal_same : (a b c d x y : ℕ) → 0 < y → a * x ≡ c * y → b * x ≡ d * y → a ≡ b → c ≡ d
equal_same a b c d x y p e f l = cancel_equal y c d p (sym e ∙ ap (λ z. z * x) l ∙ f)

pub nearest_same : (w : Width) (d d' : ℕ) (k k' : ℤ) (b : ℕ) → IsSameDecimal d (tens k) (tenths k) d' k' → IsNearest w d k b → IsNearest w d' k' b
nearest_same w d d' k k' b h x =
    let p : 0 < 10 ^ tenths k' = power_positive 10 (tenths k') (lit< tt) in
    let q : 0 < 10 ^ tenths k = power_positive 10 (tenths k) (lit< tt) in
    let e : decimal_numbers w d k * 10 ^ tenths k' ≡ decimal_numbers w d' k' * 10 ^ tenths k = numbers_same w d d' k k' h in
    record {
      finite = x.finite;
      in_range = less_same (2 * decimal_numbers w d k) (twice_last_middle w * 10 ^ tenths k) (2 * decimal_numbers w d' k') (twice_last_middle w * 10 ^ tenths k') (10 ^ tenths k') (10 ^ tenths k) p
          (omega arith) (turned (twice_last_middle w) (10 ^ tenths k) (10 ^ tenths k')) x.in_range;
      nearest = λ c l o. ⊎_elim
          (λ y. inl (less_same (far_from w d k b) (far_from w d k c) (far_from w d' k' b) (far_from w d' k' c) (10 ^ tenths k') (10 ^ tenths k) p
          (far_same w d d' k k' b h) (far_same w d d' k k' c h) y))
          (λ y. inr (
            equal_same (far_from w d k b) (far_from w d k c) (far_from w d' k' b) (far_from w d' k' c) (10 ^ tenths k') (10 ^ tenths k) q
                (far_same w d d' k k' b h) (far_same w d d' k k' c h) y.0,
            y.1,
          ))
          (x.nearest c l o);
    }
  where
    turned : (a b c : ℕ) → a * b * c ≡ a * c * b
    turned a b c = omega arith

not_past : (w : Width) (d : ℕ) (k : ℤ) (b : ℕ) → IsNearest w d k b → IsPastRange w d k → ⊥
not_past w d k b x y = let l : 2 * decimal_numbers w d k < twice_last_middle w * 10 ^ tenths k = x.in_range in absurd (omega arith)

-- ---- bits by their sign and the others ----

bits_by : (w : Width) (t : Bool) (n bits : ℕ) → ((t ≡ true) × (n + 2 ^ (fraction_bits w + exponent_bits w) ≡ bits)) ⊎ ((t ≡ false) × (n ≡ bits)) → with_sign w t n ≡ bits
bits_by w t n bits (inl h) = ap (λ z. with_sign w z n) h.0 ∙ h.1
bits_by w t n bits (inr h) = ap (λ z. with_sign w z n) h.0 ∙ h.1

pub bits_again : (w : Width) (bits : ℕ) → IsOfWidth w bits → with_sign w (is_negative w bits) (without_sign w bits) ≡ bits
bits_again Float32 bits h = bits_by Float32 (is_negative Float32 bits) (bits % 2 ^ 31) bits (⊎_elim
    (λ (l : bits / 2 ^ 31 % 2 < 1). inr (ne_eqb (bits / 2 ^ 31 % 2) 1 (λ e. omega arith), (let e : bits % 2 ^ 31 ≡ bits = omega arith in e)))
    (λ (l : 1 ≤ bits / 2 ^ 31 % 2). inl (eq-eqb (bits / 2 ^ 31 % 2) 1 (omega arith), (let e : bits % 2 ^ 31 + 2 ^ 31 ≡ bits = omega arith in e)))
    (cases_lt (bits / 2 ^ 31 % 2) 1))
bits_again Float64 bits h = bits_by Float64 (is_negative Float64 bits) (bits % 2 ^ 63) bits (⊎_elim
    (λ (l : bits / 2 ^ 63 % 2 < 1). inr (ne_eqb (bits / 2 ^ 63 % 2) 1 (λ e. omega arith), (let e : bits % 2 ^ 63 ≡ bits = omega arith in e)))
    (λ (l : 1 ≤ bits / 2 ^ 63 % 2). inl (eq-eqb (bits / 2 ^ 63 % 2) 1 (omega arith), (let e : bits % 2 ^ 63 + 2 ^ 63 ≡ bits = omega arith in e)))
    (cases_lt (bits / 2 ^ 63 % 2) 1))

infinity_again : (w : Width) (bits : ℕ) → is_finite w bits ≡ false → fraction w bits ≡ 0 → without_sign w bits ≡ infinity_bits w
infinity_again Float32 bits h z = let l : 2 ^ 8 - 1 ≤ bits / 2 ^ 23 % 2 ^ 8 = ltb-false (bits / 2 ^ 23 % 2 ^ 8) (2 ^ 8 - 1) h in omega arith
infinity_again Float64 bits h z = let l : 2 ^ 11 - 1 ≤ bits / 2 ^ 52 % 2 ^ 11 = ltb-false (bits / 2 ^ 52 % 2 ^ 11) (2 ^ 11 - 1) h in omega arith

-- ---- texts ----

small_of : (w : Width) (bits d : ℕ) (k : ℤ) → IsDecimalOf w bits d k → IsSmall d k
small_of w bits d k h = ⊎_elim
    (λ (l : 0 < significand w bits). shortest_is_small w bits d k (h.shortest l))
    (λ (l : significand w bits ≤ 0).
    let z = h.zero_is (let e : significand w bits ≡ 0 = omega arith in e) in
    let f : d ≡ 0 = z.0 in
    record {
      digits = omega arith;
      tens = let e : tens k ≡ 0 = ap tens z.1 in omega arith;
      tenths = let e : tenths k ≡ 0 = ap tenths z.1 in omega arith;
    })
    (cases_lt 0 (significand w bits))

zero_power : (w : Width) (bits d : ℕ) (k : ℤ) → IsDecimalOf w bits d k → d ≡ 0 → k ≡ pos 0
zero_power w bits d k h z = ⊎_elim
    (λ (l : 0 < significand w bits).
    let r = h.shortest l in
    absurd (r.coarsest 0 (subst (Lies (in_units (tens k) (tenths k) (interval_of w bits))) (let e : d ≡ 10 * 0 = omega arith in e) r.lies)))
    (λ (l : significand w bits ≤ 0). (h.zero_is (let e : significand w bits ≡ 0 = omega arith in e)).1)
    (cases_lt 0 (significand w bits))

answer_is : (w : Width) (bits d' : ℕ) (k' : ℤ) (t : Bool) (r : Result ℕ Refusal) → IsOfWidth w bits → t ≡ is_negative w bits
    → IsNearest w d' k' (without_sign w bits) → ReadsDecimal w t d' k' r → r ≡ Ok bits
answer_is w bits d' k' t (Ok x) wide sign near read =
    let e : read.0 ≡ without_sign w bits = one_nearest w d' k' read.0 (without_sign w bits) read.1 near in
    ap Ok (read.2 ∙ ap (λ z. with_sign w z read.0) sign ∙ ap (λ z. with_sign w (is_negative w bits) z) e ∙ bits_again w bits wide)
answer_is w bits d' k' t (Err x) wide sign near read = absurd (not_past w d' k' (without_sign w bits) near read.1)

-- what is read of a number's word with a decimal of the same value
number_again : (w : Width) (bits d : ℕ) (k : ℤ) (text : List ℕ) (r : Result ℕ Refusal) → IsOfWidth w bits → is_finite w bits ≡ true → IsDecimalOf w bits d k
    → ReadsAs d (tens k) (tenths k) (layout w d k) (is_negative w bits) → text ≡ sign_text (is_negative w bits) ++ layout w d k → IsFloatOf w text r → r ≡ Ok bits
number_again w bits d k text r wide finite decimal reads is float =
    let number : kind_of text ≡ Ok kind.Number = ap kind_of is ∙ reads.number in
    let sign : begins_with_minus text ≡ is_negative w bits = ap begins_with_minus is ∙ reads.sign in
    let same : IsSameDecimal d (tens k) (tenths k) (word_digits text) (word_exponent text) =
    subst (λ z. IsSameDecimal d (tens k) (tenths k) (word_digits z) (word_exponent z)) (sym is) reads.same in
    let near : IsNearest w (word_digits text) (word_exponent text) (without_sign w bits) =
    nearest_same w d (word_digits text) k (word_exponent text) (without_sign w bits) same (decimals_read w bits d k finite decimal) in
    answer_is w bits (word_digits text) (word_exponent text) (begins_with_minus text) r wide sign near (subst (λ z. ReadsAsKind w text z r) number float)

infinity_kind : (t : Bool) → kind_of (sign_text t ++ codes "inf") ≡ Ok kind.Infinity
infinity_kind true = refl
infinity_kind false = refl

infinity_sign : (t : Bool) → begins_with_minus (sign_text t ++ codes "inf") ≡ t
infinity_sign true = refl
infinity_sign false = refl

pub texts_read : TextsAreRead
texts_read w bits text r wide number said float = ⊎_elim
    (λ (finite : is_finite w bits ≡ true).
    let parts = said.finite finite in
    let small : IsSmall parts.0 parts.1 = small_of w bits parts.0 parts.1 parts.2 in
    number_again w bits parts.0 parts.1 text r wide finite parts.2
    (layout_reads w parts.0 parts.1 (is_negative w bits) small.digits small.tens small.tenths (zero_power w bits parts.0 parts.1 parts.2)) parts.3 float)
    (λ (none : is_finite w bits ≡ false).
    ⊎_elim
    (λ (finite : is_finite w bits ≡ true). absurd (both_ways (is_finite w bits) none finite))
    (λ (zero : fraction w bits ≡ 0).
    let is : text ≡ sign_text (is_negative w bits) ++ codes "inf" = said.infinite none zero in
    let read : r ≡ Ok (with_sign w (begins_with_minus text) (infinity_bits w)) = subst (λ z. ReadsAsKind w text z r) (ap kind_of is ∙ infinity_kind (is_negative w bits)) float in
    read ∙ ap (λ z. Ok (with_sign w z (infinity_bits w))) (ap begins_with_minus is ∙ infinity_sign (is_negative w bits))
    ∙ ap (λ z. Ok (with_sign w (is_negative w bits) z)) (sym (infinity_again w bits none zero))
    ∙ ap Ok (bits_again w bits wide))
    number)
    (cases_Bool (is_finite w bits))

pub nans_read : NansAreOne
nans_read w bits text r none some said float = subst (λ z. ReadsAsKind w text z r) (ap kind_of (said.none none some)) float
