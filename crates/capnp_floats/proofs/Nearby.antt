-- Of all numbers in range the one that ranks lowest is the nearest, if there is a nearest.
use Rattle.std.proofs.Common.{ℕ, zero, suc, ◌+◌, ◌≡◌, ◌≢◌, ◌⊎◌, inl, inr, ⊎_elim, ◌*◌, ◌^◌, ◌%◌, ◌<◌, ◌≤◌, Bool, true, false, cond, nat_lt, List, Ok, Err, Result, refl, sym, ap, ◌∙◌, subst, arith, lit<}
use Rattle.std.proofs.lemmas.Bool.{cases_eq, cases_lt, cases_order, lt-ltb, ltb-true}
use lib.IntN.{ℤ}
use Rattle.capnp_floats.specs.declared.grammar.Kind.{Kind}
use Rattle.capnp_floats.specs.declared.grammar.Kind.TheVariants as kind
use Rattle.capnp_floats.specs.declared.width.Width.{Width}
use Rattle.capnp_floats.specs.declared.width.Width.TheVariants.{Float32, Float64}
use Rattle.capnp_floats.specs.declared.word.Refusal.{Refusal}
use Rattle.capnp_floats.specs.Nearby.{EachWordHasAFloat, WordsHaveOneFloat, float_of_decimal, float_of_kind, is_in_range, nearest_below, rank}
use Rattle.capnp_floats.specs.Nearest.{IsNearest, decimal_numbers, far_from, infinity_bits, least_numbers, twice_last_middle}
use Rattle.capnp_floats.specs.Shortest.{tenths}
use Rattle.capnp_floats.specs.Words.{ReadsAsKind, ReadsDecimal, begins_with_minus, kind_of, with_sign, word_digits, word_exponent}
use Rattle.capnp_floats.proofs.Nearing.{more_than_parts, power_positive}
use Rattle.capnp_floats.proofs.ReadBack.{between_is_nearer, one_nearest}

true_not_false : true ≡ false → ⊥
true_not_false e = cc

not_both : (a b : ℕ) → a < b → b ≤ a → ⊥
not_both a b h l = omega arith

not_less : (x y : ℕ) → nat_lt x y ≡ false → y ≤ x
not_less x y l = ⊎_elim (λ (m : x < y). absurd (true_not_false (sym (lt-ltb x y m) ∙ l))) (λ (m : y ≤ x). m) (cases_lt x y)

-- ---- the lowest below a bound ----

abbrev IsLowest : (far : ℕ → ℕ) → (bound n : ℕ) → Type 0
IsLowest far bound n = (c : ℕ) → c < bound → rank far n ≤ rank far c

lower : (far : ℕ → ℕ) (a b bound : ℕ) → IsLowest far bound a → b ≡ bound → (less : Bool) → nat_lt (rank far b) (rank far a) ≡ less → IsLowest far (suc bound) (cond less b a)
lower far a b bound h e true l c below = ⊎_elim
    (λ (same : c ≡ b). subst (λ x. rank far b ≤ rank far x) (sym same) (omega arith))
    (λ (other : c ≢ b). let first : rank far a ≤ rank far c = h c (omega arith) in let second : rank far b < rank far a = ltb-true (rank far b) (rank far a) l in omega arith)
    (cases_eq c b)
lower far a b bound h e false l c below = ⊎_elim
    (λ (same : c ≡ b). subst (λ x. rank far a ≤ rank far x) (sym same) (not_less (rank far b) (rank far a) l))
    (λ (other : c ≢ b). h c (omega arith))
    (cases_eq c b)

lowest : (far : ℕ → ℕ) (bound : ℕ) → IsLowest far bound (nearest_below far bound)
unfolding nearest_below
lowest far zero = λ c below. absurd (omega arith)
lowest far (suc n) = lower far (nearest_below far n) n n (lowest far n) refl (nat_lt (rank far n) (rank far (nearest_below far n))) refl

below_bound : (far : ℕ → ℕ) (bound : ℕ) → 0 < bound → nearest_below far bound < bound
unfolding nearest_below
below_bound far zero p = absurd (omega arith)
below_bound far (suc zero) p = go (nat_lt (rank far 0) (rank far 0))
  where
    go : (less : Bool) → cond less 0 0 < 1
    go true = omega arith
    go false = omega arith
below_bound far (suc (suc n)) p = go (nat_lt (rank far (suc n)) (rank far (nearest_below far (suc n)))) (below_bound far (suc n) (omega arith))
  where
    go : (less : Bool) → nearest_below far (suc n) < suc n → cond less (suc n) (nearest_below far (suc n)) < suc (suc n)
    go true l = omega arith
    go false l = omega arith

-- ---- it is the nearest ----

-- what ranks lowest ties with the nearest, and is even as this is
ranks_alike : (far : ℕ → ℕ) (m b c : ℕ) → rank far b ≤ rank far m → (far m < far b) ⊎ ((far m ≡ far b) × (m % 2 ≡ 0)) → (far m < far c) ⊎ ((far m ≡ far c) × (m % 2 ≡ 0))
    → (far b < far c) ⊎ ((far b ≡ far c) × (b % 2 ≡ 0))
ranks_alike far m b c low (inl l) h = absurd (omega arith)
ranks_alike far m b c low (inr e) (inl l) = let same : far m ≡ far b = e.0 in inl (omega arith)
ranks_alike far m b c low (inr e) (inr f) =
    let same : far m ≡ far b = e.0 in let even : m % 2 ≡ 0 = e.1 in let other : far m ≡ far c = f.0 in inr (omega arith, omega arith)

itself : (far : ℕ → ℕ) (m b : ℕ) → rank far b ≤ rank far m → (far m < far b) ⊎ ((far m ≡ far b) × (m % 2 ≡ 0)) → (far b < far m) ⊎ ((far b ≡ far m) × (b % 2 ≡ 0))
itself far m b low (inl l) = absurd (omega arith)
itself far m b low (inr e) = let same : far m ≡ far b = e.0 in let even : m % 2 ≡ 0 = e.1 in inr (omega arith, omega arith)

nearest_too : (w : Width) (d : ℕ) (k : ℤ) (m b : ℕ) → IsNearest w d k m → b < infinity_bits w → rank (far_from w d k) b ≤ rank (far_from w d k) m → b ≢ m → IsNearest w d k b
nearest_too w d k m b h finite low other = record {
  finite = finite;
  in_range = h.in_range;
  nearest = λ c below apart. ⊎_elim
      (λ (e : c ≡ m). subst (λ x. (far_from w d k b < far_from w d k x) ⊎ ((far_from w d k b ≡ far_from w d k x) × (b % 2 ≡ 0))) (sym e) (itself (far_from w d k) m b low (h.nearest b finite other)))
      (λ (o : c ≢ m). ranks_alike (far_from w d k) m b c low (h.nearest b finite other) (h.nearest c below o))
      (cases_eq c m);
}

nearest_is : (w : Width) (d : ℕ) (k : ℤ) (m : ℕ) → IsNearest w d k m → nearest_below (far_from w d k) (infinity_bits w) ≡ m
nearest_is w d k m h = ⊎_elim
    (λ e. e)
    (λ (other : b ≢ m). one_nearest w d k b m (nearest_too w d k m b h finite low other) h)
    (cases_eq b m)
  where
    b : ℕ
    b = nearest_below (far_from w d k) (infinity_bits w)

    finite : b < infinity_bits w
    finite = below_bound (far_from w d k) (infinity_bits w) (let f : m < infinity_bits w = h.finite in omega arith)

    low : rank (far_from w d k) b ≤ rank (far_from w d k) m
    low = lowest (far_from w d k) (infinity_bits w) m h.finite

-- ---- the float of a word ----

decimal_is : (w : Width) (negative : Bool) (d : ℕ) (k : ℤ) (r : Result ℕ Refusal) → ReadsDecimal w negative d k r → (inside : Bool) → is_in_range w d k ≡ inside → float_of_decimal w negative d k inside ≡ r
decimal_is w negative d k (Ok bits) h true e = ap (λ z. Ok (with_sign w negative z)) (nearest_is w d k h.0 h.1) ∙ sym (ap Ok h.2)
decimal_is w negative d k (Ok bits) h false e = absurd (true_not_false (sym (lt-ltb _ _ h.1.in_range) ∙ e))
decimal_is w negative d k (Err x) h true e = absurd (not_both _ _ (ltb-true _ _ e) h.1)
decimal_is w negative d k (Err x) h false e = sym (ap Err h.0)

float_is : (w : Width) (word : List ℕ) (k : Result Kind ℕ) (r : Result ℕ Refusal) → ReadsAsKind w word k r → float_of_kind w word k ≡ r
float_is w word (Ok kind.Number) r h =
    decimal_is w (begins_with_minus word) (word_digits word) (word_exponent word) r h (is_in_range w (word_digits word) (word_exponent word)) refl
float_is w word (Ok kind.Infinity) r h = sym h
float_is w word (Ok kind.Nan) r h = sym h
float_is w word (Err place) r h = sym h

-- ---- each word has one ----

abbrev IsNearerOrEven : (far : ℕ → ℕ) → (b c : ℕ) → Type 0
IsNearerOrEven far b c = (far b < far c) ⊎ ((far b ≡ far c) × (b % 2 ≡ 0))

-- Two odd ones that are as near have an even one between them, which is nearer.
odd_between : (w : Width) (d : ℕ) (k : ℤ) (a b : ℕ) → a < b → b < infinity_bits w → a % 2 ≡ 1 → b % 2 ≡ 1 → far_from w d k a ≡ far_from w d k b
    → far_from w d k (a + 1) < far_from w d k a
odd_between w d k a b l finite odd odd' e =
    let p : 0 < 10 ^ tenths k = power_positive 10 (tenths k) (lit< tt) in
    let low : least_numbers w a * 10 ^ tenths k < least_numbers w (a + 1) * 10 ^ tenths k = more_than_parts w (10 ^ tenths k) a (a + 1) p (omega arith) (omega arith) in
    let high : least_numbers w (a + 1) * 10 ^ tenths k < least_numbers w b * 10 ^ tenths k = more_than_parts w (10 ^ tenths k) (a + 1) b p (omega arith) (omega arith) in
    ⊎_elim
    (λ (n : far_from w d k (a + 1) < far_from w d k a). n)
    (λ (n : far_from w d k a ≤ far_from w d k (a + 1)). absurd
    (between_is_nearer (least_numbers w a * 10 ^ tenths k) (least_numbers w b * 10 ^ tenths k) (least_numbers w (a + 1) * 10 ^ tenths k) (decimal_numbers w d k) low high e n))
    (cases_lt (far_from w d k (a + 1)) (far_from w d k a))

not_both_odd : (w : Width) (d : ℕ) (k : ℤ) (b c : ℕ) → b < infinity_bits w → c < infinity_bits w → c ≢ b → IsLowest (far_from w d k) (infinity_bits w) b
    → b % 2 ≡ 1 → c % 2 ≡ 1 → far_from w d k b ≡ far_from w d k c → ⊥
not_both_odd w d k b c finite below other low odd odd' e = ⊎_elim
    (λ (l : b < c).
    let nearer : far_from w d k (b + 1) < far_from w d k b = odd_between w d k b c l below odd odd' e in
    let r : rank (far_from w d k) b ≤ rank (far_from w d k) (b + 1) = low (b + 1) (omega arith) in
    not_both _ _ nearer (omega arith))
    (λ (m : c ≤ b).
    let l : c < b = ⊎_elim (λ (s : c ≡ b). absurd (other s)) (λ (o : c ≢ b). let t : c < b = omega arith in t) (cases_eq c b) in
    let nearer : far_from w d k (c + 1) < far_from w d k c = odd_between w d k c b l finite odd' odd (sym e) in
    let r : rank (far_from w d k) b ≤ rank (far_from w d k) (c + 1) = low (c + 1) (omega arith) in
    not_both _ _ nearer (omega arith))
    (cases_lt b c)

nearer_or_even : (w : Width) (d : ℕ) (k : ℤ) (b c : ℕ) → b < infinity_bits w → c < infinity_bits w → c ≢ b → IsLowest (far_from w d k) (infinity_bits w) b
    → (far_from w d k b ≡ far_from w d k c) ⊎ ((far_from w d k b < far_from w d k c) ⊎ (far_from w d k c < far_from w d k b)) → IsNearerOrEven (far_from w d k) b c
nearer_or_even w d k b c finite below other low (inl e) = ⊎_elim
    (λ (even : b % 2 ≡ 0). inr (e, even))
    (λ (o : b % 2 ≢ 0).
    let odd : b % 2 ≡ 1 = omega arith in
    let r : rank (far_from w d k) b ≤ rank (far_from w d k) c = low c below in
    let odd' : c % 2 ≡ 1 = omega arith in
    absurd (not_both_odd w d k b c finite below other low odd odd' e))
    (cases_eq (b % 2) 0)
nearer_or_even w d k b c finite below other low (inr (inl l)) = inl l
nearer_or_even w d k b c finite below other low (inr (inr l)) = let r : rank (far_from w d k) b ≤ rank (far_from w d k) c = low c below in absurd (omega arith)

some_bits : (w : Width) → 0 < infinity_bits w
some_bits Float32 = lit< tt
some_bits Float64 = lit< tt

lowest_is_nearest : (w : Width) (d : ℕ) (k : ℤ) → 2 * decimal_numbers w d k < twice_last_middle w * 10 ^ tenths k → IsNearest w d k (nearest_below (far_from w d k) (infinity_bits w))
lowest_is_nearest w d k inside = record {
  finite = finite;
  in_range = inside;
  nearest = λ c below other. nearer_or_even w d k b c finite below other (lowest (far_from w d k) (infinity_bits w)) (cases_order (far_from w d k b) (far_from w d k c));
}
  where
    b : ℕ
    b = nearest_below (far_from w d k) (infinity_bits w)

    finite : b < infinity_bits w
    finite = below_bound (far_from w d k) (infinity_bits w) (some_bits w)

decimal_has : (w : Width) (negative : Bool) (d : ℕ) (k : ℤ) (inside : Bool) → is_in_range w d k ≡ inside → ReadsDecimal w negative d k (float_of_decimal w negative d k inside)
decimal_has w negative d k true e = (nearest_below (far_from w d k) (infinity_bits w), lowest_is_nearest w d k (ltb-true _ _ e), refl)
decimal_has w negative d k false e = (refl, not_less _ _ e)

kind_has : (w : Width) (word : List ℕ) (k : Result Kind ℕ) → ReadsAsKind w word k (float_of_kind w word k)
kind_has w word (Ok kind.Number) = decimal_has w (begins_with_minus word) (word_digits word) (word_exponent word) (is_in_range w (word_digits word) (word_exponent word)) refl
kind_has w word (Ok kind.Infinity) = refl
kind_has w word (Ok kind.Nan) = refl
kind_has w word (Err place) = refl

pub each_float : EachWordHasAFloat
each_float w word = kind_has w word (kind_of word)

pub one_float : WordsHaveOneFloat
one_float w word r h = float_is w word (kind_of word) r h
