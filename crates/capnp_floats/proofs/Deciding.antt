-- The nearest number to a decimal is found, or there is none. So some function gives each word its float.
use Rattle.std.proofs.Common.{ℕ, zero, suc, ◌≡◌, ◌≢◌, ◌⊎◌, inl, inr, ⊎_elim, ◌*◌, ◌^◌, ◌%◌, ◌<◌, ◌≤◌, Bool, List, Ok, Err, Result, sym, ap, ◌∙◌, subst, arith}
use Rattle.std.proofs.lemmas.Bool.{cases_eq, cases_lt, cases_order}
use lib.IntN.{ℤ}
use Rattle.capnp_floats.specs.declared.grammar.Kind.{Kind}
use Rattle.capnp_floats.specs.declared.grammar.Kind.TheVariants as kind
use Rattle.capnp_floats.specs.declared.width.Width.{Width}
use Rattle.capnp_floats.specs.declared.word.Refusal.{Refusal}
use Rattle.capnp_floats.specs.declared.word.Refusal.TheVariants.{NoFloat, PastRange}
use Rattle.capnp_floats.specs.Laws.{FloatsAreThere}
use Rattle.capnp_floats.specs.Nearest.{IsNearest, decimal_numbers, far_from, infinity_bits, twice_last_middle}
use Rattle.capnp_floats.specs.Shortest.{tenths}
use Rattle.capnp_floats.specs.Words.{ReadsAsKind, ReadsDecimal, begins_with_minus, kind_of, nan_bits, with_sign, word_digits, word_exponent}
use Rattle.capnp_floats.proofs.ReadBack.{one_nearest}

abbrev Decided : Type 0 → Type 0
Decided A = A ⊎ (A → ⊥)

-- ---- below a bound ----

abbrev Each : (P : ℕ → Type 0) → (bound : ℕ) → Type 0
Each P bound = (c : ℕ) → c < bound → P c

each_more : (P : ℕ → Type 0) (n : ℕ) → Decided (Each P n) → Decided (P n) → Decided (Each P (suc n))
each_more P n (inl h) (inl p) = inl (λ c l. ⊎_elim (λ e. subst P (sym e) p) (λ o. h c (omega arith)) (cases_eq c n))
each_more P n (inl h) (inr never) = inr (λ k. never (k n (omega arith)))
each_more P n (inr never) p = inr (λ k. never (λ c l. k c (omega arith)))

-- whether all numbers below a bound are of a kind
every : (P : ℕ → Type 0) → ((c : ℕ) → Decided (P c)) → (bound : ℕ) → Decided (Each P bound)
every P decide zero = inl (λ c l. absurd (omega arith))
every P decide (suc n) = each_more P n (every P decide n) (decide n)

-- a number of a kind, or that none below a bound is of it
abbrev Found : (P : ℕ → Type 0) → (bound : ℕ) → Type 0
Found P bound = ((n : ℕ) × P n) ⊎ Each (λ n. P n → ⊥) bound

found_more : (P : ℕ → Type 0) (n : ℕ) → Decided (P n) → Found P n → Found P (suc n)
found_more P n (inl p) others = inl (n, p)
found_more P n (inr never) (inl p) = inl p
found_more P n (inr never) (inr none) = inr (λ m l p. ⊎_elim (λ e. never (subst P e p)) (λ o. none m (omega arith) p) (cases_eq m n))

found : (P : ℕ → Type 0) → ((n : ℕ) → Decided (P n)) → (bound : ℕ) → Found P bound
found P decide zero = inr (λ n l p. absurd (omega arith))
found P decide (suc n) = found_more P n (decide n) (found P decide n)

-- ---- the nearest number ----

-- Another number is farther, or as far where this one is even.
abbrev IsNearer : (far : ℕ → ℕ) → (n c : ℕ) → Type 0
IsNearer far n c = c ≢ n → (far n < far c) ⊎ ((far n ≡ far c) × (n % 2 ≡ 0))

decided_even : (far : ℕ → ℕ) (n c : ℕ) → c ≢ n → far n ≡ far c → Decided (n % 2 ≡ 0) → Decided (IsNearer far n c)
decided_even far n c other e (inl even) = inl (λ o. inr (e, even))
decided_even far n c other e (inr odd) = inr (λ h. ⊎_elim (λ (l : far n < far c). omega arith) (λ m. odd m.1) (h other))

decided_order : (far : ℕ → ℕ) (n c : ℕ) → c ≢ n → (far n ≡ far c) ⊎ ((far n < far c) ⊎ (far c < far n)) → Decided (IsNearer far n c)
decided_order far n c other (inl e) = decided_even far n c other e (cases_eq (n % 2) 0)
decided_order far n c other (inr (inl l)) = inl (λ o. inl l)
decided_order far n c other (inr (inr l)) = inr (λ h. ⊎_elim (λ (m : far n < far c). omega arith) (λ m. let e : far n ≡ far c = m.0 in omega arith) (h other))

decided_other : (far : ℕ → ℕ) (n c : ℕ) → Decided (c ≡ n) → Decided (IsNearer far n c)
decided_other far n c (inl e) = inl (λ o. absurd (o e))
decided_other far n c (inr other) = decided_order far n c other (cases_order (far n) (far c))

decided_nearer : (far : ℕ → ℕ) (n c : ℕ) → Decided (IsNearer far n c)
decided_nearer far n c = decided_other far n c (cases_eq c n)

decided_below : (a b : ℕ) → Decided (a < b)
decided_below a b = ⊎_elim (λ (l : a < b). inl l) (λ (l : b ≤ a). inr (λ (m : a < b). omega arith)) (cases_lt a b)

together : (w : Width) (d : ℕ) (k : ℤ) (n : ℕ) → Decided (n < infinity_bits w) → Decided (2 * decimal_numbers w d k < twice_last_middle w * 10 ^ tenths k)
    → Decided (Each (IsNearer (far_from w d k) n) (infinity_bits w)) → Decided (IsNearest w d k n)
together w d k n (inl finite) (inl in_range) (inl nearest) = inl (record { finite = finite; in_range = in_range; nearest = nearest })
together w d k n (inl finite) (inl in_range) (inr never) = inr (λ h. never h.nearest)
together w d k n (inl finite) (inr never) nearest = inr (λ h. never h.in_range)
together w d k n (inr never) in_range nearest = inr (λ h. never h.finite)

decided_nearest : (w : Width) (d : ℕ) (k : ℤ) (n : ℕ) → Decided (IsNearest w d k n)
decided_nearest w d k n =
    together w d k n (decided_below n (infinity_bits w)) (decided_below (2 * decimal_numbers w d k) (twice_last_middle w * 10 ^ tenths k))
    (every (IsNearer (far_from w d k) n) (decided_nearer (far_from w d k) n) (infinity_bits w))

abbrev found_nearest : (w : Width) (d : ℕ) (k : ℤ) → Found (IsNearest w d k) (infinity_bits w)
found_nearest w d k = found (IsNearest w d k) (decided_nearest w d k) (infinity_bits w)

-- ---- the float of a word ----

abbrev found_float : (w : Width) → (negative : Bool) → (d : ℕ) → (k : ℤ) → Found (IsNearest w d k) (infinity_bits w) → Result ℕ Refusal
found_float w negative d k (inl n) = Ok (with_sign w negative n.0)
found_float w negative d k (inr none) = Err PastRange

not_both : (a b : ℕ) → a < b → b ≤ a → ⊥
not_both a b h l = omega arith

found_is : (w : Width) (negative : Bool) (d : ℕ) (k : ℤ) (f : Found (IsNearest w d k) (infinity_bits w)) (r : Result ℕ Refusal)
    → ReadsDecimal w negative d k r → found_float w negative d k f ≡ r
found_is w negative d k (inl n) (Ok bits) h =
    ap (λ z. Ok (with_sign w negative z)) (one_nearest w d k n.0 h.0 n.1 h.1) ∙ sym (ap Ok h.2)
found_is w negative d k (inl n) (Err e) h = absurd (not_both _ _ n.1.in_range h.1)
found_is w negative d k (inr none) (Ok bits) h = absurd (none h.0 h.1.finite h.1)
found_is w negative d k (inr none) (Err e) h = sym (ap Err h.0)

abbrev float_as : Width → List ℕ → Result Kind ℕ → Result ℕ Refusal
float_as w word (Ok kind.Number) =
    found_float w (begins_with_minus word) (word_digits word) (word_exponent word) (found_nearest w (word_digits word) (word_exponent word))
float_as w word (Ok kind.Infinity) = Ok (with_sign w (begins_with_minus word) (infinity_bits w))
float_as w word (Ok kind.Nan) = Ok (nan_bits w)
float_as w word (Err place) = Err (NoFloat place)

float_is : (w : Width) (word : List ℕ) (k : Result Kind ℕ) (r : Result ℕ Refusal) → ReadsAsKind w word k r → float_as w word k ≡ r
float_is w word (Ok kind.Number) r h =
    found_is w (begins_with_minus word) (word_digits word) (word_exponent word) (found_nearest w (word_digits word) (word_exponent word)) r h
float_is w word (Ok kind.Infinity) r h = sym h
float_is w word (Ok kind.Nan) r h = sym h
float_is w word (Err place) r h = sym h

pub floats_there : FloatsAreThere
floats_there = (λ w word. float_as w word (kind_of word), λ w word r h. float_is w word (kind_of word) r h)
