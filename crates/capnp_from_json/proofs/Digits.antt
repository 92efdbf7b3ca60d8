-- The naturals of digits.
use Rattle.std.proofs.Common.{ℕ, suc, zero, ◌≡◌, ◌≢◌, ◌+◌, ◌-◌, ◌*◌, ◌%◌, ◌^◌, ◌<◌, ◌≤◌, List, [], ◌∷◌, ◌++◌, length, get_or, drop, take, refl, sym, ap, ◌∙◌, arith, Some, None, Option, subst, ⊎_elim, ◌⊎◌, inl, inr, IsTrue, Bool, true, false, cond}
use Rattle.std.proofs.Math.Seq.{drop-cons}
use native.Mathlib.Numerals.{unary_clauses}
use Rattle.std.proofs.lemmas.Bool.{cases_lt, cond_above, cond_below, cond_both}
use Rattle.std.proofs.lemmas.Bool.Decides.{nat_tests}
use Rattle.std.proofs.lemmas.Nat.{pow-add}
use Rattle.std.specs.Char.{is_ascii_digit}
use Rattle.std.proofs.lemmas.List.{drop_all, length-take-le, take_more}
use Rattle.capnp_json_text.specs.Numbers.{after_digits, after_minus}
use Rattle.capnp_json_text.specs.Decimals.{behind_point, digits_of, fraction_digits, natural_from, whole_digits}
use Rattle.capnp_from_json.specs.Integers.{in_word}
use Rattle.capnp_from_json.specs.Steps.Digits.{AreDigits, IsTrimmed}

true_or_false : (b : Bool) → (b ≡ true) ⊎ (b ≡ false)
true_or_false true = inl refl
true_or_false false = inr refl

pub at_least : (n : ℕ) (xs : List ℕ) → n ≤ natural_from n xs
at_least n [] = omega arith
at_least n (x ∷ xs) = let h : 10 * n + (x - 48) ≤ natural_from (10 * n + (x - 48)) xs = at_least (10 * n + (x - 48)) xs in omega arith

pub next_digit : (n : ℕ) (xs : List ℕ) (i : ℕ) → i < length xs → natural_from (10 * n + (get_or xs i 0 - 48)) (drop (i + 1) xs) ≡ natural_from n (drop i xs)
next_digit n xs i h = simp unary_clauses (sym (ap (natural_from n) (drop-cons xs i 0 h)))

pub last_digit : (n : ℕ) (xs : List ℕ) (b : ℕ) → natural_from n (xs ++ b ∷ []) ≡ 10 * natural_from n xs + (b - 48)
last_digit n [] b = refl
last_digit n (x ∷ xs) b = last_digit (10 * n + (x - 48)) xs b

pub joined : (n : ℕ) (xs ys : List ℕ) → natural_from n (xs ++ ys) ≡ natural_from (natural_from n xs) ys
joined n [] ys = refl
joined n (x ∷ xs) ys = joined (10 * n + (x - 48)) xs ys

pub held : (n : ℕ) → n < 2 ^ 64 → in_word n ≡ Some n
held n h = sym (cond_below n (2 ^ 64) (Some n) None h)

pub not_held : (n : ℕ) → 2 ^ 64 ≤ n → in_word n ≡ None
not_held n h = sym (cond_above n (2 ^ 64) (Some n) None None h refl)

-- more digits behind a number that 64 bits don't hold
pub more_than_held : (n : ℕ) (xs : List ℕ) (i whole : ℕ) → i < length xs → natural_from n (drop i xs) ≡ whole → 2 ^ 64 ≤ 10 * n + (get_or xs i 0 - 48) → None ≡ in_word whole
more_than_held n xs i whole h e l =
    let m : natural_from (10 * n + (get_or xs i 0 - 48)) (drop (i + 1) xs) ≡ natural_from n (drop i xs) = next_digit n xs i h in
    let a : 10 * n + (get_or xs i 0 - 48) ≤ natural_from (10 * n + (get_or xs i 0 - 48)) (drop (i + 1) xs) = at_least (10 * n + (get_or xs i 0 - 48)) (drop (i + 1) xs) in
    sym (not_held whole (omega arith))

pub all_held : (n : ℕ) (xs : List ℕ) (i whole : ℕ) → length xs ≤ i → natural_from n (drop i xs) ≡ whole → n < 2 ^ 64 → Some n ≡ in_word whole
all_held n xs i whole h e l = sym (ap in_word (sym e ∙ ap (natural_from n) (drop_all i xs h)) ∙ held n l)

pub front_not_held : (n : ℕ) (xs : List ℕ) → None ≡ in_word n → None ≡ in_word (natural_from n xs)
front_not_held n xs e = ⊎_elim
    (λ (l : n < 2 ^ 64). let no : ◌≡◌ {A = Option ℕ} None (Some n) = e ∙ held n l in absurd (let x : ⊥ = cc in x))
    (λ (l : 2 ^ 64 ≤ n). let a : n ≤ natural_from n xs = at_least n xs in sym (not_held (natural_from n xs) (omega arith)))
    (cases_lt n (2 ^ 64))

-- ---- zeros at the end ----

pub last_of_taken : (n : ℕ) (xs : List ℕ) (c : ℕ) → 0 < c → c ≤ length xs → natural_from n (take c xs) ≡ 10 * natural_from n (take (c - 1) xs) + (get_or xs (c - 1) 0 - 48)
last_of_taken n xs c some inside =
    let e : c ≡ c - 1 + 1 = omega arith in
    let h : c - 1 < length xs = omega arith in
    ap (λ z. natural_from n (take z xs)) e ∙ ap (natural_from n) (take_more xs (c - 1) 0 h) ∙ last_digit n (take (c - 1) xs) (get_or xs (c - 1) 0)

pub trim_more : (n : ℕ) (xs : List ℕ) (c : ℕ) → 0 < c → c ≤ length xs → get_or xs (c - 1) 0 ≡ 48 → natural_from n xs ≡ natural_from n (take c xs) * 10 ^ (length xs - c)
    → natural_from n xs ≡ natural_from n (take (c - 1) xs) * 10 ^ (length xs - (c - 1))
trim_more n xs c some inside zero_there h =
    let l : natural_from n (take c xs) ≡ 10 * natural_from n (take (c - 1) xs) + (get_or xs (c - 1) 0 - 48) = last_of_taken n xs c some inside in
    let p : 10 ^ (length xs - (c - 1)) ≡ 10 ^ (length xs - c) * 10 = ap (λ z. 10 ^ z) (let f : length xs - (c - 1) ≡ length xs - c + 1 = omega arith in f) ∙ pow-add 10 (length xs - c) 1 in
    let q : natural_from n (take c xs) ≡ natural_from n (take (c - 1) xs) * 10 = omega arith in
    h ∙ ap (λ z. z * 10 ^ (length xs - c)) q ∙ (let r : natural_from n (take (c - 1) xs) * 10 * 10 ^ (length xs - c) ≡ natural_from n (take (c - 1) xs) * (10 ^ (length xs - c) * 10) = omega arith in r)
    ∙ ap (λ z. natural_from n (take (c - 1) xs) * z) (sym p)

pub digit_bounds : (b : ℕ) → IsTrue (is_ascii_digit b) → (48 ≤ b) × (b ≤ 57)
digit_bounds b h = grind (arith, nat_tests)

pub trim_last : (n : ℕ) (xs : List ℕ) (c : ℕ) → 0 < c → c ≤ length xs → get_or xs (c - 1) 0 ≢ 48 → IsTrue (is_ascii_digit (get_or xs (c - 1) 0)) → natural_from n (take c xs) % 10 ≢ 0
trim_last n xs c some inside other digit =
    let l : natural_from n (take c xs) ≡ 10 * natural_from n (take (c - 1) xs) + (get_or xs (c - 1) 0 - 48) = last_of_taken n xs c some inside in
    let b : (48 ≤ get_or xs (c - 1) 0) × (get_or xs (c - 1) 0 ≤ 57) = digit_bounds (get_or xs (c - 1) 0) digit in
    omega arith

pub trimmed_there : (xs : List ℕ) (c : ℕ) → AreDigits xs → 0 < c → c ≤ length xs → get_or xs (c - 1) 0 ≢ 48
    → ((n : ℕ) → natural_from n xs ≡ natural_from n (take c xs) * 10 ^ (length xs - c)) → IsTrimmed xs (take c xs)
trimmed_there xs c digits some inside other value =
    let l : length (take c xs) ≡ c = length-take-le c xs inside in
    record {
      fewer = omega arith;
      value = λ n. value n ∙ ap (λ z. natural_from n (take c xs) * 10 ^ (length xs - z)) (sym l);
      last = λ h n. trim_last n xs c some inside other (digits (c - 1) (omega arith));
    }

pub trimmed_none : (xs : List ℕ) (c : ℕ) → c ≤ 0 → ((n : ℕ) → natural_from n xs ≡ natural_from n (take c xs) * 10 ^ (length xs - c)) → IsTrimmed xs (take 0 xs)
trimmed_none xs c none value =
    let e : c ≡ 0 = omega arith in
    record {
      fewer = omega arith;
      value = λ n. value n ∙ ap (λ z. natural_from n (take z xs) * 10 ^ (length xs - z)) e;
      last = λ h n. absurd (omega arith);
    }

-- ---- the digits at the front ----

pub fewer_left : (bs : List ℕ) → length (after_digits bs) ≤ length bs
fewer_left [] = omega arith
fewer_left (b ∷ bs) = cond_both (is_ascii_digit b) (after_digits bs) (b ∷ bs) (λ (r : List ℕ). length r ≤ suc (length bs))
    (λ t. let h : length (after_digits bs) ≤ length bs = fewer_left bs in omega arith) (λ t. omega arith)

digits_of_digit : (b : ℕ) (bs : List ℕ) → is_ascii_digit b ≡ true → digits_of (b ∷ bs) ≡ b ∷ digits_of bs
digits_of_digit b bs t =
    let h : length (after_digits bs) ≤ length bs = fewer_left bs in
    ap (λ x. take (suc (length bs) - length (cond x (after_digits bs) (b ∷ bs))) (b ∷ bs)) t
    ∙ ap (λ n. take n (b ∷ bs)) (let e : suc (length bs) - length (after_digits bs) ≡ suc (length bs - length (after_digits bs)) = omega arith in e)

digits_of_other : (b : ℕ) (bs : List ℕ) → is_ascii_digit b ≡ false → digits_of (b ∷ bs) ≡ []
digits_of_other b bs t =
    ap (λ x. take (suc (length bs) - length (cond x (after_digits bs) (b ∷ bs))) (b ∷ bs)) t
    ∙ ap (λ n. take n (b ∷ bs)) (let e : suc (length bs) - suc (length bs) ≡ 0 = omega arith in e)

no_digits : AreDigits []
no_digits i h = absurd (omega arith)

more_digits : (b : ℕ) (bs : List ℕ) → is_ascii_digit b ≡ true → AreDigits bs → AreDigits (b ∷ bs)
more_digits b bs t h zero l = t
more_digits b bs t h (suc i) l = h i (omega arith)

pub are_digits : (bs : List ℕ) → AreDigits (digits_of bs)
are_digits [] = no_digits
are_digits (b ∷ bs) = ⊎_elim
    (λ (t : is_ascii_digit b ≡ true). subst AreDigits (sym (digits_of_digit b bs t)) (more_digits b (digits_of bs) t (are_digits bs)))
    (λ (t : is_ascii_digit b ≡ false). subst AreDigits (sym (digits_of_other b bs t)) no_digits)
    (true_or_false (is_ascii_digit b))

pub whole_are_digits : (bs : List ℕ) → AreDigits (whole_digits bs)
unfolding whole_digits
whole_are_digits bs = are_digits (after_minus bs)

pub fraction_are_digits : (bs : List ℕ) → AreDigits (fraction_digits bs)
unfolding fraction_digits
fraction_are_digits bs = are_digits (behind_point (after_digits (after_minus bs)))

pub held_is : (n m : ℕ) → Some n ≡ in_word m → n ≡ m
held_is n m e = ⊎_elim
    (λ (l : m < 2 ^ 64). let s : ◌≡◌ {A = Option ℕ} (Some n) (Some m) = e ∙ held m l in let z : n ≡ m = cc in z)
    (λ (l : 2 ^ 64 ≤ m). let s : ◌≡◌ {A = Option ℕ} (Some n) None = e ∙ not_held m l in let z : n ≡ m = cc in z)
    (cases_lt m (2 ^ 64))

pub trimmed_empty : (xs ys : List ℕ) → IsTrimmed xs ys → length ys ≤ 0 → IsTrimmed xs []
trimmed_empty xs [] t h = t
trimmed_empty xs (y ∷ ys) t h = absurd (omega arith)
