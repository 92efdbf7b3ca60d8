-- Which rows of digits, points and marks are words, and what stands on either side of a mark.
use Rattle.std.proofs.Common.{ℕ, zero, suc, ◌≡◌, ◌+◌, ◌*◌, ◌^◌, Bool, true, false, cond, not, List, [], ◌∷◌, ◌++◌, length, take, drop, replicate, Some, None, Ok, refl, sym, ap, ◌∙◌, arith}
use Rattle.std.proofs.Math.Nat.{pow-suc}
use Rattle.std.proofs.Math.Seq.{drop-append-add}
use Rattle.std.proofs.lemmas.List.{append-nil, drop_all, take_at}
use Rattle.std.specs.Char.{is_ascii_digit}
use Rattle.std.specs.List.{after_first, before_first, position_or_len, prefix_len}
use Rattle.capnp_floats.specs.declared.grammar.Expected.{Expected}
use Rattle.capnp_floats.specs.declared.grammar.Expected.TheVariants as expected
use Rattle.capnp_floats.specs.declared.grammar.Kind.TheVariants as kind
use Rattle.capnp_floats.specs.Words.{digits_behind, kind_at, mark_step, step_of, then_or, with_digit}
use Rattle.capnp_floats.proofs.Appending.{no_digit_is}

-- ---- bytes of one sort ----

abbrev pub Each : (ℕ → Bool) → List ℕ → Type 0
Each p [] = Unit {0}
Each p (c ∷ cs) = (p c ≡ true) × Each p cs

pub each_append : (p : ℕ → Bool) (xs ys : List ℕ) → Each p xs → Each p ys → Each p (xs ++ ys)
each_append p [] ys h k = k
each_append p (x ∷ xs) ys h k = (h.0, each_append p xs ys h.1 k)

pub each_take : (p : ℕ → Bool) (n : ℕ) (xs : List ℕ) → Each p xs → Each p (take n xs)
each_take p zero xs h = tt
each_take p (suc n) [] h = tt
each_take p (suc n) (x ∷ xs) h = (h.0, each_take p n xs h.1)

pub each_drop : (p : ℕ → Bool) (n : ℕ) (xs : List ℕ) → Each p xs → Each p (drop n xs)
each_drop p zero xs h = h
each_drop p (suc n) [] h = tt
each_drop p (suc n) (x ∷ xs) h = each_drop p n xs h.1

pub each_replicate : (p : ℕ → Bool) (n c : ℕ) → p c ≡ true → Each p (replicate n c)
each_replicate p zero c h = tt
each_replicate p (suc n) c h = (h, each_replicate p n c h)

pub each_as : (p q : ℕ → Bool) (xs : List ℕ) → ((c : ℕ) → p c ≡ true → q c ≡ true) → Each p xs → Each q xs
each_as p q [] f h = tt
each_as p q (x ∷ xs) f h = (f x h.0, each_as p q xs f h.1)

-- ---- the first byte that passes a test ----

pub position_at : (p : ℕ → Bool) (xs : List ℕ) (c : ℕ) (ys : List ℕ) → Each (λ x. not (p x)) xs → p c ≡ true → position_or_len p (xs ++ (c ∷ ys)) ≡ length xs
position_at p [] c ys h e = ap (λ t. cond (not t) (1 + prefix_len (λ x. not (p x)) ys) 0) e
position_at p (x ∷ xs) c ys h e =
    let f : position_or_len p (xs ++ (c ∷ ys)) ≡ length xs = position_at p xs c ys h.1 e in
    ap (λ t. cond t (1 + position_or_len p (xs ++ (c ∷ ys))) 0) h.0 ∙ (let g : 1 + position_or_len p (xs ++ (c ∷ ys)) ≡ length (x ∷ xs) = omega arith in g)

pub position_none : (p : ℕ → Bool) (xs : List ℕ) → Each (λ x. not (p x)) xs → position_or_len p xs ≡ length xs
position_none p [] h = refl
position_none p (x ∷ xs) h =
    let f : position_or_len p xs ≡ length xs = position_none p xs h.1 in
    ap (λ t. cond t (1 + position_or_len p xs) 0) h.0 ∙ (let g : 1 + position_or_len p xs ≡ length (x ∷ xs) = omega arith in g)

pub before_at : (p : ℕ → Bool) (xs : List ℕ) (c : ℕ) (ys : List ℕ) → Each (λ x. not (p x)) xs → p c ≡ true → before_first p (xs ++ (c ∷ ys)) ≡ xs
before_at p xs c ys h e = ap (λ n. take n (xs ++ (c ∷ ys))) (position_at p xs c ys h e) ∙ take_at xs (c ∷ ys) (length xs) refl

pub after_at : (p : ℕ → Bool) (xs : List ℕ) (c : ℕ) (ys : List ℕ) → Each (λ x. not (p x)) xs → p c ≡ true → after_first p (xs ++ (c ∷ ys)) ≡ ys
after_at p xs c ys h e = ap (λ n. drop (n + 1) (xs ++ (c ∷ ys))) (position_at p xs c ys h e) ∙ drop-append-add xs (c ∷ ys) 1

pub before_none : (p : ℕ → Bool) (xs : List ℕ) → Each (λ x. not (p x)) xs → before_first p xs ≡ xs
before_none p xs h = ap (λ n. take n xs) (position_none p xs h) ∙ ap (λ l. take (length xs) l) (sym (append-nil xs)) ∙ take_at xs [] (length xs) refl

pub after_none : (p : ℕ → Bool) (xs : List ℕ) → Each (λ x. not (p x)) xs → after_first p xs ≡ []
after_none p xs h = ap (λ n. drop (n + 1) xs) (position_none p xs h) ∙ drop_all (length xs + 1) xs (omega arith)

-- ---- words ----

-- the bytes are read as a number's end, wherever they stand
abbrev pub EndsNumber : Expected → List ℕ → Type 0
EndsNumber x bs = (place : ℕ) → kind_at x place bs ≡ Ok kind.Number

pub ends_byte : (x y : Expected) (c : ℕ) (bs : List ℕ) → step_of x c ≡ Some y → EndsNumber y bs → EndsNumber x (c ∷ bs)
ends_byte x y c bs e h = λ place. ap (λ o. then_or o place (λ n. kind_at n (suc place) bs)) e ∙ h (suc place)

-- a state that stays over digits
abbrev pub Stays : Expected → Type 0
Stays x = (c : ℕ) → is_ascii_digit c ≡ true → step_of x c ≡ Some x

pub ends_digits : (x : Expected) (ds rest : List ℕ) → Stays x → Each is_ascii_digit ds → EndsNumber x rest → EndsNumber x (ds ++ rest)
ends_digits x [] rest s h e = e
ends_digits x (c ∷ ds) rest s h e = ends_byte x x c (ds ++ rest) (s c h.0) (ends_digits x ds rest s h.1 e)

pub ends_all : (x : Expected) (ds : List ℕ) → Stays x → Each is_ascii_digit ds → EndsNumber x [] → EndsNumber x ds
ends_all x [] s h e = e
ends_all x (c ∷ ds) s h e = ends_byte x x c ds (s c h.0) (ends_all x ds s h.1 e)

pub whole_stays : Stays expected.Whole
whole_stays c h = ap (λ t. cond t (Some expected.Whole) (step_of expected.AfterZero c)) h

pub places_stay : Stays expected.Places
places_stay c h = ap (λ t. cond t (Some expected.Places) (mark_step c)) h

pub exponent_stays : Stays expected.ExponentDigits
exponent_stays c h = ap (λ (t : Bool). cond t (Some expected.ExponentDigits) None) h

-- ---- digits among bytes ----

pub digits_append : (n : ℕ) (xs ys : List ℕ) → digits_behind n (xs ++ ys) ≡ digits_behind (digits_behind n xs) ys
digits_append n [] ys = refl
digits_append n (x ∷ xs) ys = digits_append (with_digit n x) xs ys

-- a byte that is no digit does not count
pub digits_apart : (n : ℕ) (xs : List ℕ) (c : ℕ) (ys : List ℕ) → is_ascii_digit c ≡ false → digits_behind n (xs ++ (c ∷ ys)) ≡ digits_behind n (xs ++ ys)
digits_apart n xs c ys h =
    digits_append n xs (c ∷ ys) ∙ ap (λ m. digits_behind m ys) (no_digit_is (digits_behind n xs) c h) ∙ sym (digits_append n xs ys)

pub zeros_before : (k : ℕ) (ys : List ℕ) → digits_behind 0 (replicate k 48 ++ ys) ≡ digits_behind 0 ys
zeros_before zero ys = refl
zeros_before (suc k) ys = zeros_before k ys

pub zeros_behind : (n k : ℕ) → digits_behind n (replicate k 48) ≡ n * 10 ^ k
zeros_behind n zero = let e : n ≡ n * 10 ^ 0 = omega arith in e
zeros_behind n (suc k) =
    let e : digits_behind (10 * n + 0) (replicate k 48) ≡ (10 * n + 0) * 10 ^ k = zeros_behind (10 * n + 0) k in
    let p : 10 ^ suc k ≡ 10 ^ k * 10 = pow-suc 10 k in
    let q : n * 10 ^ suc k ≡ n * (10 ^ k * 10) = ap (λ z. n * z) p in
    let f : (10 * n + 0) * 10 ^ k ≡ n * 10 ^ suc k = omega arith in
    e ∙ f
