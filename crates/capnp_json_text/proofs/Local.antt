-- What a reading answers depends on the bytes that it reads, and on the first byte of those that are left.
use Rattle.std.proofs.Common.{◌≡◌, ℕ, ◌==◌, ◌||◌, Bool, true, false, cond, List, [], ◌∷◌, ◌++◌, Ok, Err, refl, ap, sym, subst, ◌∙◌, append_assoc}
use Rattle.std.specs.Char.{is_ascii_digit}
use Rattle.capnp_json_text.specs.Readings.{Rest, then_read, after_one, after_only, after_blanks, is_blank}
use Rattle.capnp_json_text.specs.Numbers.{after_digits, after_exponent, after_fraction, after_minus, after_number, after_sign, after_some_digits, after_whole}

-- both are empty, or begin with the same byte
abbrev pub BeginsAlike : List ℕ → List ℕ → Type 0
BeginsAlike [] ys = ys ≡ []
BeginsAlike (x ∷ xs) ys = (zs : List ℕ) × (ys ≡ x ∷ zs)

-- what is left, or can't stand
abbrev pub stop_of : Rest → List ℕ
stop_of (Ok rest) = rest
stop_of (Err fault) = fault

abbrev pub with_stop : Rest → List ℕ → Rest
with_stop (Ok rest) tail = Ok tail
with_stop (Err fault) tail = Err tail

pub record Local (f : List ℕ → Rest) (bs : List ℕ) (r : Rest) : Type 0 where
  pub front : List ℕ
  pub whole : bs ≡ front ++ stop_of r
  pub alike : (tail : List ℕ) → BeginsAlike (stop_of r) tail → f (front ++ tail) ≡ with_stop r tail

abbrev pub IsLocal : (List ℕ → Rest) → Type 0
IsLocal f = (bs : List ℕ) → Local f bs (f bs)

alike_front : (front xs ys : List ℕ) → BeginsAlike xs ys → BeginsAlike (front ++ xs) (front ++ ys)
alike_front [] xs ys h = h
alike_front (x ∷ front) xs ys h = (front ++ ys, refl)

-- nothing is read
pub at_once : (f : List ℕ → Rest) (bs : List ℕ) (r : Rest) → stop_of r ≡ bs → ((tail : List ℕ) → BeginsAlike bs tail → f tail ≡ with_stop r tail) → Local f bs r
at_once f bs r e h = record { front = []; whole = sym e; alike = λ tail a. h tail (subst (λ (x : List ℕ). BeginsAlike x tail) e a) }

-- a byte is read
pub cons_local : (f g : List ℕ → Rest) (b : ℕ) (bs : List ℕ) (r : Rest) → ((tail : List ℕ) → f (b ∷ tail) ≡ g tail) → Local g bs r → Local f (b ∷ bs) r
cons_local f g b bs r h l = record { front = b ∷ l.front; whole = ap (λ x. b ∷ x) l.whole; alike = λ tail a. h (l.front ++ tail) ∙ l.alike tail a }

agrees : (f k : List ℕ → Rest) (b : ℕ) (bs front stop tail : List ℕ) → ((cs : List ℕ) → f (b ∷ cs) ≡ k (b ∷ cs)) → b ∷ bs ≡ front ++ stop → BeginsAlike stop tail → f (front ++ tail) ≡ k (front ++ tail)
agrees f k b bs [] stop tail h e a =
    let q : (zs : List ℕ) × (tail ≡ b ∷ zs) = subst (λ (x : List ℕ). BeginsAlike x tail) (sym e) a in
    ap f q.1 ∙ h q.0 ∙ sym (ap k q.1)
agrees f k b bs (x ∷ front) stop tail h e a =
    let begun : b ∷ bs ≡ x ∷ (front ++ stop) = e in
    let same : b ≡ x = cc in
    subst (λ (y : ℕ). f (y ∷ (front ++ tail)) ≡ k (y ∷ (front ++ tail))) same (h (front ++ tail))

-- another reading is the same at this first byte
pub first_local : (f k : List ℕ → Rest) (b : ℕ) (bs : List ℕ) (r : Rest) → ((tail : List ℕ) → f (b ∷ tail) ≡ k (b ∷ tail)) → Local k (b ∷ bs) r → Local f (b ∷ bs) r
first_local f k b bs r h l = record { front = l.front; whole = l.whole; alike = λ tail a. agrees f k b bs l.front (stop_of r) tail h l.whole a ∙ l.alike tail a }

pub either_local : (f g k : List ℕ → Rest) (b : ℕ) (bs : List ℕ) (t : Bool) → ((tail : List ℕ) → f (b ∷ tail) ≡ cond t (g tail) (k (b ∷ tail)))
    → Local g bs (g bs) → (t ≡ false → Local k (b ∷ bs) (k (b ∷ bs))) → Local f (b ∷ bs) (f (b ∷ bs))
either_local f g k b bs true h x y = subst (λ (r : Rest). Local f (b ∷ bs) r) (sym (h bs)) (cons_local f g b bs (g bs) h x)
either_local f g k b bs false h x y = subst (λ (r : Rest). Local f (b ∷ bs) r) (sym (h bs)) (first_local f k b bs (k (b ∷ bs)) h (y refl))

pub nothing_local : (f : List ℕ → Rest) → f [] ≡ Err [] → Local f [] (f [])
nothing_local f e = subst (λ (r : Rest). Local f [] r) (sym e) (at_once f [] (Err []) refl (λ tail a. ap f a ∙ e ∙ sym (ap Err a)))

nothing_left : (f : List ℕ → Rest) → f [] ≡ Ok [] → Local f [] (f [])
nothing_left f e = subst (λ (r : Rest). Local f [] r) (sym e) (at_once f [] (Ok []) refl (λ tail a. ap f a ∙ e ∙ sym (ap Ok a)))

abbrev pub failed : List ℕ → Rest
failed bs = Err bs

abbrev pub taken : List ℕ → Rest
taken bs = Ok bs

pub failed_local : IsLocal failed
failed_local bs = at_once failed bs (Err bs) refl (λ tail a. refl)

pub taken_local : IsLocal taken
taken_local bs = at_once taken bs (Ok bs) refl (λ tail a. refl)

pub branch_local : (f g k : List ℕ → Rest) (test : ℕ → Bool) → f [] ≡ Err [] → ((b : ℕ) (tail : List ℕ) → f (b ∷ tail) ≡ cond (test b) (g tail) (k (b ∷ tail))) → IsLocal g → IsLocal k → (bs : List ℕ) → Local f bs (f bs)
branch_local f g k test e h x y [] = nothing_local f e
branch_local f g k test e h x y (b ∷ bs) = either_local f g k b bs (test b) (h b) (x bs) (λ _. y (b ∷ bs))

pub optional_local : (f g : List ℕ → Rest) (test : ℕ → Bool) → f [] ≡ Ok [] → ((b : ℕ) (tail : List ℕ) → f (b ∷ tail) ≡ cond (test b) (g tail) (taken (b ∷ tail))) → IsLocal g → (bs : List ℕ) → Local f bs (f bs)
optional_local f g test e h x [] = nothing_left f e
optional_local f g test e h x (b ∷ bs) = either_local f g taken b bs (test b) (h b) (x bs) (λ _. taken_local (b ∷ bs))

spans_local : (f : List ℕ → Rest) (test : ℕ → Bool) → f [] ≡ Ok [] → ((b : ℕ) (tail : List ℕ) → f (b ∷ tail) ≡ cond (test b) (f tail) (taken (b ∷ tail))) → (bs : List ℕ) → Local f bs (f bs)
spans_local f test e h [] = nothing_left f e
spans_local f test e h (b ∷ bs) = either_local f f taken b bs (test b) (h b) (spans_local f test e h bs) (λ _. taken_local (b ∷ bs))

ok_either : (t : Bool) (p q : List ℕ) → taken (cond t p q) ≡ cond t (taken p) (taken q)
ok_either true p q = refl
ok_either false p q = refl

-- ---- one reading behind another ----

then_by : (f g : List ℕ → Rest) (bs : List ℕ) (r : Rest) → Local f bs r → ((rest : List ℕ) → r ≡ Ok rest → Local g rest (g rest)) → Local (λ x. then_read (f x) g) bs (then_read r g)
then_by f g bs (Ok rest) l k =
    let m = k rest refl in
    record {
      front = l.front ++ m.front;
      whole = l.whole ∙ ap (λ x. l.front ++ x) m.whole ∙ sym (append_assoc l.front m.front (stop_of (g rest)));
      alike = λ tail a.
          ap (λ x. then_read (f x) g) (append_assoc l.front m.front tail)
          ∙ ap (λ q. then_read q g) (l.alike (m.front ++ tail) (subst (λ (x : List ℕ). BeginsAlike x (m.front ++ tail)) (sym m.whole) (alike_front m.front (stop_of (g rest)) tail a)))
          ∙ m.alike tail a;
    }
then_by f g bs (Err fault) l k = record { front = l.front; whole = l.whole; alike = λ tail a. ap (λ q. then_read q g) (l.alike tail a) }

pub then_at : (f g : List ℕ → Rest) (bs : List ℕ) → Local f bs (f bs) → ((rest : List ℕ) → f bs ≡ Ok rest → Local g rest (g rest)) → Local (λ x. then_read (f x) g) bs (then_read (f bs) g)
then_at f g bs l k = then_by f g bs (f bs) l k

pub then_local : (f g : List ℕ → Rest) → IsLocal f → IsLocal g → IsLocal (λ x. then_read (f x) g)
then_local f g x y bs = then_at f g bs (x bs) (λ rest _. y rest)

-- ---- bytes, blanks and numbers ----

pub one_local : (test : ℕ → Bool) → IsLocal (after_one test)
one_local test = branch_local (after_one test) taken failed test refl (λ b tail. refl) taken_local failed_local

pub only_local : (wanted : ℕ) → IsLocal (after_only wanted)
only_local wanted = branch_local (after_only wanted) taken failed (λ b. b == wanted) refl (λ b tail. refl) taken_local failed_local

pub blanks_local : IsLocal (λ bs. Ok (after_blanks bs))
blanks_local = spans_local (λ bs. Ok (after_blanks bs)) is_blank refl (λ b tail. ok_either (is_blank b) (after_blanks tail) (b ∷ tail))

digits_local : IsLocal (λ bs. Ok (after_digits bs))
digits_local = spans_local (λ bs. Ok (after_digits bs)) is_ascii_digit refl (λ b tail. ok_either (is_ascii_digit b) (after_digits tail) (b ∷ tail))

minus_local : IsLocal (λ bs. Ok (after_minus bs))
minus_local = optional_local (λ bs. Ok (after_minus bs)) taken (λ b. b == 45) refl (λ b tail. ok_either (b == 45) tail (b ∷ tail)) taken_local

sign_local : IsLocal (λ bs. Ok (after_sign bs))
sign_local = optional_local (λ bs. Ok (after_sign bs)) taken (λ b. b == 43 || b == 45) refl (λ b tail. ok_either (b == 43 || b == 45) tail (b ∷ tail)) taken_local

some_digits_local : IsLocal after_some_digits
some_digits_local = branch_local after_some_digits (λ bs. Ok (after_digits bs)) failed is_ascii_digit refl (λ b tail. refl) digits_local failed_local

whole_local : IsLocal after_whole
whole_local = branch_local after_whole taken after_some_digits (λ b. b == 48) refl (λ b tail. refl) taken_local some_digits_local

fraction_local : IsLocal after_fraction
fraction_local = optional_local after_fraction after_some_digits (λ b. b == 46) refl (λ b tail. refl) some_digits_local

exponent_local : IsLocal after_exponent
exponent_local = optional_local after_exponent (λ bs. after_some_digits (after_sign bs)) (λ b. b == 101 || b == 69) refl (λ b tail. refl)
    (then_local (λ bs. Ok (after_sign bs)) after_some_digits sign_local some_digits_local)

pub number_local : IsLocal after_number
unfolding after_number
number_local =
    then_local (λ bs. then_read (after_whole (after_minus bs)) after_fraction) after_exponent
    (then_local (λ bs. after_whole (after_minus bs)) after_fraction (then_local (λ bs. Ok (after_minus bs)) after_whole minus_local whole_local) fraction_local) exponent_local
