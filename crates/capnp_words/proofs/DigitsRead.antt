-- Decimal digits are read as their number, and nothing else is.
use Rattle.std.proofs.Common.{Option, decimal, ◌==◌, ◌&&◌, not, nat_lt, ◌≡◌, ℕ, zero, suc, ◌+◌, ◌-◌, ◌*◌, ◌/◌, ◌%◌, ◌^◌, ◌<◌, ◌≤◌, List, [], ◌∷◌, ◌++◌, length, get_or, Bool, true, false, cond, Some, None, Ok, refl, ap, sym, ◌∙◌, append_assoc, append-nil, add-one, length-append, arith}
use Rattle.std.specs.Char.{is_ascii_digit}
use Rattle.std.proofs.lemmas.Bool.Decides.{nat_tests}
use Rattle.std.proofs.lemmas.Fmt.{decimal_digit, decimal_step, decimal_by_steps, decimal_nonempty, first_decimal}
use Rattle.capnp_words.specs.Reads.{ended_read, stands_or}
use Rattle.capnp_words.specs.Numbers.{decimal_at, more_digits, with_digit}

digit_stands : (limit n d : ℕ) → d < 10 → 10 * n + d ≤ limit → with_digit limit n (48 + d) ≡ Some (10 * n + d)
digit_stands limit n d h k = grind (arith, nat_tests)

-- digits that are read as a number, whatever follows
IsReadAs : ℕ → List ℕ → Type 0
IsReadAs n ds = (limit place : ℕ) (rest : List ℕ) → n ≤ limit → more_digits limit 0 place (ds ++ rest) ≡ more_digits limit n (place + length ds) rest

one_digit : (n : ℕ) → n < 10 → IsReadAs n ((48 + n) ∷ [])
unfolding IsReadAs
one_digit n h limit place rest k =
    let d : with_digit limit 0 (48 + n) ≡ Some n = grind (arith, nat_tests) in
    rw (d, add-one) refl

one_more : (n : ℕ) (ds : List ℕ) → 10 ≤ n → IsReadAs (n / 10) ds → IsReadAs n (ds ++ ((48 + n % 10) ∷ []))
unfolding IsReadAs
one_more n ds h before limit place rest k =
    let q : n / 10 ≤ limit = omega arith in
    let whole : 10 * (n / 10) + n % 10 ≡ n = omega arith in
    let small : n % 10 < 10 = omega arith in
    let d : with_digit limit (n / 10) (48 + n % 10) ≡ Some (10 * (n / 10) + n % 10) = digit_stands limit (n / 10) (n % 10) small (omega (arith, whole, k)) in
    let first : more_digits limit 0 place (ds ++ ((48 + n % 10) ∷ rest)) ≡ more_digits limit (n / 10) (place + length ds) ((48 + n % 10) ∷ rest) = before limit place ((48 + n % 10) ∷ rest) q in
    let second : more_digits limit (n / 10) (place + length ds) ((48 + n % 10) ∷ rest) ≡ more_digits limit n (suc (place + length ds)) rest = rw (d, whole) refl in
    let places : place + length (ds ++ ((48 + n % 10) ∷ [])) ≡ suc (place + length ds) = omega (arith, length-append ds ((48 + n % 10) ∷ [])) in
    rw (places, append_assoc) (first ∙ second)

digits_read : (n : ℕ) → n < 2 ^ 64 → IsReadAs n (decimal n)
digits_read n h = decimal_by_steps IsReadAs one_digit one_more n h

past_zero : (limit place : ℕ) (ds : List ℕ) → 0 < length ds → 48 < get_or ds 0 0 → decimal_at limit place ds ≡ more_digits limit 0 place ds
past_zero limit place [] h k = absurd (omega arith)
past_zero limit place (b ∷ bs) h k = let e : (b == 48) ≡ false = grind (arith, nat_tests) in rw e refl

-- a number is read as it is written
pub decimal_again : (limit place n : ℕ) → n < 2 ^ 64 → n ≤ limit → decimal_at limit place (decimal n) ≡ Ok n
unfolding IsReadAs
decimal_again limit place zero h k = rw (decimal_digit 0 (omega arith)) refl
decimal_again limit place (suc n) h k =
    let e = digits_read (suc n) h limit place [] k in
    let e2 : more_digits limit 0 place (decimal (suc n)) ≡ Ok (suc n) = rw append-nil at e in
    past_zero limit place (decimal (suc n)) (decimal_nonempty (suc n) h) (first_decimal (suc n) (omega arith) h) ∙ e2

-- each byte of a decimal number is a digit
DigitsOnly : ℕ → List ℕ → Type 0
DigitsOnly n ds = (k d : ℕ) → k < length ds → is_ascii_digit (get_or ds k d) ≡ true

one_is_digit : (n : ℕ) → n < 10 → DigitsOnly n ((48 + n) ∷ [])
unfolding DigitsOnly
one_is_digit n h zero d q = grind (arith, nat_tests)
one_is_digit n h (suc k) d q = absurd (omega arith)

digits_more : (ds : List ℕ) (m : ℕ) → m < 10 → ((k d : ℕ) → k < length ds → is_ascii_digit (get_or ds k d) ≡ true)
    → (k d : ℕ) → k < length (ds ++ ((48 + m) ∷ [])) → is_ascii_digit (get_or (ds ++ ((48 + m) ∷ [])) k d) ≡ true
digits_more [] m h before zero d q = grind (arith, nat_tests)
digits_more [] m h before (suc k) d q = absurd (omega arith)
digits_more (b ∷ ds) m h before zero d q = before 0 d (omega arith)
digits_more (b ∷ ds) m h before (suc k) d q = digits_more ds m h (λ j e r. before (suc j) e (omega (arith, r))) k d (omega arith)

more_are_digits : (n : ℕ) (ds : List ℕ) → 10 ≤ n → DigitsOnly (n / 10) ds → DigitsOnly n (ds ++ ((48 + n % 10) ∷ []))
unfolding DigitsOnly
more_are_digits n ds h before = digits_more ds (n % 10) (omega arith) before

pub decimal_digits : (n : ℕ) → n < 2 ^ 64 → (k d : ℕ) → k < length (decimal n) → is_ascii_digit (get_or (decimal n) k d) ≡ true
unfolding DigitsOnly
decimal_digits n h = decimal_by_steps DigitsOnly one_is_digit more_are_digits n h

-- ---- what is read is the number's digits ----

parts : (limit k b m : ℕ) (t : Bool) → is_ascii_digit b ≡ t → (u : Bool) → nat_lt limit (10 * k + (b - 48)) ≡ u → cond (t && not u) (Some (10 * k + (b - 48))) None ≡ Some m
    → (m ≤ limit) × (m / 10 ≡ k) × (48 + m % 10 ≡ b)
parts limit k b m false f u g e = let no : ⊥ = cc in absurd no
parts limit k b m true f true g e = let no : ⊥ = cc in absurd no
parts limit k b m true f false g e =
    let same : 10 * k + (b - 48) ≡ m = cc in
    let low : 48 ≤ b = grind (arith, nat_tests) in
    let high : b ≤ 57 = grind (arith, nat_tests) in
    let inside : 10 * k + (b - 48) ≤ limit = grind (arith, nat_tests) in
    (omega (arith, same, inside), omega (arith, same, low, high), omega (arith, same, low, high))

digit_parts : (limit k b m : ℕ) → with_digit limit k b ≡ Some m → (m ≤ limit) × (m / 10 ≡ k) × (48 + m % 10 ≡ b)
digit_parts limit k b m e = parts limit k b m (is_ascii_digit b) refl (nat_lt limit (10 * k + (b - 48))) refl e

more_only_at : (limit k place b : ℕ) (bs : List ℕ) (n : ℕ) → limit < 2 ^ 64 → 0 < k → (o : Option ℕ) → with_digit limit k b ≡ o
    → ((m : ℕ) → 0 < m → more_digits limit m (suc place) bs ≡ Ok n → decimal m ++ bs ≡ decimal n)
    → stands_or o place (λ m. more_digits limit m (suc place) bs) ≡ Ok n → decimal k ++ (b ∷ bs) ≡ decimal n
more_only_at limit k place b bs n small some None f rest e = let no : ⊥ = cc in absurd no
more_only_at limit k place b bs n small some (Some m) f rest e =
    let d = digit_parts limit k b m f in
    let big : 10 ≤ m = omega (arith, d.1) in
    let step : decimal m ≡ decimal k ++ (b ∷ []) = decimal_step m big (omega (arith, d.0)) ∙ rw (d.1, d.2) refl in
    let joined : decimal k ++ (b ∷ bs) ≡ decimal m ++ bs = rw (step, append_assoc) refl in
    joined ∙ rest m (omega (arith, big)) e

more_only : (limit k place : ℕ) (bs : List ℕ) (n : ℕ) → limit < 2 ^ 64 → 0 < k → more_digits limit k place bs ≡ Ok n → decimal k ++ bs ≡ decimal n
more_only limit k place [] n small some e =
    let same : k ≡ n = cc in
    append-nil (decimal k) ∙ ap decimal same
more_only limit k place (b ∷ bs) n small some e = more_only_at limit k place b bs n small some (with_digit limit k b) refl (λ m q f. more_only limit m (suc place) bs n small q f) e

first_only : (limit place b : ℕ) (bs : List ℕ) (n : ℕ) → limit < 2 ^ 64 → (b == 48) ≡ false → (o : Option ℕ) → with_digit limit 0 b ≡ o
    → stands_or o place (λ m. more_digits limit m (suc place) bs) ≡ Ok n → b ∷ bs ≡ decimal n
first_only limit place b bs n small h None f e = let no : ⊥ = cc in absurd no
first_only limit place b bs n small h (Some m) f e =
    let d = digit_parts limit 0 b m f in
    let little : m < 10 = omega (arith, d.1) in
    let one : decimal m ≡ b ∷ [] = decimal_digit m little ∙ ap (λ x. x ∷ []) (omega (arith, d.2, little)) in
    let some : 0 < m = grind (arith, nat_tests, d.2, little) in
    let joined : b ∷ bs ≡ decimal m ++ bs = rw one refl in
    joined ∙ more_only limit m (suc place) bs n small some e

zero_only : (place : ℕ) (bs : List ℕ) (n : ℕ) → ended_read 0 place bs ≡ Ok n → 48 ∷ bs ≡ decimal n
zero_only place [] n e = let same : 0 ≡ n = cc in sym (decimal_digit 0 (omega arith)) ∙ ap decimal same
zero_only place (b ∷ bs) n e = let no : ⊥ = cc in absurd no

by_first : (limit place b : ℕ) (bs : List ℕ) (n : ℕ) → limit < 2 ^ 64 → (t : Bool) → (b == 48) ≡ t → cond t (ended_read 0 (suc place) bs) (more_digits limit 0 place (b ∷ bs)) ≡ Ok n → b ∷ bs ≡ decimal n
by_first limit place b bs n small true f e = let same : b ≡ 48 = grind (arith, nat_tests) in ap (λ x. x ∷ bs) same ∙ zero_only (suc place) bs n e
by_first limit place b bs n small false f e = first_only limit place b bs n small f (with_digit limit 0 b) refl e

-- digits that are read are those of the number
pub decimal_only : (limit place : ℕ) (bs : List ℕ) (n : ℕ) → limit < 2 ^ 64 → decimal_at limit place bs ≡ Ok n → bs ≡ decimal n
decimal_only limit place [] n small e = let no : ⊥ = cc in absurd no
decimal_only limit place (b ∷ bs) n small e = by_first limit place b bs n small (b == 48) refl e
