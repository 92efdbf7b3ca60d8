-- Words of numbers are values: the states of a word are read as the grammar reads.
use Rattle.std.proofs.Common.{◌≡◌, ℕ, suc, ◌-◌, ◌<◌, ◌==◌, ◌||◌, ◌&&◌, nat_lt, Bool, true, false, cond, List, [], ◌∷◌, ◌++◌, length, take, Some, None, Ok, Err, refl, ap, sym, subst, ◌∙◌, inl, inr, arith}
use Rattle.std.proofs.lemmas.Bool.{cases_eq, ne_eqb}
use Rattle.std.proofs.lemmas.Bool.Decides.{nat_tests}
use Rattle.std.proofs.lemmas.List.{length-append, take_at}
use Rattle.std.specs.Char.{is_ascii_digit}
use Rattle.capnp_floats.specs.Words.{exponent_step, first_step, is_exponent_mark, kind_at, mark_step, places_step, then_or, unsigned_step, zero_step}
use Rattle.capnp_floats.specs.Words as words
use Rattle.capnp_json_text.specs.Readings.{Rest, is_blank, then_read}
use Rattle.capnp_json_text.specs.Decimals.{before}
use Rattle.capnp_json_text.specs.Numbers.{after_digits, after_exponent, after_fraction, after_number, after_sign, after_some_digits, after_whole}
use Rattle.capnp_json_text.specs.Texts.{after_part, after_value, begun_by, ended, gone_on, kind_of}
use Rattle.capnp_json_text.specs.Values.{Number, json_at, json_by, left}
use Rattle.capnp_json_text.specs.declared.kinds.Kind.TheVariants as value_kind
use Rattle.capnp_json_text.proofs.ValueSteps.{stands_in_steps}
use Rattle.capnp_json_laws.specs.Stands.{IsNumber, IsValue, MayFollow, is_behind}
use Rattle.capnp_json_laws.proofs.Ascii.{are_ascii, ascii_utf8}
use Rattle.capnp_json_laws.proofs.Words.{value_read}

-- ---- what follows is no part of a number ----

behind_no_digit : (b : ℕ) → is_behind b ≡ true → is_ascii_digit b ≡ false
behind_no_digit b e = grind (arith, nat_tests)

behind_no_point : (b : ℕ) → is_behind b ≡ true → (b == 46) ≡ false
behind_no_point b e = grind (arith, nat_tests)

behind_no_mark : (b : ℕ) → is_behind b ≡ true → (b == 101 || b == 69) ≡ false
behind_no_mark b e = grind (arith, nat_tests)

digits_stop : (rest : List ℕ) → MayFollow rest → after_digits rest ≡ rest
digits_stop [] f = refl
digits_stop (b ∷ bs) f = ap (λ t. cond t (after_digits bs) (b ∷ bs)) (behind_no_digit b f)

fraction_stop : (rest : List ℕ) → MayFollow rest → after_fraction rest ≡ Ok rest
fraction_stop [] f = refl
fraction_stop (b ∷ bs) f = ap (λ t. cond t (after_some_digits bs) (Ok (b ∷ bs))) (behind_no_point b f)

exponent_stop : (rest : List ℕ) → MayFollow rest → after_exponent rest ≡ Ok rest
exponent_stop [] f = refl
exponent_stop (b ∷ bs) f = ap (λ t. cond t (after_some_digits (after_sign bs)) (Ok (b ∷ bs))) (behind_no_mark b f)

-- ---- the states of a number's word, the last ones first ----

-- the states are named by steps that lead to them, and the kind by a word of it
abbrev AtUnsigned : (place : ℕ) → List ℕ → Type 0
AtUnsigned place word = then_or (first_step 45) 0 (λ n. kind_at n place word) ≡ words.kind_of (48 ∷ [])

abbrev AtNanA : (place : ℕ) → List ℕ → Type 0
AtNanA place word = then_or (first_step 110) 0 (λ n. kind_at n place word) ≡ words.kind_of (48 ∷ [])

abbrev AtInfinityN : (place : ℕ) → List ℕ → Type 0
AtInfinityN place word = then_or (unsigned_step 105) 0 (λ n. kind_at n place word) ≡ words.kind_of (48 ∷ [])

abbrev AtAfterZero : (place : ℕ) → List ℕ → Type 0
AtAfterZero place word = then_or (unsigned_step 48) 0 (λ n. kind_at n place word) ≡ words.kind_of (48 ∷ [])

abbrev AtWhole : (place : ℕ) → List ℕ → Type 0
AtWhole place word = then_or (unsigned_step 49) 0 (λ n. kind_at n place word) ≡ words.kind_of (48 ∷ [])

abbrev AtPoint : (place : ℕ) → List ℕ → Type 0
AtPoint place word = then_or (zero_step 46) 0 (λ n. kind_at n place word) ≡ words.kind_of (48 ∷ [])

abbrev AtExponent : (place : ℕ) → List ℕ → Type 0
AtExponent place word = then_or (mark_step 101) 0 (λ n. kind_at n place word) ≡ words.kind_of (48 ∷ [])

abbrev AtPlaces : (place : ℕ) → List ℕ → Type 0
AtPlaces place word = then_or (places_step 48) 0 (λ n. kind_at n place word) ≡ words.kind_of (48 ∷ [])

abbrev AtSignedExponent : (place : ℕ) → List ℕ → Type 0
AtSignedExponent place word = then_or (exponent_step 43) 0 (λ n. kind_at n place word) ≡ words.kind_of (48 ∷ [])

abbrev AtExponentDigits : (place : ℕ) → List ℕ → Type 0
AtExponentDigits place word = then_or (exponent_step 48) 0 (λ n. kind_at n place word) ≡ words.kind_of (48 ∷ [])

abbrev Reads : (List ℕ → Rest) → List ℕ → Type 0
Reads f word = (are_ascii word ≡ true) × ((rest : List ℕ) → MayFollow rest → f (word ++ rest) ≡ Ok rest)

ends_here : (f : List ℕ → Rest) → ((rest : List ℕ) → MayFollow rest → f rest ≡ Ok rest) → Reads f []
ends_here f h = (refl, h)

both_true : (s t : Bool) → s ≡ true → t ≡ true → (s && t) ≡ true
both_true true t e f = f
both_true false t e f = let no : ⊥ = cc in absurd no

one_more : (f g : List ℕ → Rest) (b : ℕ) (bs : List ℕ) → nat_lt b 128 ≡ true → ((tail : List ℕ) → f (b ∷ tail) ≡ g tail) → Reads g bs → Reads f (b ∷ bs)
one_more f g b bs small h r = (both_true (nat_lt b 128) (are_ascii bs) small r.0, λ rest behind. h (bs ++ rest) ∙ r.1 rest behind)

same_there : (f g : List ℕ → Rest) (b : ℕ) (bs : List ℕ) → ((tail : List ℕ) → f (b ∷ tail) ≡ g (b ∷ tail)) → Reads g (b ∷ bs) → Reads f (b ∷ bs)
same_there f g b bs h r = (r.0, λ rest behind. h (bs ++ rest) ∙ r.1 rest behind)

digit_small : (b : ℕ) → is_ascii_digit b ≡ true → nat_lt b 128 ≡ true
digit_small b e = grind (arith, nat_tests)

mark_small : (b : ℕ) → is_exponent_mark b ≡ true → nat_lt b 128 ≡ true
mark_small b e = grind (arith, nat_tests)

sign_small : (b : ℕ) → (b == 43 || b == 45) ≡ true → nat_lt b 128 ≡ true
sign_small b e = grind (arith, nat_tests)

is_small : (b n : ℕ) → n < 128 → (b == n) ≡ true → nat_lt b 128 ≡ true
is_small b n h e = grind (arith, nat_tests)

exponent_digits : (place : ℕ) (word : List ℕ) → AtExponentDigits place word → Reads (λ bs. Ok (after_digits bs)) word
exponent_digits place [] e = ends_here (λ bs. Ok (after_digits bs)) (λ rest f. ap Ok (digits_stop rest f))
exponent_digits place (b ∷ bs) e = go (is_ascii_digit b) refl e (exponent_digits (suc place) bs)
  where
    go : (t : Bool) → is_ascii_digit b ≡ t → then_or (cond t (exponent_step 48) None) place (λ n. kind_at n (suc place) bs) ≡ words.kind_of (48 ∷ [])
        → (AtExponentDigits (suc place) bs → Reads (λ bs. Ok (after_digits bs)) bs) → Reads (λ bs. Ok (after_digits bs)) (b ∷ bs)
    go true d e h = one_more (λ bs. Ok (after_digits bs)) (λ bs. Ok (after_digits bs)) b bs (digit_small b d) (λ tail. ap (λ x. Ok (cond x (after_digits tail) (b ∷ tail))) d) (h e)
    go false d e h = let no : ⊥ = cc in absurd no

signed_exponent : (place : ℕ) (word : List ℕ) → AtSignedExponent place word → Reads after_some_digits word
signed_exponent place [] e = let no : ⊥ = cc in absurd no
signed_exponent place (b ∷ bs) e = go (is_ascii_digit b) refl e (exponent_digits (suc place) bs)
  where
    go : (t : Bool) → is_ascii_digit b ≡ t → then_or (cond t (exponent_step 48) None) place (λ n. kind_at n (suc place) bs) ≡ words.kind_of (48 ∷ [])
        → (AtExponentDigits (suc place) bs → Reads (λ bs. Ok (after_digits bs)) bs) → Reads after_some_digits (b ∷ bs)
    go true d e h = one_more after_some_digits (λ bs. Ok (after_digits bs)) b bs (digit_small b d) (λ tail. ap (λ x. cond x (Ok (after_digits tail)) (Err (b ∷ tail))) d) (h e)
    go false d e h = let no : ⊥ = cc in absurd no

abbrev signed_digits : List ℕ → Rest
signed_digits bs = after_some_digits (after_sign bs)

exponent_state : (place : ℕ) (word : List ℕ) → AtExponent place word → Reads signed_digits word
exponent_state place [] e = let no : ⊥ = cc in absurd no
exponent_state place (b ∷ bs) e = go (b == 43 || b == 45) (is_ascii_digit b) refl refl e (signed_exponent (suc place) bs) (exponent_digits (suc place) bs)
  where
    go : (s t : Bool) → (b == 43 || b == 45) ≡ s → is_ascii_digit b ≡ t
        → then_or (cond s (exponent_step 43) (cond t (exponent_step 48) None)) place (λ n. kind_at n (suc place) bs) ≡ words.kind_of (48 ∷ [])
        → (AtSignedExponent (suc place) bs → Reads after_some_digits bs) → (AtExponentDigits (suc place) bs → Reads (λ bs. Ok (after_digits bs)) bs) → Reads signed_digits (b ∷ bs)
    go true t c d e h k = one_more signed_digits after_some_digits b bs (sign_small b c) (λ tail. ap (λ x. after_some_digits (cond x tail (b ∷ tail))) c) (h e)
    go false true c d e h k = one_more signed_digits (λ bs. Ok (after_digits bs)) b bs (digit_small b d)
        (λ tail. ap (λ x. after_some_digits (cond x tail (b ∷ tail))) c ∙ ap (λ x. cond x (Ok (after_digits tail)) (Err (b ∷ tail))) d) (k e)
    go false false c d e h k = let no : ⊥ = cc in absurd no

-- behind digits of the fraction, and behind a zero in front
marked : (b place : ℕ) (bs : List ℕ) → then_or (mark_step b) place (λ n. kind_at n (suc place) bs) ≡ words.kind_of (48 ∷ []) → Reads after_exponent (b ∷ bs)
marked b place bs e = go (is_exponent_mark b) refl e (exponent_state (suc place) bs)
  where
    go : (t : Bool) → is_exponent_mark b ≡ t → then_or (cond t (mark_step 101) None) place (λ n. kind_at n (suc place) bs) ≡ words.kind_of (48 ∷ [])
        → (AtExponent (suc place) bs → Reads signed_digits bs) → Reads after_exponent (b ∷ bs)
    go true d e h = one_more after_exponent signed_digits b bs (mark_small b d) (λ tail. ap (λ x. cond x (signed_digits tail) (Ok (b ∷ tail))) d) (h e)
    go false d e h = let no : ⊥ = cc in absurd no

abbrev places_read : List ℕ → Rest
places_read bs = after_exponent (after_digits bs)

places_state : (place : ℕ) (word : List ℕ) → AtPlaces place word → Reads places_read word
places_state place [] e = ends_here places_read (λ rest f. ap after_exponent (digits_stop rest f) ∙ exponent_stop rest f)
places_state place (b ∷ bs) e = go (is_ascii_digit b) refl e (places_state (suc place) bs)
  where
    go : (t : Bool) → is_ascii_digit b ≡ t → then_or (cond t (places_step 48) (mark_step b)) place (λ n. kind_at n (suc place) bs) ≡ words.kind_of (48 ∷ [])
        → (AtPlaces (suc place) bs → Reads places_read bs) → Reads places_read (b ∷ bs)
    go true d e h = one_more places_read places_read b bs (digit_small b d) (λ tail. ap (λ x. after_exponent (cond x (after_digits tail) (b ∷ tail))) d) (h e)
    go false d e h = same_there places_read after_exponent b bs (λ tail. ap (λ x. after_exponent (cond x (after_digits tail) (b ∷ tail))) d) (marked b place bs e)

abbrev point_read : List ℕ → Rest
point_read bs = then_read (after_some_digits bs) after_exponent

point_state : (place : ℕ) (word : List ℕ) → AtPoint place word → Reads point_read word
point_state place [] e = let no : ⊥ = cc in absurd no
point_state place (b ∷ bs) e = go (is_ascii_digit b) refl e (places_state (suc place) bs)
  where
    go : (t : Bool) → is_ascii_digit b ≡ t → then_or (cond t (places_step 48) None) place (λ n. kind_at n (suc place) bs) ≡ words.kind_of (48 ∷ [])
        → (AtPlaces (suc place) bs → Reads places_read bs) → Reads point_read (b ∷ bs)
    go true d e h = one_more point_read places_read b bs (digit_small b d) (λ tail. ap (λ x. then_read (cond x (Ok (after_digits tail)) (Err (b ∷ tail))) after_exponent) d) (h e)
    go false d e h = let no : ⊥ = cc in absurd no

-- behind the whole digits
abbrev behind_whole : List ℕ → Rest
behind_whole bs = then_read (after_fraction bs) after_exponent

pointed : (b place : ℕ) (bs : List ℕ) → then_or (zero_step b) place (λ n. kind_at n (suc place) bs) ≡ words.kind_of (48 ∷ []) → Reads behind_whole (b ∷ bs)
pointed b place bs e = go (b == 46) refl e (point_state (suc place) bs)
  where
    go : (t : Bool) → (b == 46) ≡ t → then_or (cond t (zero_step 46) (mark_step b)) place (λ n. kind_at n (suc place) bs) ≡ words.kind_of (48 ∷ [])
        → (AtPoint (suc place) bs → Reads point_read bs) → Reads behind_whole (b ∷ bs)
    go true d e h = one_more behind_whole point_read b bs (is_small b 46 (omega arith) d) (λ tail. ap (λ x. then_read (cond x (after_some_digits tail) (Ok (b ∷ tail))) after_exponent) d) (h e)
    go false d e h = same_there behind_whole after_exponent b bs (λ tail. ap (λ x. then_read (cond x (after_some_digits tail) (Ok (b ∷ tail))) after_exponent) d) (marked b place bs e)

whole_stop : (rest : List ℕ) → MayFollow rest → behind_whole rest ≡ Ok rest
whole_stop rest f = ap (λ r. then_read r after_exponent) (fraction_stop rest f) ∙ exponent_stop rest f

zero_state : (place : ℕ) (word : List ℕ) → AtAfterZero place word → Reads behind_whole word
zero_state place [] e = ends_here behind_whole whole_stop
zero_state place (b ∷ bs) e = pointed b place bs e

abbrev whole_read : List ℕ → Rest
whole_read bs = behind_whole (after_digits bs)

whole_state : (place : ℕ) (word : List ℕ) → AtWhole place word → Reads whole_read word
whole_state place [] e = ends_here whole_read (λ rest f. ap behind_whole (digits_stop rest f) ∙ whole_stop rest f)
whole_state place (b ∷ bs) e = go (is_ascii_digit b) refl e (whole_state (suc place) bs)
  where
    go : (t : Bool) → is_ascii_digit b ≡ t → then_or (cond t (unsigned_step 49) (zero_step b)) place (λ n. kind_at n (suc place) bs) ≡ words.kind_of (48 ∷ [])
        → (AtWhole (suc place) bs → Reads whole_read bs) → Reads whole_read (b ∷ bs)
    go true d e h = one_more whole_read whole_read b bs (digit_small b d) (λ tail. ap (λ x. behind_whole (cond x (after_digits tail) (b ∷ tail))) d) (h e)
    go false d e h = same_there whole_read behind_whole b bs (λ tail. ap (λ x. behind_whole (cond x (after_digits tail) (b ∷ tail))) d) (pointed b place bs e)

-- ---- infinities and what is no number are no numbers' words ----

infinity_end : (place : ℕ) (word : List ℕ) → AtInfinityN place (110 ∷ 102 ∷ word) → ⊥
infinity_end place [] e = cc
infinity_end place (b ∷ bs) e = cc

infinity_f : (place : ℕ) (word : List ℕ) → AtInfinityN place (110 ∷ word) → ⊥
infinity_f place [] e = cc
infinity_f place (b ∷ bs) e = elim (cases_eq b 102) [
  | inl same ↦ infinity_end place bs (subst (λ x. AtInfinityN place (110 ∷ x ∷ bs)) same e)
  | inr other ↦ let f = rw (ne_eqb b 102 other) at e in cc
]

infinity_n : (place : ℕ) (word : List ℕ) → AtInfinityN place word → ⊥
infinity_n place [] e = cc
infinity_n place (b ∷ bs) e = elim (cases_eq b 110) [
  | inl same ↦ infinity_f place bs (subst (λ x. AtInfinityN place (x ∷ bs)) same e)
  | inr other ↦ let f = rw (ne_eqb b 110 other) at e in cc
]

nan_end : (place : ℕ) (word : List ℕ) → AtNanA place (97 ∷ 110 ∷ word) → ⊥
nan_end place [] e = cc
nan_end place (b ∷ bs) e = cc

nan_n : (place : ℕ) (word : List ℕ) → AtNanA place (97 ∷ word) → ⊥
nan_n place [] e = cc
nan_n place (b ∷ bs) e = elim (cases_eq b 110) [
  | inl same ↦ nan_end place bs (subst (λ x. AtNanA place (97 ∷ x ∷ bs)) same e)
  | inr other ↦ let f = rw (ne_eqb b 110 other) at e in cc
]

nan_a : (place : ℕ) (word : List ℕ) → AtNanA place word → ⊥
nan_a place [] e = cc
nan_a place (b ∷ bs) e = elim (cases_eq b 97) [
  | inl same ↦ nan_n place bs (subst (λ x. AtNanA place (x ∷ bs)) same e)
  | inr other ↦ let f = rw (ne_eqb b 97 other) at e in cc
]

-- ---- a whole word ----

abbrev unsigned_read : List ℕ → Rest
unsigned_read bs = then_read (then_read (after_whole bs) after_fraction) after_exponent

-- it begins with a digit
abbrev Unsigned : ℕ → List ℕ → Type 0
Unsigned b bs = (is_ascii_digit b ≡ true) × Reads unsigned_read (b ∷ bs)

zero_digit : (b : ℕ) → (b == 48) ≡ true → is_ascii_digit b ≡ true
zero_digit b z = grind (arith, nat_tests)

unsigned_state : (place b : ℕ) (bs : List ℕ) → then_or (unsigned_step b) place (λ n. kind_at n (suc place) bs) ≡ words.kind_of (48 ∷ []) → Unsigned b bs
unsigned_state place b bs e =
    go (b == 105) (b == 48) (is_ascii_digit b) refl refl e (infinity_n (suc place) bs) (zero_state (suc place) bs) (whole_state (suc place) bs)
  where
    go : (i z t : Bool) → (b == 48) ≡ z → is_ascii_digit b ≡ t
        → then_or (cond i (unsigned_step 105) (cond z (unsigned_step 48) (cond t (unsigned_step 49) None))) place (λ n. kind_at n (suc place) bs) ≡ words.kind_of (48 ∷ [])
        → (AtInfinityN (suc place) bs → ⊥) → (AtAfterZero (suc place) bs → Reads behind_whole bs) → (AtWhole (suc place) bs → Reads whole_read bs) → Unsigned b bs
    go true z t dz dt e h k l = absurd (h e)
    go false true t dz dt e h k l = (
      zero_digit b dz,
      one_more unsigned_read behind_whole b bs (is_small b 48 (omega arith) dz) (λ tail. ap (λ x. then_read (then_read (cond x (Ok tail) (after_some_digits (b ∷ tail))) after_fraction) after_exponent) dz) (k e),
    )
    go false false true dz dt e h k l = (
      dt,
      one_more unsigned_read whole_read b bs (digit_small b dt)
          (λ tail. ap (λ x. then_read (then_read (cond x (Ok tail) (after_some_digits (b ∷ tail))) after_fraction) after_exponent) dz
          ∙ ap (λ x. then_read (then_read (cond x (Ok (after_digits tail)) (Err (b ∷ tail))) after_fraction) after_exponent) dt) (l e),
    )
    go false false false dz dt e h k l = let no : ⊥ = cc in absurd no

minus_unsigned : (place : ℕ) (word : List ℕ) → AtUnsigned place word → Reads unsigned_read word
minus_unsigned place [] e = let no : ⊥ = cc in absurd no
minus_unsigned place (b ∷ bs) e = (unsigned_state place b bs e).1

either : (s t : Bool) → t ≡ true → (s || t) ≡ true
either true t e = refl
either false t e = e

-- it begins with a minus or a digit
abbrev pub Starts : ℕ → Type 0
Starts b = (b == 45 || is_ascii_digit b) ≡ true

-- a number's word
pub record IsWord (word : List ℕ) : Type 0 where
  pub first : ℕ
  pub others : List ℕ
  pub begins : word ≡ first ∷ others
  pub starts : Starts first
  pub ascii : are_ascii word ≡ true
  pub read : (rest : List ℕ) → MayFollow rest → after_number (word ++ rest) ≡ Ok rest

word_by : (b : ℕ) (bs : List ℕ) → Starts b → Reads after_number (b ∷ bs) → IsWord (b ∷ bs)
word_by b bs s r = record { first = b; others = bs; begins = refl; starts = s; ascii = r.0; read = r.1 }

pub is_word : (word : List ℕ) → words.kind_of word ≡ words.kind_of (48 ∷ []) → IsWord word
unfolding after_number
is_word [] e = let no : ⊥ = cc in absurd no
is_word (b ∷ bs) e = go (b == 45) (b == 110) refl e (minus_unsigned 1 bs) (nan_a 1 bs) (unsigned_state 0 b bs)
  where
    go : (m n : Bool) → (b == 45) ≡ m → then_or (cond m (first_step 45) (cond n (first_step 110) (unsigned_step b))) 0 (λ n. kind_at n 1 bs) ≡ words.kind_of (48 ∷ [])
        → (AtUnsigned 1 bs → Reads unsigned_read bs) → (AtNanA 1 bs → ⊥)
        → (then_or (unsigned_step b) 0 (λ n. kind_at n 1 bs) ≡ words.kind_of (48 ∷ []) → Unsigned b bs) → IsWord (b ∷ bs)
    go true n d e h k l =
        word_by b bs (ap (λ x. x || is_ascii_digit b) d) (one_more after_number unsigned_read b bs (is_small b 45 (omega arith) d) (λ tail. ap (λ x. unsigned_read (cond x tail (b ∷ tail))) d) (h e))
    go false true d e h k l = absurd (k e)
    go false false d e h k l =
        let u = l e in
        word_by b bs (either (b == 45) (is_ascii_digit b) u.0) (same_there after_number unsigned_read b bs (λ tail. ap (λ x. unsigned_read (cond x tail (b ∷ tail))) d) u.1)

-- ---- a word is a value ----

starts_number : (b : ℕ) → Starts b → kind_of b ≡ Some value_kind.Number
starts_number b s =
    let null : (b == 110) ≡ false = grind (arith, nat_tests) in
    let yes : (b == 116) ≡ false = grind (arith, nat_tests) in
    let no : (b == 102) ≡ false = grind (arith, nat_tests) in
    rw (null, yes, no, s) refl

starts_no_blank : (b : ℕ) → Starts b → is_blank b ≡ false
starts_no_blank b s = grind (arith, nat_tests)

starts_no_end : (b : ℕ) → Starts b → (b == 93) ≡ false
starts_no_end b s = grind (arith, nat_tests)

before_rest : (word rest : List ℕ) → before (word ++ rest) rest ≡ word
before_rest word rest = let n : length (word ++ rest) - length rest ≡ length word = simp length-append (omega arith) in ap (λ k. take k (word ++ rest)) n ∙ take_at word rest (length word) refl

pub word_value : (word : List ℕ) → IsWord word → IsValue word (IsNumber word)
word_value word w =
    let whole : (rest : List ℕ) → word ++ rest ≡ w.first ∷ (w.others ++ rest) = λ rest. ap (λ x. x ++ rest) w.begins in
    let read : (rest : List ℕ) → MayFollow rest → after_number (w.first ∷ (w.others ++ rest)) ≡ Ok rest = λ rest f. ap after_number (sym (whole rest)) ∙ w.read rest f in
    record {
      utf8 = ascii_utf8 word w.ascii;
      first = w.first;
      others = w.others;
      begins = w.begins;
      no_blank = starts_no_blank w.first w.starts;
      no_end = starts_no_end w.first w.starts;
      read = λ rest f.
          ap after_value (whole rest) ∙ value_read w.first (w.others ++ rest)
          ∙ ap (λ k. gone_on after_part (begun_by k w.first (w.others ++ rest))) (starts_number w.first w.starts)
          ∙ ap (λ r. gone_on after_part (ended r)) (read rest f);
      stands = λ at rest f. (
        at - length (w.first ∷ (w.others ++ rest)),
        ap (json_at at) (whole rest) ∙ stands_in_steps.values at w.first (w.others ++ rest)
            ∙ ap (λ k. json_by (json_at at) at k w.first (w.others ++ rest)) (starts_number w.first w.starts)
            ∙ ap (λ r. Number (at - length (w.first ∷ (w.others ++ rest))) (before (w.first ∷ (w.others ++ rest)) (left r))) (read rest f)
            ∙ ap (λ x. Number (at - length (w.first ∷ (w.others ++ rest))) (before x rest)) (sym (whole rest))
            ∙ ap (Number (at - length (w.first ∷ (w.others ++ rest)))) (before_rest word rest),
      );
    }
