-- Decimal digits, with a sign or without, and the decimals of floats are words of numbers.
use Rattle.std.proofs.Common.{◌≡◌, ℕ, zero, suc, ◌-◌, ◌*◌, ◌^◌, ◌<◌, ◌≤◌, ◌==◌, ⊎_elim, nat_lt, true, false, List, [], ◌∷◌, length, get_or, decimal, refl, ap, subst, ◌∙◌, arith, lit<}
use Rattle.std.proofs.Math.Nat.{pow-le-pow_right}
use Rattle.std.proofs.lemmas.Bool.{cases_lt, ne_eqb}
use Rattle.std.proofs.lemmas.Bool.Decides.{nat_tests}
use Rattle.std.proofs.lemmas.Fmt.{first_decimal}
use Rattle.std.specs.Char.{is_ascii_digit}
use Rattle.std.specs.Fmt.{digits, signed_decimal}
use lib.IntN.{ℤ, pos, negsuc}
use Rattle.capnp_floats.specs.Floats.{IsDecimalOf, interval_of, significand}
use Rattle.capnp_floats.specs.Layout.{is_negative, layout}
use Rattle.capnp_floats.specs.Shortest.{Lies, in_units, tens, tenths}
use Rattle.capnp_floats.specs.Words as words
use Rattle.capnp_floats.specs.Words.{kind_at, then_or, unsigned_step, first_step}
use Rattle.capnp_floats.specs.declared.width.Width.{Width}
use Rattle.capnp_floats.specs.declared.width.Width.TheVariants.{Float64}
use Rattle.capnp_floats.proofs.Layouts.{AreDigitsOf, ReadsAs, decimal_digits_of, layout_reads}
use Rattle.capnp_floats.proofs.Scanning.{Each, ends_all, whole_stays}
use Rattle.capnp_floats.proofs.Sizes.{IsSmall, shortest_is_small}
use Rattle.capnp_schema.specs.Types.{SchemaType, VoidType, BoolType, IntType, UIntType, EnumType, TextType, DataType, StructType, ListType, AnyPointerType}
use Rattle.capnp_json.specs.Pieces.{IsNumberOf}
use Rattle.capnp_json_laws.specs.Fitting.{HoldsNumber}
use Rattle.capnp_json_laws.proofs.Plain.{are_plain, both_true, digit_plain}
use Rattle.capnp_json_laws.proofs.Tokens.{IsWord, is_word}

-- ---- decimal digits ----

first_whole : (c : ℕ) → 48 < c → is_ascii_digit c ≡ true → first_step c ≡ unsigned_step 49
first_whole c h d =
    let minus : (c == 45) ≡ false = ne_eqb c 45 (λ e. omega arith) in
    let nan : (c == 110) ≡ false = grind (arith, nat_tests) in
    let infinity : (c == 105) ≡ false = grind (arith, nat_tests) in
    let zero : (c == 48) ≡ false = ne_eqb c 48 (λ e. omega arith) in
    rw (minus, nan, infinity, zero, d) refl

unsigned_whole : (c : ℕ) → 48 < c → is_ascii_digit c ≡ true → unsigned_step c ≡ unsigned_step 49
unsigned_whole c h d =
    let infinity : (c == 105) ≡ false = grind (arith, nat_tests) in
    let zero : (c == 48) ≡ false = ne_eqb c 48 (λ e. omega arith) in
    rw (infinity, zero, d) refl

-- digits of which the first is no zero, as a word behind nothing and behind a minus
abbrev pub AreWord : List ℕ → Type 0
AreWord ds = (words.kind_of ds ≡ words.kind_of (48 ∷ [])) × (words.kind_of (45 ∷ ds) ≡ words.kind_of (48 ∷ []))

digits_word : (ds : List ℕ) → Each is_ascii_digit ds → 0 < length ds → 48 < get_or ds 0 0 → AreWord ds
digits_word [] each some first = absurd (omega arith)
digits_word (c ∷ cs) each some first = (
  ap (λ o. then_or o 0 (λ n. kind_at n 1 cs)) (first_whole c first each.0) ∙ ends_all _ cs whole_stays each.1 (λ place. refl) 1,
  ap (λ o. then_or o 1 (λ n. kind_at n 2 cs)) (unsigned_whole c first each.0) ∙ ends_all _ cs whole_stays each.1 (λ place. refl) 2,
)

zero_word : AreWord (decimal 0)
unfolding digits
zero_word = (refl, refl)

decimal_word : (n : ℕ) → n < 2 ^ 64 → AreWord (decimal n)
decimal_word zero h = zero_word
decimal_word (suc n) h =
    let d : AreDigitsOf (suc n) (decimal (suc n)) = decimal_digits_of (suc n) h in
    digits_word (decimal (suc n)) d.each d.some (first_decimal (suc n) (omega arith) h)

pub natural_word : (n : ℕ) → n < 2 ^ 64 → IsWord (decimal n)
natural_word n h = is_word (decimal n) (decimal_word n h).0

-- its size is one of 64 bits
abbrev pub IsSmallInteger : ℤ → Type 0
IsSmallInteger (pos n) = n < 2 ^ 64
IsSmallInteger (negsuc n) = suc n < 2 ^ 64

pub integer_word : (n : ℤ) → IsSmallInteger n → IsWord (signed_decimal n)
integer_word (pos n) h = natural_word n h
integer_word (negsuc n) h = is_word (45 ∷ decimal (suc n)) (decimal_word (suc n) h).1

digits_plain : (ds : List ℕ) → Each is_ascii_digit ds → are_plain ds ≡ true
digits_plain [] each = refl
digits_plain (c ∷ cs) each = both_true _ (are_plain cs) (digit_plain c each.0) (digits_plain cs each.1)

pub integer_plain : (n : ℤ) → IsSmallInteger n → are_plain (signed_decimal n) ≡ true
integer_plain (pos n) h = digits_plain (decimal n) (decimal_digits_of n h).each
integer_plain (negsuc n) h = digits_plain (decimal (suc n)) (decimal_digits_of (suc n) h).each

-- ---- integers of a type ----

few_bits : (bits n k : ℕ) → nat_lt n (2 ^ bits) ≡ true → bits ≤ k → n < 2 ^ k
few_bits bits n k h l =
    let less : n < 2 ^ bits = grind (arith, nat_tests) in
    let more : 2 ^ bits ≤ 2 ^ k = pow-le-pow_right {n = 2} (lit< tt) {i = bits} {j = k} l in omega arith

pub holds_small : (t : SchemaType) (n : ℤ) → HoldsNumber t n → IsSmallInteger n
holds_small (IntType bytes) (pos n) h = let l : bytes ≤ 8 = h.0 in few_bits (8 * bytes - 1) n 64 h.1 (omega arith)
holds_small (IntType bytes) (negsuc n) h = let l : bytes ≤ 8 = h.0 in let m : n < 2 ^ 63 = few_bits (8 * bytes - 1) n 63 h.1 (omega arith) in omega arith
holds_small (UIntType bytes) (pos n) h = let l : bytes ≤ 8 = h.0 in few_bits (8 * bytes) n 64 h.1 (omega arith)
holds_small (UIntType bytes) (negsuc n) h = let e : false ≡ true = h.1 in let no : ⊥ = cc in absurd no
holds_small VoidType n h = absurd h
holds_small BoolType n h = absurd h
holds_small (EnumType number) n h = absurd h
holds_small TextType n h = absurd h
holds_small DataType n h = absurd h
holds_small (StructType number generic) n h = absurd h
holds_small (ListType element) n h = absurd h
holds_small AnyPointerType n h = absurd h

-- ---- finite floats ----

small_of : (w : Width) (bits d : ℕ) (k : ℤ) → IsDecimalOf w bits d k → IsSmall d k
small_of w bits d k h = ⊎_elim
    (λ (l : 0 < significand w bits). shortest_is_small w bits d k (h.shortest l))
    (λ (l : significand w bits ≤ 0).
    let z = h.zero_is (let e : significand w bits ≡ 0 = omega arith in e) in
    let f : d ≡ 0 = z.0 in
    record {
      digits = omega arith;
      tens = let e : tens k ≡ 0 = ap tens z.1 in omega arith;
      tenths = let e : tenths k ≡ 0 = ap tenths z.1 in omega arith;
    })
    (cases_lt 0 (significand w bits))

zero_power : (w : Width) (bits d : ℕ) (k : ℤ) → IsDecimalOf w bits d k → d ≡ 0 → k ≡ pos 0
zero_power w bits d k h z = ⊎_elim
    (λ (l : 0 < significand w bits).
    let r = h.shortest l in
    absurd (r.coarsest 0 (subst (Lies (in_units (tens k) (tenths k) (interval_of w bits))) (let e : d ≡ 10 * 0 = omega arith in e) r.lies)))
    (λ (l : significand w bits ≤ 0). (h.zero_is (let e : significand w bits ≡ 0 = omega arith in e)).1)
    (cases_lt 0 (significand w bits))

-- the text of a float's decimal, as 64 bits are laid out, is the word of a number of its value
pub number_reads : (w : Width) (bits d : ℕ) (k : ℤ) → IsDecimalOf w bits d k → ReadsAs d (tens k) (tenths k) (layout Float64 d k) (is_negative w bits)
number_reads w bits d k h =
    let small = small_of w bits d k h in
    layout_reads Float64 d k (is_negative w bits) small.digits small.tens small.tenths (zero_power w bits d k h)

pub float_word : (w : Width) (bits : ℕ) (text : List ℕ) → IsNumberOf w bits text → IsWord text
float_word w bits text h = is_word text (ap words.kind_of h.3 ∙ (number_reads w bits h.0 h.1 h.2).number)
