-- What is printed of a value that holds no others is one leaf.
use Rattle.std.proofs.Common.{decimal, flat_map, ◌≡◌, ℕ, zero, suc, ◌+◌, ◌-◌, ◌/◌, ◌%◌, ◌^◌, ◌<◌, ◌≤◌, ◌==◌, ◌&&◌, not, nat_lt, List, [], ◌∷◌, ◌++◌, drop, get_or, length, take, Bool, true, false, None, Ok, refl, ap, sym, ◌∙◌, append_assoc, append-nil, length-append, subst, arith}
use Rattle.std.specs.List.{AllByRecursion, list_all}
use Rattle.std.specs.Char.{encode_utf8, is_ascii}
use Rattle.std.specs.Char.Escape.{hex_digit_at}
use Rattle.std.specs.Fmt.{debug_escape, digits}
use Rattle.std.proofs.lemmas.Bool.Decides.{nat_tests}
use Rattle.std.proofs.lemmas.Fmt.{decimal_by_steps, decimal_nonempty}
use Rattle.capnp_json_text.specs.Readings.{after_blanks, is_blank}
use Rattle.capnp_value_texts.specs.Errors.{read_then}
use Rattle.capnp_value_texts.specs.Laws.{is_leaf_byte}
use Rattle.capnp_value_texts.specs.Lengths.{ends_leaf, is_end, leaf_length, next_within}
use Rattle.capnp_value_texts.specs.Lines.{IsLeafText}
use Rattle.capnp_value_texts.specs.Written.{Leaf, at_end, bracket_of, leaf_at, leaf_of, written, written_within}
use Rattle.capnp_value_texts.specs.declared.lengths.Within.{Within}
use Rattle.capnp_value_texts.specs.declared.lengths.Within.TheVariants.{Plain, Quoted, Escaped}
use Rattle.capnp_value_texts.proofs.Grammar.{at_leaf}

-- ---- rows of bytes in a leaf ----

-- none of the bytes ends the leaf, from where the first stands to what stands behind the last
abbrev goes : Within → List ℕ → Within → Bool
goes Plain [] Plain = true
goes Quoted [] Quoted = true
goes Escaped [] Escaped = true
goes a [] b = false
goes a (x ∷ bs) b = not (ends_leaf a x) && goes (next_within a x) bs b

pub Walks : Within → List ℕ → Within → Type 0
Walks a bs b = (rest : List ℕ) → leaf_length a (bs ++ rest) ≡ length bs + leaf_length b rest

both : (x y : Bool) → x && y ≡ true → (x ≡ true) × (y ≡ true)
both true true e = (refl, refl)
both true false e = (refl, e)
both false y e = let no : ⊥ = cc in absurd no

not_true : (x : Bool) → not x ≡ true → x ≡ false
not_true true e = let no : ⊥ = cc in absurd no
not_true false e = refl

nothing_walks : (a : Within) → Walks a [] a
unfolding Walks
nothing_walks a rest = omega arith

step_walks : (a : Within) (x : ℕ) (bs : List ℕ) (b : Within) → ends_leaf a x ≡ false → Walks (next_within a x) bs b → Walks a (x ∷ bs) b
unfolding Walks
step_walks a x bs b e h rest = rw (e, h rest) (omega arith)

joined : (a b c : Within) (xs ys : List ℕ) → Walks a xs b → Walks b ys c → Walks a (xs ++ ys) c
unfolding Walks
joined a b c xs ys h k rest =
    let places : length (xs ++ ys) ≡ length xs + length ys = length-append xs ys in
    rw append_assoc (h (ys ++ rest) ∙ omega (arith, k rest, places))

goes_walks : (bs : List ℕ) (a b : Within) → goes a bs b ≡ true → Walks a bs b
goes_walks [] Plain Plain e = nothing_walks Plain
goes_walks [] Quoted Quoted e = nothing_walks Quoted
goes_walks [] Escaped Escaped e = nothing_walks Escaped
goes_walks [] Plain Quoted e = let no : ⊥ = cc in absurd no
goes_walks [] Plain Escaped e = let no : ⊥ = cc in absurd no
goes_walks [] Quoted Plain e = let no : ⊥ = cc in absurd no
goes_walks [] Quoted Escaped e = let no : ⊥ = cc in absurd no
goes_walks [] Escaped Plain e = let no : ⊥ = cc in absurd no
goes_walks [] Escaped Quoted e = let no : ⊥ = cc in absurd no
goes_walks (x ∷ bs) a b e =
    let s = both (not (ends_leaf a x)) (goes (next_within a x) bs b) e in
    step_walks a x bs b (not_true (ends_leaf a x) s.0) (goes_walks bs (next_within a x) b s.1)

-- ---- bytes outside of quotes ----

record StandsPlain (b : ℕ) : Type 0 where
  ends : is_end b ≡ false
  quote : (b == 34) ≡ false
  round : (b == 40) ≡ false
  square : (b == 91) ≡ false
  opaque : (b == 60) ≡ false

leaf_byte : (b : ℕ) → is_leaf_byte b ≡ true → StandsPlain b
leaf_byte b e = record { ends = grind (arith, nat_tests); quote = grind (arith, nat_tests); round = grind (arith, nat_tests); square = grind (arith, nat_tests); opaque = grind (arith, nat_tests) }

plain_next : (b : ℕ) → (b == 34) ≡ false → next_within Plain b ≡ Plain
plain_next b e = rw e refl

pub plain_walks : (bs : List ℕ) → list_all is_leaf_byte bs ≡ true → Walks Plain bs Plain
plain_walks [] e = nothing_walks Plain
plain_walks (b ∷ bs) e =
    let s = both (is_leaf_byte b) (list_all is_leaf_byte bs) e in
    let at = leaf_byte b s.0 in
    step_walks Plain b bs Plain at.ends (subst (λ (w : Within). Walks w bs Plain) (sym (plain_next b at.quote)) (plain_walks bs s.1))

-- ---- a leaf alone ----

-- it goes on to its end, and its first byte is no blank and no bracket
pub record StandsAlone (bs : List ℕ) : Type 0 where
  pub some : 0 < length bs
  pub first : is_blank (get_or bs 0 0) ≡ false
  pub opens : bracket_of (get_or bs 0 0) ≡ None
  pub opaque : (get_or bs 0 0 == 60) ≡ false
  pub walks : Walks Plain bs Plain

unblank : (b : ℕ) → is_end b ≡ false → is_blank b ≡ false
unblank b e = grind (arith, nat_tests)

no_bracket : (b : ℕ) → (b == 40) ≡ false → (b == 91) ≡ false → bracket_of b ≡ None
no_bracket b e f = rw (e, f) refl

pub begun_plain : (b : ℕ) (bs : List ℕ) → is_leaf_byte b ≡ true → Walks Plain (b ∷ bs) Plain → StandsAlone (b ∷ bs)
begun_plain b bs e w = let at = leaf_byte b e in record { some = omega arith; first = unblank b at.ends; opens = no_bracket b at.round at.square; opaque = at.opaque; walks = w }

pub plain_stands : (bs : List ℕ) → 0 < length bs → list_all is_leaf_byte bs ≡ true → StandsAlone bs
plain_stands [] h e = absurd (omega arith)
plain_stands (b ∷ bs) h e = begun_plain b bs (both (is_leaf_byte b) (list_all is_leaf_byte bs) e).0 (plain_walks (b ∷ bs) e)

take_whole : (n : ℕ) (xs : List ℕ) → length xs ≤ n → take n xs ≡ xs
take_whole zero [] h = refl
take_whole zero (x ∷ xs) h = absurd (omega (arith, h))
take_whole (suc n) [] h = refl
take_whole (suc n) (x ∷ xs) h = ap (λ ys. x ∷ ys) (take_whole n xs (omega (arith, h)))

drop_whole : (n : ℕ) (xs : List ℕ) → length xs ≤ n → drop n xs ≡ []
drop_whole zero [] h = refl
drop_whole zero (x ∷ xs) h = absurd (omega (arith, h))
drop_whole (suc n) [] h = refl
drop_whole (suc n) (x ∷ xs) h = drop_whole n xs (omega (arith, h))

whole_length : (bs : List ℕ) → Walks Plain bs Plain → leaf_length Plain bs ≡ length bs
unfolding Walks
whole_length bs w = sym (ap (leaf_length Plain) (append-nil bs)) ∙ (w [] ∙ omega arith)

leaf_whole : (place n : ℕ) (bs : List ℕ) → 0 < n → n ≡ length bs → leaf_of place n bs ≡ Ok (Leaf place bs, [])
leaf_whole place n bs h e =
    let some : (n == 0) ≡ false = grind (arith, nat_tests) in
    rw (some, take_whole n bs (omega (arith, e)), drop_whole n bs (omega (arith, e))) refl

no_place : (n : ℕ) → n - n ≡ 0
no_place n = omega arith

leaf_is : (bs : List ℕ) → StandsAlone bs → leaf_at (length bs) bs ≡ Ok (Leaf 0 bs, [])
leaf_is [] s = absurd (omega (arith, s.some))
leaf_is (b ∷ bs) s =
    rw s.opaque (leaf_whole (length (b ∷ bs) - length (b ∷ bs)) (leaf_length Plain (b ∷ bs)) (b ∷ bs) (omega (arith, whole_length (b ∷ bs) s.walks)) (whole_length (b ∷ bs) s.walks)
    ∙ ap (λ n. Ok (Leaf n (b ∷ bs), [])) (no_place (length (b ∷ bs))))

blanks_none : (bs : List ℕ) → is_blank (get_or bs 0 0) ≡ false → after_blanks bs ≡ bs
blanks_none [] e = refl
blanks_none (b ∷ bs) e = rw e refl

pub leaf_alone : (bs : List ℕ) → StandsAlone bs → written bs ≡ Ok (Leaf 0 bs)
leaf_alone bs s =
    ap (λ xs. read_then (written_within 64 (length bs) xs) (λ v. at_end (length bs) v.0 (after_blanks v.1))) (blanks_none bs s.first)
    ∙ ap (λ r. read_then r (λ v. at_end (length bs) v.0 (after_blanks v.1))) (at_leaf 64 (length bs) bs (omega (arith, s.some)) s.opens ∙ leaf_is bs s)

-- ---- a leaf before what follows ----

no_end : (b : ℕ) (bs : List ℕ) (e : Bool) → e ≡ is_end b → leaf_length Plain (b ∷ bs) ≡ length (b ∷ bs) → is_end b ≡ false
no_end b bs false e n = sym e
no_end b bs true e n = let none : leaf_length Plain (b ∷ bs) ≡ 0 = rw (sym e) refl in absurd (omega (arith, none, n))

first_stands : (bs : List ℕ) → 0 < length bs → leaf_length Plain bs ≡ length bs → is_end (get_or bs 0 0) ≡ false
first_stands [] h n = absurd (omega arith)
first_stands (b ∷ bs) h n = no_end b bs (is_end b) refl n

pub leaf_text : (bs : List ℕ) → StandsAlone bs → IsLeafText bs
unfolding Walks
leaf_text bs s = record { some = s.some; begins = first_stands bs s.some (whole_length bs s.walks); opens = s.opens; opaque = s.opaque; goes_on = s.walks }

-- ---- numbers ----

LeafBytes : ℕ → List ℕ → Type 0
LeafBytes n ds = list_all is_leaf_byte ds ≡ true

digit_byte : (d : ℕ) → d < 10 → is_leaf_byte (48 + d) ≡ true
digit_byte d h = grind (arith, nat_tests)

all_joined : (xs ys : List ℕ) → list_all is_leaf_byte xs ≡ true → list_all is_leaf_byte ys ≡ true → list_all is_leaf_byte (xs ++ ys) ≡ true
all_joined [] ys e f = f
all_joined (x ∷ xs) ys e f = let s = both (is_leaf_byte x) (list_all is_leaf_byte xs) e in rw (s.0, all_joined xs ys s.1 f) refl

one_digit : (n : ℕ) → n < 10 → LeafBytes n ((48 + n) ∷ [])
unfolding LeafBytes
one_digit n h = rw (digit_byte n h) refl

more_digits : (n : ℕ) (ds : List ℕ) → 10 ≤ n → LeafBytes (n / 10) ds → LeafBytes n (ds ++ ((48 + n % 10) ∷ []))
unfolding LeafBytes
more_digits n ds h before = all_joined ds ((48 + n % 10) ∷ []) before (rw (digit_byte (n % 10) (omega arith)) refl)

digits_plain : (n : ℕ) → n < 2 ^ 64 → list_all is_leaf_byte (decimal n) ≡ true
unfolding LeafBytes
digits_plain n h = decimal_by_steps LeafBytes one_digit more_digits n h

pub number_stands : (n : ℕ) → n < 2 ^ 64 → StandsAlone (decimal n)
number_stands n h = plain_stands (decimal n) (decimal_nonempty n h) (digits_plain n h)

pub negative_stands : (n : ℕ) → n < 2 ^ 64 → StandsAlone (45 ∷ decimal n)
negative_stands n h = plain_stands (45 ∷ decimal n) (omega arith) (digits_plain n h)

-- ---- texts and data ----

abbrev all_below : ℕ → (ℕ → Bool) → Bool
all_below zero p = true
all_below (suc n) p = p n && all_below n p

at_table : (n : ℕ) (p : ℕ → Bool) (c : ℕ) → p n ≡ true → (c < n → p c ≡ true) → c < suc n → (t : Bool) → nat_lt c n ≡ t → p c ≡ true
at_table n p c here below h true f = below (grind (arith, nat_tests))
at_table n p c here below h false f = let same : n ≡ c = grind (arith, nat_tests) in subst (λ (x : ℕ). p x ≡ true) same here

in_table : (n : ℕ) (p : ℕ → Bool) → all_below n p ≡ true → (c : ℕ) → c < n → p c ≡ true
in_table zero p e c h = absurd (omega arith)
in_table (suc n) p e c h =
    let b = both (p n) (all_below n p) e in
    at_table n p c b.0 (λ q. in_table n p b.1 c q) h (nat_lt c n) refl

abbrev escape_goes : ℕ → Bool
escape_goes c = goes Quoted (debug_escape 34 c) Quoted

escapes : all_below 128 escape_goes ≡ true
unfolding debug_escape digits encode_utf8
escapes = refl

abbrev pair : ℕ → List ℕ
pair b = hex_digit_at 16 b ∷ hex_digit_at 1 b ∷ []

abbrev pair_goes : ℕ → Bool
pair_goes b = goes Quoted (pair b) Quoted

pairs : all_below 256 pair_goes ≡ true
pairs = refl

escapes_walk : (bs : List ℕ) → AllByRecursion (λ b. is_ascii b ≡ true) bs → Walks Quoted (flat_map (debug_escape 34) bs) Quoted
escapes_walk [] h = nothing_walks Quoted
escapes_walk (b ∷ bs) h =
    let small : b < 128 = grind (arith, nat_tests, h.0) in
    joined Quoted Quoted Quoted (debug_escape 34 b) (flat_map (debug_escape 34) bs) (goes_walks (debug_escape 34 b) Quoted Quoted (in_table 128 escape_goes escapes b small)) (escapes_walk bs h.1)

pairs_walk : (bs : List ℕ) → AllByRecursion (λ b. b < 256) bs → Walks Quoted (flat_map pair bs) Quoted
pairs_walk [] h = nothing_walks Quoted
pairs_walk (b ∷ bs) h = joined Quoted Quoted Quoted (pair b) (flat_map pair bs) (goes_walks (pair b) Quoted Quoted (in_table 256 pair_goes pairs b h.0)) (pairs_walk bs h.1)

closed : (bs : List ℕ) → Walks Quoted bs Quoted → Walks Quoted (bs ++ 34 ∷ []) Plain
closed bs w = joined Quoted Quoted Plain bs (34 ∷ []) w (goes_walks (34 ∷ []) Quoted Plain refl)

pub text_stands : (bs : List ℕ) → AllByRecursion (λ b. is_ascii b ≡ true) bs → StandsAlone (34 ∷ (flat_map (debug_escape 34) bs ++ 34 ∷ []))
text_stands bs h = record {
  some = omega arith;
  first = refl;
  opens = refl;
  opaque = refl;
  walks = step_walks Plain 34 (flat_map (debug_escape 34) bs ++ 34 ∷ []) Plain refl (closed (flat_map (debug_escape 34) bs) (escapes_walk bs h));
}

pub data_stands : (bs : List ℕ) → AllByRecursion (λ b. b < 256) bs → StandsAlone (48 ∷ 120 ∷ 34 ∷ (flat_map pair bs ++ 34 ∷ []))
data_stands bs h = record {
  some = omega arith;
  first = refl;
  opens = refl;
  opaque = refl;
  walks = step_walks Plain 48 (120 ∷ 34 ∷ (flat_map pair bs ++ 34 ∷ [])) Plain refl (step_walks Plain 120 (34 ∷ (flat_map pair bs ++ 34 ∷ [])) Plain refl
      (step_walks Plain 34 (flat_map pair bs ++ 34 ∷ []) Plain refl (closed (flat_map pair bs) (pairs_walk bs h))));
}
