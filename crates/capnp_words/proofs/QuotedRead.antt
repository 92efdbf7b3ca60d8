-- What is printed in quotes is read as the bytes that were printed.
use Rattle.std.proofs.Common.{Option, ◌==◌, ◌&&◌, nat_lt, flat_map, ◌≡◌, ℕ, zero, suc, ◌+◌, ◌<◌, List, [], ◌∷◌, ◌++◌, length, Bool, true, false, Some, None, Ok, Err, refl, ap, ◌∙◌, append_assoc, append-nil, length-append, add-zero, subst, arith}
use Rattle.std.specs.List.{AllByRecursion}
use Rattle.std.specs.Char.{encode_utf8, is_ascii}
use Rattle.std.specs.Char.Escape.{hex_digit_at}
use Rattle.std.specs.Fmt.{debug_escape, digits}
use Rattle.std.proofs.lemmas.Bool.Decides.{nat_tests}
use Rattle.capnp_records.specs.Text.{data_text}
use Rattle.capnp_words.specs.Reads.{Read, read_as}
use Rattle.capnp_words.specs.Quoted.{ByteStep, data_at, piece_bytes, quoted_at, step_of, text_word_at}
use Rattle.capnp_words.specs.declared.quoted.Expected.{Expected}
use Rattle.capnp_words.specs.declared.quoted.Expected.TheVariants as expected
use Rattle.capnp_words.specs.declared.quoted.Piece.{Piece}
use Rattle.capnp_words.proofs.ReadSteps.{read_as_joined}

-- bytes that lead from one state to another, and what they stand for
Leads : Expected → List ℕ → List ℕ → Expected → Type 0
Leads from bs out to = (place : ℕ) (rest : List ℕ) → quoted_at from place (bs ++ rest) ≡ read_as (λ r. out ++ r) (quoted_at to (place + length bs) rest)

leads_nowhere : (s : Expected) → Leads s [] [] s
unfolding Leads
leads_nowhere s place rest = rw add-zero (same (quoted_at s place rest))
  where
    same : (r : Read (List ℕ)) → r ≡ read_as (λ x. [] ++ x) r
    same (Ok x) = refl
    same (Err p) = refl

joined : (a b c : Expected) (xs ys out more : List ℕ) → Leads a xs out b → Leads b ys more c → Leads a (xs ++ ys) (out ++ more) c
unfolding Leads
joined a b c xs ys out more h k place rest =
    let first : quoted_at a place (xs ++ (ys ++ rest)) ≡ read_as (λ r. out ++ r) (quoted_at b (place + length xs) (ys ++ rest)) = h place (ys ++ rest) in
    let second : quoted_at b (place + length xs) (ys ++ rest) ≡ read_as (λ r. more ++ r) (quoted_at c (place + length xs + length ys) rest) = k (place + length xs) rest in
    let places : place + length (xs ++ ys) ≡ place + length xs + length ys = omega (arith, length-append xs ys) in
    rw (append_assoc, places) (first ∙ ap (read_as (λ r. out ++ r)) second ∙ read_as_joined out more (quoted_at c (place + length xs + length ys) rest))

-- the bytes and the state behind them, by computation
abbrev Run : Type 0
Run = Option (List ℕ × Expected)

abbrev onto : List ℕ → Run → Run
onto bs None = None
onto bs (Some r) = Some (bs ++ r.0, r.1)

abbrev run_then : ByteStep → (Piece × Expected → Run) → Run
run_then None f = None
run_then (Some s) f = f s

abbrev run : Expected → List ℕ → Run
run s [] = Some ([], s)
run s (b ∷ bs) = run_then (step_of s b) (λ t. onto (piece_bytes t.0) (run t.1 bs))

-- a step, and what is behind it
step_leads : (a : Expected) (x : ℕ) (bs : List ℕ) (s : Piece × Expected) (out : List ℕ) (b : Expected) → step_of a x ≡ Some s → Leads s.1 bs out b → Leads a (x ∷ bs) (piece_bytes s.0 ++ out) b
unfolding Leads
step_leads a x bs s out b f h place rest =
    let places : place + length (x ∷ bs) ≡ suc place + length bs = omega arith in
    rw (f, places, h (suc place) rest) (read_as_joined (piece_bytes s.0) out (quoted_at b (suc place + length bs) rest))

by_run : (a : Expected) (x : ℕ) (bs : List ℕ) (r : List ℕ × Expected) (s : Piece × Expected) → step_of a x ≡ Some s
    → ((q : List ℕ × Expected) → run s.1 bs ≡ Some q → Leads s.1 bs q.0 q.1)
    → (o : Run) → run s.1 bs ≡ o → onto (piece_bytes s.0) o ≡ Some r → Leads a (x ∷ bs) r.0 r.1
by_run a x bs r s f rest None g h = let no : ⊥ = cc in absurd no
by_run a x bs r s f rest (Some q) g h =
    let P : List ℕ × Expected → Type 0 = λ p. Leads a (x ∷ bs) p.0 p.1 in
    let same : (piece_bytes s.0 ++ q.0, q.1) ≡ r = cc in
    subst P same (step_leads a x bs s q.0 q.1 f (rest q g))

by_step : (a : Expected) (x : ℕ) (bs : List ℕ) (r : List ℕ × Expected)
    → ((s : Expected) (q : List ℕ × Expected) → run s bs ≡ Some q → Leads s bs q.0 q.1)
    → (t : ByteStep) → step_of a x ≡ t → run_then t (λ t. onto (piece_bytes t.0) (run t.1 bs)) ≡ Some r → Leads a (x ∷ bs) r.0 r.1
by_step a x bs r rest None f h = let no : ⊥ = cc in absurd no
by_step a x bs r rest (Some s) f h = by_run a x bs r s f (rest s.1) (run s.1 bs) refl h

run_leads : (bs : List ℕ) (a : Expected) (r : List ℕ × Expected) → run a bs ≡ Some r → Leads a bs r.0 r.1
run_leads [] a r e =
    let P : List ℕ × Expected → Type 0 = λ q. Leads a [] q.0 q.1 in
    let same : ([], a) ≡ r = cc in
    subst P same (leads_nowhere a)
run_leads (x ∷ bs) a r e = by_step a x bs r (run_leads bs) (step_of a x) refl e

-- ---- the tables of all characters below 128, and of all bytes ----

abbrev all_below : ℕ → (ℕ → Bool) → Bool
all_below zero p = true
all_below (suc n) p = p n && all_below n p

both : (x y : Bool) → x && y ≡ true → (x ≡ true) × (y ≡ true)
both true true e = (refl, refl)
both true false e = (refl, e)
both false y e = let no : ⊥ = cc in absurd no

at_table : (n : ℕ) (p : ℕ → Bool) (c : ℕ) → p n ≡ true → (c < n → p c ≡ true) → c < suc n → (t : Bool) → nat_lt c n ≡ t → p c ≡ true
at_table n p c here below h true f = below (grind (arith, nat_tests))
at_table n p c here below h false f = let same : n ≡ c = grind (arith, nat_tests) in subst (λ (x : ℕ). p x ≡ true) same here

in_table : (n : ℕ) (p : ℕ → Bool) → all_below n p ≡ true → (c : ℕ) → c < n → p c ≡ true
in_table zero p e c h = absurd (omega arith)
in_table (suc n) p e c h =
    let b = both (p n) (all_below n p) e in
    at_table n p c b.0 (λ q. in_table n p b.1 c q) h (nat_lt c n) refl

abbrev is_one : ℕ → List ℕ → Bool
is_one c [] = false
is_one c (o ∷ []) = o == c
is_one c (o ∷ p ∷ ps) = false

one_is : (c : ℕ) (bs : List ℕ) → is_one c bs ≡ true → bs ≡ c ∷ []
one_is c [] e = let no : ⊥ = cc in absurd no
one_is c (o ∷ []) e = let same : o ≡ c = grind (arith, nat_tests) in ap (λ x. x ∷ []) same
one_is c (o ∷ p ∷ ps) e = let no : ⊥ = cc in absurd no

abbrev is_alone : (Expected → Bool) → ℕ → Run → Bool
is_alone is c None = false
is_alone is c (Some r) = is_one c r.0 && is r.1

alone : (is : Expected → Bool) (target : Expected) → ((s : Expected) → is s ≡ true → s ≡ target) → (c : ℕ) (r : Run) → is_alone is c r ≡ true → r ≡ Some (c ∷ [], target)
alone is target only c None e = let no : ⊥ = cc in absurd no
alone is target only c (Some r) e =
    let b = both (is_one c r.0) (is r.1) e in
    let first : r.0 ≡ c ∷ [] = one_is c r.0 b.0 in
    let second : r.1 ≡ target = only r.1 b.1 in
    λ i. Some (first i, second i)

abbrev is_character : Expected → Bool
is_character expected.Character = true
is_character _ = false

character_only : (s : Expected) → is_character s ≡ true → s ≡ expected.Character
character_only expected.Character e = refl
character_only _ e = let no : ⊥ = cc in absurd no

abbrev is_high : Expected → Bool
is_high expected.HighDigit = true
is_high _ = false

high_only : (s : Expected) → is_high s ≡ true → s ≡ expected.HighDigit
high_only expected.HighDigit e = refl
high_only _ e = let no : ⊥ = cc in absurd no

abbrev is_escape_read : ℕ → Bool
is_escape_read c = is_alone is_character c (run expected.Character (debug_escape 34 c))

escapes : all_below 128 is_escape_read ≡ true
unfolding debug_escape digits encode_utf8
escapes = refl

abbrev pair : ℕ → List ℕ
pair b = hex_digit_at 16 b ∷ hex_digit_at 1 b ∷ []

abbrev is_pair_read : ℕ → Bool
is_pair_read b = is_alone is_high b (run expected.HighDigit (pair b))

pairs : all_below 256 is_pair_read ≡ true
unfolding encode_utf8
pairs = refl

escape_leads : (c : ℕ) → c < 128 → Leads expected.Character (debug_escape 34 c) (c ∷ []) expected.Character
escape_leads c h = run_leads (debug_escape 34 c) expected.Character (c ∷ [], expected.Character)
    (alone is_character expected.Character character_only c (run expected.Character (debug_escape 34 c)) (in_table 128 is_escape_read escapes c h))

pair_leads : (b : ℕ) → b < 256 → Leads expected.HighDigit (pair b) (b ∷ []) expected.HighDigit
pair_leads b h = run_leads (pair b) expected.HighDigit (b ∷ [], expected.HighDigit)
    (alone is_high expected.HighDigit high_only b (run expected.HighDigit (pair b)) (in_table 256 is_pair_read pairs b h))

-- ---- whole texts, and whole data ----

text_leads : (bs : List ℕ) → AllByRecursion (λ b. is_ascii b ≡ true) bs → Leads expected.Character (flat_map (debug_escape 34) bs) bs expected.Character
text_leads [] h = leads_nowhere expected.Character
text_leads (b ∷ bs) h =
    let small : b < 128 = grind (arith, nat_tests, h.0) in
    joined expected.Character expected.Character expected.Character (debug_escape 34 b) (flat_map (debug_escape 34) bs) (b ∷ []) bs (escape_leads b small) (text_leads bs h.1)

pub text_again : (bs : List ℕ) → AllByRecursion (λ b. is_ascii b ≡ true) bs → text_word_at (34 ∷ (flat_map (debug_escape 34) bs ++ 34 ∷ [])) ≡ Ok bs
unfolding Leads
text_again bs h = text_leads bs h 1 (34 ∷ []) ∙ ap Ok (append-nil bs)

data_leads : (bs : List ℕ) → AllByRecursion (λ b. b < 256) bs → Leads expected.HighDigit (flat_map pair bs) bs expected.HighDigit
data_leads [] h = leads_nowhere expected.HighDigit
data_leads (b ∷ bs) h =
    joined expected.HighDigit expected.HighDigit expected.HighDigit (pair b) (flat_map pair bs) (b ∷ []) bs (pair_leads b h.0) (data_leads bs h.1)

pub data_again : (bs : List ℕ) → AllByRecursion (λ b. b < 256) bs → data_at (data_text bs) ≡ Ok bs
unfolding Leads
data_again bs h =
    let on : Read (List ℕ) → Read (List ℕ) = read_as (λ rest. [] ++ rest) in
    ap (λ r. on (on (on r))) (data_leads bs h 3 (34 ∷ [])) ∙ ap Ok (append-nil bs)
