-- A string is read a character after another, and a value a part after another: the bounds of the definitions are enough.
use Rattle.std.proofs.Common.{◌≡◌, ℕ, zero, suc, ◌<◌, ◌≤◌, ◌==◌, Bool, true, false, cond, List, [], ◌∷◌, length, Option, Some, None, Ok, Err, refl, ap, sym, subst, ◌∙◌, arith}
use Rattle.std.specs.Prelude.{⊤}
use Rattle.capnp_json_text.specs.Readings.{Rest, then_read, after_only, after_blanks}
use Rattle.capnp_json_text.specs.Numbers.{after_number}
use Rattle.capnp_json_text.specs.Strings.{CharacterRead, after_character, after_string, after_string_within, more_characters}
use Rattle.capnp_json_text.specs.Texts.{Begun, after_colon, after_false, after_name, after_null, after_part, after_part_within, after_true, begun, begun_by, begun_value, ended, first_element, first_member, gone_on, held, kind_of, next_element, next_member}
use Rattle.capnp_json_text.specs.declared.kinds.Kind.{Kind}
use Rattle.capnp_json_text.specs.declared.kinds.Kind.TheVariants as kind
use Rattle.capnp_json_text.specs.declared.kinds.Bracket.{Bracket}
use Rattle.capnp_json_text.specs.declared.kinds.Bracket.TheVariants.{Square, Curly}
use Rattle.capnp_json_text.specs.declared.kinds.Part.{Part}
use Rattle.capnp_json_text.specs.declared.kinds.Part.TheVariants.{Value, Behind}
use Rattle.capnp_json_text.proofs.Shorter.{Below, Shrinks, Stays, below_then, below_wider, blanks_shorter, only_shrinks, only_stays, shrinks_stays}
use Rattle.capnp_json_text.proofs.ShorterTokens.{CharacterBelow, character_below, number_shrinks}

-- ---- strings ----

more_stays : (f : List ℕ → Rest) (n : ℕ) (r : CharacterRead) → Stays f → CharacterBelow n r → Below n (more_characters f r)
more_stays f n (Ok (true, rest)) s h = below_wider (suc (length rest)) n (f rest) (omega (arith, h)) (s rest)
more_stays f n (Ok (false, rest)) s h = h
more_stays f n (Err fault) s h = tt

within_stays : (n : ℕ) → (bs : List ℕ) → Below (suc (length bs)) (after_string_within n bs)
within_stays zero bs = tt
within_stays (suc n) bs =
    below_wider (length bs) (suc (length bs)) (more_characters (after_string_within n) (after_character bs)) (omega arith)
    (more_stays (after_string_within n) (length bs) (after_character bs) (within_stays n) (character_below bs))

more_same : (f g : List ℕ → Rest) (m : ℕ) (r : CharacterRead) → CharacterBelow (suc m) r → ((bs : List ℕ) → length bs ≤ m → f bs ≡ g bs) → more_characters f r ≡ more_characters g r
more_same f g m (Ok (true, rest)) h same = same rest (omega (arith, h))
more_same f g m (Ok (false, rest)) h same = refl
more_same f g m (Err fault) h same = refl

string_enough : (k m : ℕ) (bs : List ℕ) → length bs ≤ k → length bs ≤ m → after_string_within k bs ≡ after_string_within m bs
string_enough zero zero bs h g = refl
string_enough zero (suc m) [] h g = refl
string_enough zero (suc m) (b ∷ bs) h g = absurd (omega (arith, h))
string_enough (suc k) zero [] h g = refl
string_enough (suc k) zero (b ∷ bs) h g = absurd (omega (arith, g))
string_enough (suc k) (suc m) [] h g = refl
string_enough (suc k) (suc m) (b ∷ bs) h g =
    more_same (after_string_within k) (after_string_within m) (length bs) (after_character (b ∷ bs)) (character_below (b ∷ bs))
    (λ cs q. string_enough k m cs (omega (arith, h, q)) (omega (arith, g, q)))

-- a string is a character, and then the rest of the string
pub string_equation : (bs : List ℕ) → after_string bs ≡ more_characters after_string (after_character bs)
unfolding after_string
string_equation [] = refl
string_equation (b ∷ bs) =
    more_same (after_string_within (length bs)) (λ cs. after_string_within (length cs) cs) (length bs) (after_character (b ∷ bs)) (character_below (b ∷ bs))
    (λ cs q. string_enough (length bs) (length cs) cs q (omega arith))

pub string_stays : Stays after_string
unfolding after_string
string_stays bs = within_stays (length bs) bs

-- ---- how parts begin ----

abbrev pub BegunBelow : ℕ → Begun → Type 0
BegunBelow n (Ok b) = length b.1 < n
BegunBelow n (Err fault) = ⊤

begun_wider : (n m : ℕ) (b : Begun) → n ≤ m → BegunBelow n b → BegunBelow m b
begun_wider n m (Ok b) h k = omega (arith, h, k)
begun_wider n m (Err fault) h k = tt

begun_either : (n : ℕ) (t : Bool) (p q : Begun) → BegunBelow n p → BegunBelow n q → BegunBelow n (cond t p q)
begun_either n true p q h k = h
begun_either n false p q h k = k

ended_below : (n : ℕ) (r : Rest) → Below n r → BegunBelow n (ended r)
ended_below n (Ok rest) h = h
ended_below n (Err fault) h = tt

held_below : (n : ℕ) (bracket : Bracket) (r : Rest) → Below n r → BegunBelow n (held bracket r)
held_below n bracket (Ok rest) h = h
held_below n bracket (Err fault) h = tt

null_shrinks : Shrinks after_null
null_shrinks bs =
    below_then (length bs) (then_read (after_only 117 bs) (after_only 108)) (after_only 108)
    (below_then (length bs) (after_only 117 bs) (after_only 108) (only_shrinks 117 bs) (only_stays 108)) (only_stays 108)

true_shrinks : Shrinks after_true
true_shrinks bs =
    below_then (length bs) (then_read (after_only 114 bs) (after_only 117)) (after_only 101)
    (below_then (length bs) (after_only 114 bs) (after_only 117) (only_shrinks 114 bs) (only_stays 117)) (only_stays 101)

false_shrinks : Shrinks after_false
false_shrinks bs =
    below_then (length bs) (then_read (then_read (after_only 97 bs) (after_only 108)) (after_only 115)) (after_only 101)
    (below_then (length bs) (then_read (after_only 97 bs) (after_only 108)) (after_only 115)
    (below_then (length bs) (after_only 97 bs) (after_only 108) (only_shrinks 97 bs) (only_stays 108)) (only_stays 115)) (only_stays 101)

blanks_stay : Stays (λ bs. Ok (after_blanks bs))
blanks_stay bs = let h = blanks_shorter bs in omega (arith, h)

colon_shrinks : Shrinks after_colon
colon_shrinks bs =
    below_then (length bs) (after_only 58 (after_blanks bs)) (λ rest. Ok (after_blanks rest))
    (below_wider (length (after_blanks bs)) (length bs) (after_only 58 (after_blanks bs)) (blanks_shorter bs) (only_shrinks 58 (after_blanks bs)))
    blanks_stay

pub name_shrinks : Shrinks after_name
name_shrinks bs =
    below_then (length bs) (then_read (after_only 34 bs) after_string) after_colon
    (below_then (length bs) (after_only 34 bs) after_string (only_shrinks 34 bs) string_stays)
    (shrinks_stays after_colon colon_shrinks)

first_element_below : (bs : List ℕ) → BegunBelow (suc (length bs)) (first_element bs)
first_element_below [] = tt
first_element_below (b ∷ bs) = begun_either (suc (suc (length bs))) (b == 93) (Ok (None, bs)) (Ok (Some Square, b ∷ bs)) (omega arith) (omega arith)

first_member_below : (bs : List ℕ) → BegunBelow (suc (length bs)) (first_member bs)
first_member_below [] = tt
first_member_below (b ∷ bs) =
    begun_either (suc (suc (length bs))) (b == 125) (Ok (None, bs)) (held Curly (after_name (b ∷ bs))) (omega arith)
    (held_below (suc (suc (length bs))) Curly (after_name (b ∷ bs)) (shrinks_stays after_name name_shrinks (b ∷ bs)))

next_element_below : (bs : List ℕ) → BegunBelow (length bs) (next_element bs)
next_element_below [] = tt
next_element_below (b ∷ bs) =
    begun_either (suc (length bs)) (b == 93) (Ok (None, bs)) (cond (b == 44) (Ok (Some Square, after_blanks bs)) (Err (b ∷ bs))) (omega arith)
    (begun_either (suc (length bs)) (b == 44) (Ok (Some Square, after_blanks bs)) (Err (b ∷ bs)) (let h = blanks_shorter bs in omega (arith, h)) tt)

next_member_below : (bs : List ℕ) → BegunBelow (length bs) (next_member bs)
next_member_below [] = tt
next_member_below (b ∷ bs) =
    begun_either (suc (length bs)) (b == 125) (Ok (None, bs)) (cond (b == 44) (held Curly (after_name (after_blanks bs))) (Err (b ∷ bs))) (omega arith)
    (begun_either (suc (length bs)) (b == 44) (held Curly (after_name (after_blanks bs))) (Err (b ∷ bs))
    (held_below (suc (length bs)) Curly (after_name (after_blanks bs))
    (below_wider (length (after_blanks bs)) (suc (length bs)) (after_name (after_blanks bs)) (let h = blanks_shorter bs in omega (arith, h)) (name_shrinks (after_blanks bs)))) tt)

begun_by_below : (k : Option Kind) (b : ℕ) (bs : List ℕ) → BegunBelow (suc (length bs)) (begun_by k b bs)
begun_by_below None b bs = tt
begun_by_below (Some kind.Null) b bs = ended_below (suc (length bs)) (after_null bs) (shrinks_stays after_null null_shrinks bs)
begun_by_below (Some kind.True) b bs = ended_below (suc (length bs)) (after_true bs) (shrinks_stays after_true true_shrinks bs)
begun_by_below (Some kind.False) b bs = ended_below (suc (length bs)) (after_false bs) (shrinks_stays after_false false_shrinks bs)
begun_by_below (Some kind.Number) b bs = ended_below (suc (length bs)) (after_number (b ∷ bs)) (number_shrinks (b ∷ bs))
begun_by_below (Some kind.String) b bs = ended_below (suc (length bs)) (after_string bs) (string_stays bs)
begun_by_below (Some kind.Array) b bs = begun_wider (suc (length (after_blanks bs))) (suc (length bs)) (first_element (after_blanks bs)) (let h = blanks_shorter bs in omega (arith, h)) (first_element_below (after_blanks bs))
begun_by_below (Some kind.Object) b bs = begun_wider (suc (length (after_blanks bs))) (suc (length bs)) (first_member (after_blanks bs)) (let h = blanks_shorter bs in omega (arith, h)) (first_member_below (after_blanks bs))

begun_value_below : (bs : List ℕ) → BegunBelow (length bs) (begun_value bs)
begun_value_below [] = tt
begun_value_below (b ∷ bs) = begun_by_below (kind_of b) b bs

pub begun_below : (p : Part) (bs : List ℕ) → BegunBelow (length bs) (begun p bs)
unfolding begun
begun_below Value bs = begun_value_below bs
begun_below (Behind Square) bs = begun_wider (length (after_blanks bs)) (length bs) (next_element (after_blanks bs)) (blanks_shorter bs) (next_element_below (after_blanks bs))
begun_below (Behind Curly) bs = begun_wider (length (after_blanks bs)) (length bs) (next_member (after_blanks bs)) (blanks_shorter bs) (next_member_below (after_blanks bs))

pub begun_shorter : (p : Part) (opened : Option Bracket) (rest bs : List ℕ) → Ok (opened, rest) ≡ begun p bs → length rest < length bs
begun_shorter p opened rest bs e = subst (BegunBelow (length bs)) (sym e) (begun_below p bs)

-- ---- parts ----

on_stays : (f : Part → List ℕ → Rest) (n : ℕ) (b : Begun) → ((p : Part) → Stays (f p)) → BegunBelow n b → Below n (gone_on f b)
on_stays f n (Ok (None, rest)) s h = h
on_stays f n (Ok (Some bracket, rest)) s h =
    below_wider (suc (length rest)) n (then_read (f Value rest) (f (Behind bracket))) (omega (arith, h))
    (below_then (suc (length rest)) (f Value rest) (f (Behind bracket)) (s Value rest) (s (Behind bracket)))
on_stays f n (Err fault) s h = tt

part_stays : (n : ℕ) (p : Part) (bs : List ℕ) → Below (suc (length bs)) (after_part_within n p bs)
part_stays zero p bs = tt
part_stays (suc n) p bs =
    below_wider (length bs) (suc (length bs)) (gone_on (after_part_within n) (begun p bs)) (omega arith)
    (on_stays (after_part_within n) (length bs) (begun p bs) (part_stays n) (begun_below p bs))

then_same : (f g : List ℕ → Rest) (n : ℕ) (r : Rest) → Below (suc n) r → ((bs : List ℕ) → length bs ≤ n → f bs ≡ g bs) → then_read r f ≡ then_read r g
then_same f g n (Ok rest) h same = same rest (omega (arith, h))
then_same f g n (Err fault) h same = refl

on_same : (f g : Part → List ℕ → Rest) (m : ℕ) (b : Begun) → ((p : Part) → Stays (f p)) → BegunBelow (suc m) b
    → ((p : Part) (bs : List ℕ) → length bs ≤ m → f p bs ≡ g p bs) → gone_on f b ≡ gone_on g b
on_same f g m (Ok (None, rest)) s h same = refl
on_same f g m (Ok (Some bracket, rest)) s h same =
    then_same (f (Behind bracket)) (g (Behind bracket)) m (f Value rest) (below_wider (suc (length rest)) (suc m) (f Value rest) (omega (arith, h)) (s Value rest)) (same (Behind bracket))
    ∙ ap (λ r. then_read r (g (Behind bracket))) (same Value rest (omega (arith, h)))
on_same f g m (Err fault) s h same = refl

begun_nothing : (p : Part) → begun p [] ≡ Err []
unfolding begun
begun_nothing Value = refl
begun_nothing (Behind Square) = refl
begun_nothing (Behind Curly) = refl

nothing_within : (k : ℕ) (p : Part) → after_part_within k p [] ≡ Err []
nothing_within zero p = refl
nothing_within (suc k) p = ap (gone_on (after_part_within k)) (begun_nothing p)

part_enough : (k m : ℕ) (p : Part) (bs : List ℕ) → length bs ≤ k → length bs ≤ m → after_part_within k p bs ≡ after_part_within m p bs
part_enough zero m p [] h g = sym (nothing_within m p)
part_enough zero m p (b ∷ bs) h g = absurd (omega (arith, h))
part_enough (suc k) zero p [] h g = nothing_within (suc k) p
part_enough (suc k) zero p (b ∷ bs) h g = absurd (omega (arith, g))
part_enough (suc k) (suc m) p [] h g = nothing_within (suc k) p ∙ sym (nothing_within (suc m) p)
part_enough (suc k) (suc m) p (b ∷ bs) h g =
    on_same (after_part_within k) (after_part_within m) (length bs) (begun p (b ∷ bs)) (part_stays k) (begun_below p (b ∷ bs))
    (λ q cs small. part_enough k m q cs (omega (arith, h, small)) (omega (arith, g, small)))

-- a part is what it begins with, and then the parts that follow
pub part_equation : (p : Part) (bs : List ℕ) → after_part p bs ≡ gone_on after_part (begun p bs)
unfolding after_part
part_equation p [] = sym (ap (gone_on (λ q cs. after_part_within (length cs) q cs)) (begun_nothing p))
part_equation p (b ∷ bs) =
    on_same (after_part_within (length bs)) (λ q cs. after_part_within (length cs) q cs) (length bs) (begun p (b ∷ bs)) (part_stays (length bs)) (begun_below p (b ∷ bs))
    (λ q cs small. part_enough (length bs) (length cs) q cs small (omega arith))

pub part_at_stays : (p : Part) → Stays (after_part p)
unfolding after_part
part_at_stays p bs = part_stays (length bs) p bs
