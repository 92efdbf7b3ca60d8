-- What is read of a text depends on the bytes that are read, and on the first byte of those that are left.
use Rattle.std.proofs.Common.{◌≡◌, ℕ, zero, suc, ◌<◌, ◌≤◌, ◌==◌, Bool, true, false, cond, List, [], ◌∷◌, ◌++◌, length, Option, Some, None, Ok, Err, refl, ap, sym, subst, ◌∙◌, arith}
use Rattle.std.specs.Char.{is_ascii_hexdigit}
use Rattle.capnp_json_text.specs.Readings.{Rest, then_read, after_one, after_only, after_blanks}
use Rattle.capnp_json_text.specs.Numbers.{after_number}
use Rattle.capnp_json_text.specs.Strings.{after_character_by, after_d, after_escape, after_second_half, after_string, after_two_digits, after_unicode, character_of, is_d, is_high, is_low, is_octal, is_short_escape, more_characters, with_more}
use Rattle.capnp_json_text.specs.Texts.{Begun, after_colon, after_false, after_name, after_null, after_part, after_text, after_true, after_value, at_end, begun, begun_by, ended, first_element, first_member, gone_on, held, kind_of, next_element, next_member}
use Rattle.capnp_json_text.specs.declared.strings.Character.{Character}
use Rattle.capnp_json_text.specs.declared.strings.Character.TheVariants.{Quote, Backslash, Control, Plain}
use Rattle.capnp_json_text.specs.declared.kinds.Kind.{Kind}
use Rattle.capnp_json_text.specs.declared.kinds.Kind.TheVariants as kind
use Rattle.capnp_json_text.specs.declared.kinds.Bracket.{Bracket}
use Rattle.capnp_json_text.specs.declared.kinds.Bracket.TheVariants.{Square, Curly}
use Rattle.capnp_json_text.specs.declared.kinds.Part.{Part}
use Rattle.capnp_json_text.specs.declared.kinds.Part.TheVariants.{Value, Behind}
use Rattle.capnp_json_text.specs.Laws.{IsRefusedThere}
use Rattle.capnp_json_text.proofs.Shorter.{Below, blanks_shorter}
use Rattle.capnp_json_text.proofs.ShorterTokens.{escape_shrinks}
use Rattle.capnp_json_text.proofs.Enough.{name_shrinks, part_at_stays, part_equation, string_equation}
use Rattle.capnp_json_text.proofs.Local.{IsLocal, Local, at_once, blanks_local, branch_local, cons_local, either_local, failed, failed_local, first_local, nothing_local, number_local, one_local, only_local, taken, taken_local, then_at, then_local}

-- ---- strings ----

digit_local : IsLocal (after_one is_ascii_hexdigit)
digit_local = one_local is_ascii_hexdigit

two_digits_local : IsLocal after_two_digits
two_digits_local = then_local (after_one is_ascii_hexdigit) (after_one is_ascii_hexdigit) digit_local digit_local

second_half_local : IsLocal after_second_half
second_half_local =
    then_local (λ bs. then_read (then_read (then_read (after_only 92 bs) (after_only 117)) (after_one is_d)) (after_one is_low)) after_two_digits
    (then_local (λ bs. then_read (then_read (after_only 92 bs) (after_only 117)) (after_one is_d)) (after_one is_low)
    (then_local (λ bs. then_read (after_only 92 bs) (after_only 117)) (after_one is_d)
    (then_local (after_only 92) (after_only 117) (only_local 92) (only_local 117))
    (one_local is_d))
    (one_local is_low))
    two_digits_local

abbrev behind_high : List ℕ → Rest
behind_high [] = Err []
behind_high (b ∷ bs) = cond (is_high b) (then_read (after_two_digits bs) after_second_half) (Err (b ∷ bs))

high_local : IsLocal behind_high
high_local = branch_local behind_high (λ bs. then_read (after_two_digits bs) after_second_half) failed is_high refl (λ b tail. refl)
    (then_local after_two_digits after_second_half two_digits_local second_half_local) failed_local

d_local : IsLocal after_d
d_local = branch_local after_d after_two_digits behind_high is_octal refl (λ b tail. refl) two_digits_local high_local

abbrev behind_digit : List ℕ → Rest
behind_digit [] = Err []
behind_digit (b ∷ bs) = cond (is_ascii_hexdigit b) (then_read (after_one is_ascii_hexdigit bs) after_two_digits) (Err (b ∷ bs))

behind_digit_local : IsLocal behind_digit
behind_digit_local = branch_local behind_digit (λ bs. then_read (after_one is_ascii_hexdigit bs) after_two_digits) failed is_ascii_hexdigit refl (λ b tail. refl)
    (then_local (after_one is_ascii_hexdigit) after_two_digits digit_local two_digits_local) failed_local

unicode_local : IsLocal after_unicode
unicode_local = branch_local after_unicode after_d behind_digit is_d refl (λ b tail. refl) d_local behind_digit_local

escape_local : IsLocal after_escape
unfolding after_escape
escape_local = branch_local after_escape after_unicode (after_one is_short_escape) (λ b. b == 117) refl (λ b tail. refl) unicode_local (one_local is_short_escape)

abbrev string_by : Character → ℕ → List ℕ → Rest
string_by Quote b bs = Ok bs
string_by Backslash b bs = then_read (after_escape bs) after_string
string_by Control b bs = Err (b ∷ bs)
string_by Plain b bs = after_string bs

more_then : (r : Rest) → more_characters after_string (with_more r) ≡ then_read r after_string
more_then (Ok rest) = refl
more_then (Err fault) = refl

by_character : (k : Character) (b : ℕ) (bs : List ℕ) → more_characters after_string (after_character_by k b bs) ≡ string_by k b bs
by_character Quote b bs = refl
by_character Backslash b bs = more_then (after_escape bs)
by_character Control b bs = refl
by_character Plain b bs = refl

string_first : (b : ℕ) (bs : List ℕ) → after_string (b ∷ bs) ≡ string_by (character_of b) b bs
string_first b bs = string_equation (b ∷ bs) ∙ by_character (character_of b) b bs

left_below : (n : ℕ) (r : Rest) (rest : List ℕ) → r ≡ Ok rest → Below n r → length rest < n
left_below n r rest e h = subst (Below n) e h

character_local : (k : Character) (b : ℕ) (bs : List ℕ) → ((tail : List ℕ) → after_string (b ∷ tail) ≡ string_by k b tail) → ((cs : List ℕ) → length cs ≤ length bs → Local after_string cs (after_string cs))
    → Local after_string (b ∷ bs) (string_by k b bs)
character_local Quote b bs e again = cons_local after_string taken b bs (Ok bs) e (taken_local bs)
character_local Backslash b bs e again =
    cons_local after_string (λ x. then_read (after_escape x) after_string) b bs (then_read (after_escape bs) after_string) e
    (then_at after_escape after_string bs (escape_local bs) (λ rest q. again rest (let h = left_below (length bs) (after_escape bs) rest q (escape_shrinks bs) in omega (arith, h))))
character_local Control b bs e again = first_local after_string failed b bs (Err (b ∷ bs)) e (failed_local (b ∷ bs))
character_local Plain b bs e again = cons_local after_string after_string b bs (after_string bs) e (again bs (omega arith))

string_local_within : (n : ℕ) (bs : List ℕ) → length bs ≤ n → Local after_string bs (after_string bs)
string_local_within n [] h = nothing_local after_string (string_equation [])
string_local_within zero (b ∷ bs) h = absurd (omega (arith, h))
string_local_within (suc n) (b ∷ bs) h =
    subst (λ (r : Rest). Local after_string (b ∷ bs) r) (sym (string_first b bs))
    (character_local (character_of b) b bs (string_first b) (λ cs small. string_local_within n cs (omega (arith, h, small))))

string_local : IsLocal after_string
string_local bs = string_local_within (length bs) bs (omega arith)

-- ---- words and names ----

null_local : IsLocal after_null
null_local = then_local (λ bs. then_read (after_only 117 bs) (after_only 108)) (after_only 108) (then_local (after_only 117) (after_only 108) (only_local 117) (only_local 108)) (only_local 108)

true_local : IsLocal after_true
true_local = then_local (λ bs. then_read (after_only 114 bs) (after_only 117)) (after_only 101) (then_local (after_only 114) (after_only 117) (only_local 114) (only_local 117)) (only_local 101)

false_local : IsLocal after_false
false_local =
    then_local (λ bs. then_read (then_read (after_only 97 bs) (after_only 108)) (after_only 115)) (after_only 101)
    (then_local (λ bs. then_read (after_only 97 bs) (after_only 108)) (after_only 115) (then_local (after_only 97) (after_only 108) (only_local 97) (only_local 108)) (only_local 115)) (only_local 101)

colon_local : IsLocal after_colon
colon_local =
    then_local (λ bs. after_only 58 (after_blanks bs)) (λ rest. Ok (after_blanks rest)) (then_local (λ bs. Ok (after_blanks bs)) (after_only 58) blanks_local (only_local 58)) blanks_local

name_local : IsLocal after_name
name_local = then_local (λ bs. then_read (after_only 34 bs) after_string) after_colon (then_local (after_only 34) after_string (only_local 34) string_local) colon_local

-- ---- parts, as readings one behind another ----

abbrev behind_value : Bracket → List ℕ → Rest
behind_value bracket bs = then_read (after_part Value bs) (after_part (Behind bracket))

abbrev behind_name : List ℕ → Rest
behind_name bs = then_read (after_name bs) (behind_value Curly)

abbrev elements_from : List ℕ → Rest
elements_from [] = Err []
elements_from (b ∷ bs) = cond (b == 93) (Ok bs) (behind_value Square (b ∷ bs))

abbrev members_from : List ℕ → Rest
members_from [] = Err []
members_from (b ∷ bs) = cond (b == 125) (Ok bs) (behind_name (b ∷ bs))

abbrev at_comma : (List ℕ → Rest) → List ℕ → Rest
at_comma next [] = Err []
at_comma next (b ∷ bs) = cond (b == 44) (next (after_blanks bs)) (Err (b ∷ bs))

abbrev elements_on : List ℕ → Rest
elements_on [] = Err []
elements_on (b ∷ bs) = cond (b == 93) (Ok bs) (at_comma (behind_value Square) (b ∷ bs))

abbrev members_on : List ℕ → Rest
members_on [] = Err []
members_on (b ∷ bs) = cond (b == 125) (Ok bs) (at_comma behind_name (b ∷ bs))

abbrev value_by : Option Kind → ℕ → List ℕ → Rest
value_by None b bs = Err (b ∷ bs)
value_by (Some kind.Null) b bs = after_null bs
value_by (Some kind.True) b bs = after_true bs
value_by (Some kind.False) b bs = after_false bs
value_by (Some kind.Number) b bs = after_number (b ∷ bs)
value_by (Some kind.String) b bs = after_string bs
value_by (Some kind.Array) b bs = elements_from (after_blanks bs)
value_by (Some kind.Object) b bs = members_from (after_blanks bs)

gone_either : (t : Bool) (p q : Begun) → gone_on after_part (cond t p q) ≡ cond t (gone_on after_part p) (gone_on after_part q)
gone_either true p q = refl
gone_either false p q = refl

gone_ended : (r : Rest) → gone_on after_part (ended r) ≡ r
gone_ended (Ok rest) = refl
gone_ended (Err fault) = refl

gone_held : (r : Rest) → gone_on after_part (held Curly r) ≡ then_read r (behind_value Curly)
gone_held (Ok rest) = refl
gone_held (Err fault) = refl

gone_elements : (bs : List ℕ) → gone_on after_part (first_element bs) ≡ elements_from bs
gone_elements [] = refl
gone_elements (b ∷ bs) = gone_either (b == 93) (Ok (None, bs)) (Ok (Some Square, b ∷ bs))

gone_members : (bs : List ℕ) → gone_on after_part (first_member bs) ≡ members_from bs
gone_members [] = refl
gone_members (b ∷ bs) = gone_either (b == 125) (Ok (None, bs)) (held Curly (after_name (b ∷ bs))) ∙ ap (λ r. cond (b == 125) (Ok bs) r) (gone_held (after_name (b ∷ bs)))

gone_next_element : (bs : List ℕ) → gone_on after_part (next_element bs) ≡ elements_on bs
gone_next_element [] = refl
gone_next_element (b ∷ bs) =
    gone_either (b == 93) (Ok (None, bs)) (cond (b == 44) (Ok (Some Square, after_blanks bs)) (Err (b ∷ bs)))
    ∙ ap (λ r. cond (b == 93) (Ok bs) r) (gone_either (b == 44) (Ok (Some Square, after_blanks bs)) (Err (b ∷ bs)))

gone_next_member : (bs : List ℕ) → gone_on after_part (next_member bs) ≡ members_on bs
gone_next_member [] = refl
gone_next_member (b ∷ bs) =
    gone_either (b == 125) (Ok (None, bs)) (cond (b == 44) (held Curly (after_name (after_blanks bs))) (Err (b ∷ bs)))
    ∙ ap (λ r. cond (b == 125) (Ok bs) r) (gone_either (b == 44) (held Curly (after_name (after_blanks bs))) (Err (b ∷ bs)) ∙ ap (λ r. cond (b == 44) r (Err (b ∷ bs))) (gone_held (after_name (after_blanks bs))))

gone_by : (k : Option Kind) (b : ℕ) (bs : List ℕ) → gone_on after_part (begun_by k b bs) ≡ value_by k b bs
gone_by None b bs = refl
gone_by (Some kind.Null) b bs = gone_ended (after_null bs)
gone_by (Some kind.True) b bs = gone_ended (after_true bs)
gone_by (Some kind.False) b bs = gone_ended (after_false bs)
gone_by (Some kind.Number) b bs = gone_ended (after_number (b ∷ bs))
gone_by (Some kind.String) b bs = gone_ended (after_string bs)
gone_by (Some kind.Array) b bs = gone_elements (after_blanks bs)
gone_by (Some kind.Object) b bs = gone_members (after_blanks bs)

value_nothing : after_part Value [] ≡ Err []
unfolding begun
value_nothing = part_equation Value []

value_first : (b : ℕ) (bs : List ℕ) → after_part Value (b ∷ bs) ≡ value_by (kind_of b) b bs
unfolding begun
value_first b bs = part_equation Value (b ∷ bs) ∙ gone_by (kind_of b) b bs

element_next : (bs : List ℕ) → after_part (Behind Square) bs ≡ elements_on (after_blanks bs)
unfolding begun
element_next bs = part_equation (Behind Square) bs ∙ gone_next_element (after_blanks bs)

member_next : (bs : List ℕ) → after_part (Behind Curly) bs ≡ members_on (after_blanks bs)
unfolding begun
member_next bs = part_equation (Behind Curly) bs ∙ gone_next_member (after_blanks bs)

-- ---- parts of so many bytes ----

module _ (n : ℕ) (again : (p : Part) (bs : List ℕ) → length bs ≤ n → Local (after_part p) bs (after_part p bs)) where
  value_local : (bracket : Bracket) (bs : List ℕ) → length bs ≤ n → Local (behind_value bracket) bs (behind_value bracket bs)
  value_local bracket bs small =
      then_at (after_part Value) (after_part (Behind bracket)) bs (again Value bs small)
      (λ rest e. again (Behind bracket) rest (let h = left_below (suc (length bs)) (after_part Value bs) rest e (part_at_stays Value bs) in omega (arith, h, small)))

  named_local : (bs : List ℕ) → length bs ≤ n → Local behind_name bs (behind_name bs)
  named_local bs small =
      then_at after_name (behind_value Curly) bs (name_local bs)
      (λ rest e. value_local Curly rest (let h = left_below (length bs) (after_name bs) rest e (name_shrinks bs) in omega (arith, h, small)))

  behind_blanks : (f : List ℕ → Rest) (bs : List ℕ) → length bs ≤ n → ((cs : List ℕ) → length cs ≤ n → Local f cs (f cs)) → Local (λ x. f (after_blanks x)) bs (f (after_blanks bs))
  behind_blanks f bs small h =
      then_at (λ x. Ok (after_blanks x)) f bs (blanks_local bs)
      (λ rest e. h rest (let known : ◌≡◌ {A = Rest} (Ok (after_blanks bs)) (Ok rest) = e in let same : after_blanks bs ≡ rest = cc in let b = blanks_shorter bs in let q = ap length same in omega (arith, b, q, small)))

  elements_from_local : (bs : List ℕ) → length bs ≤ n → Local elements_from bs (elements_from bs)
  elements_from_local [] small = nothing_local elements_from refl
  elements_from_local (b ∷ bs) small = either_local elements_from taken (behind_value Square) b bs (b == 93) (λ tail. refl) (taken_local bs) (λ _. value_local Square (b ∷ bs) small)

  members_from_local : (bs : List ℕ) → length bs ≤ n → Local members_from bs (members_from bs)
  members_from_local [] small = nothing_local members_from refl
  members_from_local (b ∷ bs) small = either_local members_from taken behind_name b bs (b == 125) (λ tail. refl) (taken_local bs) (λ _. named_local (b ∷ bs) small)

  comma_local : (next : List ℕ → Rest) → ((bs : List ℕ) → length bs ≤ n → Local next bs (next bs)) → (bs : List ℕ) → length bs ≤ suc n → Local (at_comma next) bs (at_comma next bs)
  comma_local next h [] small = nothing_local (at_comma next) refl
  comma_local next h (b ∷ bs) small =
      either_local (at_comma next) (λ x. next (after_blanks x)) failed b bs (b == 44) (λ tail. refl) (behind_blanks next bs (omega (arith, small)) h) (λ _. failed_local (b ∷ bs))

  elements_on_local : (bs : List ℕ) → length bs ≤ suc n → Local elements_on bs (elements_on bs)
  elements_on_local [] small = nothing_local elements_on refl
  elements_on_local (b ∷ bs) small =
      either_local elements_on taken (at_comma (behind_value Square)) b bs (b == 93) (λ tail. refl) (taken_local bs) (λ _. comma_local (behind_value Square) (value_local Square) (b ∷ bs) small)

  members_on_local : (bs : List ℕ) → length bs ≤ suc n → Local members_on bs (members_on bs)
  members_on_local [] small = nothing_local members_on refl
  members_on_local (b ∷ bs) small =
      either_local members_on taken (at_comma behind_name) b bs (b == 125) (λ tail. refl) (taken_local bs) (λ _. comma_local behind_name named_local (b ∷ bs) small)

  kind_local : (k : Option Kind) (b : ℕ) (bs : List ℕ) → ((tail : List ℕ) → after_part Value (b ∷ tail) ≡ value_by k b tail) → length bs ≤ n → Local (after_part Value) (b ∷ bs) (value_by k b bs)
  kind_local None b bs e small = first_local (after_part Value) failed b bs (Err (b ∷ bs)) e (failed_local (b ∷ bs))
  kind_local (Some kind.Null) b bs e small = cons_local (after_part Value) after_null b bs (after_null bs) e (null_local bs)
  kind_local (Some kind.True) b bs e small = cons_local (after_part Value) after_true b bs (after_true bs) e (true_local bs)
  kind_local (Some kind.False) b bs e small = cons_local (after_part Value) after_false b bs (after_false bs) e (false_local bs)
  kind_local (Some kind.Number) b bs e small = first_local (after_part Value) after_number b bs (after_number (b ∷ bs)) e (number_local (b ∷ bs))
  kind_local (Some kind.String) b bs e small = cons_local (after_part Value) after_string b bs (after_string bs) e (string_local bs)
  kind_local (Some kind.Array) b bs e small =
      cons_local (after_part Value) (λ x. elements_from (after_blanks x)) b bs (elements_from (after_blanks bs)) e (behind_blanks elements_from bs small elements_from_local)
  kind_local (Some kind.Object) b bs e small =
      cons_local (after_part Value) (λ x. members_from (after_blanks x)) b bs (members_from (after_blanks bs)) e (behind_blanks members_from bs small members_from_local)

same_local : (f g : List ℕ → Rest) (bs : List ℕ) → ((x : List ℕ) → f x ≡ g x) → Local g bs (g bs) → Local f bs (f bs)
same_local f g bs h l =
    subst (λ (r : Rest). Local f bs r) (sym (h bs)) (let m : Local f bs (g bs) = record { front = l.front; whole = l.whole; alike = λ tail a. h (l.front ++ tail) ∙ l.alike tail a } in m)

-- behind blanks, where a byte less is to be read in what follows
blanks_then : (f : List ℕ → Rest) (n : ℕ) (bs : List ℕ) → length bs ≤ n → ((cs : List ℕ) → length cs ≤ n → Local f cs (f cs)) → Local (λ x. f (after_blanks x)) bs (f (after_blanks bs))
blanks_then f n bs small h =
    then_at (λ x. Ok (after_blanks x)) f bs (blanks_local bs)
    (λ rest e. h rest (let known : ◌≡◌ {A = Rest} (Ok (after_blanks bs)) (Ok rest) = e in let same : after_blanks bs ≡ rest = cc in let b = blanks_shorter bs in let q = ap length same in omega (arith, b, q, small)))

part_local_within : (n : ℕ) (p : Part) (bs : List ℕ) → length bs ≤ n → Local (after_part p) bs (after_part p bs)
part_local_within n Value [] h = nothing_local (after_part Value) value_nothing
part_local_within zero Value (b ∷ bs) h = absurd (omega (arith, h))
part_local_within (suc n) Value (b ∷ bs) h =
    subst (λ (r : Rest). Local (after_part Value) (b ∷ bs) r) (sym (value_first b bs)) (kind_local n (part_local_within n) (kind_of b) b bs (value_first b) (omega (arith, h)))
part_local_within zero (Behind Square) [] h = nothing_local (after_part (Behind Square)) (element_next [])
part_local_within zero (Behind Square) (b ∷ bs) h = absurd (omega (arith, h))
part_local_within (suc n) (Behind Square) bs h =
    same_local (after_part (Behind Square)) (λ x. elements_on (after_blanks x)) bs element_next (blanks_then elements_on (suc n) bs h (elements_on_local n (part_local_within n)))
part_local_within zero (Behind Curly) [] h = nothing_local (after_part (Behind Curly)) (member_next [])
part_local_within zero (Behind Curly) (b ∷ bs) h = absurd (omega (arith, h))
part_local_within (suc n) (Behind Curly) bs h =
    same_local (after_part (Behind Curly)) (λ x. members_on (after_blanks x)) bs member_next (blanks_then members_on (suc n) bs h (members_on_local n (part_local_within n)))

-- ---- whole texts ----

value_is_local : IsLocal after_value
value_is_local bs = part_local_within (length bs) Value bs (omega arith)

end_local : (bs : List ℕ) → Local at_end bs (at_end bs)
end_local [] = at_once at_end [] (Ok []) refl (λ tail a. ap at_end a ∙ sym (ap Ok a))
end_local (b ∷ bs) = at_once at_end (b ∷ bs) (Err (b ∷ bs)) refl (λ tail a. ap at_end a.1 ∙ sym (ap Err a.1))

pub text_local : IsLocal after_text
text_local =
    then_local (λ bs. after_value (after_blanks bs)) (λ rest. at_end (after_blanks rest))
    (then_local (λ bs. Ok (after_blanks bs)) after_value blanks_local value_is_local)
    (then_local (λ bs. Ok (after_blanks bs)) at_end blanks_local end_local)

refused_by : (bs : List ℕ) (b : ℕ) (fault : List ℕ) → Local after_text bs (Err (b ∷ fault)) → IsRefusedThere bs b fault
refused_by bs b fault l = record { front = l.front; stands = l.whole; whatever = λ more. l.alike (b ∷ more) (more, refl) }

pub refused_there : (bs : List ℕ) (b : ℕ) (fault : List ℕ) → after_text bs ≡ Err (b ∷ fault) → IsRefusedThere bs b fault
refused_there bs b fault e = refused_by bs b fault (subst (λ (r : Rest). Local after_text bs r) e (text_local bs))
