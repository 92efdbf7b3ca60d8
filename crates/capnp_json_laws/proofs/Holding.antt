-- Arrays and objects are values where what they hold is.
use Rattle.std.proofs.Common.{◌≡◌, ℕ, ◌-◌, Bool, true, false, cond, List, [], ◌∷◌, ◌++◌, length, Option, Some, None, Ok, refl, ap, sym, subst, ◌∙◌, append_assoc, arith, IsUtf8}
use Rattle.std.proofs.lemmas.Str.{IsUtf8-append}
use Rattle.capnp_json_text.specs.Readings.{after_blanks, then_read}
use Rattle.capnp_json_text.specs.Texts.{Begun, after_colon, after_part, begun, first_element, gone_on, next_element}
use Rattle.capnp_json_text.specs.Values.{Json, Elements, elements_of, first_item, following_item, json_at, left, next_item}
use Rattle.capnp_json_text.specs.declared.kinds.Bracket.TheVariants.{Square}
use Rattle.capnp_json_text.specs.declared.kinds.Part.TheVariants.{Behind}
use Rattle.capnp_json_text.proofs.ValueSteps.{read_in_steps, stands_in_steps}
use Rattle.capnp_json_laws.specs.Stands.{AreMore, AreNone, IsArray, IsValue, MayFollow}
use Rattle.capnp_json_laws.proofs.Ascii.{ascii_then, ascii_utf8}
use Rattle.capnp_json_laws.proofs.Whole.{no_blanks}
use Rattle.capnp_json_laws.proofs.Words.{value_read}

-- ---- what stands between ----

-- nothing, or blanks of which the first is a line break
pub record IsGap (gap : List ℕ) : Type 0 where
  pub utf8 : IsUtf8 gap
  pub skipped : (bs : List ℕ) → after_blanks (gap ++ bs) ≡ after_blanks bs
  pub follows : (bs : List ℕ) → MayFollow bs → MayFollow (gap ++ bs)

pub record IsColon (colon : List ℕ) : Type 0 where
  pub utf8 : IsUtf8 colon
  pub read : (bs : List ℕ) → after_colon (colon ++ bs) ≡ Ok (after_blanks bs)

-- before the first element or item, and before each other
abbrev pub between : (first : Bool) → List ℕ → List ℕ
between true gap = gap
between false gap = 44 ∷ gap

pub between_utf8 : (first : Bool) (gap : List ℕ) → IsGap gap → IsUtf8 (between first gap)
between_utf8 true gap g = g.utf8
between_utf8 false gap g = ascii_then 44 gap (omega arith) g.utf8

-- ---- arrays ----

abbrev pub array_begun : (first : Bool) → List ℕ → Begun
array_begun true bs = first_element bs
array_begun false bs = next_element bs

abbrev pub array_item : (first : Bool) → List ℕ → Option (List ℕ)
array_item true bs = first_item Square bs
array_item false bs = next_item bs

-- what is left of an array behind its opening bracket, or behind an element: such elements, and the closing bracket
pub record EndsArray (first : Bool) (bytes : List ℕ) (Are : Elements → Type 0) : Type 0 where
  pub utf8 : IsUtf8 bytes
  pub follows : first ≡ false → (rest : List ℕ) → MayFollow (bytes ++ rest)
  pub read : (rest : List ℕ) → gone_on after_part (array_begun first (after_blanks (bytes ++ rest))) ≡ Ok rest
  pub stands : (whole : ℕ) (rest : List ℕ) → Are (elements_of (json_at whole) (array_item first (after_blanks (bytes ++ rest))))

behind_square : (bs : List ℕ) → after_part (Behind Square) bs ≡ gone_on after_part (next_element (after_blanks bs))
unfolding begun
behind_square bs = read_in_steps.parts (Behind Square) bs

pub closing_left : (gap : List ℕ) (b : ℕ) (rest : List ℕ) → IsGap gap → after_blanks (b ∷ rest) ≡ b ∷ rest → after_blanks ((gap ++ b ∷ []) ++ rest) ≡ b ∷ rest
closing_left gap b rest g e = ap after_blanks (append_assoc gap (b ∷ []) rest) ∙ g.skipped (b ∷ rest) ∙ e

array_closes : (first : Bool) (rest : List ℕ) → gone_on after_part (array_begun first (93 ∷ rest)) ≡ Ok rest
array_closes true rest = refl
array_closes false rest = refl

no_item : (first : Bool) (rest : List ℕ) → array_item first (93 ∷ rest) ≡ None
no_item true rest = refl
no_item false rest = refl

pub array_end : (first : Bool) (gap : List ℕ) → IsGap gap → EndsArray first (gap ++ 93 ∷ []) AreNone
array_end first gap g = record {
  utf8 = IsUtf8-append gap (93 ∷ []) g.utf8 (ascii_utf8 (93 ∷ []) refl);
  follows = λ e rest. subst MayFollow (sym (append_assoc gap (93 ∷ []) rest)) (g.follows (93 ∷ rest) refl);
  read = λ rest. ap (λ x. gone_on after_part (array_begun first x)) (closing_left gap 93 rest g refl) ∙ array_closes first rest;
  stands = λ whole rest. ap (λ x. elements_of (json_at whole) (array_item first x)) (closing_left gap 93 rest g refl)
      ∙ ap (elements_of (json_at whole)) (no_item first rest) ∙ stands_in_steps.no_elements (json_at whole);
}

-- the first byte of a value, and what stands behind it
value_begins : (bytes : List ℕ) (Is : Json → Type 0) (v : IsValue bytes Is) (rest : List ℕ) → bytes ++ rest ≡ v.first ∷ (v.others ++ rest)
value_begins bytes Is v rest = ap (λ x. x ++ rest) v.begins

value_left : (gap bytes behind rest : List ℕ) (Is : Json → Type 0) → IsGap gap → IsValue bytes Is → after_blanks ((gap ++ (bytes ++ behind)) ++ rest) ≡ bytes ++ (behind ++ rest)
value_left gap bytes behind rest Is g v =
    ap after_blanks (append_assoc gap (bytes ++ behind) rest ∙ ap (λ x. gap ++ x) (append_assoc bytes behind rest))
    ∙ g.skipped (bytes ++ (behind ++ rest)) ∙ no_blanks bytes Is v (behind ++ rest)

array_opens : (first : Bool) (gap bytes behind rest : List ℕ) (Is : Json → Type 0) → IsGap gap → IsValue bytes Is
    → array_begun first (after_blanks ((between first gap ++ (bytes ++ behind)) ++ rest)) ≡ Ok (Some Square, bytes ++ (behind ++ rest))
array_opens true gap bytes behind rest Is g v =
    ap first_element (value_left gap bytes behind rest Is g v) ∙ ap first_element (value_begins bytes Is v (behind ++ rest))
    ∙ ap (λ t. cond t (Ok (None, v.others ++ (behind ++ rest))) (Ok (Some Square, v.first ∷ (v.others ++ (behind ++ rest))))) v.no_end
    ∙ ap (λ x. Ok (Some Square, x)) (sym (value_begins bytes Is v (behind ++ rest)))
array_opens false gap bytes behind rest Is g v = ap (λ x. Ok (Some Square, x)) (value_left gap bytes behind rest Is g v)

item_opens : (first : Bool) (gap bytes behind rest : List ℕ) (Is : Json → Type 0) → IsGap gap → IsValue bytes Is
    → array_item first (after_blanks ((between first gap ++ (bytes ++ behind)) ++ rest)) ≡ Some (bytes ++ (behind ++ rest))
item_opens true gap bytes behind rest Is g v =
    ap (first_item Square) (value_left gap bytes behind rest Is g v) ∙ ap (first_item Square) (value_begins bytes Is v (behind ++ rest))
    ∙ ap (λ t. cond t None (Some (v.first ∷ (v.others ++ (behind ++ rest))))) v.no_end
    ∙ ap Some (sym (value_begins bytes Is v (behind ++ rest)))
item_opens false gap bytes behind rest Is g v = ap Some (value_left gap bytes behind rest Is g v)

pub between_follows : (first : Bool) (gap bs : List ℕ) → first ≡ false → MayFollow (between first gap ++ bs)
between_follows true gap bs e = let no : ⊥ = cc in absurd no
between_follows false gap bs e = refl

pub array_more : (first : Bool) (gap bytes behind : List ℕ) (Is : Json → Type 0) (Are : Elements → Type 0) → IsGap gap → IsValue bytes Is → EndsArray false behind Are
    → EndsArray first (between first gap ++ (bytes ++ behind)) (AreMore Is Are)
array_more first gap bytes behind Is Are g v r = record {
  utf8 = IsUtf8-append (between first gap) (bytes ++ behind) (between_utf8 first gap g) (IsUtf8-append bytes behind v.utf8 r.utf8);
  follows = λ e rest. subst MayFollow (sym (append_assoc (between first gap) (bytes ++ behind) rest)) (between_follows first gap ((bytes ++ behind) ++ rest) e);
  read = λ rest.
      ap (gone_on after_part) (array_opens first gap bytes behind rest Is g v)
      ∙ ap (λ x. then_read x (after_part (Behind Square))) (v.read (behind ++ rest) (r.follows refl rest))
      ∙ behind_square (behind ++ rest) ∙ r.read rest;
  stands = λ whole rest.
      let next : following_item (bytes ++ (behind ++ rest)) ≡ next_item (after_blanks (behind ++ rest)) = ap (λ x. next_item (after_blanks (left x))) (v.read (behind ++ rest) (r.follows refl rest)) in (
        json_at whole (bytes ++ (behind ++ rest)),
        elements_of (json_at whole) (following_item (bytes ++ (behind ++ rest))),
        v.stands whole (behind ++ rest) (r.follows refl rest),
        subst (λ x. Are (elements_of (json_at whole) x)) (sym next) (r.stands whole rest),
        ap (elements_of (json_at whole)) (item_opens first gap bytes behind rest Is g v) ∙ stands_in_steps.elements (json_at whole) (bytes ++ (behind ++ rest)),
      );
}

pub array_value : (bytes : List ℕ) (Are : Elements → Type 0) → EndsArray true bytes Are → IsValue (91 ∷ bytes) (IsArray Are)
array_value bytes Are r = record {
  utf8 = ascii_then 91 bytes (omega arith) r.utf8;
  first = 91;
  others = bytes;
  begins = refl;
  no_blank = refl;
  no_end = refl;
  read = λ rest f. value_read 91 (bytes ++ rest) ∙ r.read rest;
  stands = λ whole rest f. (
    whole - length (91 ∷ (bytes ++ rest)),
    elements_of (json_at whole) (first_item Square (after_blanks (bytes ++ rest))),
    r.stands whole rest,
    stands_in_steps.values whole 91 (bytes ++ rest),
  );
}
