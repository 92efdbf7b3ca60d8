-- Objects are values where what they hold is.
use Rattle.std.proofs.Common.{◌≡◌, ℕ, ◌-◌, Bool, true, false, List, [], ◌∷◌, ◌++◌, length, drop, flat_map, Option, Some, None, Ok, refl, ap, sym, subst, ◌∙◌, append_assoc, arith, IsUtf8}
use Rattle.std.proofs.lemmas.Str.{IsUtf8-append}
use Rattle.capnp_json_text.specs.Readings.{after_blanks, then_read}
use Rattle.capnp_json_text.specs.Contents.{string_content}
use Rattle.capnp_json_text.specs.Texts.{Begun, after_colon, after_name, after_part, begun, first_member, gone_on, held, next_member}
use Rattle.capnp_json_text.specs.Values.{Json, Members, Member, first_item, following_item, json_at, left, member_value, members_of, next_item}
use Rattle.capnp_json_text.specs.Writing.{byte_written, string_written}
use Rattle.capnp_json_text.specs.declared.kinds.Bracket.TheVariants.{Curly}
use Rattle.capnp_json_text.specs.declared.kinds.Part.TheVariants.{Behind}
use Rattle.capnp_json_text.proofs.ReadBack.{read_back}
use Rattle.capnp_json_text.proofs.ValueSteps.{read_in_steps, stands_in_steps}
use Rattle.capnp_json_laws.specs.Stands.{AreMembersBehind, AreNoMembers, IsObject, IsValue, MayFollow}
use Rattle.capnp_json_laws.proofs.Ascii.{ascii_then, ascii_utf8, written_utf8}
use Rattle.capnp_json_laws.proofs.Holding.{IsColon, IsGap, between, between_follows, between_utf8, closing_left}
use Rattle.capnp_json_laws.proofs.Whole.{no_blanks}
use Rattle.capnp_json_laws.proofs.Words.{string_joined, value_read}

abbrev pub object_begun : (first : Bool) → List ℕ → Begun
object_begun true bs = first_member bs
object_begun false bs = next_member bs

abbrev pub object_item : (first : Bool) → List ℕ → Option (List ℕ)
object_item true bs = first_item Curly bs
object_item false bs = next_item bs

-- what is left of an object behind its opening bracket, or behind an item: such members, and the closing bracket
pub record EndsObject (first : Bool) (bytes : List ℕ) (Are : Members → Type 0) : Type 0 where
  pub utf8 : IsUtf8 bytes
  pub follows : first ≡ false → (rest : List ℕ) → MayFollow (bytes ++ rest)
  pub read : (rest : List ℕ) → gone_on after_part (object_begun first (after_blanks (bytes ++ rest))) ≡ Ok rest
  pub stands : (whole : ℕ) (rest : List ℕ) → Are (members_of (json_at whole) whole (object_item first (after_blanks (bytes ++ rest))))

behind_curly : (bs : List ℕ) → after_part (Behind Curly) bs ≡ gone_on after_part (next_member (after_blanks bs))
unfolding begun
behind_curly bs = read_in_steps.parts (Behind Curly) bs

object_closes : (first : Bool) (rest : List ℕ) → gone_on after_part (object_begun first (125 ∷ rest)) ≡ Ok rest
object_closes true rest = refl
object_closes false rest = refl

no_item : (first : Bool) (rest : List ℕ) → object_item first (125 ∷ rest) ≡ None
no_item true rest = refl
no_item false rest = refl

pub object_end : (first : Bool) (gap : List ℕ) → IsGap gap → EndsObject first (gap ++ 125 ∷ []) AreNoMembers
object_end first gap g = record {
  utf8 = IsUtf8-append gap (125 ∷ []) g.utf8 (ascii_utf8 (125 ∷ []) refl);
  follows = λ e rest. subst MayFollow (sym (append_assoc gap (125 ∷ []) rest)) (g.follows (125 ∷ rest) refl);
  read = λ rest. ap (λ x. gone_on after_part (object_begun first x)) (closing_left gap 125 rest g refl) ∙ object_closes first rest;
  stands = λ whole rest. ap (λ x. members_of (json_at whole) whole (object_item first x)) (closing_left gap 125 rest g refl)
      ∙ ap (members_of (json_at whole) whole) (no_item first rest) ∙ stands_in_steps.no_members (json_at whole) whole;
}

-- ---- an item ----

abbrev item_text : (name colon bytes : List ℕ) → List ℕ
item_text name colon bytes = string_written name ++ (colon ++ bytes)

-- the bytes of an item from its name's quote on
item_joined : (name colon bytes rest : List ℕ) → item_text name colon bytes ++ rest ≡ 34 ∷ (flat_map byte_written name ++ 34 ∷ (colon ++ (bytes ++ rest)))
item_joined name colon bytes rest =
    append_assoc (string_written name) (colon ++ bytes) rest ∙ ap (λ x. string_written name ++ x) (append_assoc colon bytes rest) ∙ string_joined name (colon ++ (bytes ++ rest))

name_read : (name colon bytes rest : List ℕ) (Is : Json → Type 0) → IsColon colon → IsValue bytes Is → after_name (item_text name colon bytes ++ rest) ≡ Ok (bytes ++ rest)
name_read name colon bytes rest Is c v =
    ap after_name (item_joined name colon bytes rest)
    ∙ ap (λ r. then_read r after_colon) (read_back name (colon ++ (bytes ++ rest))).0
    ∙ c.read (bytes ++ rest) ∙ ap Ok (no_blanks bytes Is v rest)

name_content : (name colon bytes rest : List ℕ) → string_content (drop 1 (item_text name colon bytes ++ rest)) ≡ name
name_content name colon bytes rest = ap (λ x. string_content (drop 1 x)) (item_joined name colon bytes rest) ∙ (read_back name (colon ++ (bytes ++ rest))).1

-- ---- an item and what is left behind it ----

item_left : (gap name colon bytes behind rest : List ℕ) → IsGap gap → after_blanks ((gap ++ (item_text name colon bytes ++ behind)) ++ rest) ≡ item_text name colon bytes ++ (behind ++ rest)
item_left gap name colon bytes behind rest g =
    ap after_blanks (append_assoc gap (item_text name colon bytes ++ behind) rest ∙ ap (λ x. gap ++ x) (append_assoc (item_text name colon bytes) behind rest))
    ∙ g.skipped (item_text name colon bytes ++ (behind ++ rest))
    ∙ ap after_blanks (item_joined name colon bytes (behind ++ rest)) ∙ sym (item_joined name colon bytes (behind ++ rest))

object_opens : (first : Bool) (gap name colon bytes behind rest : List ℕ) → IsGap gap
    → object_begun first (after_blanks ((between first gap ++ (item_text name colon bytes ++ behind)) ++ rest)) ≡ held Curly (after_name (item_text name colon bytes ++ (behind ++ rest)))
object_opens true gap name colon bytes behind rest g =
    ap first_member (item_left gap name colon bytes behind rest g) ∙ ap first_member (item_joined name colon bytes (behind ++ rest))
    ∙ ap (λ x. held Curly (after_name x)) (sym (item_joined name colon bytes (behind ++ rest)))
object_opens false gap name colon bytes behind rest g = ap (λ x. held Curly (after_name x)) (item_left gap name colon bytes behind rest g)

item_opens : (first : Bool) (gap name colon bytes behind rest : List ℕ) → IsGap gap
    → object_item first (after_blanks ((between first gap ++ (item_text name colon bytes ++ behind)) ++ rest)) ≡ Some (item_text name colon bytes ++ (behind ++ rest))
item_opens true gap name colon bytes behind rest g =
    ap (first_item Curly) (item_left gap name colon bytes behind rest g) ∙ ap (first_item Curly) (item_joined name colon bytes (behind ++ rest))
    ∙ ap Some (sym (item_joined name colon bytes (behind ++ rest)))
item_opens false gap name colon bytes behind rest g = ap Some (item_left gap name colon bytes behind rest g)

item_utf8 : (name colon bytes : List ℕ) (Is : Json → Type 0) → IsUtf8 name → IsColon colon → IsValue bytes Is → IsUtf8 (item_text name colon bytes)
item_utf8 name colon bytes Is u c v = IsUtf8-append (string_written name) (colon ++ bytes) (written_utf8 name u) (IsUtf8-append colon bytes c.utf8 v.utf8)

pub object_more : (first : Bool) (gap name colon bytes behind : List ℕ) (Is : Json → Type 0) (Are : Members → Type 0) → IsGap gap → IsUtf8 name → IsColon colon → IsValue bytes Is → EndsObject false behind Are
    → EndsObject first (between first gap ++ (item_text name colon bytes ++ behind)) (AreMembersBehind name Is Are)
object_more first gap name colon bytes behind Is Are g u c v r = record {
  utf8 = IsUtf8-append (between first gap) (item_text name colon bytes ++ behind) (between_utf8 first gap g) (IsUtf8-append (item_text name colon bytes) behind (item_utf8 name colon bytes Is u c v) r.utf8);
  follows = λ e rest. subst MayFollow (sym (append_assoc (between first gap) (item_text name colon bytes ++ behind) rest)) (between_follows first gap ((item_text name colon bytes ++ behind) ++ rest) e);
  read = λ rest.
      ap (gone_on after_part) (object_opens first gap name colon bytes behind rest g)
      ∙ ap (λ x. gone_on after_part (held Curly x)) (name_read name colon bytes (behind ++ rest) Is c v)
      ∙ ap (λ x. then_read x (after_part (Behind Curly))) (v.read (behind ++ rest) (r.follows refl rest))
      ∙ behind_curly (behind ++ rest) ∙ r.read rest;
  stands = λ whole rest.
      let from : List ℕ = item_text name colon bytes ++ (behind ++ rest) in
      let value : member_value from ≡ bytes ++ (behind ++ rest) = ap left (name_read name colon bytes (behind ++ rest) Is c v) in
      let next : following_item (member_value from) ≡ next_item (after_blanks (behind ++ rest)) =
      ap following_item value ∙ ap (λ x. next_item (after_blanks (left x))) (v.read (behind ++ rest) (r.follows refl rest)) in (
        whole - length from,
        json_at whole (member_value from),
        members_of (json_at whole) whole (following_item (member_value from)),
        subst (λ x. Is (json_at whole x)) (sym value) (v.stands whole (behind ++ rest) (r.follows refl rest)),
        subst (λ x. Are (members_of (json_at whole) whole x)) (sym next) (r.stands whole rest),
        ap (members_of (json_at whole) whole) (item_opens first gap name colon bytes behind rest g) ∙ stands_in_steps.members (json_at whole) whole from
            ∙ ap (λ x. Member (whole - length from) x (json_at whole (member_value from)) (members_of (json_at whole) whole (following_item (member_value from)))) (name_content name colon bytes (behind ++ rest)),
      );
}

pub object_value : (bytes : List ℕ) (Are : Members → Type 0) → EndsObject true bytes Are → IsValue (123 ∷ bytes) (IsObject Are)
object_value bytes Are r = record {
  utf8 = ascii_then 123 bytes (omega arith) r.utf8;
  first = 123;
  others = bytes;
  begins = refl;
  no_blank = refl;
  no_end = refl;
  read = λ rest f. value_read 123 (bytes ++ rest) ∙ r.read rest;
  stands = λ whole rest f. (
    whole - length (123 ∷ (bytes ++ rest)),
    members_of (json_at whole) whole (first_item Curly (after_blanks (bytes ++ rest))),
    r.stands whole rest,
    stands_in_steps.values whole 123 (bytes ++ rest),
  );
}
