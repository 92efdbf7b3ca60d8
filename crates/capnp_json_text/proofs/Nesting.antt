-- What is left to read, with the brackets that are open.
use Rattle.std.proofs.Common.{◌≡◌, ℕ, Bool, true, false, List, [], ◌∷◌, ◌++◌, Option, Some, None, Ok, Err, refl, ap, sym, ◌∙◌}
use Rattle.capnp_json_text.specs.Readings.{Rest, then_read}
use Rattle.capnp_json_text.specs.Strings.{after_character, after_string, more_characters}
use Rattle.capnp_json_text.specs.Texts.{after_part, begun, gone_on}
use Rattle.capnp_json_text.specs.declared.kinds.Bracket.{Bracket}
use Rattle.capnp_json_text.specs.declared.kinds.Part.{Part}
use Rattle.capnp_json_text.specs.declared.kinds.Part.TheVariants.{Value, Behind}
use Rattle.capnp_json_text.proofs.Enough.{part_equation, string_equation}

-- ---- strings ----

pub string_fails : (bs fault whole : List ℕ) → Err fault ≡ after_character bs → after_string bs ≡ after_string whole → Err fault ≡ after_string whole
string_fails bs fault whole e h = ap (more_characters after_string) e ∙ sym (string_equation bs) ∙ h

pub string_ends : (more : Bool) (bs rest whole : List ℕ) → more ≡ false → Ok (more, rest) ≡ after_character bs → after_string bs ≡ after_string whole → Ok rest ≡ after_string whole
string_ends false bs rest whole m e h = ap (more_characters after_string) e ∙ sym (string_equation bs) ∙ h
string_ends true bs rest whole m e h = let no : ⊥ = cc in absurd no

pub string_goes_on : (more : Bool) (bs rest whole : List ℕ) → more ≡ true → Ok (more, rest) ≡ after_character bs → after_string bs ≡ after_string whole → after_string rest ≡ after_string whole
string_goes_on true bs rest whole m e h = ap (more_characters after_string) e ∙ sym (string_equation bs) ∙ h
string_goes_on false bs rest whole m e h = let no : ⊥ = cc in absurd no

-- ---- values ----

-- what is read till all brackets are closed, the last of which is the innermost
abbrev pub finished : List Bracket → Rest → Rest
finished [] r = r
finished (bracket ∷ inner) r = then_read (finished inner r) (after_part (Behind bracket))

finished_fault : (brackets : List Bracket) (fault : List ℕ) → finished brackets (Err fault) ≡ Err fault
finished_fault [] fault = refl
finished_fault (bracket ∷ inner) fault = ap (λ r. then_read r (after_part (Behind bracket))) (finished_fault inner fault)

finished_last : (brackets : List Bracket) (bracket : Bracket) (r : Rest) → finished (brackets ++ bracket ∷ []) r ≡ finished brackets (then_read r (after_part (Behind bracket)))
finished_last [] bracket r = refl
finished_last (outer ∷ inner) bracket r = ap (λ q. then_read q (after_part (Behind outer))) (finished_last inner bracket r)

pub fails : (brackets : List Bracket) (p : Part) (bs fault : List ℕ) (whole : Rest) → Err fault ≡ begun p bs → finished brackets (after_part p bs) ≡ whole → Err fault ≡ whole
fails brackets p bs fault whole e h = sym (finished_fault brackets fault) ∙ ap (finished brackets) (ap (gone_on after_part) e ∙ sym (part_equation p bs)) ∙ h

pub opens : (brackets longer : List Bracket) (p : Part) (opened : Option Bracket) (bracket : Bracket) (bs rest : List ℕ) (whole : Rest) → opened ≡ Some bracket → longer ≡ brackets ++ bracket ∷ []
    → Ok (opened, rest) ≡ begun p bs → finished brackets (after_part p bs) ≡ whole → finished longer (after_part Value rest) ≡ whole
opens brackets longer p None bracket bs rest whole o l e h = let no : ⊥ = cc in absurd no
opens brackets longer p (Some k) bracket bs rest whole o l e h =
    let same : k ≡ bracket = cc in
    ap (λ x. finished x (after_part Value rest)) l ∙ finished_last brackets bracket (after_part Value rest)
    ∙ ap (λ x. finished brackets (then_read (after_part Value rest) (after_part (Behind x)))) (sym same)
    ∙ ap (finished brackets) (ap (gone_on after_part) e ∙ sym (part_equation p bs)) ∙ h

pub closes : (brackets longer : List Bracket) (p : Part) (opened : Option Bracket) (bracket : Bracket) (bs rest : List ℕ) (whole : Rest) → opened ≡ None → longer ≡ brackets ++ bracket ∷ []
    → Ok (opened, rest) ≡ begun p bs → finished longer (after_part p bs) ≡ whole → finished brackets (after_part (Behind bracket) rest) ≡ whole
closes brackets longer p (Some k) bracket bs rest whole o l e h = let no : ⊥ = cc in absurd no
closes brackets longer p None bracket bs rest whole o l e h =
    ap (λ r. finished brackets (then_read r (after_part (Behind bracket)))) (ap (gone_on after_part) e ∙ sym (part_equation p bs))
    ∙ sym (finished_last brackets bracket (after_part p bs)) ∙ ap (λ x. finished x (after_part p bs)) (sym l) ∙ h

pub ends : (longer : List Bracket) (p : Part) (opened : Option Bracket) (bs rest : List ℕ) (whole : Rest) → opened ≡ None → longer ≡ [] → Ok (opened, rest) ≡ begun p bs → finished longer (after_part p bs) ≡ whole → Ok rest ≡ whole
ends longer p (Some k) bs rest whole o l e h = let no : ⊥ = cc in absurd no
ends longer p None bs rest whole o l e h = ap (gone_on after_part) e ∙ sym (part_equation p bs) ∙ ap (λ x. finished x (after_part p bs)) (sym l) ∙ h
