-- What a string stands for, a character after another.
use Rattle.std.proofs.Common.{◌≡◌, ℕ, zero, suc, ◌≤◌, Bool, true, false, List, [], ◌∷◌, ◌++◌, length, Ok, Err, refl, ap, sym, ◌∙◌, append_assoc, append-nil, arith}
use Rattle.capnp_json_text.specs.Strings.{CharacterRead, after_character}
use Rattle.capnp_json_text.specs.Contents.{character_content, more_content, string_content, string_content_within}
use Rattle.capnp_json_text.proofs.ShorterTokens.{CharacterBelow, character_below}

more_same : (f g : List ℕ → List ℕ) (m : ℕ) (content : List ℕ) (r : CharacterRead) → CharacterBelow (suc m) r → ((bs : List ℕ) → length bs ≤ m → f bs ≡ g bs)
    → more_content f content r ≡ more_content g content r
more_same f g m content (Ok (true, rest)) h same = ap (λ x. content ++ x) (same rest (omega (arith, h)))
more_same f g m content (Ok (false, rest)) h same = refl
more_same f g m content (Err fault) h same = refl

content_enough : (k m : ℕ) (bs : List ℕ) → length bs ≤ k → length bs ≤ m → string_content_within k bs ≡ string_content_within m bs
content_enough zero zero bs h g = refl
content_enough zero (suc m) [] h g = refl
content_enough zero (suc m) (b ∷ bs) h g = absurd (omega (arith, h))
content_enough (suc k) zero [] h g = refl
content_enough (suc k) zero (b ∷ bs) h g = absurd (omega (arith, g))
content_enough (suc k) (suc m) [] h g = refl
content_enough (suc k) (suc m) (b ∷ bs) h g =
    more_same (string_content_within k) (string_content_within m) (length bs) (character_content (b ∷ bs)) (after_character (b ∷ bs)) (character_below (b ∷ bs))
    (λ cs q. content_enough k m cs (omega (arith, h, q)) (omega (arith, g, q)))

pub content_equation : (bs : List ℕ) → string_content bs ≡ more_content string_content (character_content bs) (after_character bs)
unfolding string_content
content_equation [] = refl
content_equation (b ∷ bs) =
    more_same (string_content_within (length bs)) (λ cs. string_content_within (length cs) cs) (length bs) (character_content (b ∷ bs)) (after_character (b ∷ bs)) (character_below (b ∷ bs))
    (λ cs q. content_enough (length bs) (length cs) cs q (omega arith))

-- ---- what stands so far, before what the rest stands for ----

pub content_goes_on : (more : Bool) (out longer bs rest whole : List ℕ) → more ≡ true → Ok (more, rest) ≡ after_character bs → longer ≡ out ++ character_content bs
    → out ++ string_content bs ≡ whole → longer ++ string_content rest ≡ whole
content_goes_on false out longer bs rest whole m e appended h = let no : ⊥ = cc in absurd no
content_goes_on true out longer bs rest whole m e appended h =
    ap (λ x. x ++ string_content rest) appended ∙ append_assoc out (character_content bs) (string_content rest)
    ∙ ap (λ x. out ++ x) (ap (more_content string_content (character_content bs)) e ∙ sym (content_equation bs)) ∙ h

pub content_ends : (more : Bool) (out bs rest whole : List ℕ) → more ≡ false → Ok (more, rest) ≡ after_character bs → out ++ string_content bs ≡ whole → out ≡ whole
content_ends true out bs rest whole m e h = let no : ⊥ = cc in absurd no
content_ends false out bs rest whole m e h =
    sym (append-nil out) ∙ ap (λ x. out ++ x) (ap (more_content string_content (character_content bs)) e ∙ sym (content_equation bs)) ∙ h

pub content_fails : (out bs fault whole : List ℕ) → Err fault ≡ after_character bs → out ++ string_content bs ≡ whole → out ≡ whole
content_fails out bs fault whole e h =
    sym (append-nil out) ∙ ap (λ x. out ++ x) (ap (more_content string_content (character_content bs)) e ∙ sym (content_equation bs)) ∙ h
