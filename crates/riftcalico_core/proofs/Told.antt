-- What a note tells of words behind points, and of a refusal.
use Rattle.std.proofs.lemmas.Bool.Decides.{nat_tests}
use Rattle.std.proofs.Common.{arith, Bor, MatchOption, subst, ◌≢◌, ℕ, List, [], ◌∷◌, ◌++◌, ◌==◌, Bool, true, false, cond, Option, Some, None, Err, Ok, codes, ◌≡◌, ◌∙◌, ap, refl, sym}
use Rattle.capnp_check.specs.Refusals.{text_refusal}
use Rattle.capnp_device.specs.declared.error.ErrorKind.{ErrorKind}
use Rattle.capnp_records.specs.Text.{Out}
use Rattle.riftcalico_core.specs.Notes.{at_note}

pub at_words : (words rest : List ℕ) → words ≡ 46 ∷ rest → at_note words ≡ codes " at " ++ rest
at_words words rest e = ap at_note e

pub at_no_words : (words : List ℕ) → ((rest : List ℕ) → words ≡ 46 ∷ rest → ⊥) → at_note words ≡ []
at_no_words [] none = refl
at_no_words (b ∷ words) none = go (b == 46) refl
  where
    go : (q : Bool) → (b == 46) ≡ q → cond (b == 46) (codes " at " ++ words) [] ≡ []
    go true e = absurd (none words (ap (λ (x : ℕ). x ∷ words) (grind (arith, nat_tests, e))))
    go false e = ap (λ (q : Bool). cond q (codes " at " ++ words) []) e

-- a prefix that is stripped, or isn't there
pub at_stripped : (words : List ℕ) (r : Option (Bor (List ℕ))) (rest : Bor (List ℕ)) → MatchOption r ((rest : List ℕ) → words ≢ 46 ∷ rest) (λ x. words ≡ 46 ∷ x.now) → r ≡ Some rest → at_note words ≡ codes " at " ++ rest.now
at_stripped words r rest h e = at_words words rest.now (subst (λ (x : Option (Bor (List ℕ))). MatchOption x ((rest : List ℕ) → words ≢ 46 ∷ rest) (λ x. words ≡ 46 ∷ x.now)) e h)

pub at_unstripped : (words : List ℕ) (r : Option (Bor (List ℕ))) → MatchOption r ((rest : List ℕ) → words ≢ 46 ∷ rest) (λ x. words ≡ 46 ∷ x.now) → r ≡ None → at_note words ≡ []
at_unstripped words r h e = at_no_words words (subst (λ (x : Option (Bor (List ℕ))). MatchOption x ((rest : List ℕ) → words ≢ 46 ∷ rest) (λ x. words ≡ 46 ∷ x.now)) e h)

-- the number of a text that is refused
pub text_refused : (kind : ErrorKind) (o : Out) → Some kind ≡ text_refusal o → o ≡ Err kind
text_refused kind (Ok x) h = absurd (none h)
  where
    none : Some kind ≡ None → ⊥
    none e = cc
text_refused kind (Err k) h = ap Err (same h)
  where
    same : Some kind ≡ Some k → k ≡ kind
    same e = cc

-- a text that is there is not refused
pub not_both : {A : Type 0} (kind : ErrorKind) (o : Out) → text_refusal o ≡ None → o ≡ Err kind → A
not_both kind o none e = absurd (some (sym (ap text_refusal e) ∙ none))
  where
    some : Some kind ≡ None → ⊥
    some h = cc
