-- A value alone is a text.
use Rattle.std.proofs.Common.{◌≡◌, ℕ, cond, List, [], ◌∷◌, ◌++◌, length, Some, None, Ok, ap, sym, subst, ◌∙◌, append-nil}
use Rattle.std.specs.Str.Lossy.{utf8_valid_len}
use Rattle.std.proofs.lemmas.Str.{is_utf8-from_IsUtf8}
use Rattle.capnp_json_text.specs.Readings.{after_blanks, then_read}
use Rattle.capnp_json_text.specs.Faults.{earlier, fault_of, grammar_fault}
use Rattle.capnp_json_text.specs.Texts.{after_text, after_value, at_end}
use Rattle.capnp_json_text.specs.Values.{Json, json_at}
use Rattle.capnp_json_text.proofs.ValueSteps.{stands_in_steps}
use Rattle.capnp_json_laws.specs.Stands.{HasValue, IsValue}

-- no blank stands before it
pub no_blanks : (bytes : List ℕ) (Is : Json → Type 0) → IsValue bytes Is → (rest : List ℕ) → after_blanks (bytes ++ rest) ≡ bytes ++ rest
no_blanks bytes Is v rest =
    ap (λ x. after_blanks (x ++ rest)) v.begins ∙ ap (λ t. cond t (after_blanks (v.others ++ rest)) (v.first ∷ (v.others ++ rest))) v.no_blank ∙ ap (λ x. x ++ rest) (sym v.begins)

alone_read : (bytes : List ℕ) (Is : Json → Type 0) → IsValue bytes Is → after_value bytes ≡ Ok []
alone_read bytes Is v = ap after_value (sym (append-nil bytes)) ∙ v.read [] tt

alone_blanks : (bytes : List ℕ) (Is : Json → Type 0) → IsValue bytes Is → after_blanks bytes ≡ bytes
alone_blanks bytes Is v = ap after_blanks (sym (append-nil bytes)) ∙ no_blanks bytes Is v [] ∙ append-nil bytes

text_read : (bytes : List ℕ) (Is : Json → Type 0) → IsValue bytes Is → after_text bytes ≡ Ok []
text_read bytes Is v =
    ap (λ x. then_read (after_value x) (λ rest. at_end (after_blanks rest))) (alone_blanks bytes Is v)
    ∙ ap (λ r. then_read r (λ rest. at_end (after_blanks rest))) (alone_read bytes Is v)

no_fault : (bytes : List ℕ) (Is : Json → Type 0) → IsValue bytes Is → fault_of bytes ≡ None
unfolding fault_of
no_fault bytes Is v =
    ap (λ t. earlier (cond t None (Some (utf8_valid_len bytes))) (grammar_fault bytes (after_text bytes))) (is_utf8-from_IsUtf8 bytes v.utf8)
    ∙ ap (grammar_fault bytes) (text_read bytes Is v)

pub value_text : (bytes : List ℕ) (Is : Json → Type 0) → IsValue bytes Is → HasValue bytes Is
value_text bytes Is v = (
  json_at (length bytes) bytes,
  subst (λ x. Is (json_at (length bytes) x)) (append-nil bytes) (v.stands (length bytes) [] tt),
  stands_in_steps.texts bytes (no_fault bytes Is v) ∙ ap (λ x. Ok (json_at (length bytes) x)) (alone_blanks bytes Is v),
)
