-- The calls of a file, by whether its bytes are a text; and the lines of it that have calls.
use Rattle.std.proofs.Common.{List, [], ◌∷◌, ◌++◌, ℕ, Bool, true, false, cond, filter, not, Err, ap, append-nil, refl, sym, ◌≡◌, ◌∙◌}
use Rattle.std.proofs.lemmas.List.Elements.{filter-append}
use Rattle.std.proofs.lemmas.Str.{IsUtf8-from_is_utf8, is_utf8-from_IsUtf8}
use Rattle.std.specs.Str.{IsUtf8, is_utf8}
use Rattle.std.specs.Str.Lossy.{utf8_valid_len}
use Rattle.riftcalico_core.specs.Plans.{SaidCalls, Told, call_lines, is_remark, no_text_line, text_plan, words_plan}

pub text_is : (path bytes : List ℕ) (r : Told SaidCalls) → IsUtf8 bytes → r ≡ words_plan (call_lines bytes) → r ≡ text_plan (is_utf8 bytes) path bytes
text_is path bytes r utf8 e = e ∙ sym (ap (λ (q : Bool). text_plan q path bytes) (is_utf8-from_IsUtf8 bytes utf8))

pub no_text_is : (path bytes line : List ℕ) → (IsUtf8 bytes → ⊥) → line ≡ no_text_line path (utf8_valid_len bytes) → Err line ≡ text_plan (is_utf8 bytes) path bytes
no_text_is path bytes line broken e = go (is_utf8 bytes) refl
  where
    go : (q : Bool) → is_utf8 bytes ≡ q → Err line ≡ text_plan q path bytes
    go true h = absurd (broken (IsUtf8-from_is_utf8 bytes h))
    go false h = ap Err e

-- those of one line more, which has a call or none
pub line_more : (lines : List (List ℕ)) (line : List ℕ) (words : List (List ℕ)) → is_remark line ≡ false → words ≡ filter (λ l. not (is_remark l)) lines →
    words ++ line ∷ [] ≡ filter (λ l. not (is_remark l)) (lines ++ line ∷ [])
line_more lines line words call e =
    ap (λ (ws : List (List ℕ)). ws ++ line ∷ []) e
    ∙ sym (filter-append (λ l. not (is_remark l)) lines (line ∷ []) ∙ ap (λ (q : Bool). filter (λ l. not (is_remark l)) lines ++ cond (not q) (line ∷ []) []) call)

pub no_line_more : (lines : List (List ℕ)) (line : List ℕ) (words : List (List ℕ)) → is_remark line ≡ true → words ≡ filter (λ l. not (is_remark l)) lines →
    words ≡ filter (λ l. not (is_remark l)) (lines ++ line ∷ [])
no_line_more lines line words remark e =
    e ∙ sym (filter-append (λ l. not (is_remark l)) lines (line ∷ []) ∙ (ap (λ (q : Bool). filter (λ l. not (is_remark l)) lines ++ cond (not q) (line ∷ []) []) remark
    ∙ append-nil (filter (λ l. not (is_remark l)) lines)))

-- whether bytes are a text
pub is_text : (bytes : List ℕ) → IsUtf8 bytes → true ≡ is_utf8 bytes
is_text bytes utf8 = sym (is_utf8-from_IsUtf8 bytes utf8)

pub is_no_text : (bytes : List ℕ) → (IsUtf8 bytes → ⊥) → false ≡ is_utf8 bytes
is_no_text bytes broken = go (is_utf8 bytes) refl
  where
    go : (q : Bool) → is_utf8 bytes ≡ q → false ≡ is_utf8 bytes
    go true h = absurd (broken (IsUtf8-from_is_utf8 bytes h))
    go false h = sym h
