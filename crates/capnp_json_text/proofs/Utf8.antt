-- The test for UTF-8, by what std says of bytes.
use Rattle.std.proofs.Common.{◌≡◌, ℕ, Bool, true, false, cond, List, Some, None, refl, ap, sym, ◌∙◌}
use Rattle.std.specs.Str.{IsUtf8, is_utf8}
use Rattle.std.specs.Str.Lossy.{utf8_valid_len}
use Rattle.std.proofs.lemmas.Str.{IsUtf8-from_is_utf8, is_utf8-from_IsUtf8}
use Rattle.capnp_json_text.specs.Faults.{utf8_fault}

pub whole_utf8 : (bs : List ℕ) → IsUtf8 bs → None ≡ utf8_fault bs
whole_utf8 bs u = sym (ap (λ t. cond t None (Some (utf8_valid_len bs))) (is_utf8-from_IsUtf8 bs u))

not_utf8 : (bs : List ℕ) (t : Bool) → is_utf8 bs ≡ t → ¬ (IsUtf8 bs) → is_utf8 bs ≡ false
not_utf8 bs true e n = absurd (n (IsUtf8-from_is_utf8 bs e))
not_utf8 bs false e n = e

pub cut_utf8 : (bs : List ℕ) (place : ℕ) → ¬ (IsUtf8 bs) → place ≡ utf8_valid_len bs → Some place ≡ utf8_fault bs
cut_utf8 bs place n e = ap Some e ∙ sym (ap (λ t. cond t None (Some (utf8_valid_len bs))) (not_utf8 bs (is_utf8 bs) refl n))
