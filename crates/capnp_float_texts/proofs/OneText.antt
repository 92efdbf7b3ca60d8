-- A float has one text.
use Rattle.std.proofs.Common.{ℕ, zero, suc, ◌≡◌, ◌==◌, ◌++◌, refl, Bool, true, false, List, ap, arith, sym, ◌∙◌, cond, codes, rules}
use lib.IntN.{ℤ}
use Rattle.capnp_floats.specs.Floats.{IsDecimalOf, fraction, is_finite}
use Rattle.capnp_floats.specs.Laws.{OneDecimal}
use Rattle.capnp_floats.specs.Layout.{AppendsFloat, IsFloatText, is_negative, layout, sign_text}
use Rattle.capnp_floats.specs.declared.width.Width.{Width}
use Rattle.capnp_float_texts.specs.Facts.Decimals.{decimal_found, decimal_found_is}
use Rattle.capnp_float_texts.specs.Numbers.{FloatsHaveOneText, float_bytes}

abbrev finite_bytes : Width → ℕ → List ℕ
finite_bytes w bits = sign_text (is_negative w bits) ++ layout w (decimal_found w bits).0 (decimal_found w bits).1

abbrev other_bytes : Width → ℕ → List ℕ
other_bytes w bits = cond (fraction w bits == 0) (sign_text (is_negative w bits) ++ codes "inf") (codes "nan")

finite_is : OneDecimal → (w : Width) (bits d : ℕ) (k : ℤ) → IsDecimalOf w bits d k → finite_bytes w bits ≡ sign_text (is_negative w bits) ++ layout w d k
finite_is one w bits d k h =
    let same : ((decimal_found w bits).0 ≡ d) × ((decimal_found w bits).1 ≡ k) = decimal_found_is one w bits d k h in
    ap (λ (n : ℕ). sign_text (is_negative w bits) ++ layout w n (decimal_found w bits).1) same.0
    ∙ ap (λ (e : ℤ). sign_text (is_negative w bits) ++ layout w d e) same.1

not_zero : (n : ℕ) → (suc n == 0) ≡ false
not_zero n = search rules

infinite_is : (w : Width) (bits : ℕ) (text : List ℕ) (n : ℕ) → fraction w bits ≡ n → is_finite w bits ≡ false → IsFloatText w bits text →
    cond (n == 0) (sign_text (is_negative w bits) ++ codes "inf") (codes "nan") ≡ text
infinite_is w bits text zero e not_finite h = sym (h.infinite not_finite e)
infinite_is w bits text (suc n) e not_finite h =
    ap (λ (q : Bool). cond q (sign_text (is_negative w bits) ++ codes "inf") (codes "nan")) (not_zero n) ∙ sym (h.none not_finite (omega (arith, e)))

by_kind : OneDecimal → (w : Width) (bits : ℕ) (text : List ℕ) (q : Bool) → is_finite w bits ≡ q → IsFloatText w bits text → cond q (finite_bytes w bits) (other_bytes w bits) ≡ text
by_kind one w bits text true e h =
    let of : (d : ℕ) × (k : ℤ) × IsDecimalOf w bits d k × (text ≡ sign_text (is_negative w bits) ++ layout w d k) = h.finite e in
    finite_is one w bits of.0 of.1 of.2 ∙ sym of.3
by_kind one w bits text false e h = infinite_is w bits text (fraction w bits) refl e h

pub one_text : OneDecimal → FloatsHaveOneText
unfolding float_bytes
one_text one w bits text h = by_kind one w bits text (is_finite w bits) refl h

-- the text that was appended is that one
pub float_appended : FloatsHaveOneText → (w : Width) (bits : ℕ) (old new : List ℕ) → AppendsFloat w bits old new → new ≡ old ++ float_bytes w bits
float_appended one w bits old new (text, is, e) = e ∙ ap (λ (xs : List ℕ). old ++ xs) (sym (one w bits text is))
