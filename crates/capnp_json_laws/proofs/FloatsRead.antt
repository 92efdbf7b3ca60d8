-- What is written of a float is read as its bits, and of what is no number as the quiet one's.
use Rattle.std.proofs.Common.{◌≡◌, ℕ, ◌-◌, ◌/◌, ◌%◌, ◌^◌, ◌≤◌, ◌==◌, Bool, true, false, cond, List, ◌++◌, codes, Ok, refl, ap, sym, subst, ◌∙◌, arith}
use Rattle.std.proofs.lemmas.Bool.{eqb-true, ltb-false}
use lib.IntN.{ℤ}
use Rattle.capnp_floats.specs.Floats.{fraction, is_finite}
use Rattle.capnp_floats.specs.Layout.{is_negative, layout, sign_text}
use Rattle.capnp_floats.specs.Laws.{IsOfWidth, without_sign}
use Rattle.capnp_floats.specs.Nearest.{IsNearest, infinity_bits}
use Rattle.capnp_floats.specs.Words.{IsFloatOf, ReadsAsKind, begins_with_minus, nan_bits, with_sign, word_digits, word_exponent}
use Rattle.capnp_floats.specs.declared.width.Width.{Width}
use Rattle.capnp_floats.specs.declared.width.Width.TheVariants.{Float32, Float64}
use Rattle.capnp_floats.proofs.ReadBack.{decimals_read}
use Rattle.capnp_floats.proofs.TextsRead.{bits_again, nearest_same}
use Rattle.capnp_json.specs.Pieces.{IsNumberOf}
use Rattle.capnp_from_json.specs.Leaves.{AreFloats, Floats, float_word}
use Rattle.capnp_json_laws.specs.AsRead.{quiet_bits}
use Rattle.capnp_json_laws.specs.Trees.{infinite_name}
use Rattle.capnp_json_laws.proofs.Numbers.{number_reads}

-- ---- finite floats ----

number_is_float : (w : Width) (bits : ℕ) (text : List ℕ) → IsOfWidth w bits → is_finite w bits ≡ true → IsNumberOf w bits text → IsFloatOf w text (Ok bits)
number_is_float w bits text wide finite h =
    let d : ℕ = h.0 in
    let k : ℤ = h.1 in
    let reads = number_reads w bits h.0 h.1 h.2 in
    let body : List ℕ = sign_text (is_negative w bits) ++ layout Float64 h.0 h.1 in
    let near : IsNearest w (word_digits body) (word_exponent body) (without_sign w bits) =
    nearest_same w h.0 (word_digits body) h.1 (word_exponent body) (without_sign w bits) reads.same (decimals_read w bits h.0 h.1 finite h.2) in
    let sign : bits ≡ with_sign w (begins_with_minus body) (without_sign w bits) = sym (bits_again w bits wide) ∙ ap (λ t. with_sign w t (without_sign w bits)) (sym reads.sign) in
    subst (λ x. IsFloatOf w x (Ok bits)) (sym h.3) (subst (λ x. ReadsAsKind w body x (Ok bits)) (sym reads.number) (without_sign w bits, near, sign))

pub finite_read : (floats : Floats) → AreFloats floats → (w : Width) (bits : ℕ) (text : List ℕ) → IsOfWidth w bits → is_finite w bits ≡ true → IsNumberOf w bits text → floats w text ≡ Ok bits
finite_read floats are w bits text wide finite h = are w text (Ok bits) (number_is_float w bits text wide finite h)

quiet_finite : (w : Width) (bits : ℕ) → is_finite w bits ≡ true → quiet_bits w bits ≡ bits
quiet_finite w bits e = ap (λ t. cond t bits (cond (fraction w bits == 0) bits (nan_bits w))) e

pub finite_quiet : (floats : Floats) → AreFloats floats → (w : Width) (bits : ℕ) (text : List ℕ) → IsOfWidth w bits → is_finite w bits ≡ true → IsNumberOf w bits text → floats w text ≡ Ok (quiet_bits w bits)
finite_quiet floats are w bits text wide finite h = finite_read floats are w bits text wide finite h ∙ ap Ok (sym (quiet_finite w bits finite))

-- ---- infinities and what is no number ----

infinity_again : (w : Width) (bits : ℕ) → is_finite w bits ≡ false → fraction w bits ≡ 0 → without_sign w bits ≡ infinity_bits w
infinity_again Float32 bits h z = let l : 2 ^ 8 - 1 ≤ bits / 2 ^ 23 % 2 ^ 8 = ltb-false (bits / 2 ^ 23 % 2 ^ 8) (2 ^ 8 - 1) h in omega arith
infinity_again Float64 bits h z = let l : 2 ^ 11 - 1 ≤ bits / 2 ^ 52 % 2 ^ 11 = ltb-false (bits / 2 ^ 52 % 2 ^ 11) (2 ^ 11 - 1) h in omega arith

infinity_is : (w : Width) (bits : ℕ) (negative : Bool) → IsOfWidth w bits → is_finite w bits ≡ false → fraction w bits ≡ 0 → is_negative w bits ≡ negative → with_sign w negative (infinity_bits w) ≡ bits
infinity_is w bits negative wide none zero sign =
    ap (with_sign w negative) (sym (infinity_again w bits none zero)) ∙ ap (λ t. with_sign w t (without_sign w bits)) (sym sign) ∙ bits_again w bits wide

pub infinite_quiet : (floats : Floats) → AreFloats floats → (w : Width) (bits : ℕ) → IsOfWidth w bits → is_finite w bits ≡ false → floats w (float_word (infinite_name w bits)) ≡ Ok (quiet_bits w bits)
infinite_quiet floats are w bits wide none =
    go (fraction w bits == 0) (is_negative w bits) refl refl ∙ ap (λ t. Ok (cond t bits (cond (fraction w bits == 0) bits (nan_bits w)))) (sym none)
  where
    go : (zero negative : Bool) → (fraction w bits == 0) ≡ zero → is_negative w bits ≡ negative
        → floats w (float_word (cond zero (cond negative (codes "-Infinity") (codes "Infinity")) (codes "NaN"))) ≡ Ok (cond zero bits (nan_bits w))
    go true true z s = are w (codes "-inf") (Ok (with_sign w true (infinity_bits w))) refl ∙ ap Ok (infinity_is w bits true wide none (eqb-true (fraction w bits) 0 z) s)
    go true false z s = are w (codes "inf") (Ok (with_sign w false (infinity_bits w))) refl ∙ ap Ok (infinity_is w bits false wide none (eqb-true (fraction w bits) 0 z) s)
    go false negative z s = are w (codes "nan") (Ok (nan_bits w)) refl
