-- The text of a float by its bits, as a function: the one of which `IsFloatText` holds.
use Rattle.std.specs.Prelude.{ℕ, ◌++◌, ◌≡◌, ◌==◌, List, cond, codes}
use Rattle.capnp_floats.specs.Floats.{fraction, is_finite}
use Rattle.capnp_floats.specs.Layout.{IsFloatText, is_negative, layout, sign_text}
use Rattle.capnp_floats.specs.declared.width.Width.{Width}
use Rattle.capnp_float_texts.specs.Facts.Decimals.{decimal_found}

-- The decimal of finite bits is found by a search, which only says that there is such a function; what it is the law says.
unfoldable pub float_bytes : Width → (bits : ℕ) → List ℕ
float_bytes w bits =
    cond (is_finite w bits) (sign_text (is_negative w bits) ++ layout w (decimal_found w bits).0 (decimal_found w bits).1)
    (cond (fraction w bits == 0) (sign_text (is_negative w bits) ++ codes "inf") (codes "nan"))

-- No float has another text.
abbrev pub FloatsHaveOneText : Type 0
FloatsHaveOneText = (w : Width) (bits : ℕ) (text : List ℕ) → IsFloatText w bits text → float_bytes w bits ≡ text
