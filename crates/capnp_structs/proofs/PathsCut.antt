-- A path is cut where the name of a group begins.
use Rattle.std.proofs.Common.{ℕ, ◌+◌, ◌-◌, List, ◌++◌, codes, length, ◌≡◌, ◌∙◌, ap, append_assoc, arith, refl, subst, sym}
use Rattle.std.proofs.lemmas.List.{length-append}
use Rattle.std.proofs.lemmas.Str.{IsCharBoundary-at_seam, IsUtf8-append, IsUtf8-from_is_utf8}
use Rattle.std.specs.Str.{IsUtf8, chars, is_utf8}
use lib.Utf8.{encode}
use Rattle.std.specs.String.Boundary.{IsSplitPoint}

point : IsUtf8 (codes ".")
unfolding chars is_utf8 encode
point = IsUtf8-from_is_utf8 (codes ".") refl

-- a path that ends with a name and a point
module _ (prefix name path : List ℕ) (is : path ≡ prefix ++ name ++ codes ".") where
  parts : path ≡ prefix ++ (name ++ codes ".")
  parts = is ∙ append_assoc prefix name (codes ".")

  long : length path ≡ length prefix + (length name + 1)
  long = ap length parts ∙ (length-append prefix (name ++ codes ".") ∙ ap (λ (n : ℕ). length prefix + n) (length-append name (codes ".")))

  cut : length path - length name - 1 ≡ length prefix
  cut = omega (arith, long)

  pub may_cut : (len : ℕ) → len ≡ length path → IsUtf8 name → IsSplitPoint path (len - length name - 1)
  may_cut len all text =
      let here = IsCharBoundary-at_seam path prefix (name ++ codes ".") parts (IsUtf8-append name (codes ".") text point) in
      subst (IsSplitPoint path) (sym (ap (λ (n : ℕ). n - length name - 1) all ∙ cut)) (here.0, λ some. here.1)
