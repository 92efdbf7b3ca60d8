-- Floats by whether they are finite.
use Rattle.std.proofs.Common.{ℕ, ◌≡◌, refl, [], ◌∷◌, Bool, true, false, codes, Ok, cond}
use Rattle.capnp_floats.specs.Floats.{is_finite}
use Rattle.capnp_floats.specs.declared.width.Width.{Width}
use Rattle.capnp_json.specs.Leaves.{float_json, infinite_json}
use Rattle.capnp_json.specs.Pieces.{FloatNumber}

pub finite_json : (w : Width) (bits : ℕ) → true ≡ is_finite w bits → Ok (FloatNumber w bits ∷ []) ≡ float_json w bits
finite_json w bits e = go (is_finite w bits) e
  where
    go : (q : Bool) → true ≡ q → Ok (FloatNumber w bits ∷ []) ≡ cond q (Ok (FloatNumber w bits ∷ [])) (infinite_json w bits)
    go true e = refl
    go false e = cc

pub no_finite_json : (w : Width) (bits : ℕ) → false ≡ is_finite w bits → infinite_json w bits ≡ float_json w bits
no_finite_json w bits e = go (is_finite w bits) e
  where
    go : (q : Bool) → false ≡ q → infinite_json w bits ≡ cond q (Ok (FloatNumber w bits ∷ [])) (infinite_json w bits)
    go true e = cc
    go false e = refl

pub negative_is : (none negative : Bool) → none ≡ true → negative ≡ true → codes "\"-Infinity\"" ≡ cond none (cond negative (codes "\"-Infinity\"") (codes "\"Infinity\"")) (codes "\"NaN\"")
negative_is true true e h = refl
negative_is true false e h = cc
negative_is false n e h = cc

pub positive_is : (none negative : Bool) → none ≡ true → negative ≡ false → codes "\"Infinity\"" ≡ cond none (cond negative (codes "\"-Infinity\"") (codes "\"Infinity\"")) (codes "\"NaN\"")
positive_is true false e h = refl
positive_is true true e h = cc
positive_is false n e h = cc
