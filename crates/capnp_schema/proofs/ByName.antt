-- The first brand of a name, as a walk over the brands meets it.
use Rattle.std.proofs.Common.{nat_lt, ◌≡◌, ℕ, suc, rules, ◌+◌, ◌<◌, ◌≤◌, ◌^◌, ◌&&◌, ◌∙◌, [], ◌∷◌, List, Bool, true, false, not, ap, arith, bytes_eq, drop, length, refl, sym, add-one, Some, None}
use Rattle.std.specs.Bool.{if◌then◌else◌}
use Rattle.std.proofs.lemmas.Bool.{le-ltb}
use Rattle.std.proofs.lemmas.List.{drop_more}
use Rattle.capnp_schema.specs.Schema.{Brand, Schemas, no_brand, node_of}
use Rattle.capnp_schema.specs.ByName.{brand_among, numbered_brand}

-- whether a brand is no group, and its node has the name
abbrev pub is_called : Schemas → ℕ → List ℕ → Bool
is_called set b name = not (node_of set b).is_group && bytes_eq name (node_of set b).display_name

chosen : {A : Type 0} (q : Bool) (x y : A) → q ≡ true → (if q then x else y) ≡ x
chosen q x y e = ap (λ z. if z then x else y) e

passed : {A : Type 0} (q : Bool) (x y : A) → q ≡ false → (if q then x else y) ≡ y
passed q x y e = ap (λ z. if z then x else y) e

-- the brands from the one at a number on
pub found_here : (set : Schemas) (xs : List Brand) (i : ℕ) (name : List ℕ) → i < length xs → is_called set i name ≡ true → brand_among set (drop i xs) i name ≡ Some i
found_here set xs i name inside e = ap (λ ys. brand_among set ys i name) (drop_more xs i (no_brand set) inside) ∙ chosen (is_called set i name) _ _ e

pub found_later : (set : Schemas) (xs : List Brand) (i : ℕ) (name : List ℕ) → i < length xs → is_called set i name ≡ false →
    brand_among set (drop i xs) i name ≡ brand_among set (drop (i + 1) xs) (i + 1) name
found_later set xs i name inside e = ap (λ ys. brand_among set ys i name) (drop_more xs i (no_brand set) inside) ∙ (passed (is_called set i name) _ _ e ∙ ap (λ k. brand_among set (drop (i + 1) xs) k name) (sym (add-one i)))

-- a brand past the numbers of 32 bits has none
past : (b : ℕ) → 2 ^ 32 ≤ b → numbered_brand (Some b) ≡ None
past b h = passed (nat_lt b (2 ^ 32)) _ _ (le-ltb b (2 ^ 32) h)

pub within : (b : ℕ) → b < 2 ^ 32 → numbered_brand (Some b) ≡ Some b
within b h = search rules

pub none_past : (set : Schemas) (xs : List Brand) (b : ℕ) (name : List ℕ) → 2 ^ 32 ≤ b → numbered_brand (brand_among set xs b name) ≡ None
none_past set [] b name h = refl
none_past set (x ∷ xs) b name h = go (none_past set xs (suc b) name (omega (arith, h))) (is_called set b name) refl
  where
    go : numbered_brand (brand_among set xs (suc b) name) ≡ None → (q : Bool) → is_called set b name ≡ q → numbered_brand (brand_among set (x ∷ xs) b name) ≡ None
    go later true e = ap numbered_brand (chosen (is_called set b name) _ _ e) ∙ past b h
    go later false e = ap numbered_brand (passed (is_called set b name) _ _ e) ∙ later
