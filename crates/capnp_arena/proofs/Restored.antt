-- What was made at a null pointer is taken back.
use Rattle.std.proofs.Common.{◌≡◌, ℕ, suc, ◌+◌, ◌-◌, ◌*◌, ◌<◌, ◌≤◌, ◌⊎◌, inl, inr, refl, sym, ap, subst, true, ◌∙◌, arith, List, length, take, drop}
use Rattle.std.proofs.lemmas.List.{drop-take, length-take-le, take-take, take_all}
use Rattle.capnp_wire.specs.Encoding.{spelled_number}
use Rattle.capnp_wire.specs.Steps.Filling.{bytes_with}
use Rattle.capnp_wire.specs.Facts.Bytes.{length_spelled}
use Rattle.capnp_wire.specs.Facts.Filling.{length_put}
use Rattle.capnp_arena.specs.Shape.{IsWordAt, NoShape, Points, shape_at, CompositeIn, ListIn, Shape, StructIn}
use Rattle.capnp_arena.specs.Forest.{Changes, Forest, IsSame, tree}
use Rattle.capnp_arena.specs.Facts.Calls.{null_owns}
use Rattle.capnp_arena.specs.Facts.Forests.{points}
use Rattle.capnp_arena.specs.Facts.Words.{run_same}
use Rattle.capnp_arena.proofs.Puts.{put_before, put_behind, put_there}
use Rattle.capnp_arena.proofs.TreeKinds.{null_is}
use Rattle.capnp_arena.specs.Steps.Reads.{is_no_shape}
use Rattle.capnp_wire.specs.Reading.{is_null_tree}

-- a word before a cut
cut_same : (m : List ℕ) (n k : ℕ) → 8 * suc k ≤ n → IsSame m (take n m) k
cut_same m n k h =
    let e : 8 * k + (n - 8 * k) ≡ n = omega (arith, h) in
    ap (λ i. take 8 (drop (8 * k) (take i m))) (sym e)
    ∙ ap (take 8) (drop-take (8 * k) (n - 8 * k) m)
    ∙ take-take 8 (n - 8 * k) (drop (8 * k) m) (omega (arith, h))

module _ (o m : List ℕ) (at n : ℕ) (whole : length o ≡ 8 * n) (f : Forest o at) (e : shape_at o at ≡ NoShape) (c : Changes at o m) where
  null : IsWordAt o at 0
  null = subst (Points o at) e (points o at f)

  short : length (take (8 * n) m) ≡ 8 * n
  short = length-take-le (8 * n) m (omega (arith, c.longer, whole))

  fits : 8 * at + length (spelled_number 8 0) ≤ length (take (8 * n) m)
  fits = omega (arith, length_spelled 8 0, short, null.0, whole)

  abbrev back : List ℕ
  back = bytes_with (8 * at) (spelled_number 8 0) (take (8 * n) m)

  stays : (k : ℕ) → k < n → (k ≡ at → ⊥) → IsSame o (take (8 * n) m) k
  stays k l away = cut_same m (8 * n) k (omega (arith, l)) ∙ c.stays k (omega (arith, l, whole)) away (λ q. null_owns o at k null q)

  same : (k : ℕ) → 0 ≤ k → k < 0 + n → IsSame o back k
  same k z l = elim (side k at) [
    | inl h ↦ put_before (8 * at) (spelled_number 8 0) (take (8 * n) m) k fits (omega (arith, h)) ∙ stays k (omega (arith, l)) (λ q. omega (arith, h, q))
    | inr h ↦ elim h [
      | inl h2 ↦ put_behind (8 * at) (spelled_number 8 0) (take (8 * n) m) k 8 (omega (arith, fits)) (omega (arith, h2, length_spelled 8 0)) ∙ stays k (omega (arith, l)) (λ q. omega (arith, h2, q))
      | inr h2 ↦ subst (IsSame o back) (sym h2) (put_there at (spelled_number 8 0) (take (8 * n) m) 8 fits (length_spelled 8 0) ∙ sym null.1)
    ]
  ]
    where
      side : (k w : ℕ) → (k < w) ⊎ ((w < k) ⊎ (k ≡ w))
      side k w = grind arith

  pub restored : bytes_with (8 * at) (spelled_number 8 0) (take (8 * n) m) ≡ o
  restored =
      let long : length back ≡ 8 * n = length_put (8 * at) (spelled_number 8 0) (take (8 * n) m) fits ∙ short in
      sym (take_all (8 * n) back (omega (arith, long))) ∙ run_same o back 0 n same ∙ take_all (8 * n) o (omega (arith, whole))

no_shape : (s : Shape) → is_no_shape s ≡ true → s ≡ NoShape
no_shape NoShape e = refl
no_shape (StructIn a d p) e = cc
no_shape (ListIn a size n) e = cc
no_shape (CompositeIn tag n d p) e = cc

-- the same of a pointer whose tree is null
pub taken_back : (o m : List ℕ) (at n : ℕ) → length o ≡ 8 * n → Forest o at → is_null_tree (tree o at) ≡ true → Changes at o m → bytes_with (8 * at) (spelled_number 8 0) (take (8 * n) m) ≡ o
taken_back o m at n whole f e c = restored o m at n whole f (no_shape (shape_at o at) (sym (null_is o at f) ∙ e)) c
