-- Trees that are the same, by their parts and by index; and heights, by which a walk down two trees ends.
use Rattle.std.proofs.Common.{IsTrue, ◌==◌, ℕ, zero, suc, ◌+◌, ◌<◌, ◌≤◌, ◌≡◌, ◌↔◌, refl, List, ◌∷◌, Bool, true, false, not, get_or, length, arith, ap, ap₂, sym, ◌∙◌}
use Rattle.capnp_wire.specs.Tree.{Tree, Null, Struct, Voids, Bits, Numbers, Pointers, Composite, FaultLeaf, Trees, NoTrees, MoreTrees, Structs, NoStructs, MoreStructs, StructTree, empty_structs, nth_tree, nth_struct, tree_count, struct_count}
use mathlib.Core.Bool.{beq}
use Rattle.std.proofs.lemmas.Bool.Decides.{nat_tests}
use Rattle.capnp_wire.specs.Facts.EmptyStructs.{struct_count_empty_structs}
use Rattle.capnp_wire.specs.Slot.{bit_at}
use Rattle.capnp_wire.specs.Place.{bits_from}
use Rattle.capnp_wire.specs.Facts.Indexed.{bit_start, length_bits_from}

-- ---- heights: each part is lower than the whole ----

abbrev mutual
  pub height : Tree → ℕ
  height Null = 0
  height (Struct bytes ps) = suc (heights ps)
  height (Voids n) = 0
  height (Bits bs) = 0
  height (Numbers w bytes) = 0
  height (Pointers ps) = suc (heights ps)
  height (Composite d p es) = suc (element_heights es)
  height (FaultLeaf k) = 0

  pub heights : Trees → ℕ
  heights NoTrees = 0
  heights (MoreTrees t ts) = height t + heights ts

  pub element_heights : Structs → ℕ
  element_heights NoStructs = 0
  element_heights (MoreStructs bytes ps es) = heights ps + element_heights es

pub nth_height : (ts : Trees) (i : ℕ) → height (nth_tree ts i) ≤ heights ts
nth_height NoTrees i = omega arith
nth_height (MoreTrees t ts) zero = omega arith
nth_height (MoreTrees t ts) (suc i) = let h = nth_height ts i in omega (arith, h)

pub nth_element_height : (es : Structs) (i : ℕ) → heights (nth_struct es i).pointers ≤ element_heights es
nth_element_height NoStructs i = omega arith
nth_element_height (MoreStructs bytes ps es) zero = omega arith
nth_element_height (MoreStructs bytes ps es) (suc i) = let h = nth_element_height es i in omega (arith, h)

-- ---- rows of which each item is the same ----

-- the first so many trees of two rows are the same
abbrev pub SameTrees : ℕ → Trees → Trees → Type 0
SameTrees count ts us = (k : ℕ) → k < count → nth_tree ts k ≡ nth_tree us k

pub same_trees : (ts us : Trees) → tree_count ts ≡ tree_count us → SameTrees (tree_count ts) ts us → ts ≡ us
same_trees NoTrees NoTrees e h = refl
same_trees NoTrees (MoreTrees u us) e h = absurd (omega (arith, e))
same_trees (MoreTrees t ts) NoTrees e h = absurd (omega (arith, e))
same_trees (MoreTrees t ts) (MoreTrees u us) e h = ap₂ MoreTrees (h 0 (omega arith)) (same_trees ts us (omega (arith, e)) (λ k below. h (suc k) (omega (arith, below))))

-- the same of structs
abbrev pub SameStructs : ℕ → Structs → Structs → Type 0
SameStructs count es fs = (k : ℕ) → k < count → nth_struct es k ≡ nth_struct fs k

with_first : (s t : StructTree) (es fs : Structs) → s ≡ t → es ≡ fs → MoreStructs s.bytes s.pointers es ≡ MoreStructs t.bytes t.pointers fs
with_first s t es fs e f = ap₂ (λ (x : StructTree) (xs : Structs). MoreStructs x.bytes x.pointers xs) e f

pub same_structs : (es fs : Structs) → struct_count es ≡ struct_count fs → SameStructs (struct_count es) es fs → es ≡ fs
same_structs NoStructs NoStructs e h = refl
same_structs NoStructs (MoreStructs bytes ps fs) e h = absurd (omega (arith, e))
same_structs (MoreStructs bytes ps es) NoStructs e h = absurd (omega (arith, e))
same_structs (MoreStructs x ps es) (MoreStructs y qs fs) e h =
    with_first (record { bytes = x; pointers = ps }) (record { bytes = y; pointers = qs }) es fs (h 0 (omega arith)) (same_structs es fs (omega (arith, e)) (λ k below. h (suc k) (omega (arith, below))))

-- structs of size zero are the same where they are as many
pub same_counts : (es fs : Structs) (m n : ℕ) → es ≡ empty_structs m → fs ≡ empty_structs n → IsTrue (m == n) ↔ (es ≡ fs)
same_counts es fs m n e f = (
  λ yes.
      let as_many : m ≡ n = grind (arith, nat_tests, yes) in
      e ∙ ap empty_structs as_many ∙ sym f,
  λ same.
      let as_many : m ≡ n = sym (struct_count_empty_structs m) ∙ ap struct_count (sym e ∙ same ∙ f) ∙ struct_count_empty_structs n in
      grind (arith, nat_tests, as_many),
)

-- ---- bits ----

-- the first so many bits of two runs of bytes are the same
abbrev pub SameBits : ℕ → List ℕ → List ℕ → Type 0
SameBits count xs ys = (k : ℕ) → k < count → bit_at xs k ≡ bit_at ys k

same_from : (xs ys : List ℕ) (first count : ℕ) → ((k : ℕ) → k < first + count → bit_at xs k ≡ bit_at ys k) → bits_from xs first count ≡ bits_from ys first count
same_from xs ys first zero h = refl
same_from xs ys first (suc count) h = ap₂ (λ b bs. b ∷ bs) (h first (omega arith)) (same_from xs ys (suc first) count (λ k below. h k (omega (arith, below))))

pub same_bits : (xs ys : List ℕ) (count : ℕ) → SameBits count xs ys → bits_from xs 0 count ≡ bits_from ys 0 count
same_bits xs ys count h = same_from xs ys 0 count (λ k below. h k (omega (arith, below)))

pub bit_same : (xs ys : List ℕ) (count k : ℕ) → bits_from xs 0 count ≡ bits_from ys 0 count → k < count → bit_at xs k ≡ bit_at ys k
bit_same xs ys count k e below = sym (bit_start xs count k below) ∙ ap (λ bs. get_or bs k false) e ∙ bit_start ys count k below

-- two lists of bits are the same where their lengths are and their bits
pub bits_parts : (xs ys : List ℕ) (m n : ℕ) → Bits (bits_from xs 0 m) ≡ Bits (bits_from ys 0 n) → m ≡ n
bits_parts xs ys m n e = sym (length_bits_from xs 0 m) ∙ ap length (inside e) ∙ length_bits_from ys 0 n
  where
    inside : Bits (bits_from xs 0 m) ≡ Bits (bits_from ys 0 n) → bits_from xs 0 m ≡ bits_from ys 0 n
    inside e = cc

pub differ : (x y : Bool) → not (beq x y) ≡ true → x ≡ y → ⊥
differ true true h e = cc
differ true false h e = cc
differ false true h e = cc
differ false false h e = cc
