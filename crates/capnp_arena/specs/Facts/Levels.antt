-- One level of a tree in two segments that agree there.
use Rattle.std.proofs.Common.{◌≡◌, ℕ, zero, suc, ◌+◌, ◌*◌, ◌<◌, ◌≤◌, refl, ap, ◌∙◌, arith, List}
use Rattle.capnp_wire.specs.Locate.{list_words}
use Rattle.capnp_wire.specs.Place.{bytes_at, bits_from, struct_at, struct_tree, list_tree, tree_with_level}
use Rattle.capnp_wire.specs.Tree.{Tree, MoreTrees, Structs, MoreStructs, StructTree, trees_from, structs_from, Bits, Numbers, Pointers, Composite}
use Rattle.capnp_arena.specs.Shape.{Shape, NoShape, StructIn, ListIn, CompositeIn, IsWordWithin, IsPointerOf, Points}
use Rattle.capnp_arena.specs.Steps.Shape.{shape_target}
use Rattle.capnp_arena.specs.Forest.{IsSame}
use Rattle.capnp_arena.specs.Facts.Words.{run_same, part_same}
use Rattle.capnp_arena.specs.Facts.Shapes.{apart, element_end}

pub trees_same : (f g : ℕ → Tree) (at n : ℕ) → ((k : ℕ) → at ≤ k → k < at + n → f k ≡ g k) → trees_from f at n ≡ trees_from g at n
trees_same f g at zero h = refl
trees_same f g at (suc n) h =
    ap (λ t. MoreTrees t (trees_from f (suc at) n)) (h at (omega arith) (omega arith))
    ∙ ap (MoreTrees (g at)) (trees_same f g (suc at) n (λ k a b. h k (omega (arith, a)) (omega (arith, b))))

pub more_structs : (s t : StructTree) (es fs : Structs) → s ≡ t → es ≡ fs → MoreStructs s.bytes s.pointers es ≡ MoreStructs t.bytes t.pointers fs
more_structs s t es fs e h = ap (λ (x : StructTree). MoreStructs x.bytes x.pointers es) e ∙ ap (MoreStructs t.bytes t.pointers) h

pub structs_same : (f g : ℕ → StructTree) (i n : ℕ) → ((k : ℕ) → i ≤ k → k < i + n → f k ≡ g k) → structs_from f i n ≡ structs_from g i n
structs_same f g i zero h = refl
structs_same f g i (suc n) h =
    more_structs (f i) (g i) (structs_from f (suc i) n) (structs_from g (suc i) n) (h i (omega arith) (omega arith))
    (structs_same f g (suc i) n (λ k a b. h k (omega (arith, a)) (omega (arith, b))))

module _ (old new : List ℕ) where
  -- a struct whose data stays
  pub struct_same : (f g : ℕ → Tree) (d p a : ℕ) → ((k : ℕ) → a ≤ k → k < a + d → IsSame old new k) → ((j : ℕ) → a + d ≤ j → j < a + d + p → f j ≡ g j) → struct_at f new d p a ≡ struct_at g old d p a
  struct_same f g d p a h k = go (run_same old new a d h) (trees_same f g (a + d) p k)
    where
      go : bytes_at new a (8 * d) ≡ bytes_at old a (8 * d) → trees_from f (a + d) p ≡ trees_from g (a + d) p → struct_at f new d p a ≡ struct_at g old d p a
      go e q = ap (λ x. record { bytes = x; pointers = trees_from f (a + d) p }) e ∙ ap (λ x. record { bytes = bytes_at old a (8 * d); pointers = x }) q

  list_same : (f g : ℕ → Tree) (a size n : ℕ) → size < 7 → ((k : ℕ) → a ≤ k → k < a + list_words size n → (size ≡ 6 → ⊥) → IsSame old new k) → ((j : ℕ) → size ≡ 6 → a ≤ j → j < a + n → f j ≡ g j) → list_tree f new a size n ≡ list_tree g old a size n
  list_same f g a zero n l h k = refl
  list_same f g a (suc zero) n l h k = ap (λ x. Bits (bits_from x 0 n)) (part_same old new a (list_words 1 n) (8 * list_words 1 n) (omega arith) (λ j x y. h j x y (λ e. omega (arith, e))))
  list_same f g a (suc (suc zero)) n l h k = ap (Numbers 1) (part_same old new a (list_words 2 n) n (omega arith) (λ j x y. h j x y (λ e. omega (arith, e))))
  list_same f g a (suc (suc (suc zero))) n l h k = ap (Numbers 2) (part_same old new a (list_words 3 n) (2 * n) (omega arith) (λ j x y. h j x y (λ e. omega (arith, e))))
  list_same f g a (suc (suc (suc (suc zero)))) n l h k = ap (Numbers 4) (part_same old new a (list_words 4 n) (4 * n) (omega arith) (λ j x y. h j x y (λ e. omega (arith, e))))
  list_same f g a (suc (suc (suc (suc (suc zero))))) n l h k = ap (Numbers 8) (part_same old new a (list_words 5 n) (8 * n) (omega arith) (λ j x y. h j x y (λ e. omega (arith, e))))
  list_same f g a (suc (suc (suc (suc (suc (suc z)))))) n l h k = ap Pointers (trees_same f g a n (λ j x y. k j (omega (arith, l)) x y))

  -- a level whose data stays: only what stands at its pointers may be other
  pub level_same : (f g f2 g2 : List ℕ → ℕ → Tree) (w : ℕ) (s : Shape) → Points old w s → ((k : ℕ) → IsWordWithin s k → (IsPointerOf s k → ⊥) → IsSame old new k)
      → ((j : ℕ) → IsPointerOf s j → f new j ≡ f2 old j) → ((j : ℕ) → suc w < j → IsPointerOf s j → g new j ≡ g2 old j)
      → tree_with_level f g (shape_target new s) ≡ tree_with_level f2 g2 (shape_target old s)
  level_same f g f2 g2 w NoShape p h k m = refl
  level_same f g f2 g2 w (StructIn a d p) r h k m = ap struct_tree (struct_same (f new) (f2 old) d p a (λ j x y. h j (x, omega (arith, y)) (λ q. omega (arith, y, q.0))) (λ j x y. k j (x, y)))
  level_same f g f2 g2 w (ListIn a size n) r h k m = list_same (f new) (f2 old) a size n r.2 (λ j x y z. h j (x, y) (λ q. z q.0)) (λ j x y z. k j (x, y, z))
  level_same f g f2 g2 w (CompositeIn tag n d p) r h k m =
      ap (Composite d p) (structs_same _ _ 0 n (λ i x y. element i (omega (arith, y)) (element_end i n (d + p) (omega (arith, y)))))
    where
      element : (i : ℕ) → i < n → i * (d + p) + (d + p) ≤ n * (d + p) → struct_at (g new) new d p (tag + 1 + i * (d + p)) ≡ struct_at (g2 old) old d p (tag + 1 + i * (d + p))
      element i y l = struct_same (g new) (g2 old) d p (tag + 1 + i * (d + p))
          (λ j a b. h j (omega (arith, a), omega (arith, b, l)) (λ q. apart (tag + 1) i q.0 d p j a b q.2 q.3))
          (λ j a b. m j (omega (arith, a, r.0)) (i, y, a, b))
