-- Trees of structs by their data and their pointers.
use Rattle.std.proofs.Common.{◌≡◌, ℕ, zero, suc, ◌+◌, ◌*◌, ◌<◌, ◌≤◌, refl, ap, ◌∙◌, arith, List}
use Rattle.capnp_wire.specs.Edits.{with_bytes, with_pointer_tree, with_tree}
use Rattle.capnp_wire.specs.Place.{bytes_at, struct_tree, tree_with_level, list_tree}
use Rattle.capnp_wire.specs.Tree.{MoreTrees, Null, StructTree, Tree, trees_from, Composite, structs_from}
use Rattle.capnp_arena.specs.Shape.{IsPointerOf, StructIn, shape_at, CompositeIn, ListIn}
use Rattle.capnp_arena.specs.Steps.Shape.{shape_target}
use Rattle.capnp_arena.specs.Forest.{Changes, Forest, Planted, struct_from, tree}
use Rattle.capnp_arena.specs.Facts.Calls.{own_same, sibling_tree}
use Rattle.capnp_arena.specs.Facts.Forests.{tree_step}
use Rattle.capnp_arena.specs.Facts.Levels.{trees_same}
use Rattle.capnp_arena.specs.Facts.Words.{run_same}

-- a pointer to a struct
pub tree_struct : (bytes : List ℕ) (w a d p : ℕ) → Forest bytes w → shape_at bytes w ≡ StructIn a d p → tree bytes w ≡ struct_tree (struct_from bytes a d p)
tree_struct bytes w a d p f e = tree_step bytes w f ∙ ap (λ s. tree_with_level tree tree (shape_target bytes s)) e

-- to a list that is not composite
pub tree_list : (bytes : List ℕ) (w a size n : ℕ) → Forest bytes w → shape_at bytes w ≡ ListIn a size n → tree bytes w ≡ list_tree (tree bytes) bytes a size n
tree_list bytes w a size n f e = tree_step bytes w f ∙ ap (λ s. tree_with_level tree tree (shape_target bytes s)) e

-- to a composite list
pub tree_composite : (bytes : List ℕ) (w tag n d p : ℕ) → Forest bytes w → shape_at bytes w ≡ CompositeIn tag n d p → tree bytes w ≡ Composite d p (structs_from (λ i. struct_from bytes (tag + 1 + i * (d + p)) d p) 0 n)
tree_composite bytes w tag n d p f e = tree_step bytes w f ∙ ap (λ s. tree_with_level tree tree (shape_target bytes s)) e

-- pointers that are null
pub null_row : (f : ℕ → Tree) (a b n : ℕ) → ((j : ℕ) → a ≤ j → j < a + n → f j ≡ Null) → trees_from f a n ≡ trees_from (λ _. Null) b n
null_row f a b zero h = refl
null_row f a b (suc n) h =
    ap (λ t. MoreTrees t (trees_from f (suc a) n)) (h a (omega arith) (omega arith))
    ∙ ap (MoreTrees Null) (null_row f (suc a) (suc b) n (λ j x y. h j (omega (arith, x)) (omega (arith, y))))

-- a row in which one tree is another
pub row_changed : (f g : ℕ → Tree) (a n k : ℕ) → k < n → ((j : ℕ) → a ≤ j → j < a + n → (j ≡ a + k → ⊥) → g j ≡ f j) → trees_from g a n ≡ with_tree (trees_from f a n) k (g (a + k))
row_changed f g a zero k l h = absurd (omega (arith, l))
row_changed f g a (suc n) zero l h =
    let e : a ≡ a + 0 = omega arith in
    ap (λ t. MoreTrees t (trees_from g (suc a) n)) (ap g e)
    ∙ ap (MoreTrees (g (a + 0))) (trees_same g f (suc a) n (λ j x y. h j (omega (arith, x)) (omega (arith, y)) (λ q. omega (arith, q, x))))
row_changed f g a (suc n) (suc k) l h =
    let e : suc a + k ≡ a + suc k = omega arith in
    ap (λ t. MoreTrees t (trees_from g (suc a) n)) (h a (omega arith) (omega arith) (λ q. omega (arith, q)))
    ∙ ap (MoreTrees (f a)) (row_changed f g (suc a) n k (omega (arith, l)) (λ j x y z. h j (omega (arith, x)) (omega (arith, y)) (λ q. z (omega (arith, q)))) ∙ ap (λ i. with_tree (trees_from f (suc a) n) k (g i)) e)

pub two_parts : (s t : StructTree) → s.bytes ≡ t.bytes → s.pointers ≡ t.pointers → s ≡ t
two_parts s t e h = ap (λ x. record { bytes = x; pointers = s.pointers }) e ∙ ap (λ x. record { bytes = t.bytes; pointers = x }) h

-- a call at one of its pointers
pub pointer_changed : (old new : List ℕ) (a d p i : ℕ) → Planted old (StructIn a d p) → i < p → Forest new (a + d + i) → Changes (a + d + i) old new → struct_from new a d p ≡ with_pointer_tree (struct_from old a d p) i (tree new (a + d + i))
pointer_changed old new a d p i f l g c =
    let q : IsPointerOf (StructIn a d p) (a + d + i) = (omega arith, omega (arith, l)) in
    two_parts (struct_from new a d p) (with_pointer_tree (struct_from old a d p) i (tree new (a + d + i)))
    (run_same old new a d (λ k x y. own_same old new (StructIn a d p) (a + d + i) f q g c k (x, omega (arith, y)) (λ e. omega (arith, e, y))))
    (row_changed (tree old) (tree new) (a + d) p i l (λ j x y z. sibling_tree old new (StructIn a d p) (a + d + i) f q g c j (x, y) z))

-- its data written
pub data_changed : (old new : List ℕ) (a d p : ℕ) (bytes : List ℕ) → bytes_at new a (8 * d) ≡ bytes → ((j : ℕ) → IsPointerOf (StructIn a d p) j → tree new j ≡ tree old j) → struct_from new a d p ≡ with_bytes (struct_from old a d p) bytes
data_changed old new a d p bytes e h = two_parts (struct_from new a d p) (with_bytes (struct_from old a d p) bytes) e (trees_same (tree new) (tree old) (a + d) p (λ j x y. h j (x, y)))
