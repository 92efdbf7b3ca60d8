-- A tree that a builder made has no fault.
use Rattle.std.proofs.Common.{◌≡◌, ℕ, zero, suc, ◌+◌, ◌*◌, ◌<◌, ◌≤◌, refl, ap, ◌∙◌, arith, List, Option, None}
use Rattle.capnp_wire.specs.Place.{list_tree, tree_with_level}
use Rattle.capnp_wire.specs.Tree.{StructTree, Tree, structs_from, trees_from}
use Rattle.capnp_wire.specs.Words.{first_fault, first_fault_of_all, first_fault_of_elements, first_of}
use Rattle.capnp_wire.specs.declared.fault.Fault.{Fault}
use Rattle.capnp_arena.specs.Steps.Encoded.{HasSize}
use Rattle.capnp_arena.specs.Forest.{Forest, Grown, Planted, struct_from, tree}
use Rattle.capnp_arena.specs.Shape.{CompositeIn, IsPointerOf, ListIn, NoShape, Shape, StructIn, shape_at}
use Rattle.capnp_arena.specs.Steps.Shape.{shape_target}
use Rattle.capnp_arena.proofs.Encodings.{has_size}
use Rattle.capnp_arena.specs.Facts.Forests.{tree_step}

neither : (a b : Option Fault) → a ≡ None → b ≡ None → first_of a b ≡ None
neither a b e q = ap (λ x. first_of x b) e ∙ q

row_whole : (f : ℕ → Tree) (a n : ℕ) → ((j : ℕ) → a ≤ j → j < a + n → first_fault (f j) ≡ None) → first_fault_of_all (trees_from f a n) ≡ None
row_whole f a zero h = refl
row_whole f a (suc n) h = neither (first_fault (f a)) (first_fault_of_all (trees_from f (suc a) n)) (h a (omega arith) (omega arith)) (row_whole f (suc a) n (λ j x y. h j (omega (arith, x)) (omega (arith, y))))

elements_whole : (f : ℕ → StructTree) (i n : ℕ) → ((j : ℕ) → i ≤ j → j < i + n → first_fault_of_all (f j).pointers ≡ None) → first_fault_of_elements (structs_from f i n) ≡ None
elements_whole f i zero h = refl
elements_whole f i (suc n) h = neither (first_fault_of_all (f i).pointers) (first_fault_of_elements (structs_from f (suc i) n)) (h i (omega arith) (omega arith)) (elements_whole f (suc i) n (λ j x y. h j (omega (arith, x)) (omega (arith, y))))

module _ (bytes : List ℕ) where
  list_whole : (a size n : ℕ) → size < 7 → ((j : ℕ) → size ≡ 6 → a ≤ j → j < a + n → first_fault (tree bytes j) ≡ None) → first_fault (list_tree (tree bytes) bytes a size n) ≡ None
  list_whole a zero n l h = refl
  list_whole a (suc zero) n l h = refl
  list_whole a (suc (suc zero)) n l h = refl
  list_whole a (suc (suc (suc zero))) n l h = refl
  list_whole a (suc (suc (suc (suc zero)))) n l h = refl
  list_whole a (suc (suc (suc (suc (suc zero))))) n l h = refl
  list_whole a (suc (suc (suc (suc (suc (suc z)))))) n l h = row_whole (tree bytes) a n (λ j x y. h j (omega (arith, l)) x y)

  level_whole : (s : Shape) → HasSize s → ((j : ℕ) → IsPointerOf s j → first_fault (tree bytes j) ≡ None) → first_fault (tree_with_level tree tree (shape_target bytes s)) ≡ None
  level_whole NoShape l h = refl
  level_whole (StructIn a d p) l h = row_whole (tree bytes) (a + d) p (λ j x y. h j (x, y))
  level_whole (ListIn a size n) l h = list_whole a size n l.0 (λ j e x y. h j (e, x, y))
  level_whole (CompositeIn tag n d p) l h =
      elements_whole (λ i. struct_from bytes (tag + 1 + i * (d + p)) d p) 0 n (λ i x y. row_whole (tree bytes) (tag + 1 + i * (d + p) + d) p (λ j u v. h j (i, omega (arith, y), u, v)))

pub forest_whole : (bytes : List ℕ) (w : ℕ) → Forest bytes w → first_fault (tree bytes w) ≡ None
forest_whole bytes w (Grown _ p f a b) =
    ap first_fault (tree_step bytes w (Grown w p f a b)) ∙ level_whole bytes (shape_at bytes w) (has_size bytes w (shape_at bytes w) p) (λ j i. forest_whole bytes j (f j i))

pub struct_whole : (bytes : List ℕ) (a d p : ℕ) → Planted bytes (StructIn a d p) → first_fault_of_all (struct_from bytes a d p).pointers ≡ None
struct_whole bytes a d p h = row_whole (tree bytes) (a + d) p (λ j x y. forest_whole bytes j (h.child j (x, y)))
