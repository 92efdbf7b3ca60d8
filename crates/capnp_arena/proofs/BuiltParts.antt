-- What the root of a message leads to, once a pointer of a struct below it was set.
use Rattle.std.proofs.Common.{◌≡◌, ℕ, ◌+◌, ◌<◌, ap, subst, sym, ◌∙◌, arith, List}
use Rattle.capnp_wire.specs.Edits.{with_pointer_tree, zero_struct, zero_structs}
use Rattle.capnp_wire.specs.Elements.{HasStruct, with_struct_element}
use Rattle.capnp_wire.specs.Facts.Indexed.{nth_struct_start, struct_count_from, tree_count_from}
use Rattle.capnp_wire.specs.Place.{struct_tree}
use Rattle.capnp_wire.specs.Reading.{element_struct}
use Rattle.capnp_wire.specs.Tree.{Null, StructTree, Tree, tree_count}
use Rattle.capnp_wire.specs.declared.size.StructSize.{StructSize}
use Rattle.capnp_arena.specs.Facts.Laws.{IsInPointer, IsInStruct, in_struct, struct_is}
use Rattle.capnp_arena.specs.Forest.{Forest, struct_from, tree}
use Rattle.capnp_arena.specs.Leaves.{Leaves}
use Rattle.capnp_arena.specs.Shape.{StructIn, shape_at}

-- ---- a struct ----

module _ {m n : List ℕ} {at a d p i : ℕ} (f : Forest m at) (e : shape_at m at ≡ StructIn a d p) (x : IsInPointer m n a d p i) where
  whole : IsInStruct m n at a d p
  whole = in_struct m n at a d p f e x.planted x.changes

  pub struct_message : at ≡ 0 → Forest n 0
  struct_message z = subst (Forest n) z whole.forest

  pub struct_tree_is : (s : StructTree) (t : Tree) → tree m at ≡ struct_tree s → tree n (a + d + i) ≡ t → at ≡ 0 → tree n 0 ≡ struct_tree (with_pointer_tree s i t)
  struct_tree_is s t h q z =
      ap (tree n) (sym z) ∙ whole.tree
      ∙ ap struct_tree (x.struct ∙ ap (λ k. with_pointer_tree k i (tree n (a + d + i))) (struct_is m at a d p s f e h) ∙ ap (with_pointer_tree s i) q)

-- ---- a struct of a list ----

module _ (k : ℕ) {m here n : List ℕ} {at a d p i : ℕ} (x : IsInPointer here n a d p i) (l : Leaves at (with_struct_element k (struct_from n a d p) (tree m at)) m n) where
  pub list_message : at ≡ 0 → Forest n 0
  list_message z = subst (Forest n) z l.forest

  pub list_tree_is : (s t : Tree) → tree m at ≡ s → struct_from here a d p ≡ element_struct (tree m at) k → tree n (a + d + i) ≡ t → at ≡ 0
      → tree n 0 ≡ with_struct_element k (with_pointer_tree (element_struct s k) i t) s
  list_tree_is s t h b q z =
      ap (tree n) (sym z) ∙ l.tree
      ∙ ap (λ y. with_struct_element k y (tree m at)) (x.struct ∙ ap (λ y. with_pointer_tree y i (tree n (a + d + i))) b ∙ ap (with_pointer_tree (element_struct (tree m at) k) i) q)
      ∙ ap (λ y. with_struct_element k (with_pointer_tree (element_struct y k) i t) y) h

-- ---- a new list ----

module _ (size : StructSize) (count k : ℕ) (l : k < count) (t : Tree) (e : t ≡ zero_structs size count) where
  pub new_has : HasStruct t k
  new_has = subst (λ x. HasStruct x k) (sym e) (omega (arith, l, struct_count_from (λ _. zero_struct size) 0 count))

  pub new_pointers : (bytes : List ℕ) (a d p : ℕ) → struct_from bytes a d p ≡ element_struct t k → p ≡ size.pointers
  new_pointers bytes a d p h =
      let s : struct_from bytes a d p ≡ zero_struct size = h ∙ ap (λ x. element_struct x k) e ∙ nth_struct_start (λ _. zero_struct size) count k l in
      omega (arith, ap (λ (x : StructTree). tree_count x.pointers) s, tree_count_from (tree bytes) (a + d) p, tree_count_from (λ _. Null) 0 size.pointers)
