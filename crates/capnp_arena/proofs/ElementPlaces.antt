-- Where the elements of a list stand, by the list's tree.
use Rattle.std.proofs.Common.{◌≡◌, ℕ, zero, suc, ◌+◌, ◌*◌, ◌<◌, refl, sym, ap, subst, ◌∙◌, arith, List}
use Rattle.capnp_wire.specs.Edits.{with_pointer_tree}
use Rattle.capnp_wire.specs.Elements.{HasPointer, HasStruct, with_pointer_element, with_struct, with_struct_element}
use Rattle.capnp_wire.specs.Facts.Indexed.{nth_struct_start, nth_tree_from, struct_count_from, tree_count_from}
use Rattle.capnp_wire.specs.Place.{list_tree}
use Rattle.capnp_wire.specs.Reading.{cut_pointer, element_pointer}
use Rattle.capnp_wire.specs.Tree.{Bits, Composite, FaultLeaf, Null, Numbers, Pointers, Struct, StructTree, Tree, Voids, nth_struct, nth_tree, structs_from, tree_count}
use Rattle.capnp_arena.specs.Facts.Calls.{planted}
use Rattle.capnp_arena.specs.Facts.Elements.{IsInElement, IsInPointers, element_planted, in_element, in_pointers}
use Rattle.capnp_arena.specs.Facts.Forests.{points}
use Rattle.capnp_arena.specs.Facts.Laws.{IsInPointer, in_pointer}
use Rattle.capnp_arena.specs.Facts.Structs.{tree_composite, tree_list, tree_struct}
use Rattle.capnp_arena.specs.Forest.{Changes, Forest, PartChanges, Planted, struct_from, tree}
use Rattle.capnp_arena.specs.Leaves.{Leaves}
use Rattle.capnp_arena.specs.Shape.{CompositeIn, IsPointerOf, ListIn, NoShape, Points, StructIn, shape_at, word_count}
use Rattle.capnp_arena.specs.declared.arena.Place.{Place}
use Rattle.capnp_arena.proofs.Refusals.{null_is}

whole_pointer : (t : Tree) → cut_pointer 1 t ≡ t
whole_pointer Null = refl
whole_pointer (Struct bytes ps) = refl
whole_pointer (Voids n) = refl
whole_pointer (Bits bs) = refl
whole_pointer (Numbers w bytes) = refl
whole_pointer (Pointers ps) = refl
whole_pointer (Composite d p es) = refl
whole_pointer (FaultLeaf k) = refl

plain_pointer : (f : ℕ → Tree) (bytes : List ℕ) (a size n i : ℕ) → size < 7 → HasPointer (list_tree f bytes a size n) i → (size ≡ 6) × (i < n)
plain_pointer f bytes a zero n i l h = absurd h
plain_pointer f bytes a (suc zero) n i l h = absurd h
plain_pointer f bytes a (suc (suc zero)) n i l h = absurd h
plain_pointer f bytes a (suc (suc (suc zero))) n i l h = absurd h
plain_pointer f bytes a (suc (suc (suc (suc zero)))) n i l h = absurd h
plain_pointer f bytes a (suc (suc (suc (suc (suc zero))))) n i l h = absurd h
plain_pointer f bytes a (suc (suc (suc (suc (suc (suc z)))))) n i l h = (omega (arith, l), omega (arith, h, tree_count_from f a n))

plain_struct : (f : ℕ → Tree) (bytes : List ℕ) (a size n i : ℕ) → HasStruct (list_tree f bytes a size n) i → ⊥
plain_struct f bytes a zero n i h = h
plain_struct f bytes a (suc zero) n i h = h
plain_struct f bytes a (suc (suc zero)) n i h = h
plain_struct f bytes a (suc (suc (suc zero))) n i h = h
plain_struct f bytes a (suc (suc (suc (suc zero)))) n i h = h
plain_struct f bytes a (suc (suc (suc (suc (suc zero))))) n i h = h
plain_struct f bytes a (suc (suc (suc (suc (suc (suc z)))))) n i h = h

module _ (bytes : List ℕ) (w : ℕ) (f : Forest bytes w) (i : ℕ) where
  -- ---- pointers ----

  module _ (h : HasPointer (tree bytes w) i) where
    pub null_pointer : shape_at bytes w ≡ NoShape → ⊥
    null_pointer e = subst (λ t. HasPointer t i) (null_is bytes w f e) h

    pub struct_pointer : (a d p : ℕ) → shape_at bytes w ≡ StructIn a d p → ⊥
    struct_pointer a d p e = subst (λ t. HasPointer t i) (tree_struct bytes w a d p f e) h

    module _ (a size n : ℕ) (e : shape_at bytes w ≡ ListIn a size n) where
      room : (size ≡ 6) × (i < n)
      room = plain_pointer (tree bytes) bytes a size n i (subst (Points bytes w) e (points bytes w f)).2 (subst (λ t. HasPointer t i) (tree_list bytes w a size n f e) h)

      six : shape_at bytes w ≡ ListIn a 6 n
      six = e ∙ ap (λ k. ListIn a k n) room.0

      list : Planted bytes (ListIn a 6 n)
      list = subst (Planted bytes) six (planted bytes w f)

      pub list_inside : a + i < word_count bytes
      list_inside = omega (arith, list.ends, room.1)

      pub list_forest : Forest bytes (a + i)
      list_forest = list.child (a + i) (refl, omega arith, omega (arith, room.1))

      pub list_pointer : tree bytes (a + i) ≡ element_pointer (tree bytes w) i 1
      list_pointer = sym (ap (λ t. element_pointer t i 1) (tree_list bytes w a 6 n f six) ∙ nth_tree_from (tree bytes) a n i room.1)

      pub list_leaves : (new : List ℕ) → Forest new (a + i) → Changes (a + i) bytes new → Leaves w (with_pointer_element i (tree new (a + i)) (tree bytes w)) bytes new
      list_leaves new g c =
          let z : IsInPointers bytes new w a n i = in_pointers bytes new w a n i f six room.1 g c in
          record { forest = z.forest; tree = z.tree; changes = z.changes; place = z.place ∙ sym six }

    module _ (tag n d p : ℕ) (e : shape_at bytes w ≡ CompositeIn tag n d p) where
      abbrev part_of : ℕ → StructTree
      part_of x = struct_from bytes (tag + 1 + x * (d + p)) d p

      held : HasPointer (Composite d p (structs_from part_of 0 n)) i
      held = subst (λ t. HasPointer t i) (tree_composite bytes w tag n d p f e) h

      pub first_index : i < n
      first_index = omega (arith, held.0, struct_count_from part_of 0 n)

      pub first_pointer : 0 < p
      first_pointer = omega (arith, held.1, ap (λ (x : StructTree). tree_count x.pointers) (nth_struct_start part_of n i first_index), tree_count_from (tree bytes) (tag + 1 + i * (d + p) + d) p)

      structs : Planted bytes (CompositeIn tag n d p)
      structs = subst (Planted bytes) e (planted bytes w f)

      element : Planted bytes (StructIn (tag + 1 + i * (d + p)) d p)
      element = element_planted tag n d p i first_index bytes structs

      here : IsPointerOf (StructIn (tag + 1 + i * (d + p)) d p) (tag + 1 + i * (d + p) + d)
      here = (omega arith, omega (arith, first_pointer))

      pub first_inside : tag + 1 + i * (d + p) + d < word_count bytes
      first_inside = omega (arith, element.ends, first_pointer)

      pub first_forest : Forest bytes (tag + 1 + i * (d + p) + d)
      first_forest = element.child (tag + 1 + i * (d + p) + d) here

      pub first_tree : tree bytes (tag + 1 + i * (d + p) + d) ≡ element_pointer (tree bytes w) i 1
      first_tree = sym (
          ap (λ t. element_pointer t i 1) (tree_composite bytes w tag n d p f e)
          ∙ whole_pointer (nth_tree (nth_struct (structs_from part_of 0 n) i).pointers 0)
          ∙ ap (λ (x : StructTree). nth_tree x.pointers 0) (nth_struct_start part_of n i first_index)
          ∙ nth_tree_from (tree bytes) (tag + 1 + i * (d + p) + d) p 0 first_pointer
          ∙ ap (tree bytes) {x = tag + 1 + i * (d + p) + d + 0} {y = tag + 1 + i * (d + p) + d} (omega arith))

      pub first_leaves : (new : List ℕ) → Forest new (tag + 1 + i * (d + p) + d) → Changes (tag + 1 + i * (d + p) + d) bytes new
          → Leaves w (with_pointer_element i (tree new (tag + 1 + i * (d + p) + d)) (tree bytes w)) bytes new
      first_leaves new g c =
          let k : tag + 1 + i * (d + p) + d ≡ tag + 1 + i * (d + p) + d + 0 = omega arith in
          let x : IsInPointer bytes new (tag + 1 + i * (d + p)) d p 0 = in_pointer bytes new (tag + 1 + i * (d + p)) d p 0 element first_pointer (subst (Forest new) k g) (subst (λ q. Changes q bytes new) k c) in
          let z : IsInElement bytes new w tag n d p i = in_element bytes new w tag n d p i f e first_index x.planted x.changes in
          record {
            forest = z.forest;
            tree = z.tree
                ∙ ap (λ y. with_struct_element i y (tree bytes w)) (x.struct ∙ ap (λ q. with_pointer_tree (part_of i) 0 (tree new q)) (sym k))
                ∙ ap (with_struct_element i (with_pointer_tree (part_of i) 0 (tree new (tag + 1 + i * (d + p) + d)))) (tree_composite bytes w tag n d p f e)
                ∙ ap (λ y. Composite d p (with_struct (structs_from part_of 0 n) i (with_pointer_tree y 0 (tree new (tag + 1 + i * (d + p) + d))))) (sym (nth_struct_start part_of n i first_index))
                ∙ ap (with_pointer_element i (tree new (tag + 1 + i * (d + p) + d))) (sym (tree_composite bytes w tag n d p f e));
            changes = z.changes;
            place = z.place ∙ sym e;
          }

  -- ---- structs ----

  module _ (h : HasStruct (tree bytes w) i) where
    pub null_struct : shape_at bytes w ≡ NoShape → ⊥
    null_struct e = subst (λ t. HasStruct t i) (null_is bytes w f e) h

    pub struct_struct : (a d p : ℕ) → shape_at bytes w ≡ StructIn a d p → ⊥
    struct_struct a d p e = subst (λ t. HasStruct t i) (tree_struct bytes w a d p f e) h

    pub list_struct : (a size n : ℕ) → shape_at bytes w ≡ ListIn a size n → ⊥
    list_struct a size n e = plain_struct (tree bytes) bytes a size n i (subst (λ t. HasStruct t i) (tree_list bytes w a size n f e) h)

    pub struct_index : (tag n d p : ℕ) → shape_at bytes w ≡ CompositeIn tag n d p → i < n
    struct_index tag n d p e =
        let g : HasStruct (Composite d p (structs_from (λ x. struct_from bytes (tag + 1 + x * (d + p)) d p) 0 n)) i = subst (λ t. HasStruct t i) (tree_composite bytes w tag n d p f e) h in
        omega (arith, g, struct_count_from (λ x. struct_from bytes (tag + 1 + x * (d + p)) d p) 0 n)

    pub struct_leaves : (tag n d p : ℕ) (e : shape_at bytes w ≡ CompositeIn tag n d p) (new : List ℕ) → Planted new (StructIn (tag + 1 + i * (d + p)) d p) → PartChanges (StructIn (tag + 1 + i * (d + p)) d p) bytes new
        → Leaves w (with_struct_element i (struct_from new (tag + 1 + i * (d + p)) d p) (tree bytes w)) bytes new
    struct_leaves tag n d p e new g c =
        let z : IsInElement bytes new w tag n d p i = in_element bytes new w tag n d p i f e (struct_index tag n d p e) g c in
        record { forest = z.forest; tree = z.tree; changes = z.changes; place = z.place ∙ sym e }

    -- by the place
    pub place_leaves : (tag n d p : ℕ) → shape_at bytes w ≡ CompositeIn tag n d p → (q : Place) → q.start ≡ tag + 1 + i * (d + p) → q.data_words ≡ d → q.pointers ≡ p
        → (new : List ℕ) → Planted new (StructIn q.start q.data_words q.pointers) → PartChanges (StructIn q.start q.data_words q.pointers) bytes new
        → Leaves w (with_struct_element i (struct_from new q.start q.data_words q.pointers) (tree bytes w)) bytes new
    place_leaves tag n d p e q x y z new g c =
        let s : StructIn q.start q.data_words q.pointers ≡ StructIn (tag + 1 + i * (d + p)) d p = ap (λ k. StructIn k q.data_words q.pointers) x ∙ ap (λ k. StructIn (tag + 1 + i * (d + p)) k q.pointers) y ∙ ap (StructIn (tag + 1 + i * (d + p)) d) z in
        let t : struct_from new q.start q.data_words q.pointers ≡ struct_from new (tag + 1 + i * (d + p)) d p =
        ap (λ k. struct_from new k q.data_words q.pointers) x ∙ ap (λ k. struct_from new (tag + 1 + i * (d + p)) k q.pointers) y ∙ ap (struct_from new (tag + 1 + i * (d + p)) d) z in
        let l : Leaves w (with_struct_element i (struct_from new (tag + 1 + i * (d + p)) d p) (tree bytes w)) bytes new = struct_leaves tag n d p e new (subst (Planted new) s g) (subst (λ k. PartChanges k bytes new) s c) in
        subst (λ k. Leaves w (with_struct_element i k (tree bytes w)) bytes new) (sym t) l
