-- What a call in one struct of a list leaves of the list, and one at a pointer of a list of pointers.
use Rattle.std.proofs.Common.{◌≡◌, ℕ, zero, suc, ◌+◌, ◌*◌, ◌<◌, ◌≤◌, ◌⊎◌, inl, inr, refl, sym, ap, subst, ◌∙◌, arith, List, length}
use Rattle.std.proofs.lemmas.Bool.{cases_eq}
use Rattle.capnp_wire.specs.Elements.{with_pointer_element, with_struct, with_struct_element}
use Rattle.capnp_wire.specs.Tree.{Composite, Pointers, StructTree, structs_from}
use Rattle.capnp_arena.specs.Shape.{CompositeIn, IsPointerOf, IsWordWithin, ListIn, StructIn, shape_at, word_count}
use Rattle.capnp_arena.specs.Forest.{Changes, Forest, IsSame, OwnedBy, Owns, PartChanges, Planted, struct_from, tree}
use Rattle.capnp_arena.specs.Facts.Calls.{inner_changes, inner_planted, outer_changes, outer_forest, outer_shape, planted, planted_inside, sibling_tree}
use Rattle.capnp_arena.specs.Facts.Forests.{forest_kept, owned_inside, owns_back, same_tree}
use Rattle.capnp_arena.specs.Facts.Levels.{more_structs, structs_same, trees_same}
use Rattle.capnp_arena.specs.Facts.Shapes.{element_end, pointer_within, tag_within}
use Rattle.capnp_arena.specs.Facts.Structs.{row_changed, tree_composite, tree_list, two_parts}
use Rattle.capnp_arena.specs.Facts.Words.{run_same}

-- ---- one struct of a list, as a part ----

module _ (tag n d p i : ℕ) (l : i < n) where
  start : ℕ
  start = tag + 1 + i * (d + p)

  pub element_within : (k : ℕ) → IsWordWithin (StructIn (tag + 1 + i * (d + p)) d p) k → IsWordWithin (CompositeIn tag n d p) k
  element_within k h =
      let e : i * (d + p) + (d + p) ≤ n * (d + p) = element_end i n (d + p) l in
      (omega (arith, h.0), omega (arith, h.1, e))

  pub element_pointer : (k : ℕ) → IsPointerOf (StructIn (tag + 1 + i * (d + p)) d p) k → IsPointerOf (CompositeIn tag n d p) k
  element_pointer k h = (i, l, h.0, h.1)

  pub element_planted : (bytes : List ℕ) → Planted bytes (CompositeIn tag n d p) → Planted bytes (StructIn (tag + 1 + i * (d + p)) d p)
  element_planted bytes f =
      let e : i * (d + p) + (d + p) ≤ n * (d + p) = element_end i n (d + p) l in
      record {
        ends = omega (arith, f.ends, e);
        child = λ j q. f.child j (element_pointer j q);
        child_apart = λ j k q o h. f.child_apart j k (element_pointer j q) o (element_within k h);
        children_apart = λ a b k q r o s. f.children_apart a b k (element_pointer a q) (element_pointer b r) o s;
      }

  -- ---- a call in it ----

  module _ (old new : List ℕ) (f : Planted old (CompositeIn tag n d p)) (g : Planted new (StructIn (tag + 1 + i * (d + p)) d p)) (c : PartChanges (StructIn (tag + 1 + i * (d + p)) d p) old new) where
    low : (k : ℕ) → IsWordWithin (CompositeIn tag n d p) k → 8 * suc k ≤ length old
    low k h = let q : k < word_count old = planted_inside old (CompositeIn tag n d p) k f h in omega (arith, q)

    -- a word of the list that is not this struct's stays
    own_same : (k : ℕ) → IsWordWithin (CompositeIn tag n d p) k → (IsWordWithin (StructIn (tag + 1 + i * (d + p)) d p) k → ⊥) → IsSame old new k
    own_same k h away = c.stays k (low k h) (λ o. elim o [ inl q ↦ away q | inr q ↦ f.child_apart q.0 k (element_pointer q.0 q.1) q.2 h ])

    -- a pointer of another struct does not lie in this one
    not_here : (j x : ℕ) → (x ≡ i → ⊥) → tag + 1 + x * (d + p) + d ≤ j → j < tag + 1 + x * (d + p) + d + p → IsWordWithin (StructIn (tag + 1 + i * (d + p)) d p) j → ⊥
    not_here j x away a b h = elim (order x i) [
      | inl q ↦ let e : x * (d + p) + (d + p) ≤ i * (d + p) = element_end x i (d + p) q in omega (arith, a, b, h.0, h.1, e)
      | inr q ↦ elim q [
        | inl r ↦ away r
        | inr r ↦ let e : i * (d + p) + (d + p) ≤ x * (d + p) = element_end i x (d + p) r in omega (arith, a, b, h.0, h.1, e)
      ]
    ]
      where
        order : (a b : ℕ) → (a < b) ⊎ ((a ≡ b) ⊎ (b < a))
        order a b = grind arith

    -- the trees at the pointers of other structs stay
    module _ (j : ℕ) (q : IsPointerOf (CompositeIn tag n d p) j) (away : IsWordWithin (StructIn (tag + 1 + i * (d + p)) d p) j → ⊥) where
      other_itself : IsSame old new j
      other_itself = own_same j (pointer_within (CompositeIn tag n d p) j q) away

      other_words : (k : ℕ) → Owns old j k → IsSame old new k
      other_words k o = c.stays k (let r : k < word_count old = owned_inside old j k (f.child j q) o in omega (arith, r))
          (λ r. elim r [
            | inl h ↦ f.child_apart j k q o (element_within k h)
            | inr h ↦ away (subst (IsWordWithin (StructIn (tag + 1 + i * (d + p)) d p)) (f.children_apart h.0 j k (element_pointer h.0 h.1) q h.2 o) (pointer_within (StructIn (tag + 1 + i * (d + p)) d p) h.0 h.1))
          ])

      other_forest : Forest new j
      other_forest = forest_kept old new c.longer j (f.child j q) other_itself other_words

      other_back : (k : ℕ) → Owns new j k → Owns old j k
      other_back = owns_back old new c.longer j (f.child j q) other_itself other_words

      pub other_tree : tree new j ≡ tree old j
      other_tree = same_tree old new c.longer j (f.child j q) other_itself other_words

    -- a pointer of the list is one of this struct's, or not in it
    sort : (j : ℕ) → IsPointerOf (CompositeIn tag n d p) j → IsPointerOf (StructIn (tag + 1 + i * (d + p)) d p) j ⊎ (IsWordWithin (StructIn (tag + 1 + i * (d + p)) d p) j → ⊥)
    sort j q = elim (cases_eq q.0 i) [
      | inl e ↦ let m : q.0 * (d + p) ≡ i * (d + p) = ap (λ x. x * (d + p)) e in inl (omega (arith, q.2, m), omega (arith, q.3, m))
      | inr away ↦ inr (not_here j q.0 away q.2 q.3)
    ]

    past : (k : ℕ) → word_count old ≤ k → IsWordWithin (CompositeIn tag n d p) k → ⊥
    past k h r = let q : k < word_count old = planted_inside old (CompositeIn tag n d p) k f r in omega (arith, h, q)

    past_owned : (j k : ℕ) → IsPointerOf (CompositeIn tag n d p) j → word_count old ≤ k → Owns old j k → ⊥
    past_owned j k q h o = let r : k < word_count old = owned_inside old j k (f.child j q) o in omega (arith, h, r)

    one_apart : (j k : ℕ) → IsPointerOf (CompositeIn tag n d p) j → Owns new j k → IsWordWithin (CompositeIn tag n d p) k → ⊥
    one_apart j k q o r = elim (sort j q) [
      | inl h ↦ elim (c.grows k (inr (j, h, o))) [
        | inl x ↦ elim x [ inl y ↦ g.child_apart j k h o y | inr y ↦ f.child_apart y.0 k (element_pointer y.0 y.1) y.2 r ]
        | inr x ↦ past k x r
      ]
      | inr away ↦ f.child_apart j k q (other_back j q away k o) r
    ]

    -- what one of this struct's pointers and another's share
    mixed : (a b k : ℕ) → IsPointerOf (StructIn (tag + 1 + i * (d + p)) d p) a → IsPointerOf (CompositeIn tag n d p) b → (IsWordWithin (StructIn (tag + 1 + i * (d + p)) d p) b → ⊥) → Owns new a k → Owns old b k → ⊥
    mixed a b k q r away o s = elim (c.grows k (inr (a, q, o))) [
      | inl x ↦ elim x [
        | inl y ↦ f.child_apart b k r s (element_within k y)
        | inr y ↦ away (subst (IsWordWithin (StructIn (tag + 1 + i * (d + p)) d p)) (f.children_apart y.0 b k (element_pointer y.0 y.1) r y.2 s) (pointer_within (StructIn (tag + 1 + i * (d + p)) d p) y.0 y.1))
      ]
      | inr x ↦ past_owned b k r x s
    ]

    both_apart : (a b k : ℕ) → IsPointerOf (CompositeIn tag n d p) a → IsPointerOf (CompositeIn tag n d p) b → Owns new a k → Owns new b k → a ≡ b
    both_apart a b k q r o s = elim (sort a q) [
      | inl x ↦ elim (sort b r) [
        | inl y ↦ g.children_apart a b k x y o s
        | inr y ↦ absurd (mixed a b k x r y o (other_back b r y k s))
      ]
      | inr x ↦ elim (sort b r) [
        | inl y ↦ absurd (mixed b a k y q x s (other_back a q x k o))
        | inr y ↦ f.children_apart a b k q r (other_back a q x k o) (other_back b r y k s)
      ]
    ]

    pub list_planted : Planted new (CompositeIn tag n d p)
    list_planted = record {
      ends = omega (arith, f.ends, c.longer);
      child = λ j q. elim (sort j q) [ inl h ↦ g.child j h | inr away ↦ other_forest j q away ];
      child_apart = one_apart;
      children_apart = both_apart;
    }

    grown : (k : ℕ) → OwnedBy old (StructIn (tag + 1 + i * (d + p)) d p) k ⊎ (word_count old ≤ k) → OwnedBy old (CompositeIn tag n d p) k ⊎ (word_count old ≤ k)
    grown k (inl (inl h)) = inl (inl (element_within k h))
    grown k (inl (inr h)) = inl (inr (h.0, element_pointer h.0 h.1, h.2))
    grown k (inr h) = inr h

    below : (j k : ℕ) → IsPointerOf (CompositeIn tag n d p) j → Owns new j k → OwnedBy old (CompositeIn tag n d p) k ⊎ (word_count old ≤ k)
    below j k q o = elim (sort j q) [ inl h ↦ grown k (c.grows k (inr (j, h, o))) | inr away ↦ inl (inr (j, q, other_back j q away k o)) ]

    part : (k : ℕ) → OwnedBy old (StructIn (tag + 1 + i * (d + p)) d p) k → OwnedBy old (CompositeIn tag n d p) k
    part k (inl h) = inl (element_within k h)
    part k (inr h) = inr (h.0, element_pointer h.0 h.1, h.2)

    pub list_changes : PartChanges (CompositeIn tag n d p) old new
    list_changes = record {
      longer = c.longer;
      stays = λ k h o. c.stays k h (λ r. o (part k r));
      grows = λ k o. elim o [ inl r ↦ inl (inl r) | inr r ↦ below r.0 k r.1 r.2 ];
      tags = λ k t. own_same k (tag_within (CompositeIn tag n d p) k t) (λ h. omega (arith, t, h.0));
    }

    -- another struct stays
    pub other_struct : (x : ℕ) → x < n → (x ≡ i → ⊥) → struct_from new (tag + 1 + x * (d + p)) d p ≡ struct_from old (tag + 1 + x * (d + p)) d p
    other_struct x m away =
        let e : x * (d + p) + (d + p) ≤ n * (d + p) = element_end x n (d + p) m in
        let a : ℕ = tag + 1 + x * (d + p) in
        two_parts (struct_from new a d p) (struct_from old a d p)
        (run_same old new a d (λ k y z. own_same k (omega (arith, y), omega (arith, z, e)) (λ h. not_within k y z h)))
        (trees_same (tree new) (tree old) (a + d) p (λ j y z. other_tree j (x, m, y, z) (not_here j x away y z)))
      where
        not_within : (k : ℕ) → tag + 1 + x * (d + p) ≤ k → k < tag + 1 + x * (d + p) + d → IsWordWithin (StructIn (tag + 1 + i * (d + p)) d p) k → ⊥
        not_within k y z h = elim (order x i) [
          | inl q ↦ let e : x * (d + p) + (d + p) ≤ i * (d + p) = element_end x i (d + p) q in omega (arith, y, z, h.0, h.1, e)
          | inr q ↦ elim q [
            | inl r ↦ away r
            | inr r ↦ let e : i * (d + p) + (d + p) ≤ x * (d + p) = element_end i x (d + p) r in omega (arith, y, z, h.0, h.1, e)
          ]
        ]
          where
            order : (a b : ℕ) → (a < b) ⊎ ((a ≡ b) ⊎ (b < a))
            order a b = grind arith

-- ---- the tree of the list then ----

structs_changed : (f g : ℕ → StructTree) (a n i : ℕ) → i < n → ((x : ℕ) → a ≤ x → x < a + n → (x ≡ a + i → ⊥) → g x ≡ f x) → structs_from g a n ≡ with_struct (structs_from f a n) i (g (a + i))
structs_changed f g a zero i l h = absurd (omega (arith, l))
structs_changed f g a (suc n) zero l h =
    let e : a ≡ a + 0 = omega arith in
    more_structs (g a) (g (a + 0)) (structs_from g (suc a) n) (structs_from f (suc a) n) (ap g e) (structs_same g f (suc a) n (λ x y z. h x (omega (arith, y)) (omega (arith, z)) (λ q. omega (arith, q, y))))
structs_changed f g a (suc n) (suc i) l h =
    let e : suc a + i ≡ a + suc i = omega arith in
    more_structs (g a) (f a) (structs_from g (suc a) n) (with_struct (structs_from f (suc a) n) i (g (a + suc i))) (h a (omega arith) (omega arith) (λ q. omega (arith, q)))
    (structs_changed f g (suc a) n i (omega (arith, l)) (λ x y z w. h x (omega (arith, y)) (omega (arith, z)) (λ q. w (omega (arith, q)))) ∙ ap (λ x. with_struct (structs_from f (suc a) n) i (g x)) e)

pub record IsInElement (old new : List ℕ) (at tag n d p i : ℕ) : Type 0 where
  pub forest : Forest new at
  pub place : shape_at new at ≡ CompositeIn tag n d p
  pub changes : Changes at old new
  pub tree : tree new at ≡ with_struct_element i (struct_from new (tag + 1 + i * (d + p)) d p) (tree old at)

-- after a call in one struct of a list
pub in_element : (old new : List ℕ) (at tag n d p i : ℕ) → Forest old at → shape_at old at ≡ CompositeIn tag n d p → i < n → Planted new (StructIn (tag + 1 + i * (d + p)) d p) → PartChanges (StructIn (tag + 1 + i * (d + p)) d p) old new → IsInElement old new at tag n d p i
in_element old new at tag n d p i f e l g c =
    let fs : Planted old (CompositeIn tag n d p) = subst (Planted old) e (planted old at f) in
    let gs : Planted new (CompositeIn tag n d p) = list_planted tag n d p i l old new fs g c in
    let cs : PartChanges (CompositeIn tag n d p) old new = list_changes tag n d p i l old new fs g c in
    let g2 : Planted new (shape_at old at) = subst (Planted new) (sym e) gs in
    let c2 : PartChanges (shape_at old at) old new = subst (λ s. PartChanges s old new) (sym e) cs in
    let s : shape_at new at ≡ CompositeIn tag n d p = outer_shape old new at f g2 c2 ∙ e in
    let h : Forest new at = outer_forest old new at f g2 c2 in
    record {
      forest = h;
      place = s;
      changes = outer_changes old new at f g2 c2;
      tree = tree_composite new at tag n d p h s
          ∙ ap (Composite d p) (structs_changed (λ x. struct_from old (tag + 1 + x * (d + p)) d p) (λ x. struct_from new (tag + 1 + x * (d + p)) d p) 0 n i l
          (λ x y z away. other_struct tag n d p i l old new fs g c x (omega (arith, z)) (λ q. away (omega (arith, q)))))
          ∙ ap (λ x. Composite d p (with_struct (structs_from (λ x. struct_from old (tag + 1 + x * (d + p)) d p) 0 n) i (struct_from new (tag + 1 + x * (d + p)) d p))) {x = 0 + i} {y = i} (omega arith)
          ∙ ap (with_struct_element i (struct_from new (tag + 1 + i * (d + p)) d p)) (sym (tree_composite old at tag n d p f e));
    }

-- ---- a list of pointers ----

pub record IsInPointers (old new : List ℕ) (at start n i : ℕ) : Type 0 where
  pub forest : Forest new at
  pub place : shape_at new at ≡ ListIn start 6 n
  pub changes : Changes at old new
  pub tree : tree new at ≡ with_pointer_element i (tree new (start + i)) (tree old at)

-- after a call at one of its pointers
pub in_pointers : (old new : List ℕ) (at start n i : ℕ) → Forest old at → shape_at old at ≡ ListIn start 6 n → i < n → Forest new (start + i) → Changes (start + i) old new → IsInPointers old new at start n i
in_pointers old new at start n i f e l g c =
    let fs : Planted old (ListIn start 6 n) = subst (Planted old) e (planted old at f) in
    let q : IsPointerOf (ListIn start 6 n) (start + i) = (refl, omega arith, omega (arith, l)) in
    let g2 : Planted new (shape_at old at) = subst (Planted new) (sym e) (inner_planted old new (ListIn start 6 n) (start + i) fs q g c) in
    let c2 : PartChanges (shape_at old at) old new = subst (λ s. PartChanges s old new) (sym e) (inner_changes old new (ListIn start 6 n) (start + i) fs q g c) in
    let s : shape_at new at ≡ ListIn start 6 n = outer_shape old new at f g2 c2 ∙ e in
    let h : Forest new at = outer_forest old new at f g2 c2 in
    record {
      forest = h;
      place = s;
      changes = outer_changes old new at f g2 c2;
      tree = tree_list new at start 6 n h s
          ∙ ap Pointers (row_changed (tree old) (tree new) start n i l (λ j x y away. sibling_tree old new (ListIn start 6 n) (start + i) fs q g c j (refl, x, y) away))
          ∙ ap (with_pointer_element i (tree new (start + i))) (sym (tree_list old at start 6 n f e));
    }
