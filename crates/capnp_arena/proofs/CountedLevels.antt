-- What a count answers of a tree by the levels that it has.
use Rattle.std.proofs.Common.{None, Option, Some, cond, ◌≡◌, ◌==◌, ℕ, zero, suc, ◌+◌, ◌-◌, ◌*◌, ◌<◌, ◌≤◌, ◌⊎◌, inl, inr, sym, ap, subst, ◌∙◌, arith, List}
use Rattle.capnp_wire.specs.Depth.{AreBelow, ElementsAreBelow, IsBelow}
use Rattle.capnp_wire.specs.Place.{list_tree, tree_with_level}
use Rattle.capnp_wire.specs.Tree.{Tree, StructTree, structs_from, trees_from}
use Rattle.capnp_arena.specs.Steps.Counts.{IsCount, IsCounted}
use Rattle.capnp_arena.specs.Forest.{Forest, struct_from, tree}
use Rattle.capnp_arena.specs.Shape.{CompositeIn, ListIn, NoShape, StructIn, shape_at}
use Rattle.capnp_arena.specs.Steps.Shape.{shape_target}
use Rattle.capnp_arena.specs.Facts.Forests.{tree_step}
use Rattle.capnp_arena.specs.Facts.Structs.{tree_composite, tree_list, tree_struct}

-- ---- answers ----

pub all_counted : (r : Option ℕ) (words : ℕ) (B : Type 0) → IsCount r words → B → IsCounted r words B
all_counted (Some n) words B h b = (h.0, h.1, b)
all_counted None words B h b = inl h

pub none_counted : (part words : ℕ) (A B : Type 0) → IsCounted None part A → part ≤ words → (B → A) → IsCounted None words B
none_counted part words A B h l f = elim h [ inl x ↦ inl (omega (arith, x, l)) | inr x ↦ inr (λ b. x (f b)) ]

-- ---- levels by what a pointer leads to ----

module _ (bytes : List ℕ) (w : ℕ) (f : Forest bytes w) (d : ℕ) where
  pub null_below : shape_at bytes w ≡ NoShape → IsBelow d (tree bytes w)
  null_below e = subst (IsBelow d) (sym (tree_step bytes w f ∙ ap (λ s. tree_with_level tree tree (shape_target bytes s)) e)) tt

  pub of_struct : (a k p : ℕ) → shape_at bytes w ≡ StructIn a k p → IsBelow d (tree bytes w) → (2 ≤ d) × AreBelow (d - 1) (trees_from (tree bytes) (a + k) p)
  of_struct a k p e b = subst (IsBelow d) (tree_struct bytes w a k p f e) b

  pub to_struct : (a k p : ℕ) → shape_at bytes w ≡ StructIn a k p → 2 ≤ d → AreBelow (d - 1) (trees_from (tree bytes) (a + k) p) → IsBelow d (tree bytes w)
  to_struct a k p e l b = subst (IsBelow d) (sym (tree_struct bytes w a k p f e)) (l, b)

  pub of_pointers : (a n : ℕ) → shape_at bytes w ≡ ListIn a 6 n → IsBelow d (tree bytes w) → (2 ≤ d) × AreBelow (d - 1) (trees_from (tree bytes) a n)
  of_pointers a n e b = subst (IsBelow d) (tree_list bytes w a 6 n f e) b

  pub to_pointers : (a n : ℕ) → shape_at bytes w ≡ ListIn a 6 n → 2 ≤ d → AreBelow (d - 1) (trees_from (tree bytes) a n) → IsBelow d (tree bytes w)
  to_pointers a n e l b = subst (IsBelow d) (sym (tree_list bytes w a 6 n f e)) (l, b)

  list_least : (a size n : ℕ) → size < 6 → IsBelow d (list_tree (tree bytes) bytes a size n) → cond (size == 2) 1 2 ≤ d
  list_least a zero n l b = b
  list_least a (suc zero) n l b = b
  list_least a (suc (suc zero)) n l b = b
  list_least a (suc (suc (suc zero))) n l b = b
  list_least a (suc (suc (suc (suc zero)))) n l b = b
  list_least a (suc (suc (suc (suc (suc zero))))) n l b = b
  list_least a (suc (suc (suc (suc (suc (suc z)))))) n l b = absurd (omega (arith, l))

  list_enough : (a size n : ℕ) → size < 6 → cond (size == 2) 1 2 ≤ d → IsBelow d (list_tree (tree bytes) bytes a size n)
  list_enough a zero n l b = b
  list_enough a (suc zero) n l b = b
  list_enough a (suc (suc zero)) n l b = b
  list_enough a (suc (suc (suc zero))) n l b = b
  list_enough a (suc (suc (suc (suc zero)))) n l b = b
  list_enough a (suc (suc (suc (suc (suc zero))))) n l b = b
  list_enough a (suc (suc (suc (suc (suc (suc z)))))) n l b = absurd (omega (arith, l))

  row_least : (size : ℕ) → size ≡ 6 → 2 ≤ d → cond (size == 2) 1 2 ≤ d
  row_least size e l = subst (λ k. cond (k == 2) 1 2 ≤ d) (sym e) l

  -- a list that is not composite
  pub of_list : (a size n : ℕ) → size < 7 → shape_at bytes w ≡ ListIn a size n → IsBelow d (tree bytes w) → cond (size == 2) 1 2 ≤ d
  of_list a size n l e b = go (six_or_less size l)
    where
      six_or_less : (k : ℕ) → k < 7 → (k < 6) ⊎ (k ≡ 6)
      six_or_less k h = grind (arith, h)

      go : (size < 6) ⊎ (size ≡ 6) → cond (size == 2) 1 2 ≤ d
      go (inl x) = list_least a size n x (subst (IsBelow d) (tree_list bytes w a size n f e) b)
      go (inr x) = row_least size x (of_pointers a n (e ∙ ap (λ k. ListIn a k n) x) b).0

  pub to_list : (a size n : ℕ) → size < 6 → shape_at bytes w ≡ ListIn a size n → cond (size == 2) 1 2 ≤ d → IsBelow d (tree bytes w)
  to_list a size n l e b = subst (IsBelow d) (sym (tree_list bytes w a size n f e)) (list_enough a size n l b)

  pub of_composite : (tag n k p : ℕ) → shape_at bytes w ≡ CompositeIn tag n k p → IsBelow d (tree bytes w) → (2 ≤ d) × ElementsAreBelow (d - 2) (structs_from (λ i. struct_from bytes (tag + 1 + i * (k + p)) k p) 0 n)
  of_composite tag n k p e b = subst (IsBelow d) (tree_composite bytes w tag n k p f e) b

  pub to_composite : (tag n k p : ℕ) → shape_at bytes w ≡ CompositeIn tag n k p → 2 ≤ d → ElementsAreBelow (d - 2) (structs_from (λ i. struct_from bytes (tag + 1 + i * (k + p)) k p) 0 n) → IsBelow d (tree bytes w)
  to_composite tag n k p e l b = subst (IsBelow d) (sym (tree_composite bytes w tag n k p f e)) (l, b)

-- ---- none below ----

pub no_row_below : (f : ℕ → Tree) (a p d : ℕ) → p ≡ 0 → AreBelow d (trees_from f a p)
no_row_below f a p d e = subst (λ k. AreBelow d (trees_from f a k)) (sym e) tt

-- structs without pointers
pub plain_structs_below : (bytes : List ℕ) (start k p d i n : ℕ) → p ≡ 0 → ElementsAreBelow d (structs_from (λ j. struct_from bytes (start + j * (k + p)) k p) i n)
plain_structs_below bytes start k p d i zero e = tt
plain_structs_below bytes start k p d i (suc n) e = (no_row_below (tree bytes) (start + i * (k + p) + k) p d e, plain_structs_below bytes start k p d (suc i) n e)

-- ---- one more of a row ----

pub row_more : (f : ℕ → Tree) (a i n d : ℕ) → i < n → IsBelow d (f (a + i)) → AreBelow d (trees_from f (a + (i + 1)) (n - (i + 1))) → AreBelow d (trees_from f (a + i) (n - i))
row_more f a i n d l h r =
    subst (λ k. AreBelow d (trees_from f (a + i) k)) {x = suc (n - (i + 1))} {y = n - i} (omega (arith, l))
    (h, subst (λ b. AreBelow d (trees_from f b (n - (i + 1)))) {x = a + (i + 1)} {y = suc (a + i)} (omega arith) r)

pub structs_more : (f : ℕ → StructTree) (i n d : ℕ) → i < n → AreBelow d (f i).pointers → ElementsAreBelow d (structs_from f (i + 1) (n - (i + 1))) → ElementsAreBelow d (structs_from f i (n - i))
structs_more f i n d l h r =
    subst (λ k. ElementsAreBelow d (structs_from f i k)) {x = suc (n - (i + 1))} {y = n - i} (omega (arith, l))
    (h, subst (λ b. ElementsAreBelow d (structs_from f b (n - (i + 1)))) {x = i + 1} {y = suc i} (omega arith) r)
