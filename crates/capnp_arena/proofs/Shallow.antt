-- A tree that is shallow enough is read whole, and of another one the first levels.
use Rattle.std.proofs.Common.{◌≡◌, ℕ, zero, suc, ◌+◌, ◌-◌, ◌*◌, ◌<◌, ◌≤◌, ◌⊎◌, inl, inr, refl, sym, ap, subst, ◌∙◌, arith, List, [], ◌∷◌}
use Rattle.capnp_wire.specs.Depth.{AreBelow, ElementsAreBelow, IsBelow}
use Rattle.capnp_wire.specs.Steps.Level.{tree_at_depth}
use Rattle.capnp_wire.specs.Place.{list_tree, struct_at, struct_tree, tree_below, tree_with_level}
use Rattle.capnp_wire.specs.Tree.{Composite, Null, Pointers, StructTree, Tree, empty_struct, nth_struct, nth_tree, structs_from, trees_from}
use Rattle.capnp_wire.specs.Facts.Indexed.{nth_struct_past, nth_struct_start, nth_tree_from, nth_tree_past, tree_count_from}
use Rattle.capnp_wire.specs.Facts.Rows.{struct_count_structs_from}
use Rattle.capnp_wire.specs.Facts.Levels.{below_step}
use Rattle.capnp_wire.specs.Facts.PointerWords.{not_below, not_equal}
use Rattle.capnp_arena.specs.Steps.Encoded.{HasSize}
use Rattle.capnp_arena.specs.Forest.{Forest, Grown, Planted, struct_from, tree}
use Rattle.capnp_arena.specs.Same.{IsCutOf, IsStructCutOf, SameElements, SameParts, SameRow, SameTo}
use Rattle.capnp_arena.specs.Shape.{CompositeIn, IsPointerOf, ListIn, NoShape, Points, Shape, StructIn, shape_at}
use Rattle.capnp_arena.specs.Steps.Shape.{shape_target}
use Rattle.capnp_arena.proofs.Encodings.{has_size}
use Rattle.capnp_arena.specs.Facts.Forests.{tree_step}
use Rattle.capnp_arena.specs.Facts.Levels.{struct_same, structs_same, trees_same}
use Rattle.capnp_arena.specs.Facts.Words.{target}

below_or_past : (i n : ℕ) → (i < n) ⊎ (n ≤ i)
below_or_past i n = grind arith

here_or_later : (a j : ℕ) → a ≤ j → (a ≡ j) ⊎ (suc a ≤ j)
here_or_later a j x = grind arith

pub row_below : (f : ℕ → Tree) (a n m : ℕ) → AreBelow m (trees_from f a n) → (j : ℕ) → a ≤ j → j < a + n → IsBelow m (f j)
row_below f a zero m h j x y = absurd (omega (arith, x, y))
row_below f a (suc n) m h j x y = elim (here_or_later a j x) [ inl e ↦ subst (λ k. IsBelow m (f k)) e h.0 | inr l ↦ row_below f (suc a) n m h.1 j l (omega (arith, y)) ]

pub elements_below : (f : ℕ → StructTree) (i n m : ℕ) → ElementsAreBelow m (structs_from f i n) → (x : ℕ) → i ≤ x → x < i + n → AreBelow m (f x).pointers
elements_below f i zero m h x y z = absurd (omega (arith, y, z))
elements_below f i (suc n) m h x y z = elim (here_or_later i x y) [ inl e ↦ subst (λ k. AreBelow m (f k).pointers) e h.0 | inr l ↦ elements_below f (suc i) n m h.1 x l (omega (arith, z)) ]

module _ (bytes : List ℕ) (l : ℕ) where
  list_deep : (f g : List ℕ → ℕ → Tree) (a size n : ℕ) → size < 7 → IsBelow l (list_tree (tree bytes) bytes a size n) → ((j : ℕ) → size ≡ 6 → a ≤ j → j < a + n → IsBelow (l - 1) (tree bytes j) → f bytes j ≡ tree bytes j)
      → tree_at_depth l f g (shape_target bytes (ListIn a size n)) ≡ list_tree (tree bytes) bytes a size n
  list_deep f g a zero n k h r = rw (not_equal l 0 (λ e. omega (arith, e, h)), not_equal l 1 (λ e. omega (arith, e, h))) refl
  list_deep f g a (suc zero) n k h r = rw (not_equal l 0 (λ e. omega (arith, e, h)), not_equal l 1 (λ e. omega (arith, e, h))) refl
  list_deep f g a (suc (suc zero)) n k h r = rw (not_equal l 0 (λ e. omega (arith, e, h))) refl
  list_deep f g a (suc (suc (suc zero))) n k h r = rw (not_equal l 0 (λ e. omega (arith, e, h)), not_equal l 1 (λ e. omega (arith, e, h))) refl
  list_deep f g a (suc (suc (suc (suc zero)))) n k h r = rw (not_equal l 0 (λ e. omega (arith, e, h)), not_equal l 1 (λ e. omega (arith, e, h))) refl
  list_deep f g a (suc (suc (suc (suc (suc zero))))) n k h r = rw (not_equal l 0 (λ e. omega (arith, e, h)), not_equal l 1 (λ e. omega (arith, e, h))) refl
  list_deep f g a (suc (suc (suc (suc (suc (suc zero)))))) n k h r =
      rw (not_equal l 0 (λ e. omega (arith, e, h.0)), not_equal l 1 (λ e. omega (arith, e, h.0))) (ap Pointers (trees_same (f bytes) (tree bytes) a n (λ j x y. r j refl x y (row_below (tree bytes) a n (l - 1) h.1 j x y))))
  list_deep f g a (suc (suc (suc (suc (suc (suc (suc z))))))) n k h r = absurd (omega (arith, k))

  level_deep : (f g : List ℕ → ℕ → Tree) (s : Shape) → HasSize s → IsBelow l (tree_with_level tree tree (shape_target bytes s)) → ((j : ℕ) → IsPointerOf s j → IsBelow (l - 1) (tree bytes j) → f bytes j ≡ tree bytes j) → ((j : ℕ) → IsPointerOf s j → IsBelow (l - 2) (tree bytes j) → g bytes j ≡ tree bytes j)
      → tree_at_depth l f g (shape_target bytes s) ≡ tree_with_level tree tree (shape_target bytes s)
  level_deep f g NoShape k h r q = refl
  level_deep f g (StructIn a d p) k h r q =
      rw (not_below l 2 h.0) (ap struct_tree (struct_same bytes bytes (f bytes) (tree bytes) d p a (λ j x y. refl) (λ j x y. r j (x, y) (row_below (tree bytes) (a + d) p (l - 1) h.1 j x y))))
  level_deep f g (ListIn a size n) k h r q = list_deep f g a size n k.0 h (λ j e x y b. r j (e, x, y) b)
  level_deep f g (CompositeIn tag n d p) k h r q =
      rw (not_below l 2 h.0) (ap (Composite d p) (structs_same (λ i. struct_at (g bytes) bytes d p (tag + 1 + i * (d + p))) (λ i. struct_from bytes (tag + 1 + i * (d + p)) d p) 0 n
      (λ i x y. struct_same bytes bytes (g bytes) (tree bytes) d p (tag + 1 + i * (d + p)) (λ j u v. refl)
      (λ j u v. q j (i, omega (arith, y), u, v) (row_below (tree bytes) (tag + 1 + i * (d + p) + d) p (l - 2) (elements_below (λ i. struct_from bytes (tag + 1 + i * (d + p)) d p) 0 n (l - 2) h.1 i x y) j u v)))))

pub deep : (bytes : List ℕ) (w : ℕ) → Forest bytes w → (l : ℕ) → IsBelow l (tree bytes w) → tree_below l (bytes ∷ []) bytes w ≡ tree bytes w
deep bytes w (Grown _ p f a b) l h =
    below_step l (bytes ∷ []) bytes w
    ∙ ap (tree_at_depth l (tree_below (l - 1) (bytes ∷ [])) (tree_below (l - 2) (bytes ∷ []))) (target bytes w (shape_at bytes w) p)
    ∙ level_deep bytes l (tree_below (l - 1) (bytes ∷ [])) (tree_below (l - 2) (bytes ∷ [])) (shape_at bytes w) (has_size bytes w (shape_at bytes w) p) (subst (IsBelow l) (tree_step bytes w (Grown w p f a b)) h)
    (λ j i k. deep bytes j (f j i) (l - 1) k) (λ j i k. deep bytes j (f j i) (l - 2) k)
    ∙ sym (tree_step bytes w (Grown w p f a b))

-- a struct
pub deep_struct : (bytes : List ℕ) (a d p : ℕ) → Planted bytes (StructIn a d p) → (l : ℕ) → AreBelow l (struct_from bytes a d p).pointers → struct_at (tree_below l (bytes ∷ []) bytes) bytes d p a ≡ struct_from bytes a d p
deep_struct bytes a d p h l x =
    struct_same bytes bytes (tree_below l (bytes ∷ []) bytes) (tree bytes) d p a (λ j y z. refl) (λ j y z. deep bytes j (h.child j (y, z)) l (row_below (tree bytes) (a + d) p l x j y z))

-- ---- the first levels of a tree that is cut off further down ----

rows_same : (R : Tree → Tree → Type 0) (f g : ℕ → Tree) (a n : ℕ) → R Null Null → ((j : ℕ) → a ≤ j → j < a + n → R (f j) (g j)) → SameRow R (trees_from f a n) (trees_from g a n)
rows_same R f g a n null h = (tree_count_from g a n ∙ sym (tree_count_from f a n), λ i. each i (below_or_past i n))
  where
    each : (i : ℕ) → (i < n) ⊎ (n ≤ i) → R (nth_tree (trees_from f a n) i) (nth_tree (trees_from g a n) i)
    each i (inl l) = subst (λ t. R t (nth_tree (trees_from g a n) i)) (sym (nth_tree_from f a n i l)) (subst (R (f (a + i))) (sym (nth_tree_from g a n i l)) (h (a + i) (omega arith) (omega (arith, l))))
    each i (inr p) = subst (λ t. R t (nth_tree (trees_from g a n) i)) (sym (nth_tree_past f a n i p)) (subst (R Null) (sym (nth_tree_past g a n i p)) null)

null_same : (n : ℕ) → SameTo n Null Null
null_same zero = tt
null_same (suc n) = refl

elements_same : (R : Tree → Tree → Type 0) (f g : ℕ → StructTree) (n : ℕ) → R Null Null → ((i : ℕ) → i < n → SameParts R (f i) (g i)) → SameElements R (structs_from f 0 n) (structs_from g 0 n)
elements_same R f g n null h = (struct_count_structs_from g 0 n ∙ sym (struct_count_structs_from f 0 n), λ i. each i (below_or_past i n))
  where
    each : (i : ℕ) → (i < n) ⊎ (n ≤ i) → SameParts R (nth_struct (structs_from f 0 n) i) (nth_struct (structs_from g 0 n) i)
    each i (inl l) = subst (λ t. SameParts R t (nth_struct (structs_from g 0 n) i)) (sym (nth_struct_start f n i l)) (subst (SameParts R (f i)) (sym (nth_struct_start g n i l)) (h i l))
    each i (inr p) = subst (λ t. SameParts R t (nth_struct (structs_from g 0 n) i)) (sym (nth_struct_past f 0 n i p)) (subst (SameParts R empty_struct) (sym (nth_struct_past g 0 n i p)) (refl, (refl, λ j. null)))

module _ (bytes : List ℕ) (l n : ℕ) (two : 2 ≤ l) where
  list_alike : (f g : List ℕ → ℕ → Tree) (a size k : ℕ) → size < 7 → ((j : ℕ) → size ≡ 6 → a ≤ j → j < a + k → SameTo n (f bytes j) (tree bytes j)) → SameTo (suc n) (tree_at_depth l f g (shape_target bytes (ListIn a size k))) (list_tree (tree bytes) bytes a size k)
  list_alike f g a zero k h r = rw (not_equal l 0 (λ e. omega (arith, e, two)), not_equal l 1 (λ e. omega (arith, e, two))) refl
  list_alike f g a (suc zero) k h r = rw (not_equal l 0 (λ e. omega (arith, e, two)), not_equal l 1 (λ e. omega (arith, e, two))) refl
  list_alike f g a (suc (suc zero)) k h r = rw (not_equal l 0 (λ e. omega (arith, e, two))) refl
  list_alike f g a (suc (suc (suc zero))) k h r = rw (not_equal l 0 (λ e. omega (arith, e, two)), not_equal l 1 (λ e. omega (arith, e, two))) refl
  list_alike f g a (suc (suc (suc (suc zero)))) k h r = rw (not_equal l 0 (λ e. omega (arith, e, two)), not_equal l 1 (λ e. omega (arith, e, two))) refl
  list_alike f g a (suc (suc (suc (suc (suc zero))))) k h r = rw (not_equal l 0 (λ e. omega (arith, e, two)), not_equal l 1 (λ e. omega (arith, e, two))) refl
  list_alike f g a (suc (suc (suc (suc (suc (suc zero)))))) k h r =
      rw (not_equal l 0 (λ e. omega (arith, e, two)), not_equal l 1 (λ e. omega (arith, e, two))) (_, refl, rows_same (SameTo n) (f bytes) (tree bytes) a k (null_same n) (λ j x y. r j refl x y))
  list_alike f g a (suc (suc (suc (suc (suc (suc (suc z))))))) k h r = absurd (omega (arith, h))

  level_alike : (f g : List ℕ → ℕ → Tree) (w : ℕ) (s : Shape) → Points bytes w s → ((j : ℕ) → IsPointerOf s j → SameTo n (f bytes j) (tree bytes j)) → ((j : ℕ) → IsPointerOf s j → SameTo n (g bytes j) (tree bytes j))
      → SameTo (suc n) (tree_at_depth l f g (shape_target bytes s)) (tree_with_level tree tree (shape_target bytes s))
  level_alike f g w NoShape p r q = refl
  level_alike f g w (StructIn a d k) p r q = rw (not_below l 2 two) (_, refl, rows_same (SameTo n) (f bytes) (tree bytes) (a + d) k (null_same n) (λ j x y. r j (x, y)))
  level_alike f g w (ListIn a size k) p r q = list_alike f g a size k p.2 (λ j e x y. r j (e, x, y))
  level_alike f g w (CompositeIn tag k d m) p r q =
      rw (not_below l 2 two) (
        _,
        refl,
        elements_same (SameTo n) (λ i. struct_at (g bytes) bytes d m (tag + 1 + i * (d + m))) (λ i. struct_from bytes (tag + 1 + i * (d + m)) d m) k (null_same n)
            (λ i x. (refl, rows_same (SameTo n) (g bytes) (tree bytes) (tag + 1 + i * (d + m) + d) m (null_same n) (λ j u v. q j (i, x, u, v)))),
      )

-- what a pointer leads to
alike : (n : ℕ) (bytes : List ℕ) (w : ℕ) → Forest bytes w → (l : ℕ) → 2 * n ≤ l → SameTo n (tree_below l (bytes ∷ []) bytes w) (tree bytes w)
alike zero bytes w h l x = tt
alike (suc n) bytes w (Grown _ p f a b) l x =
    subst (λ t. SameTo (suc n) (tree_below l (bytes ∷ []) bytes w) t) (sym (tree_step bytes w (Grown w p f a b)))
    (subst (λ t. SameTo (suc n) t (tree_with_level tree tree (shape_target bytes (shape_at bytes w))))
    (sym (below_step l (bytes ∷ []) bytes w ∙ ap (tree_at_depth l (tree_below (l - 1) (bytes ∷ [])) (tree_below (l - 2) (bytes ∷ []))) (target bytes w (shape_at bytes w) p)))
    (level_alike bytes l n (omega (arith, x)) (tree_below (l - 1) (bytes ∷ [])) (tree_below (l - 2) (bytes ∷ [])) w (shape_at bytes w) p
    (λ j i. alike n bytes j (f j i) (l - 1) (omega (arith, x))) (λ j i. alike n bytes j (f j i) (l - 2) (omega (arith, x)))))

-- a struct
alike_struct : (n : ℕ) (bytes : List ℕ) (a d p : ℕ) → Planted bytes (StructIn a d p) → (l : ℕ) → 2 * n ≤ l → SameParts (SameTo n) (struct_at (tree_below l (bytes ∷ []) bytes) bytes d p a) (struct_from bytes a d p)
alike_struct n bytes a d p h l x =
    (refl, rows_same (SameTo n) (tree_below l (bytes ∷ []) bytes) (tree bytes) (a + d) p (null_same n) (λ j y z. alike n bytes j (h.child j (y, z)) l x))

-- as a reader of what is received stands on it
pub seen : (bytes : List ℕ) (w : ℕ) → Forest bytes w → SameTo 32 (tree_below 65 (bytes ∷ []) bytes w) (tree bytes w)
seen bytes w h = alike 32 bytes w h 65 (omega arith)

-- as readers stand on them
pub cut : (bytes : List ℕ) (w : ℕ) → Forest bytes w → IsCutOf (tree_below 130 (bytes ∷ []) bytes w) (tree bytes w)
unfolding IsCutOf
cut bytes w h = alike 65 bytes w h 130 (omega arith)

pub cut_struct : (bytes : List ℕ) (a d p : ℕ) → Planted bytes (StructIn a d p) → IsStructCutOf (struct_at (tree_below 130 (bytes ∷ []) bytes) bytes d p a) (struct_from bytes a d p)
unfolding IsStructCutOf
cut_struct bytes a d p h = alike_struct 65 bytes a d p h 130 (omega arith)
