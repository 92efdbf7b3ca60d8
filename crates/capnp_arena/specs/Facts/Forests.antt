-- Trees that stay where other words change.
use Rattle.std.proofs.Common.{◌≡◌, ℕ, zero, suc, ◌+◌, ◌<◌, ◌≤◌, refl, sym, ap, subst, ◌∙◌, arith, List, [], ◌∷◌, length}
use Rattle.capnp_wire.specs.Place.{tree_at, tree_below, tree_with_level}
use Rattle.capnp_arena.specs.Shape.{IsWordWithin, IsPointerOf, IsTagOf, Points, shape_at, word_count}
use Rattle.capnp_arena.specs.Steps.Shape.{shape_target}
use Rattle.capnp_arena.specs.Forest.{IsSame, Owns, Itself, Below, Forest, Grown, tree}
use Rattle.capnp_arena.specs.Facts.Words.{target, shape, points_kept}
use Rattle.capnp_arena.specs.Facts.Shapes.{pointer_within, tag_within, after, inside, itself_inside}
use Rattle.capnp_arena.specs.Facts.Levels.{level_same}

-- ---- the parts of a forest ----

pub points : (bytes : List ℕ) (w : ℕ) → Forest bytes w → Points bytes w (shape_at bytes w)
points bytes w (Grown _ p k a b) = p

pub child : (bytes : List ℕ) (w : ℕ) → Forest bytes w → (j : ℕ) → IsPointerOf (shape_at bytes w) j → Forest bytes j
child bytes w (Grown _ p k a b) = k

pub child_apart : (bytes : List ℕ) (w : ℕ) → Forest bytes w → (j k : ℕ) → IsPointerOf (shape_at bytes w) j → Owns bytes j k → IsWordWithin (shape_at bytes w) k → ⊥
child_apart bytes w (Grown _ p k a b) = a

pub children_apart : (bytes : List ℕ) (w : ℕ) → Forest bytes w → (i j k : ℕ) → IsPointerOf (shape_at bytes w) i → IsPointerOf (shape_at bytes w) j → Owns bytes i k → Owns bytes j k → i ≡ j
children_apart bytes w (Grown _ p k a b) = b

-- the words of a tree lie after its pointer, and inside
pub owned_after : (bytes : List ℕ) (w k : ℕ) → Forest bytes w → Owns bytes w k → w < k
owned_after bytes w k (Grown _ p f a b) (Itself _ _ i) = after bytes w (shape_at bytes w) k p i
owned_after bytes w k (Grown _ p f a b) (Below _ j _ i o) =
    let l : w < j = after bytes w (shape_at bytes w) j p (pointer_within (shape_at bytes w) j i) in
    let m : j < k = owned_after bytes j k (f j i) o in omega (arith, l, m)

pub owned_inside : (bytes : List ℕ) (w k : ℕ) → Forest bytes w → Owns bytes w k → k < word_count bytes
owned_inside bytes w k (Grown _ p f a b) (Itself _ _ i) = inside bytes w (shape_at bytes w) k p i
owned_inside bytes w k (Grown _ p f a b) (Below _ j _ i o) = owned_inside bytes j k (f j i) o

-- ---- a tree whose words stay ----

module _ (old new : List ℕ) (longer : length old ≤ length new) where
  -- the pointer leads where it did
  pub shape_kept : (w : ℕ) → Forest old w → IsSame old new w → ((k : ℕ) → IsTagOf (shape_at old w) k → IsSame old new k) → Points new w (shape_at old w)
  shape_kept w f e h = points_kept old new longer w (shape_at old w) e h (points old w f)

  tags_kept : (w : ℕ) → ((k : ℕ) → Owns old w k → IsSame old new k) → (k : ℕ) → IsTagOf (shape_at old w) k → IsSame old new k
  tags_kept w h k t = h k (Itself w k (tag_within (shape_at old w) k t))

  pub same_shape : (w : ℕ) → Forest old w → IsSame old new w → ((k : ℕ) → Owns old w k → IsSame old new k) → shape_at new w ≡ shape_at old w
  same_shape w f e h = shape new w (shape_at old w) (shape_kept w f e (tags_kept w h))

  -- it leads to no other words
  pub owns_back : (w : ℕ) → Forest old w → IsSame old new w → ((k : ℕ) → Owns old w k → IsSame old new k) → (k : ℕ) → Owns new w k → Owns old w k
  owns_back w (Grown _ p f a b) e h k (Itself _ _ i) = Itself w k (subst (λ s. IsWordWithin s k) (same_shape w (Grown w p f a b) e h) i)
  owns_back w (Grown _ p f a b) e h k (Below _ j _ i o) =
      let q : IsPointerOf (shape_at old w) j = subst (λ s. IsPointerOf s j) (same_shape w (Grown w p f a b) e h) i in
      Below w j k q (owns_back j (f j q) (h j (Itself w j (pointer_within (shape_at old w) j q))) (λ m r. h m (Below w j m q r)) k o)

  pub forest_kept : (w : ℕ) → Forest old w → IsSame old new w → ((k : ℕ) → Owns old w k → IsSame old new k) → Forest new w
  forest_kept w (Grown _ p f a b) e h =
      let s : shape_at new w ≡ shape_at old w = same_shape w (Grown w p f a b) e h in
      let there : (j : ℕ) → IsPointerOf (shape_at new w) j → IsPointerOf (shape_at old w) j = λ j i. subst (λ z. IsPointerOf z j) s i in
      let same : (j : ℕ) → IsPointerOf (shape_at old w) j → IsSame old new j = λ j i. h j (Itself w j (pointer_within (shape_at old w) j i)) in
      let back : (j k : ℕ) → IsPointerOf (shape_at new w) j → Owns new j k → Owns old j k = λ j k i o. owns_back j (f j (there j i)) (same j (there j i)) (λ m r. h m (Below w j m (there j i) r)) k o in
      Grown w (subst (Points new w) (sym s) (shape_kept w (Grown w p f a b) e (tags_kept w h)))
      (λ j i. forest_kept j (f j (there j i)) (same j (there j i)) (λ m r. h m (Below w j m (there j i) r)))
      (λ j k i o q. a j k (there j i) (back j k i o) (subst (λ z. IsWordWithin z k) s q))
      (λ i j k x y o r. b i j k (there i x) (there j y) (back i k x o) (back j k y r))

  lower : (j w : ℕ) → suc w < j → j < word_count old → ((n m : ℕ) → word_count new ≤ n + j → word_count old ≤ m + j → tree_at n (new ∷ []) new j ≡ tree_at m (old ∷ []) old j)
      → (n m : ℕ) → word_count new ≤ suc n + w → word_count old ≤ suc m + w → tree_below n (new ∷ []) new j ≡ tree_below m (old ∷ []) old j
  unfolding tree_at tree_below
  lower j w l i r zero m x y = absurd (omega (arith, x, l, i, longer))
  lower j w l i r (suc n) zero x y = absurd (omega (arith, y, l, i))
  lower j w l i r (suc n) (suc m) x y = r n m (omega (arith, x, l)) (omega (arith, y, l))

  -- and the tree is what it was, with any levels that are enough
  pub tree_kept : (w : ℕ) → Forest old w → IsSame old new w → ((k : ℕ) → Owns old w k → IsSame old new k) → (n m : ℕ) → word_count new ≤ n + w → word_count old ≤ m + w → tree_at n (new ∷ []) new w ≡ tree_at m (old ∷ []) old w
  unfolding tree_at tree_below
  tree_kept w (Grown _ p f a b) e h zero m x y = absurd (omega (arith, itself_inside old w (shape_at old w) p, longer, x))
  tree_kept w (Grown _ p f a b) e h (suc n) zero x y = absurd (omega (arith, itself_inside old w (shape_at old w) p, y))
  tree_kept w (Grown _ p f a b) e h (suc n) (suc m) x y =
      ap (tree_with_level (tree_at n (new ∷ [])) (tree_below n (new ∷ []))) (target new w (shape_at old w) (shape_kept w (Grown w p f a b) e (tags_kept w h)))
      ∙ level_same old new (tree_at n (new ∷ [])) (tree_below n (new ∷ [])) (tree_at m (old ∷ [])) (tree_below m (old ∷ [])) w (shape_at old w) p (λ k i z. h k (Itself w k i))
      (λ j i. tree_kept j (f j i) (h j (Itself w j (pointer_within (shape_at old w) j i))) (λ k r. h k (Below w j k i r)) n m (omega (arith, x, later j i)) (omega (arith, y, later j i)))
      (λ j l i. lower j w l (low j i) (λ n m x y. tree_kept j (f j i) (h j (Itself w j (pointer_within (shape_at old w) j i))) (λ k r. h k (Below w j k i r)) n m x y) n m x y)
      ∙ sym (ap (tree_with_level (tree_at m (old ∷ [])) (tree_below m (old ∷ []))) (target old w (shape_at old w) p))
    where
      later : (j : ℕ) → IsPointerOf (shape_at old w) j → w < j
      later j i = after old w (shape_at old w) j p (pointer_within (shape_at old w) j i)

      low : (j : ℕ) → IsPointerOf (shape_at old w) j → j < word_count old
      low j i = inside old w (shape_at old w) j p (pointer_within (shape_at old w) j i)

-- with any levels that are enough, a tree is the same
pub enough : (bytes : List ℕ) (w : ℕ) → Forest bytes w → (n m : ℕ) → word_count bytes ≤ n + w → word_count bytes ≤ m + w → tree_at n (bytes ∷ []) bytes w ≡ tree_at m (bytes ∷ []) bytes w
enough bytes w f n m x y = tree_kept bytes bytes (omega arith) w f refl (λ k o. refl) n m x y

-- a tree whose words stay
pub same_tree : (old new : List ℕ) → length old ≤ length new → (w : ℕ) → Forest old w → IsSame old new w → ((k : ℕ) → Owns old w k → IsSame old new k) → tree new w ≡ tree old w
unfolding tree
same_tree old new longer w f e h = tree_kept old new longer w f e h (word_count new) (word_count old) (omega arith) (omega arith)

-- a tree by what its pointer leads to and the trees there
pub tree_step : (bytes : List ℕ) (w : ℕ) → Forest bytes w → tree bytes w ≡ tree_with_level tree tree (shape_target bytes (shape_at bytes w))
unfolding tree tree_at tree_below
tree_step bytes w f =
    enough bytes w f (word_count bytes) (suc (word_count bytes)) (omega arith) (omega arith)
    ∙ ap (tree_with_level (tree_at (word_count bytes) (bytes ∷ [])) (tree_below (word_count bytes) (bytes ∷ []))) (target bytes w (shape_at bytes w) (points bytes w f))
    ∙ level_same bytes bytes (tree_at (word_count bytes) (bytes ∷ [])) (tree_below (word_count bytes) (bytes ∷ [])) tree tree w (shape_at bytes w) (points bytes w f) (λ k i z. refl) (λ j i. refl)
    (λ j l i. lower j (child bytes w f j i) (inside bytes w (shape_at bytes w) j (points bytes w f) (pointer_within (shape_at bytes w) j i)) (omega (arith, l)) (word_count bytes) (omega arith))
  where
    lower : (j : ℕ) → Forest bytes j → j < word_count bytes → 0 < j → (n : ℕ) → word_count bytes ≤ n → tree_below n (bytes ∷ []) bytes j ≡ tree bytes j
    lower j f l z zero h = absurd (omega (arith, l, h))
    lower j f l z (suc n) h = enough bytes j f n (word_count bytes) (omega (arith, h, z)) (omega arith)
