-- What a call at a pointer leaves of the trees round it.
use Rattle.std.proofs.Common.{◌≡◌, ℕ, suc, ◌*◌, ◌<◌, ◌≤◌, ◌⊎◌, inl, inr, sym, ap, subst, ◌∙◌, arith, List, length}
use Rattle.std.proofs.lemmas.Bool.{cases_eq}
use Rattle.capnp_wire.specs.Place.{tree_with_level}
use Rattle.capnp_wire.specs.Tree.{Null}
use Rattle.capnp_arena.specs.Shape.{Shape, NoShape, IsWordWithin, IsPointerOf, IsTagOf, IsWordAt, Points, end_of, shape_at, word_count}
use Rattle.capnp_arena.specs.Steps.Shape.{shape_target}
use Rattle.capnp_arena.specs.Forest.{IsSame, Owns, Itself, Below, Forest, Grown, OwnedBy, Planted, Changes, PartChanges, tree}
use Rattle.capnp_arena.specs.Facts.Words.{shape, points_kept}
use Rattle.capnp_arena.specs.Facts.Shapes.{pointer_within, tag_within, tag_no_pointer, before_end, end_inside, itself_inside}
use Rattle.capnp_arena.specs.Facts.Forests.{points, child, child_apart, children_apart, owned_after, owned_inside, owns_back, forest_kept, same_tree, tree_step}

-- ---- nulls ----

pub null_shape : (bytes : List ℕ) (j : ℕ) → IsWordAt bytes j 0 → shape_at bytes j ≡ NoShape
null_shape bytes j h = shape bytes j NoShape h

pub null_forest : (bytes : List ℕ) (j : ℕ) → IsWordAt bytes j 0 → Forest bytes j
null_forest bytes j h =
    let e : NoShape ≡ shape_at bytes j = sym (null_shape bytes j h) in
    Grown j (subst (Points bytes j) e h) (λ i p. absurd (subst (λ s. IsPointerOf s i) (sym e) p)) (λ i k p o q. subst (λ s. IsPointerOf s i) (sym e) p) (λ i k l p q o r. absurd (subst (λ s. IsPointerOf s i) (sym e) p))

pub null_owns : (bytes : List ℕ) (j k : ℕ) → IsWordAt bytes j 0 → Owns bytes j k → ⊥
null_owns bytes j k h (Itself _ _ i) = subst (λ s. IsWordWithin s k) (null_shape bytes j h) i
null_owns bytes j k h (Below _ i _ p o) = subst (λ s. IsPointerOf s i) (null_shape bytes j h) p

pub null_tree : (bytes : List ℕ) (j : ℕ) → IsWordAt bytes j 0 → tree bytes j ≡ Null
null_tree bytes j h = tree_step bytes j (null_forest bytes j h) ∙ ap (λ s. tree_with_level tree tree (shape_target bytes s)) (null_shape bytes j h)

-- ---- one call after another ----

pub one_by_one : (a b c : List ℕ) (w : ℕ) → Changes w a b → Changes w b c → Changes w a c
one_by_one a b c w x y = record {
  longer = omega (arith, x.longer, y.longer);
  stays = λ k l n o. y.stays k (omega (arith, l, x.longer)) n (λ r. elim (x.grows k r) [ inl q ↦ o q | inr q ↦ omega (arith, q, l) ]) ∙ x.stays k l n o;
  grows = λ k o. elim (y.grows k o) [ inl r ↦ x.grows k r | inr r ↦ inr (omega (arith, r, x.longer)) ];
}

-- ---- a pointer and the part that it leads to ----

pub planted : (bytes : List ℕ) (w : ℕ) → Forest bytes w → Planted bytes (shape_at bytes w)
planted bytes w f = record {
  ends = end_inside bytes w (shape_at bytes w) (points bytes w f);
  child = child bytes w f;
  child_apart = child_apart bytes w f;
  children_apart = children_apart bytes w f;
}

-- its words are words of the segment
pub planted_inside : (bytes : List ℕ) (s : Shape) (k : ℕ) → Planted bytes s → IsWordWithin s k → k < word_count bytes
planted_inside bytes s k f i = let l : k < end_of s = before_end s k i in omega (arith, l, f.ends)

pub grown : (bytes : List ℕ) (w : ℕ) (s : Shape) → Points bytes w s → Planted bytes s → Forest bytes w
grown bytes w s h p =
    let e : s ≡ shape_at bytes w = sym (shape bytes w s h) in
    let q : Planted bytes (shape_at bytes w) = subst (Planted bytes) e p in
    Grown w (subst (Points bytes w) e h) q.child q.child_apart q.children_apart

pub owned : (bytes : List ℕ) (w k : ℕ) → OwnedBy bytes (shape_at bytes w) k → Owns bytes w k
owned bytes w k (inl i) = Itself w k i
owned bytes w k (inr r) = Below w r.0 k r.1 r.2

pub owned_by : (bytes : List ℕ) (w k : ℕ) → Owns bytes w k → OwnedBy bytes (shape_at bytes w) k
owned_by bytes w k (Itself _ _ i) = inl i
owned_by bytes w k (Below _ j _ i o) = inr (j, i, o)

pub parts_one_by_one : (a b c : List ℕ) (s : Shape) → PartChanges s a b → PartChanges s b c → PartChanges s a c
parts_one_by_one a b c s x y = record {
  longer = omega (arith, x.longer, y.longer);
  stays = λ k l o. y.stays k (omega (arith, l, x.longer)) (λ r. elim (x.grows k r) [ inl q ↦ o q | inr q ↦ omega (arith, q, l) ]) ∙ x.stays k l o;
  grows = λ k o. elim (y.grows k o) [ inl r ↦ x.grows k r | inr r ↦ inr (omega (arith, r, x.longer)) ];
  tags = λ k t. y.tags k t ∙ x.tags k t;
}

-- ---- a call at a pointer of a part ----

module _ (old new : List ℕ) (s : Shape) (w : ℕ) (f : Planted old s) (i : IsPointerOf s w) (g : Forest new w) (c : Changes w old new) where
  w_within : IsWordWithin s w
  w_within = pointer_within s w i

  -- its own words stay, but for the one where the call was
  pub own_same : (k : ℕ) → IsWordWithin s k → (k ≡ w → ⊥) → IsSame old new k
  own_same k h n = c.stays k (let l : k < word_count old = planted_inside old s k f h in omega (arith, l)) n (λ o. f.child_apart w k i o h)

  -- the trees at its other pointers stay
  module _ (j : ℕ) (p : IsPointerOf s j) (n : j ≡ w → ⊥) where
    sibling_itself : IsSame old new j
    sibling_itself = own_same j (pointer_within s j p) n

    sibling_words : (k : ℕ) → Owns old j k → IsSame old new k
    sibling_words k o = c.stays k (omega (arith, owned_inside old j k (f.child j p) o)) (λ e. f.child_apart j w p (subst (Owns old j) e o) w_within) (λ r. n (f.children_apart j w k p i o r))

    sibling_forest : Forest new j
    sibling_forest = forest_kept old new c.longer j (f.child j p) sibling_itself sibling_words

    sibling_back : (k : ℕ) → Owns new j k → Owns old j k
    sibling_back = owns_back old new c.longer j (f.child j p) sibling_itself sibling_words

    pub sibling_tree : tree new j ≡ tree old j
    sibling_tree = same_tree old new c.longer j (f.child j p) sibling_itself sibling_words

  -- what a child leads to now
  led : (j k : ℕ) → IsPointerOf s j → Owns new j k → ((j ≡ w) × (Owns old w k ⊎ (word_count old ≤ k))) ⊎ ((j ≡ w → ⊥) × Owns old j k)
  led j k p o = elim (cases_eq j w) [ inl e ↦ inl (e, c.grows k (subst (λ z. Owns new z k) e o)) | inr n ↦ inr (n, sibling_back j p n k o) ]

  low : (k : ℕ) → word_count old ≤ k → IsWordWithin s k → ⊥
  low k h r = let l : k < word_count old = planted_inside old s k f r in omega (arith, h, l)

  low_owned : (j k : ℕ) → IsPointerOf s j → word_count old ≤ k → Owns old j k → ⊥
  low_owned j k p h o = let l : k < word_count old = owned_inside old j k (f.child j p) o in omega (arith, h, l)

  one_apart : (j k : ℕ) → IsPointerOf s j → Owns new j k → IsWordWithin s k → ⊥
  one_apart j k p o r = elim (led j k p o) [
    | inl x ↦ elim x.1 [ inl y ↦ f.child_apart w k i y r | inr y ↦ low k y r ]
    | inr x ↦ f.child_apart j k p x.1 r
  ]

  both_apart : (a b k : ℕ) → IsPointerOf s a → IsPointerOf s b → Owns new a k → Owns new b k → a ≡ b
  both_apart a b k p q o r = elim (led a k p o) [
    | inl x ↦ elim (led b k q r) [
      | inl y ↦ x.0 ∙ sym y.0
      | inr y ↦ elim x.1 [ inl z ↦ x.0 ∙ f.children_apart w b k i q z y.1 | inr z ↦ absurd (low_owned b k q z y.1) ]
    ]
    | inr x ↦ elim (led b k q r) [
      | inl y ↦ elim y.1 [ inl z ↦ f.children_apart a w k p i x.1 z ∙ sym y.0 | inr z ↦ absurd (low_owned a k p z x.1) ]
      | inr y ↦ f.children_apart a b k p q x.1 y.1
    ]
  ]

  pub inner_planted : Planted new s
  inner_planted = record {
    ends = omega (arith, f.ends, c.longer);
    child = λ j p. elim (cases_eq j w) [ inl e ↦ subst (Forest new) (sym e) g | inr n ↦ sibling_forest j p n ];
    child_apart = one_apart;
    children_apart = both_apart;
  }

  -- it is one in the part
  pub inner_changes : PartChanges s old new
  inner_changes = record {
    longer = c.longer;
    stays = λ k l o. c.stays k l (λ e. o (inl (subst (IsWordWithin s) (sym e) w_within))) (λ r. o (inr (w, i, r)));
    grows = λ k o. elim o [ inl r ↦ inl (inl r) | inr r ↦ below r.0 k r.1 r.2 ];
    tags = λ k t. own_same k (tag_within s k t) (λ e. tag_no_pointer s k t (subst (IsPointerOf s) (sym e) i));
  }
    where
      below : (j k : ℕ) → IsPointerOf s j → Owns new j k → OwnedBy old s k ⊎ (word_count old ≤ k)
      below j k p o = elim (led j k p o) [
        | inl x ↦ elim x.1 [ inl y ↦ inl (inr (w, i, y)) | inr y ↦ inr y ]
        | inr x ↦ inl (inr (j, p, x.1))
      ]

-- ---- a call in the part that a pointer leads to ----

module _ (old new : List ℕ) (w : ℕ) (f : Forest old w) (p : Planted new (shape_at old w)) (c : PartChanges (shape_at old w) old new) where
  pointer_same : IsSame old new w
  pointer_same = c.stays w (let l : w < word_count old = itself_inside old w (shape_at old w) (points old w f) in omega (arith, l))
      (λ o. let l : w < w = owned_after old w w f (owned old w w o) in omega (arith, l))

  outer_points : Points new w (shape_at old w)
  outer_points = points_kept old new c.longer w (shape_at old w) pointer_same c.tags (points old w f)

  pub outer_shape : shape_at new w ≡ shape_at old w
  outer_shape = shape new w (shape_at old w) outer_points

  pub outer_forest : Forest new w
  outer_forest = grown new w (shape_at old w) outer_points p

  pub outer_changes : Changes w old new
  outer_changes = record {
    longer = c.longer;
    stays = λ k l n o. c.stays k l (λ r. o (owned old w k r));
    grows = λ k o. elim (c.grows k (subst (λ s. OwnedBy new s k) outer_shape (owned_by new w k o))) [ inl r ↦ inl (owned old w k r) | inr r ↦ inr r ];
  }

-- ---- data of a part that is written ----

module _ (old new : List ℕ) (longer : length old ≤ length new) (s : Shape) (f : Planted old s) (written : ℕ → Type 0)
    (is_data : (k : ℕ) → written k → IsWordWithin s k × (IsPointerOf s k → ⊥) × (IsTagOf s k → ⊥))
    (same : (k : ℕ) → 8 * suc k ≤ length old → (written k → ⊥) → IsSame old new k) where
  low_word : (k : ℕ) → IsWordWithin s k → 8 * suc k ≤ length old
  low_word k h = let l : k < word_count old = planted_inside old s k f h in omega (arith, l)

  pointer_stays : (j : ℕ) → IsPointerOf s j → IsSame old new j
  pointer_stays j p = same j (low_word j (pointer_within s j p)) (λ d. (is_data j d).1 p)

  words_stay : (j : ℕ) → IsPointerOf s j → (k : ℕ) → Owns old j k → IsSame old new k
  words_stay j p k o = same k (let l : k < word_count old = owned_inside old j k (f.child j p) o in omega (arith, l)) (λ d. f.child_apart j k p o (is_data k d).0)

  back : (j : ℕ) → IsPointerOf s j → (k : ℕ) → Owns new j k → Owns old j k
  back j p = owns_back old new longer j (f.child j p) (pointer_stays j p) (words_stay j p)

  pub data_tree : (j : ℕ) → IsPointerOf s j → tree new j ≡ tree old j
  data_tree j p = same_tree old new longer j (f.child j p) (pointer_stays j p) (words_stay j p)

  pub data_planted : Planted new s
  data_planted = record {
    ends = omega (arith, f.ends, longer);
    child = λ j p. forest_kept old new longer j (f.child j p) (pointer_stays j p) (words_stay j p);
    child_apart = λ j k p o r. f.child_apart j k p (back j p k o) r;
    children_apart = λ a b k p q o r. f.children_apart a b k p q (back a p k o) (back b q k r);
  }

  pub data_changes : PartChanges s old new
  data_changes = record {
    longer = longer;
    stays = λ k l o. same k l (λ d. o (inl (is_data k d).0));
    grows = λ k o. elim o [ inl r ↦ inl (inl r) | inr r ↦ inl (inr (r.0, r.1, back r.0 r.1 k r.2)) ];
    tags = λ k t. same k (low_word k (tag_within s k t)) (λ d. (is_data k d).2 t);
  }

-- ---- a new part at the end ----

module _ (old new : List ℕ) (longer : length old ≤ length new) (w : ℕ) (s : Shape) (h : Points new w s)
    (fresh : (k : ℕ) → IsWordWithin s k → word_count old ≤ k) (nulls : (j : ℕ) → IsPointerOf s j → IsWordAt new j 0)
    (same : (k : ℕ) → 8 * suc k ≤ length old → (k ≡ w → ⊥) → IsSame old new k) where
  pub new_planted : Planted new s
  new_planted = record {
    ends = end_inside new w s h;
    child = λ j p. null_forest new j (nulls j p);
    child_apart = λ j k p o r. null_owns new j k (nulls j p) o;
    children_apart = λ a b k p q o r. absurd (null_owns new a k (nulls a p) o);
  }

  pub new_forest : Forest new w
  new_forest = grown new w s h new_planted

  pub new_changes : Changes w old new
  new_changes = record {
    longer = longer;
    stays = λ k l n o. same k l n;
    grows = λ k o. inr (elim (subst (λ z. OwnedBy new z k) (shape new w s h) (owned_by new w k o)) [ inl r ↦ fresh k r | inr r ↦ absurd (null_owns new r.0 k (nulls r.0 r.1) r.2) ]);
  }

  pub new_null : (j : ℕ) → IsPointerOf s j → tree new j ≡ Null
  new_null j p = null_tree new j (nulls j p)
