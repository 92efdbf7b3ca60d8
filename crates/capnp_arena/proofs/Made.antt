-- A new target at the end, all zero, and the pointer to it.
use Rattle.std.proofs.Common.{◌≡◌, ℕ, suc, ◌+◌, ◌-◌, ◌*◌, ◌^◌, ◌<◌, ◌≤◌, ◌⊎◌, inl, inr, refl, sym, ap, subst, ◌∙◌, arith, true, false, ◌==◌, eq-eqb, ne_eqb, List, ◌++◌, length, replicate}
use Rattle.std.proofs.lemmas.List.{length-append, length-replicate, take_at}
use Rattle.std.proofs.lemmas.Bool.{cases_eq}
use Rattle.capnp_wire.specs.Edits.{nulls}
use Rattle.capnp_wire.specs.Encoding.{list_word, spelled_number, struct_word}
use Rattle.capnp_wire.specs.Facts.Bytes.{length_spelled}
use Rattle.capnp_wire.specs.Locate.{list_words}
use Rattle.capnp_wire.specs.Place.{bytes_at, list_tree}
use Rattle.capnp_wire.specs.Tree.{Composite, Null, Struct, structs_from, trees_from}
use Rattle.capnp_wire.specs.Facts.Filling.{length_put}
use Rattle.capnp_arena.specs.Steps.Made.{IsObjectMade, struct_pointer, struct_start}
use Rattle.capnp_arena.specs.Shape.{NoShape, CompositeIn, ListIn, IsPointerOf, IsWordWithin, IsWordAt, Points, StructIn, shape_at, word_count}
use Rattle.capnp_arena.specs.Forest.{Changes, Forest, IsSame, struct_from, tree}
use Rattle.capnp_arena.specs.Facts.Calls.{new_changes, new_forest, new_null, null_tree}
use Rattle.capnp_arena.proofs.Puts.{longer_same, put_before, put_behind, put_there, added_there, zeros_part}
use Rattle.capnp_arena.specs.Facts.Structs.{null_row, tree_composite, tree_list, tree_struct, two_parts}
use Rattle.capnp_arena.specs.Facts.Shapes.{element_end}
use Rattle.capnp_arena.specs.Facts.Levels.{structs_same}
use Rattle.capnp_arena.specs.Facts.Words.{shape}

-- a word put into bytes with others added
module _ (old new added : List ℕ) (at word : ℕ) (h : IsObjectMade old new added at word) where
  fits : 8 * at + length (spelled_number 8 word) ≤ length (old ++ added)
  fits = omega (arith, length-append old added, h.whole, length_spelled 8 word, h.inside)

  pub made_length : length new ≡ 8 * (word_count old + word_count added)
  made_length = ap length h.is ∙ length_put (8 * at) (spelled_number 8 word) (old ++ added) fits ∙ omega (arith, length-append old added, h.whole, h.words)

  pub made_longer : length old ≤ length new
  made_longer = omega (arith, made_length, h.whole)

  pub made_same : (k : ℕ) → 8 * suc k ≤ length old → (k ≡ at → ⊥) → IsSame old new k
  made_same k l other = elim (order k at) [
    | inl x ↦ ap (λ z. bytes_at z k 8) h.is ∙ put_before (8 * at) (spelled_number 8 word) (old ++ added) k fits (omega (arith, x)) ∙ longer_same old added k l
    | inr y ↦ elim y [
      | inl e ↦ absurd (other e)
      | inr x ↦ ap (λ z. bytes_at z k 8) h.is ∙ put_behind (8 * at) (spelled_number 8 word) (old ++ added) k 8 fits (omega (arith, x, length_spelled 8 word)) ∙ longer_same old added k l
    ]
  ]
    where
      order : (i j : ℕ) → (i < j) ⊎ ((i ≡ j) ⊎ (j < i))
      order i j = grind arith

  pub made_word : IsWordAt new at word
  made_word = (omega (arith, made_length, h.inside), ap (λ z. bytes_at z at 8) h.is ∙ put_there at (spelled_number 8 word) (old ++ added) 8 fits (length_spelled 8 word))

  -- what was added stands there
  pub made_added : (a c : ℕ) → word_count old ≤ a → bytes_at new a c ≡ bytes_at added (a - word_count old) c
  made_added a c l = ap (λ z. bytes_at z a c) h.is ∙ put_behind (8 * at) (spelled_number 8 word) (old ++ added) a c fits (omega (arith, l, h.inside, length_spelled 8 word)) ∙ added_there old added (word_count old) a c h.whole l

  -- a pointer there that is zero
  pub made_null : (j : ℕ) → word_count old ≤ j → j < word_count old + word_count added → bytes_at added (j - word_count old) 8 ≡ replicate 8 0 → IsWordAt new j 0
  made_null j l q e = (omega (arith, made_length, q), made_added j 8 l ∙ e)

  -- ---- a struct ----

  module _ (d p : ℕ) (hd : d < 2 ^ 16) (hp : p < 2 ^ 16) (zeros : added ≡ replicate (8 * (d + p)) 0) (some : 0 < d + p) (e : word ≡ struct_word (word_count old - suc at) d p) where
    struct_words : word_count added ≡ d + p
    struct_words = omega (arith, ap length zeros, length-replicate {A = ℕ} (8 * (d + p)) 0)

    struct_points : Points new at (StructIn (word_count old) d p)
    struct_points = inr (h.inside, omega (arith, h.few), hd, hp, some, omega (arith, made_length, struct_words), subst (IsWordAt new at) e made_word)

    struct_fresh : (k : ℕ) → IsWordWithin (StructIn (word_count old) d p) k → word_count old ≤ k
    struct_fresh k i = i.0

    struct_nulls : (j : ℕ) → IsPointerOf (StructIn (word_count old) d p) j → IsWordAt new j 0
    struct_nulls j i = made_null j (omega (arith, i.0)) (omega (arith, i.1, struct_words)) (ap (λ z. bytes_at z (j - word_count old) 8) zeros ∙ zeros_part (8 * (d + p)) (j - word_count old) 8 (omega (arith, i.0, i.1)))

    pub struct_shape : shape_at new at ≡ StructIn (word_count old) d p
    struct_shape = shape new at (StructIn (word_count old) d p) struct_points

    pub struct_forest : Forest new at
    struct_forest = new_forest old new made_longer at (StructIn (word_count old) d p) struct_points struct_fresh struct_nulls made_same

    pub struct_changes : Changes at old new
    struct_changes = new_changes old new made_longer at (StructIn (word_count old) d p) struct_points struct_fresh struct_nulls made_same

    pub struct_is : tree new at ≡ Struct (replicate (8 * d) 0) (nulls p)
    struct_is =
        tree_struct new at (word_count old) d p struct_forest struct_shape
        ∙ ap (λ x. Struct x (trees_from (tree new) (word_count old + d) p)) (made_added (word_count old) (8 * d) (omega arith) ∙ ap (λ z. bytes_at z (word_count old - word_count old) (8 * d)) zeros ∙ zeros_part (8 * (d + p)) (word_count old - word_count old) (8 * d) (omega arith))
        ∙ ap (Struct (replicate (8 * d) 0)) (null_row (tree new) (word_count old + d) 0 p (λ j x y. new_null old new made_longer at (StructIn (word_count old) d p) struct_points struct_fresh struct_nulls made_same j (x, y)))

  -- ---- a null ----

  module _ (e : word ≡ 0) where
    null_points : Points new at NoShape
    null_points = subst (IsWordAt new at) e made_word

    pub cleared_forest : Forest new at
    cleared_forest = new_forest old new made_longer at NoShape null_points (λ k i. absurd i) (λ k i. absurd i) made_same

    pub cleared_changes : Changes at old new
    cleared_changes = new_changes old new made_longer at NoShape null_points (λ k i. absurd i) (λ k i. absurd i) made_same

    pub cleared_tree : tree new at ≡ Null
    cleared_tree = null_tree new at null_points

  -- ---- a list that is not composite ----

  module _ (size count : ℕ) (few : size < 7) (hn : count < 2 ^ 29) (words : word_count added ≡ list_words size count) (zeros : size ≡ 6 → added ≡ replicate (8 * list_words size count) 0) (e : word ≡ list_word (word_count old - suc at) size count) where
    list_points : Points new at (ListIn (word_count old) size count)
    list_points = (h.inside, omega (arith, h.few), few, hn, omega (arith, made_length, words), subst (IsWordAt new at) e made_word)

    list_fresh : (k : ℕ) → IsWordWithin (ListIn (word_count old) size count) k → word_count old ≤ k
    list_fresh k i = i.0

    list_nulls : (j : ℕ) → IsPointerOf (ListIn (word_count old) size count) j → IsWordAt new j 0
    list_nulls j i =
        let w : word_count added ≡ count = words ∙ ap (λ z. list_words z count) i.0 ∙ omega arith in
        let z : added ≡ replicate (8 * word_count added) 0 = zeros i.0 ∙ ap (λ n. replicate (8 * n) 0) (sym words) in
        made_null j i.1 (omega (arith, i.2, w)) (ap (λ z. bytes_at z (j - word_count old) 8) z ∙ zeros_part (8 * word_count added) (j - word_count old) 8 (omega (arith, i.1, i.2, w)))

    pub list_shape : shape_at new at ≡ ListIn (word_count old) size count
    list_shape = shape new at (ListIn (word_count old) size count) list_points

    pub list_forest : Forest new at
    list_forest = new_forest old new made_longer at (ListIn (word_count old) size count) list_points list_fresh list_nulls made_same

    pub list_changes : Changes at old new
    list_changes = new_changes old new made_longer at (ListIn (word_count old) size count) list_points list_fresh list_nulls made_same

    pub list_null : (j : ℕ) → IsPointerOf (ListIn (word_count old) size count) j → tree new j ≡ Null
    list_null = new_null old new made_longer at (ListIn (word_count old) size count) list_points list_fresh list_nulls made_same

    pub list_is : tree new at ≡ list_tree (tree new) new (word_count old) size count
    list_is = tree_list new at (word_count old) size count list_forest list_shape

  -- ---- a composite list ----

  module _ (count d p : ℕ) (hn : count < 2 ^ 29) (hd : d < 2 ^ 16) (hp : p < 2 ^ 16) (hm : count * (d + p) < 2 ^ 29) (zeros : added ≡ spelled_number 8 (struct_word count d p) ++ replicate (8 * (count * (d + p))) 0) (e : word ≡ list_word (word_count old - suc at) 7 (count * (d + p))) where
    composite_words : word_count added ≡ 1 + count * (d + p)
    composite_words = omega (arith, ap length zeros, length-append (spelled_number 8 (struct_word count d p)) (replicate (8 * (count * (d + p))) 0), length_spelled 8 (struct_word count d p), length-replicate {A = ℕ} (8 * (count * (d + p))) 0)

    after_tag : (a n : ℕ) → word_count old + 1 ≤ a → 8 * a + n ≤ 8 * (word_count old + 1 + count * (d + p)) → bytes_at new a n ≡ replicate n 0
    after_tag a n l q =
        made_added a n (omega (arith, l)) ∙ ap (λ z. bytes_at z (a - word_count old) n) zeros
        ∙ added_there (spelled_number 8 (struct_word count d p)) (replicate (8 * (count * (d + p))) 0) 1 (a - word_count old) n (length_spelled 8 (struct_word count d p)) (omega (arith, l))
        ∙ zeros_part (8 * (count * (d + p))) (a - word_count old - 1) n (omega (arith, l, q))

    tag_at : IsWordAt new (word_count old) (struct_word count d p)
    tag_at = (
      omega (arith, made_length, composite_words),
      made_added (word_count old) 8 (omega arith) ∙ ap (λ z. bytes_at z (word_count old - word_count old) 8) zeros
          ∙ ap (λ n. bytes_at (spelled_number 8 (struct_word count d p) ++ replicate (8 * (count * (d + p))) 0) n 8) {x = word_count old - word_count old} {y = 0} (omega arith)
          ∙ take_at (spelled_number 8 (struct_word count d p)) (replicate (8 * (count * (d + p))) 0) 8 (length_spelled 8 (struct_word count d p)),
    )

    composite_points : Points new at (CompositeIn (word_count old) count d p)
    composite_points = (h.inside, omega (arith, h.few), hd, hp, hn, hm, omega (arith, made_length, composite_words), subst (IsWordAt new at) e made_word, tag_at)

    composite_fresh : (k : ℕ) → IsWordWithin (CompositeIn (word_count old) count d p) k → word_count old ≤ k
    composite_fresh k i = i.0

    composite_nulls : (j : ℕ) → IsPointerOf (CompositeIn (word_count old) count d p) j → IsWordAt new j 0
    composite_nulls j i =
        let l : i.0 * (d + p) + (d + p) ≤ count * (d + p) = element_end i.0 count (d + p) i.1 in
        (omega (arith, made_length, composite_words, i.3, l), after_tag j 8 (omega (arith, i.2)) (omega (arith, i.3, l)))

    pub composite_shape : shape_at new at ≡ CompositeIn (word_count old) count d p
    composite_shape = shape new at (CompositeIn (word_count old) count d p) composite_points

    pub composite_forest : Forest new at
    composite_forest = new_forest old new made_longer at (CompositeIn (word_count old) count d p) composite_points composite_fresh composite_nulls made_same

    pub composite_changes : Changes at old new
    composite_changes = new_changes old new made_longer at (CompositeIn (word_count old) count d p) composite_points composite_fresh composite_nulls made_same

    element_is : (i : ℕ) → i < count → struct_from new (word_count old + 1 + i * (d + p)) d p ≡ record { bytes = replicate (8 * d) 0; pointers = nulls p }
    element_is i q =
        let l : i * (d + p) + (d + p) ≤ count * (d + p) = element_end i count (d + p) q in
        let a : ℕ = word_count old + 1 + i * (d + p) in
        two_parts (struct_from new a d p) (record { bytes = replicate (8 * d) 0; pointers = nulls p })
        (after_tag a (8 * d) (omega arith) (omega (arith, l)))
        (null_row (tree new) (a + d) 0 p (λ j x y. new_null old new made_longer at (CompositeIn (word_count old) count d p) composite_points composite_fresh composite_nulls made_same j (i, q, x, y)))

    pub composite_is : tree new at ≡ Composite d p (structs_from (λ _. record { bytes = replicate (8 * d) 0; pointers = nulls p }) 0 count)
    composite_is =
        tree_composite new at (word_count old) count d p composite_forest composite_shape
        ∙ ap (Composite d p) (structs_same (λ i. struct_from new (word_count old + 1 + i * (d + p)) d p) (λ _. record { bytes = replicate (8 * d) 0; pointers = nulls p }) 0 count (λ i x y. element_is i (omega (arith, y))))

  -- ---- a struct of size zero ----

  module _ (e : word ≡ struct_word (2 ^ 30 - 1) 0 0) where
    zero_points : Points new at (StructIn at 0 0)
    zero_points = inl (refl, refl, refl, subst (IsWordAt new at) e made_word)

    zero_fresh : (k : ℕ) → IsWordWithin (StructIn at 0 0) k → word_count old ≤ k
    zero_fresh k i = absurd (omega (arith, i.0, i.1))

    zero_nulls : (j : ℕ) → IsPointerOf (StructIn at 0 0) j → IsWordAt new j 0
    zero_nulls j i = absurd (omega (arith, i.0, i.1))

    pub zero_shape : shape_at new at ≡ StructIn at 0 0
    zero_shape = shape new at (StructIn at 0 0) zero_points

    pub zero_forest : Forest new at
    zero_forest = new_forest old new made_longer at (StructIn at 0 0) zero_points zero_fresh zero_nulls made_same

    pub zero_changes : Changes at old new
    zero_changes = new_changes old new made_longer at (StructIn at 0 0) zero_points zero_fresh zero_nulls made_same

    pub zero_is : tree new at ≡ Struct (replicate (8 * 0) 0) (nulls 0)
    zero_is = tree_struct new at at 0 0 zero_forest zero_shape

-- ---- any struct ----

pub record IsNewStruct (old new : List ℕ) (at start d p : ℕ) : Type 0 where
  pub forest : Forest new at
  pub place : shape_at new at ≡ StructIn start d p
  pub tree : tree new at ≡ Struct (replicate (8 * d) 0) (nulls p)
  pub changes : Changes at old new

pub struct_made : (old new : List ℕ) (at d p : ℕ) → d < 2 ^ 16 → p < 2 ^ 16 → IsObjectMade old new (replicate (8 * (d + p)) 0) at (struct_pointer (word_count old) at d p) → IsNewStruct old new at (struct_start (word_count old) at (d + p)) d p
struct_made old new at d p hd hp h = elim (cases_eq (d + p) 0) [
  | inl z ↦
      let b : (d + p == 0) ≡ true = eq-eqb (d + p) 0 z in
      let e : struct_pointer (word_count old) at d p ≡ struct_word (2 ^ 30 - 1) 0 0 = rw b refl in
      let s : struct_start (word_count old) at (d + p) ≡ at = rw b refl in
      let d0 : 0 ≡ d = omega (arith, z) in
      let p0 : 0 ≡ p = omega (arith, z) in
      subst (λ x. IsNewStruct old new at x d p) (sym s) (subst (λ x. IsNewStruct old new at at x p) d0 (subst (λ x. IsNewStruct old new at at 0 x) p0 (record {
        forest = zero_forest old new (replicate (8 * (d + p)) 0) at _ h e;
        place = zero_shape old new (replicate (8 * (d + p)) 0) at _ h e;
        tree = zero_is old new (replicate (8 * (d + p)) 0) at _ h e;
        changes = zero_changes old new (replicate (8 * (d + p)) 0) at _ h e;
      })))
  | inr nz ↦
      let b : (d + p == 0) ≡ false = ne_eqb (d + p) 0 nz in
      let e : struct_pointer (word_count old) at d p ≡ struct_word (word_count old - suc at) d p = rw b refl in
      let s : struct_start (word_count old) at (d + p) ≡ word_count old = rw b refl in
      let some : 0 < d + p = omega (arith, nz) in
      subst (λ x. IsNewStruct old new at x d p) (sym s) (record {
        forest = struct_forest old new (replicate (8 * (d + p)) 0) at _ h d p hd hp refl some e;
        place = struct_shape old new (replicate (8 * (d + p)) 0) at _ h d p hd hp refl some e;
        tree = struct_is old new (replicate (8 * (d + p)) 0) at _ h d p hd hp refl some e;
        changes = struct_changes old new (replicate (8 * (d + p)) 0) at _ h d p hd hp refl some e;
      })
]
