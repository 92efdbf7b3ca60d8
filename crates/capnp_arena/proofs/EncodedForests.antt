-- A tree whose encoding stands in a segment is a forest there: by induction on the tree.
use Rattle.std.proofs.Common.{IsTrue, ◌≡◌, ℕ, suc, ◌+◌, ◌-◌, ◌*◌, ◌/◌, ◌^◌, ◌<◌, ◌≤◌, ◌⊎◌, inl, inr, refl, sym, ap, subst, ◌∙◌, arith, List, [], ◌++◌, length, replicate, cond, ◌==◌, None, Bool}
use Rattle.std.proofs.lemmas.Bool.{cases_eq}
use Rattle.capnp_wire.specs.Encoding.{bytes_below_all, bytes_of_all, bytes_below, element_row, list_word, number_size, own_bytes, packed_bits, padded_bytes, pointer_row, pointer_word, spelled_number, struct_word}
use Rattle.capnp_wire.specs.Facts.EmptyStructs.{no_sections}
use Rattle.capnp_wire.specs.Facts.EncodedObjects.{width_cases}
use Rattle.capnp_wire.specs.Facts.EncodedSizes.{length_bytes_of, length_bytes_of_all, length_element, length_element_row, length_packed, length_padded, length_pointer_row}
use Rattle.capnp_wire.specs.Facts.PackedBits.{bits_packed}
use Rattle.capnp_wire.specs.Facts.PointerWords.{not_equal}
use Rattle.capnp_wire.specs.Facts.ReadBack.{none_first, none_later}
use Rattle.capnp_wire.specs.Facts.Stands.{Stands, stands_all, stands_at, stands_first, stands_left, stands_right}
use Rattle.capnp_wire.specs.Locate.{list_words}
use Rattle.capnp_wire.specs.Place.{bits_from, bytes_at, list_tree, struct_tree}
use Rattle.capnp_wire.specs.Tree.{Bits, Composite, FaultLeaf, MoreStructs, MoreTrees, NoStructs, NoTrees, Null, Numbers, Pointers, Struct, StructTree, Structs, Tree, Trees, Voids, struct_count, structs_from, tree_count, trees_from}
use Rattle.capnp_wire.specs.WellFormed.{AreElements, AreWellFormed, IsWellFormed, is_width}
use Rattle.capnp_wire.specs.Words.{byte_words, first_fault, first_fault_of_all, first_fault_of_elements, words_below_all, words_of, words_of_all}
use Rattle.capnp_arena.specs.Shape.{CompositeIn, IsPointerOf, IsWordWithin, IsWordAt, ListIn, Points, Shape, StructIn, word_count}
use Rattle.capnp_arena.specs.Forest.{Forest, OwnedBy, Owns, Planted, struct_from, tree}
use Rattle.capnp_arena.specs.Facts.Calls.{grown, null_forest, null_owns, null_tree, owned_by}
use Rattle.capnp_arena.specs.Facts.Shapes.{end_inside}
use Rattle.capnp_arena.specs.Facts.Structs.{tree_composite, tree_list, tree_struct}
use Rattle.capnp_arena.specs.Facts.Words.{shape}

-- ---- ranges of words ----

-- each of these pointers leads to a tree within a range of words, apart from the others
pub record Apart (bytes : List ℕ) (P : ℕ → Type 0) (lo hi : ℕ) : Type 0 where
  pub forest : (j : ℕ) → P j → Forest bytes j
  pub owned : (j k : ℕ) → P j → Owns bytes j k → (lo ≤ k) × (k < hi)
  pub apart : (i j k : ℕ) → P i → P j → Owns bytes i k → Owns bytes j k → i ≡ j

-- so does a pointer, to this tree
pub record IsTreeIn (bytes : List ℕ) (w lo hi : ℕ) (t : Tree) : Type 0 where
  pub forest : Forest bytes w
  pub owned : (k : ℕ) → Owns bytes w k → (lo ≤ k) × (k < hi)
  pub tree : tree bytes w ≡ t

-- so do pointers in a row
pub record AreTreesIn (bytes : List ℕ) (first lo hi : ℕ) (ts : Trees) : Type 0 where
  pub each : Apart bytes (λ j. (first ≤ j) × (j < first + tree_count ts)) lo hi
  pub trees : trees_from (tree bytes) first (tree_count ts) ≡ ts

-- and those of structs in a row
pub record AreStructsIn (bytes : List ℕ) (a d p i lo hi : ℕ) (es : Structs) : Type 0 where
  pub each : Apart bytes (λ j. (x : ℕ) × (i ≤ x) × (x < i + struct_count es) × (a + x * (d + p) + d ≤ j) × (j < a + x * (d + p) + d + p)) lo hi
  pub structs : structs_from (λ x. struct_from bytes (a + x * (d + p)) d p) i (struct_count es) ≡ es

module _ (bytes : List ℕ) where
  no_pointers : (P : ℕ → Type 0) (lo hi : ℕ) → ((j : ℕ) → P j → ⊥) → Apart bytes P lo hi
  no_pointers P lo hi h = record { forest = λ j q. absurd (h j q); owned = λ j k q o. absurd (h j q); apart = λ i j k q r o s. absurd (h i q) }

  -- fewer pointers, told otherwise, and a wider range
  fewer : (P Q : ℕ → Type 0) (lo hi : ℕ) → ((j : ℕ) → Q j → P j) → Apart bytes P lo hi → Apart bytes Q lo hi
  fewer P Q lo hi f h = record { forest = λ j q. h.forest j (f j q); owned = λ j k q o. h.owned j k (f j q) o; apart = λ i j k q r o s. h.apart i j k (f i q) (f j r) o s }

  -- pointers of two kinds, with one range after another
  both : (P Q R : ℕ → Type 0) (lo mid hi : ℕ) → lo ≤ mid → mid ≤ hi → ((j : ℕ) → R j → P j ⊎ Q j) → Apart bytes P lo mid → Apart bytes Q mid hi → Apart bytes R lo hi
  both P Q R lo mid hi l m f x y = record { forest = leads; owned = inside; apart = alone }
    where
      leads : (j : ℕ) → R j → Forest bytes j
      leads j r = elim (f j r) [ inl q ↦ x.forest j q | inr q ↦ y.forest j q ]

      inside : (j k : ℕ) → R j → Owns bytes j k → (lo ≤ k) × (k < hi)
      inside j k r o = elim (f j r) [
        | inl q ↦ let z = x.owned j k q o in (z.0, omega (arith, z.1, m))
        | inr q ↦ let z = y.owned j k q o in (omega (arith, z.0, l), z.1)
      ]

      alone : (i j k : ℕ) → R i → R j → Owns bytes i k → Owns bytes j k → i ≡ j
      alone i j k r s o q = elim (f i r) [
        | inl u ↦ elim (f j s) [
          | inl v ↦ x.apart i j k u v o q
          | inr v ↦ let a = x.owned i k u o in let b = y.owned j k v q in absurd (omega (arith, a.1, b.0))
        ]
        | inr u ↦ elim (f j s) [
          | inl v ↦ let a = y.owned i k u o in let b = x.owned j k v q in absurd (omega (arith, a.0, b.1))
          | inr v ↦ y.apart i j k u v o q
        ]
      ]

  -- one pointer
  one : (w lo hi : ℕ) (t : Tree) → IsTreeIn bytes w lo hi t → Apart bytes (λ j. j ≡ w) lo hi
  one w lo hi t h = record {
    forest = λ j e. subst (Forest bytes) (sym e) h.forest;
    owned = λ j k e o. h.owned k (subst (λ z. Owns bytes z k) e o);
    apart = λ i j k e q o r. e ∙ sym q;
  }

  -- ---- a target before what its pointers lead to ----

  module _ (w a lo hi : ℕ) (s : Shape) (h : Points bytes w s) (front : (k : ℕ) → IsWordWithin s k → (a ≤ k) × (k < lo)) (l : a ≤ lo) (m : lo ≤ hi) (r : Apart bytes (IsPointerOf s) lo hi) where
    target_planted : Planted bytes s
    target_planted = record {
      ends = end_inside bytes w s h;
      child = r.forest;
      child_apart = λ j k p o q. let x = r.owned j k p o in let y = front k q in omega (arith, x.0, y.1);
      children_apart = r.apart;
    }

    target_forest : Forest bytes w
    target_forest = grown bytes w s h target_planted

    target_owned : (k : ℕ) → Owns bytes w k → (a ≤ k) × (k < hi)
    target_owned k o = elim (subst (λ z. OwnedBy bytes z k) (shape bytes w s h) (owned_by bytes w k o)) [
      | inl i ↦ let y = front k i in (y.0, omega (arith, y.1, m))
      | inr x ↦ let y = r.owned x.0 k x.1 x.2 in (omega (arith, y.0, l), y.1)
    ]

  -- ---- words ----

  is_word : (w n : ℕ) → Stands bytes w (spelled_number 8 n) → IsWordAt bytes w n
  is_word w n s = (let x : 8 * w + 8 ≤ length bytes = s.within in omega (arith, x), stands_all bytes w 8 (spelled_number 8 n) refl s)

  -- a pointer by where its target starts
  word_to : (f : ℕ → ℕ) (w g : ℕ) → Stands bytes w (spelled_number 8 (f g)) → IsWordAt bytes w (f (w + 1 + g - suc w))
  word_to f w g s = subst (λ z. IsWordAt bytes w (f z)) {x = g} {y = w + 1 + g - suc w} (omega arith) (is_word w (f g) s)

  -- ---- lists without pointers ----

  plain_list : (w g size n : ℕ) (t : Tree) → g < 2 ^ 29 → size < 6 → n < 2 ^ 29 → w + 1 + g + list_words size n ≤ word_count bytes → Stands bytes w (spelled_number 8 (list_word g size n)) → list_tree (tree bytes) bytes (w + 1 + g) size n ≡ t → IsTreeIn bytes w (w + 1 + g) (w + 1 + g + list_words size n) t
  plain_list w g size n t near plain few lie s e =
      let a : ℕ = w + 1 + g in
      let h : Points bytes w (ListIn a size n) = (omega arith, omega (arith, near), omega (arith, plain), few, lie, word_to (λ z. list_word z size n) w g s) in
      let none : Apart bytes (IsPointerOf (ListIn a size n)) (a + list_words size n) (a + list_words size n) = no_pointers (IsPointerOf (ListIn a size n)) (a + list_words size n) (a + list_words size n) (λ j q. let z : size ≡ 6 = q.0 in omega (arith, z, plain)) in
      let f : Forest bytes w = target_forest w a (a + list_words size n) (a + list_words size n) (ListIn a size n) h (λ k q. q) (omega arith) (omega arith) none in
      record {
        forest = f;
        owned = target_owned w a (a + list_words size n) (a + list_words size n) (ListIn a size n) h (λ k q. q) (omega arith) (omega arith) none;
        tree = tree_list bytes w a size n f (shape bytes w (ListIn a size n) h) ∙ e;
      }

  module _ (w g : ℕ) (near : g < 2 ^ 29) (b : List ℕ) (there : Stands bytes (w + 1 + g) (padded_bytes b)) where
    HoldsNumbers : ℕ → Type 0
    HoldsNumbers v = length b ≡ v * (length b / v) → length b / v < 2 ^ 29 → Stands bytes w (spelled_number 8 (list_word g (number_size v) (length b / v))) → IsTreeIn bytes w (w + 1 + g) (w + 1 + g + byte_words (length b)) (Numbers v b)

    numbers_inside : w + 1 + g + byte_words (length b) ≤ word_count bytes
    numbers_inside = omega (arith, there.within, length_padded b)

    numbers_are : (n : ℕ) → length b ≡ n → bytes_at bytes (w + 1 + g) n ≡ b
    numbers_are n q = stands_first bytes (w + 1 + g) n b (replicate (8 * byte_words (length b) - length b) 0) q there

    of_size : (v size : ℕ) → size < 6 → list_words size (length b / v) ≡ byte_words (length b) → length b / v < 2 ^ 29 → Stands bytes w (spelled_number 8 (list_word g size (length b / v))) → list_tree (tree bytes) bytes (w + 1 + g) size (length b / v) ≡ Numbers v b
        → IsTreeIn bytes w (w + 1 + g) (w + 1 + g + byte_words (length b)) (Numbers v b)
    of_size v size plain q few s e =
        subst (λ z. IsTreeIn bytes w (w + 1 + g) (w + 1 + g + z) (Numbers v b)) q
        (plain_list w g size (length b / v) (Numbers v b) near plain few (omega (arith, q, numbers_inside)) s e)

    holds_one : HoldsNumbers 1
    unfolding HoldsNumbers
    holds_one e k s = of_size 1 2 (omega arith) (omega arith) k s (ap (Numbers 1) (numbers_are (length b / 1) (omega arith)))

    holds_two : HoldsNumbers 2
    unfolding HoldsNumbers
    holds_two e k s = of_size 2 3 (omega arith) (omega (arith, e)) k s (ap (Numbers 2) (numbers_are (2 * (length b / 2)) e))

    holds_four : HoldsNumbers 4
    unfolding HoldsNumbers
    holds_four e k s = of_size 4 4 (omega arith) (omega (arith, e)) k s (ap (Numbers 4) (numbers_are (4 * (length b / 4)) e))

    holds_eight : HoldsNumbers 8
    unfolding HoldsNumbers
    holds_eight e k s = of_size 8 5 (omega arith) (omega (arith, e)) k s (ap (Numbers 8) (numbers_are (8 * (length b / 8)) e))

    numbers_stand : (v : ℕ) → IsTrue (is_width v) → length b ≡ v * (length b / v) → length b / v < 2 ^ 29 → Stands bytes w (spelled_number 8 (list_word g (number_size v) (length b / v))) → IsTreeIn bytes w (w + 1 + g) (w + 1 + g + byte_words (length b)) (Numbers v b)
    unfolding HoldsNumbers
    numbers_stand v h = width_cases HoldsNumbers holds_one holds_two holds_four holds_eight v h

  bits_stand : (w g : ℕ) (bs : List Bool) → g < 2 ^ 29 → length bs < 2 ^ 29 → Stands bytes w (spelled_number 8 (list_word g 1 (length bs))) → Stands bytes (w + 1 + g) (packed_bits (8 * list_words 1 (length bs)) bs) → IsTreeIn bytes w (w + 1 + g) (w + 1 + g + list_words 1 (length bs)) (Bits bs)
  bits_stand w g bs near few s there =
      let n : ℕ = list_words 1 (length bs) in
      plain_list w g 1 (length bs) (Bits bs) near (omega arith) few (omega (arith, there.within, length_packed (8 * n) bs)) s
      (ap (λ x. Bits (bits_from x 0 (length bs))) (stands_all bytes (w + 1 + g) (8 * n) (packed_bits (8 * n) bs) (length_packed (8 * n) bs) there) ∙ ap Bits (bits_packed (8 * n) bs (omega arith)))

  -- ---- structs ----

  struct_is : (b : List ℕ) (a d p : ℕ) (ps : Trees) (more : List ℕ) → length b ≡ 8 * d → tree_count ps ≡ p → Stands bytes a (b ++ more) → trees_from (tree bytes) (a + d) (tree_count ps) ≡ ps → struct_tree (struct_from bytes a d p) ≡ Struct b ps
  struct_is b a d p ps more hd hp s e =
      ap (λ x. Struct x (trees_from (tree bytes) (a + d) p)) (stands_first bytes a (8 * d) b more hd s)
      ∙ ap (λ n. Struct b (trees_from (tree bytes) (a + d) n)) (sym hp)
      ∙ ap (Struct b) e

  element_is : (s : StructTree) (b : List ℕ) (ps : Trees) (more es : Structs) → struct_tree s ≡ Struct b ps → more ≡ es → MoreStructs s.bytes s.pointers more ≡ MoreStructs b ps es
  element_is s b ps more es e h =
      let x : s.bytes ≡ b = cc in
      let y : s.pointers ≡ ps = cc in
      cc

  mutual
    pub tree_stands : (t : Tree) (w g : ℕ) → IsWellFormed t → first_fault t ≡ None → g + words_of t < 2 ^ 29 → Stands bytes w (spelled_number 8 (pointer_word g t)) → Stands bytes (w + 1 + g) (own_bytes t ++ bytes_below t) → IsTreeIn bytes w (w + 1 + g) (w + 1 + g + words_of t) t
    tree_stands Null w g well none few s there =
        let h : IsWordAt bytes w 0 = is_word w 0 s in
        record { forest = null_forest bytes w h; owned = λ k o. absurd (null_owns bytes w k h o); tree = null_tree bytes w h }
    tree_stands (Struct b ps) w g well none few s there =
        let a : ℕ = w + 1 + g in
        let d : ℕ = length b / 8 in
        let p : ℕ = tree_count ps in
        let own : Stands bytes a (b ++ pointer_row 0 ps) = stands_left bytes a (b ++ pointer_row 0 ps) (bytes_of_all ps) there in
        let row : Stands bytes (a + d) (pointer_row 0 ps) = stands_right bytes a d b (pointer_row 0 ps) well.1 own in
        let len : length (b ++ pointer_row 0 ps) ≡ 8 * (d + p) = length_element d p 0 b ps well.1 refl in
        let below_it : Stands bytes (a + (d + p)) (bytes_of_all ps) = stands_right bytes a (d + p) (b ++ pointer_row 0 ps) (bytes_of_all ps) len there in
        let at_row : Stands bytes (a + d + p + 0) (bytes_of_all ps) = stands_at bytes (bytes_of_all ps) (a + (d + p)) (a + d + p + 0) (omega arith) below_it in
        let r : AreTreesIn bytes (a + d) (a + d + p + 0) (a + d + p + 0 + words_of_all ps) ps = trees_stand ps (a + d) 0 well.4 none (omega (arith, few)) row at_row in
        elim (cases_eq (d + p) 0) [
          | inl z ↦
              let s0 : Stands bytes w (spelled_number 8 (struct_word (2 ^ 30 - 1) 0 0)) = subst (λ n. Stands bytes w (spelled_number 8 (cond (n == 0) (struct_word (2 ^ 30 - 1) 0 0) (struct_word g d p)))) z s in
              let h : Points bytes w (StructIn w 0 0) = inl (refl, refl, refl, is_word w (struct_word (2 ^ 30 - 1) 0 0) s0) in
              let no : Apart bytes (IsPointerOf (StructIn w 0 0)) (a + words_of (Struct b ps)) (a + words_of (Struct b ps)) = no_pointers (IsPointerOf (StructIn w 0 0)) (a + words_of (Struct b ps)) (a + words_of (Struct b ps)) (λ j q. omega (arith, q.0, q.1)) in
              let f : Forest bytes w = target_forest w a (a + words_of (Struct b ps)) (a + words_of (Struct b ps)) (StructIn w 0 0) h (λ k q. absurd (omega (arith, q.0, q.1))) (omega arith) (omega arith) no in
              record {
                forest = f;
                owned = target_owned w a (a + words_of (Struct b ps)) (a + words_of (Struct b ps)) (StructIn w 0 0) h (λ k q. absurd (omega (arith, q.0, q.1))) (omega arith) (omega arith) no;
                tree = tree_struct bytes w w 0 0 f (shape bytes w (StructIn w 0 0) h) ∙ ap struct_tree (sym (no_sections (record { bytes = b; pointers = ps }) (omega (arith, well.1, z)) (omega (arith, z))));
              }
          | inr nz ↦
              let s1 : Stands bytes w (spelled_number 8 (struct_word g d p)) = subst (λ c. Stands bytes w (spelled_number 8 (cond c (struct_word (2 ^ 30 - 1) 0 0) (struct_word g d p)))) (not_equal (d + p) 0 nz) s in
              let i : a + (d + p) ≤ word_count bytes = omega (arith, own.within, len) in
              let h : Points bytes w (StructIn a d p) = inr (omega arith, omega (arith, few), well.2, well.3, omega (arith, nz), i, word_to (λ z. struct_word z d p) w g s1) in
              let c : Apart bytes (IsPointerOf (StructIn a d p)) (a + d + p + 0) (a + d + p + 0 + words_of_all ps) = r.each in
              let f : Forest bytes w = target_forest w a (a + d + p + 0) (a + d + p + 0 + words_of_all ps) (StructIn a d p) h (λ k q. (q.0, omega (arith, q.1))) (omega arith) (omega arith) c in
              let o = target_owned w a (a + d + p + 0) (a + d + p + 0 + words_of_all ps) (StructIn a d p) h (λ k q. (q.0, omega (arith, q.1))) (omega arith) (omega arith) c in
              record {
                forest = f;
                owned = λ k x. let y = o k x in (y.0, omega (arith, y.1, well.1));
                tree = tree_struct bytes w a d p f (shape bytes w (StructIn a d p) h) ∙ struct_is b a d p ps (pointer_row 0 ps) well.1 refl own r.trees;
              }
        ]
    tree_stands (Voids n) w g well none few s there =
        let x : 8 * (w + 1 + g) + 0 ≤ length bytes = there.within in
        let h : IsTreeIn bytes w (w + 1 + g) (w + 1 + g + list_words 0 n) (Voids n) = plain_list w g 0 n (Voids n) (omega (arith, few)) (omega arith) well (omega (arith, x)) s refl in
        record { forest = h.forest; owned = λ k o. let y = h.owned k o in (y.0, omega (arith, y.1)); tree = h.tree }
    tree_stands (Bits bs) w g well none few s there =
        let h : IsTreeIn bytes w (w + 1 + g) (w + 1 + g + list_words 1 (length bs)) (Bits bs) = bits_stand w g bs (omega (arith, few)) well s (stands_left bytes (w + 1 + g) (packed_bits (8 * list_words 1 (length bs)) bs) [] there) in
        record { forest = h.forest; owned = λ k o. let y = h.owned k o in (y.0, omega (arith, y.1)); tree = h.tree }
    tree_stands (Numbers v b) w g well none few s there =
        let h : IsTreeIn bytes w (w + 1 + g) (w + 1 + g + byte_words (length b)) (Numbers v b) = numbers_stand w g (omega (arith, few)) b (stands_left bytes (w + 1 + g) (padded_bytes b) [] there) v well.1 well.2 well.3 s in
        record { forest = h.forest; owned = λ k o. let y = h.owned k o in (y.0, omega (arith, y.1)); tree = h.tree }
    tree_stands (Pointers ps) w g well none few s there =
        let a : ℕ = w + 1 + g in
        let p : ℕ = tree_count ps in
        let q : p ≡ list_words 6 p = omega arith in
        let row : Stands bytes a (pointer_row 0 ps) = stands_left bytes a (pointer_row 0 ps) (bytes_of_all ps) there in
        let below_it : Stands bytes (a + p) (bytes_of_all ps) = stands_right bytes a p (pointer_row 0 ps) (bytes_of_all ps) (length_pointer_row 0 ps) there in
        let at_row : Stands bytes (a + p + 0) (bytes_of_all ps) = stands_at bytes (bytes_of_all ps) (a + p) (a + p + 0) (omega arith) below_it in
        let r : AreTreesIn bytes a (a + p + 0) (a + p + 0 + words_of_all ps) ps = trees_stand ps a 0 well.1 none (omega (arith, few)) row at_row in
        let h : Points bytes w (ListIn a 6 p) = (omega arith, omega (arith, few), omega arith, well.0, omega (arith, q, row.within, length_pointer_row 0 ps), word_to (λ z. list_word z 6 p) w g s) in
        let c : Apart bytes (IsPointerOf (ListIn a 6 p)) (a + p + 0) (a + p + 0 + words_of_all ps) = fewer _ (IsPointerOf (ListIn a 6 p)) (a + p + 0) (a + p + 0 + words_of_all ps) (λ j x. (x.1, x.2)) r.each in
        let f : Forest bytes w = target_forest w a (a + p + 0) (a + p + 0 + words_of_all ps) (ListIn a 6 p) h (λ k x. (x.0, omega (arith, x.1, q))) (omega arith) (omega arith) c in
        let o = target_owned w a (a + p + 0) (a + p + 0 + words_of_all ps) (ListIn a 6 p) h (λ k x. (x.0, omega (arith, x.1, q))) (omega arith) (omega arith) c in
        record {
          forest = f;
          owned = λ k x. let y = o k x in (y.0, omega (arith, y.1));
          tree = tree_list bytes w a 6 p f (shape bytes w (ListIn a 6 p) h) ∙ ap Pointers r.trees;
        }
    tree_stands (Composite d p es) w g well none few s there =
        let a : ℕ = w + 1 + g in
        let c : ℕ = struct_count es in
        let tag : List ℕ = spelled_number 8 (struct_word c d p) in
        let row : List ℕ = element_row (d + p) 0 es in
        let own : Stands bytes a (tag ++ row) = stands_left bytes a (tag ++ row) (bytes_below_all es) there in
        let tag_at : Stands bytes a tag = stands_left bytes a tag row own in
        let row_at : Stands bytes (a + 1) row = stands_right bytes a 1 tag row refl own in
        let row_from : Stands bytes (a + 1 + 0 * (d + p)) row = stands_at bytes row (a + 1) (a + 1 + 0 * (d + p)) (omega arith) row_at in
        let len : length row ≡ 8 * (c * (d + p)) = length_element_row d p 0 es well.4 in
        let below_it : Stands bytes (a + 1 + c * (d + p)) (bytes_below_all es) = stands_right bytes (a + 1) (c * (d + p)) row (bytes_below_all es) len (stands_right bytes a 1 tag (row ++ bytes_below_all es) refl there) in
        let lo : ℕ = a + 1 + 0 * (d + p) + (c * (d + p) + 0) in
        let below_from : Stands bytes lo (bytes_below_all es) = stands_at bytes (bytes_below_all es) (a + 1 + c * (d + p)) lo (omega arith) below_it in
        let r : AreStructsIn bytes (a + 1) d p 0 lo (lo + words_below_all es) es = structs_stand es (a + 1) d p 0 0 well.4 none (omega (arith, few)) row_from below_from in
        let i : a + 1 + c * (d + p) ≤ word_count bytes = omega (arith, row_at.within, len) in
        let h : Points bytes w (CompositeIn a c d p) = (omega arith, omega (arith, few), well.0, well.1, well.2, well.3, i, word_to (λ z. list_word z 7 (c * (d + p))) w g s, is_word a (struct_word c d p) tag_at) in
        let q : Apart bytes (IsPointerOf (CompositeIn a c d p)) lo (lo + words_below_all es) = fewer _ (IsPointerOf (CompositeIn a c d p)) lo (lo + words_below_all es) (λ j x. (x.0, omega arith, omega (arith, x.1), x.2, x.3)) r.each in
        let f : Forest bytes w = target_forest w a lo (lo + words_below_all es) (CompositeIn a c d p) h (λ k x. (x.0, omega (arith, x.1))) (omega arith) (omega arith) q in
        let o = target_owned w a lo (lo + words_below_all es) (CompositeIn a c d p) h (λ k x. (x.0, omega (arith, x.1))) (omega arith) (omega arith) q in
        record {
          forest = f;
          owned = λ k x. let y = o k x in (y.0, omega (arith, y.1));
          tree = tree_composite bytes w a c d p f (shape bytes w (CompositeIn a c d p) h) ∙ ap (Composite d p) r.structs;
        }
    tree_stands (FaultLeaf k) w g well none few s there = cc

    pub trees_stand : (ts : Trees) (w g : ℕ) → AreWellFormed ts → first_fault_of_all ts ≡ None → tree_count ts + g + words_of_all ts < 2 ^ 29 → Stands bytes w (pointer_row g ts) → Stands bytes (w + tree_count ts + g) (bytes_of_all ts) → AreTreesIn bytes w (w + tree_count ts + g) (w + tree_count ts + g + words_of_all ts) ts
    trees_stand NoTrees w g well none few s there = record { each = no_pointers _ _ _ (λ j x. omega (arith, x.0, x.1)); trees = refl }
    trees_stand (MoreTrees t ts) w g well none few s there =
        let n : ℕ = tree_count ts in
        let none_here : first_fault t ≡ None = none_first (first_fault t) (first_fault_of_all ts) none in
        let none_there : first_fault_of_all ts ≡ None = none_later (first_fault t) (first_fault_of_all ts) none in
        let word : List ℕ = spelled_number 8 (pointer_word (n + g) t) in
        let row : List ℕ = pointer_row (g + words_of t) ts in
        let here : Stands bytes (w + 1 + (n + g)) ((own_bytes t ++ bytes_below t) ++ bytes_of_all ts) = stands_at bytes ((own_bytes t ++ bytes_below t) ++ bytes_of_all ts) (w + suc n + g) (w + 1 + (n + g)) (omega arith) there in
        let first : IsTreeIn bytes w (w + 1 + (n + g)) (w + 1 + (n + g) + words_of t) t = tree_stands t w (n + g) well.0 none_here (omega (arith, few)) (stands_left bytes w word row s) (stands_left bytes (w + 1 + (n + g)) (own_bytes t ++ bytes_below t) (bytes_of_all ts) here) in
        let next : Stands bytes (suc w) row = stands_at bytes row (w + 1) (suc w) (omega arith) (stands_right bytes w 1 word row refl s) in
        let after : Stands bytes (w + 1 + (n + g) + words_of t) (bytes_of_all ts) = stands_right bytes (w + 1 + (n + g)) (words_of t) (own_bytes t ++ bytes_below t) (bytes_of_all ts) (length_bytes_of t well.0) here in
        let after_it : Stands bytes (suc w + n + (g + words_of t)) (bytes_of_all ts) = stands_at bytes (bytes_of_all ts) (w + 1 + (n + g) + words_of t) (suc w + n + (g + words_of t)) (omega arith) after in
        let rest : AreTreesIn bytes (suc w) (suc w + n + (g + words_of t)) (suc w + n + (g + words_of t) + words_of_all ts) ts = trees_stand ts (suc w) (g + words_of t) well.1 none_there (omega (arith, few)) next after_it in
        let mid : w + 1 + (n + g) + words_of t ≡ suc w + n + (g + words_of t) = omega arith in
        let end : suc w + n + (g + words_of t) + words_of_all ts ≡ w + suc n + g + (words_of t + words_of_all ts) = omega arith in
        let x : Apart bytes (λ j. j ≡ w) (w + suc n + g) (suc w + n + (g + words_of t)) = subst (λ lo. Apart bytes (λ j. j ≡ w) lo (suc w + n + (g + words_of t))) {x = w + 1 + (n + g)} {y = w + suc n + g} (omega arith) (subst (Apart bytes (λ j. j ≡ w) (w + 1 + (n + g))) mid (one w (w + 1 + (n + g)) (w + 1 + (n + g) + words_of t) t first)) in
        let y : Apart bytes (λ j. (suc w ≤ j) × (j < suc w + n)) (suc w + n + (g + words_of t)) (w + suc n + g + (words_of t + words_of_all ts)) = subst (Apart bytes (λ j. (suc w ≤ j) × (j < suc w + n)) (suc w + n + (g + words_of t))) end rest.each in
        record {
          each = both (λ j. j ≡ w) (λ j. (suc w ≤ j) × (j < suc w + n)) (λ j. (w ≤ j) × (j < w + suc n)) (w + suc n + g) (suc w + n + (g + words_of t)) (w + suc n + g + (words_of t + words_of_all ts)) (omega arith) (omega arith) (λ j z. here_or_later w n j z.0 z.1) x y;
          trees = ap (λ z. MoreTrees z (trees_from (tree bytes) (suc w) n)) first.tree ∙ ap (MoreTrees t) rest.trees;
        }
      where
        here_or_later : (w n j : ℕ) → w ≤ j → j < w + suc n → (j ≡ w) ⊎ ((suc w ≤ j) × (j < suc w + n))
        here_or_later w n j x y = grind arith

    pub structs_stand : (es : Structs) (a d p i g : ℕ) → AreElements d p es → first_fault_of_elements es ≡ None → struct_count es * (d + p) + g + words_below_all es < 2 ^ 29 → Stands bytes (a + i * (d + p)) (element_row (d + p) g es) → Stands bytes (a + i * (d + p) + (struct_count es * (d + p) + g)) (bytes_below_all es)
        → AreStructsIn bytes a d p i (a + i * (d + p) + (struct_count es * (d + p) + g)) (a + i * (d + p) + (struct_count es * (d + p) + g) + words_below_all es) es
    structs_stand NoStructs a d p i g well none few s there = record { each = no_pointers _ _ _ (λ j x. omega (arith, x.1, x.2)); structs = refl }
    structs_stand (MoreStructs b ps es) a d p i g well none few s there =
        let x : ℕ = a + i * (d + p) in
        let c : ℕ = struct_count es in
        let h : ℕ = c * (d + p) + g in
        let f : ℕ → StructTree = λ j. struct_from bytes (a + j * (d + p)) d p in
        let none_here : first_fault_of_all ps ≡ None = none_first (first_fault_of_all ps) (first_fault_of_elements es) none in
        let none_there : first_fault_of_elements es ≡ None = none_later (first_fault_of_all ps) (first_fault_of_elements es) none in
        let one_of : List ℕ = b ++ pointer_row h ps in
        let row : List ℕ = element_row (d + p) (g + words_of_all ps) es in
        let m : suc c * (d + p) ≡ c * (d + p) + (d + p) = omega arith in
        let mi : suc i * (d + p) ≡ i * (d + p) + (d + p) = omega arith in
        let own : Stands bytes x one_of = stands_left bytes x one_of row s in
        let here : Stands bytes (x + (d + p) + h) (bytes_of_all ps ++ bytes_below_all es) = stands_at bytes (bytes_of_all ps ++ bytes_below_all es) (x + (suc c * (d + p) + g)) (x + (d + p) + h) (omega arith) there in
        let pointers_at : Stands bytes (x + d) (pointer_row h ps) = stands_right bytes x d b (pointer_row h ps) well.1 own in
        let q : x + (d + p) + h ≡ x + d + tree_count ps + h = omega (arith, well.2) in
        let below_it : Stands bytes (x + d + tree_count ps + h) (bytes_of_all ps) = stands_at bytes (bytes_of_all ps) (x + (d + p) + h) (x + d + tree_count ps + h) q (stands_left bytes (x + (d + p) + h) (bytes_of_all ps) (bytes_below_all es) here) in
        let pointers : AreTreesIn bytes (x + d) (x + d + tree_count ps + h) (x + d + tree_count ps + h + words_of_all ps) ps = trees_stand ps (x + d) h well.3 none_here (omega (arith, few, well.2)) pointers_at below_it in
        let first : struct_tree (f i) ≡ Struct b ps = struct_is b x d p ps (pointer_row h ps) well.1 well.2 own pointers.trees in
        let next : Stands bytes (a + suc i * (d + p)) row = stands_at bytes row (x + (d + p)) (a + suc i * (d + p)) (omega arith) (stands_right bytes x (d + p) one_of row (length_element d p h b ps well.1 well.2) s) in
        let after : Stands bytes (x + (d + p) + h + words_of_all ps) (bytes_below_all es) = stands_right bytes (x + (d + p) + h) (words_of_all ps) (bytes_of_all ps) (bytes_below_all es) (length_bytes_of_all ps well.3) here in
        let mid : ℕ = a + suc i * (d + p) + (c * (d + p) + (g + words_of_all ps)) in
        let after_it : Stands bytes mid (bytes_below_all es) = stands_at bytes (bytes_below_all es) (x + (d + p) + h + words_of_all ps) mid (omega arith) after in
        let rest : AreStructsIn bytes a d p (suc i) mid (mid + words_below_all es) es = structs_stand es a d p (suc i) (g + words_of_all ps) well.4 none_there (omega (arith, few)) next after_it in
        let lo : ℕ = x + (suc c * (d + p) + g) in
        let hi : ℕ = lo + (words_of_all ps + words_below_all es) in
        let u : Apart bytes (λ j. (x + d ≤ j) × (j < x + d + tree_count ps)) lo mid = subst (λ z. Apart bytes (λ j. (x + d ≤ j) × (j < x + d + tree_count ps)) z mid) {x = x + d + tree_count ps + h} {y = lo} (omega (arith, well.2)) (subst (Apart bytes (λ j. (x + d ≤ j) × (j < x + d + tree_count ps)) (x + d + tree_count ps + h)) {x = x + d + tree_count ps + h + words_of_all ps} {y = mid} (omega (arith, well.2)) pointers.each) in
        let v : Apart bytes (λ j. (z : ℕ) × (suc i ≤ z) × (z < suc i + c) × (a + z * (d + p) + d ≤ j) × (j < a + z * (d + p) + d + p)) mid hi = subst (Apart bytes _ mid) {x = mid + words_below_all es} {y = hi} (omega arith) rest.each in
        record {
          each = both (λ j. (x + d ≤ j) × (j < x + d + tree_count ps)) (λ j. (z : ℕ) × (suc i ≤ z) × (z < suc i + c) × (a + z * (d + p) + d ≤ j) × (j < a + z * (d + p) + d + p)) _ lo mid hi (omega arith) (omega arith)
              (λ j r. elim (first_or_later i r.0 r.1) [
                | inl e ↦ inl (subst (λ z. a + z * (d + p) + d ≤ j) (sym e) r.3, let y : j < a + i * (d + p) + d + p = subst (λ z. j < a + z * (d + p) + d + p) (sym e) r.4 in omega (arith, y, well.2))
                | inr l ↦ inr (r.0, l, omega (arith, r.2), r.3, r.4)
              ]) u v;
          structs = element_is (f i) b ps (structs_from f (suc i) c) es first rest.structs;
        }
      where
        first_or_later : (i z : ℕ) → i ≤ z → (i ≡ z) ⊎ (suc i ≤ z)
        first_or_later i z l = grind arith
