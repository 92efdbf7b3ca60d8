-- The elements of a list as structs that stand in the segment.
use Rattle.std.proofs.Common.{◌≡◌, ℕ, zero, suc, ◌+◌, ◌-◌, ◌*◌, ◌^◌, ◌<◌, ◌≤◌, refl, sym, ap, subst, ◌∙◌, arith, List, [], length, take, drop, Option, None, Some}
use Rattle.std.proofs.lemmas.List.{drop-drop, drop-take, take-take}
use Rattle.std.proofs.lemmas.Nat.{mul-le}
use Rattle.capnp_wire.specs.Edits.{extended_struct}
use Rattle.capnp_wire.specs.Facts.Indexed.{only_tree_from}
use Rattle.capnp_wire.specs.Locate.{list_words}
use Rattle.capnp_wire.specs.Place.{bytes_at, list_tree}
use Rattle.capnp_wire.specs.Reading.{element_struct}
use Rattle.capnp_wire.specs.Encoding.{bytes_of}
use Rattle.capnp_wire.specs.Facts.EncodedSizes.{length_bytes_of}
use Rattle.capnp_wire.specs.Facts.Rows.{struct_count_structs_from}
use Rattle.capnp_wire.specs.StructLists.{as_structs, element_pointers, element_words}
use Rattle.capnp_wire.specs.WellFormed.{AreBytes, IsWellFormed}
use Rattle.capnp_wire.specs.Tree.{Composite, MoreTrees, NoTrees, StructTree, Tree, structs_from, tree_count, trees_from}
use Rattle.capnp_wire.specs.Words.{first_fault, first_fault_of_all, first_fault_of_elements, first_of, words_below_all, words_of, words_of_all}
use Rattle.capnp_wire.specs.declared.fault.Fault.{Fault}
use Rattle.capnp_wire.specs.declared.size.StructSize.{StructSize}
use Rattle.capnp_arena.specs.Steps.Counts.{AreForests}
use Rattle.capnp_arena.specs.Forest.{Forest, struct_from, tree}
use Rattle.capnp_arena.specs.Steps.Grown.{IsPartList, kind_pointers, kind_words, no_parts, number_parts, grown_part_at, pointerless_parts, pointer_parts, struct_parts}
use Rattle.capnp_arena.specs.Shape.{CompositeIn, ListIn, shape_at, word_count}
use Rattle.capnp_arena.specs.declared.grown.PartRow.{PartRow}
use Rattle.capnp_arena.proofs.Counted.{element_rows, ends_at, list_row, words_composite, words_pointers}
use Rattle.capnp_arena.proofs.Enlarged.{parts_extended, words_more}
use Rattle.capnp_arena.proofs.Extensions.{whole_more}
use Rattle.capnp_arena.specs.Facts.Levels.{structs_same}
use Rattle.capnp_arena.proofs.ListsRead.{plain_count, struct_is_element, structs_count}
use Rattle.capnp_arena.specs.Facts.Shapes.{element_end}
use Rattle.capnp_arena.specs.Facts.Structs.{tree_composite, tree_list, two_parts}
use Rattle.capnp_arena.proofs.Whole.{forest_whole}

-- ---- structs without pointers ----

bare_below : (f : ℕ → StructTree) (a n : ℕ) → ((i : ℕ) → (f i).pointers ≡ NoTrees) → words_below_all (structs_from f a n) ≡ 0
bare_below f a zero h = refl
bare_below f a (suc n) h = let e : words_of_all (f a).pointers ≡ 0 = ap words_of_all (h a) in omega (arith, e, bare_below f (suc a) n h)

bare_whole : (f : ℕ → StructTree) (a n : ℕ) → ((i : ℕ) → (f i).pointers ≡ NoTrees) → first_fault_of_elements (structs_from f a n) ≡ None
bare_whole f a zero h = refl
bare_whole f a (suc n) h = ap (λ ts. first_of (first_fault_of_all ts) (first_fault_of_elements (structs_from f (suc a) n))) (h a) ∙ bare_whole f (suc a) n h

-- ---- and with one pointer each ----

lone_below : (t : ℕ → Tree) (f : ℕ → StructTree) (a b n : ℕ) → ((i : ℕ) → (f (a + i)).pointers ≡ MoreTrees (t (b + i)) NoTrees) → words_below_all (structs_from f a n) ≡ words_of_all (trees_from t b n)
lone_below t f a b zero h = refl
lone_below t f a b (suc n) h =
    let e : words_of_all (f a).pointers ≡ words_of (t b) + 0 =
    ap (λ k. words_of_all (f k).pointers) {x = a} {y = a + 0} (omega arith) ∙ ap words_of_all (h 0) ∙ ap (λ k. words_of (t k) + 0) {x = b + 0} {y = b} (omega arith) in
    omega (arith, e, lone_below t f (suc a) (suc b) n (λ i. ap (λ k. (f k).pointers) {x = suc a + i} {y = a + suc i} (omega arith) ∙ h (suc i) ∙ ap (λ k. MoreTrees (t k) NoTrees) {x = b + suc i} {y = suc b + i} (omega arith)))

lone_whole : (t : ℕ → Tree) (f : ℕ → StructTree) (a b n : ℕ) → ((i : ℕ) → (f (a + i)).pointers ≡ MoreTrees (t (b + i)) NoTrees) → first_fault_of_elements (structs_from f a n) ≡ first_fault_of_all (trees_from t b n)
lone_whole t f a b zero h = refl
lone_whole t f a b (suc n) h =
    let e : (f a).pointers ≡ MoreTrees (t b) NoTrees = ap (λ k. (f k).pointers) {x = a} {y = a + 0} (omega arith) ∙ h 0 ∙ ap (λ k. MoreTrees (t k) NoTrees) {x = b + 0} {y = b} (omega arith) in
    ap (λ ts. first_of (first_fault_of_all ts) (first_fault_of_elements (structs_from f (suc a) n))) e
    ∙ ap (first_of (first_of (first_fault (t b)) None)) (lone_whole t f (suc a) (suc b) n (λ i. ap (λ k. (f k).pointers) {x = suc a + i} {y = a + suc i} (omega arith) ∙ h (suc i) ∙ ap (λ k. MoreTrees (t k) NoTrees) {x = b + suc i} {y = suc b + i} (omega arith)))
    ∙ ap (λ x. first_of x (first_fault_of_all (trees_from t (suc b) n))) (last (first_fault (t b)))
  where
    last : (x : Option Fault) → first_of x None ≡ x
    last None = refl
    last (Some k) = refl

-- ---- extended ----

pub grown_below : (size : StructSize) (f : ℕ → StructTree) (a n : ℕ) → words_below_all (structs_from (λ i. extended_struct size (f i)) a n) ≡ words_below_all (structs_from f a n)
grown_below size f a zero = refl
grown_below size f a (suc n) = omega (arith, words_more (size.pointers - tree_count (f a).pointers) (f a).pointers, grown_below size f (suc a) n)

pub grown_whole : (size : StructSize) (f : ℕ → StructTree) (a n : ℕ) → first_fault_of_elements (structs_from (λ i. extended_struct size (f i)) a n) ≡ first_fault_of_elements (structs_from f a n)
grown_whole size f a zero = refl
grown_whole size f a (suc n) =
    ap (λ x. first_of x (first_fault_of_elements (structs_from (λ i. extended_struct size (f i)) (suc a) n))) (whole_more (size.pointers - tree_count (f a).pointers) (f a).pointers)
    ∙ ap (first_of (first_fault_of_all (f a).pointers)) (grown_whole size f (suc a) n)

-- ---- what an element takes ----

pub plain_words : (f : ℕ → Tree) (bytes : List ℕ) (a size n : ℕ) → element_words (list_tree f bytes a size n) ≡ kind_words size
plain_words f bytes a zero n = refl
plain_words f bytes a (suc zero) n = refl
plain_words f bytes a (suc (suc zero)) n = refl
plain_words f bytes a (suc (suc (suc zero))) n = refl
plain_words f bytes a (suc (suc (suc (suc zero)))) n = refl
plain_words f bytes a (suc (suc (suc (suc (suc zero))))) n = refl
plain_words f bytes a (suc (suc (suc (suc (suc (suc size)))))) n = refl

pub plain_pointers : (f : ℕ → Tree) (bytes : List ℕ) (a size n : ℕ) → element_pointers (list_tree f bytes a size n) ≡ kind_pointers size
plain_pointers f bytes a zero n = refl
plain_pointers f bytes a (suc zero) n = refl
plain_pointers f bytes a (suc (suc zero)) n = refl
plain_pointers f bytes a (suc (suc (suc zero))) n = refl
plain_pointers f bytes a (suc (suc (suc (suc zero)))) n = refl
plain_pointers f bytes a (suc (suc (suc (suc (suc zero))))) n = refl
plain_pointers f bytes a (suc (suc (suc (suc (suc (suc size)))))) n = refl

-- ---- the lists ----

-- bytes of one number out of those of all
number_part : (bytes : List ℕ) (start width n i m : ℕ) → m ≡ width * n → i < n → take width (drop (i * width) (bytes_at bytes start m)) ≡ take width (drop (8 * start + i * width) bytes)
number_part bytes start width n i m e l =
    let k : (i + 1) * width ≤ n * width = mul-le (i + 1) width n width (omega (arith, l)) (omega arith) in
    let split : m ≡ i * width + (m - i * width) = omega (arith, k, e) in
    ap (λ c. take width (drop (i * width) (take c (drop (8 * start) bytes)))) split
    ∙ ap (take width) (drop-take (i * width) (m - i * width) (drop (8 * start) bytes))
    ∙ take-take width (m - i * width) (drop (i * width) (drop (8 * start) bytes)) (omega (arith, k, e))
    ∙ ap (take width) (drop-drop (i * width) (8 * start) bytes)

no_forests : (bytes : List ℕ) (a : ℕ) → AreForests bytes a 0
no_forests bytes a j x y = absurd (omega (arith, x, y))

module _ (bytes : List ℕ) (w : ℕ) (f : Forest bytes w) where
  -- structs of size zero
  pub void_list : (a n : ℕ) → shape_at bytes w ≡ ListIn a 0 n → IsPartList bytes w no_parts n
  void_list a n e = record {
    parts = λ i l. (omega arith, omega arith, no_forests bytes (0 + i * 0));
    length = plain_count bytes w f a 0 n e;
    element = λ i l. ap (λ t. element_struct t i) (tree_list bytes w a 0 n f e);
    below = omega (arith, bare_below (grown_part_at bytes no_parts) 0 n (λ i. refl));
    whole = bare_whole (grown_part_at bytes no_parts) 0 n (λ i. refl);
  }

  -- numbers
  number_list : (a size width n m : ℕ) → shape_at bytes w ≡ ListIn a size n → m ≡ width * n → m ≤ 8 * list_words size n → ((i : ℕ) → element_struct (list_tree (tree bytes) bytes a size n) i ≡ record { bytes = take width (drop (i * width) (bytes_at bytes a m)); pointers = NoTrees })
      → IsPartList bytes w (number_parts a width) n
  number_list a size width n m e q few each = record {
    parts = λ i l.
        let k : (i + 1) * width ≤ n * width = mul-le (i + 1) width n width (omega (arith, l)) (omega arith) in
        let ends : a + list_words size n ≤ word_count bytes = ends_at bytes w f (ListIn a size n) e in
        (omega (arith, k, q, few, ends), omega arith, no_forests bytes (0 + i * 0));
    length = plain_count bytes w f a size n e;
    element = λ i l. ap (λ t. element_struct t i) (tree_list bytes w a size n f e) ∙ each i ∙ ap (λ b. record { bytes = b; pointers = NoTrees }) (number_part bytes a width n i m q l);
    below = omega (arith, bare_below (grown_part_at bytes (number_parts a width)) 0 n (λ i. refl));
    whole = bare_whole (grown_part_at bytes (number_parts a width)) 0 n (λ i. refl);
  }

  -- pointers
  pointer_list : (a n : ℕ) → shape_at bytes w ≡ ListIn a 6 n → IsPartList bytes w (pointer_parts a) n
  pointer_list a n e = record {
    parts = λ i l.
        let ends : a + list_words 6 n ≤ word_count bytes = ends_at bytes w f (ListIn a 6 n) e in
        (omega arith, omega (arith, l, ends), (λ j x y. list_row bytes w f a n e j (omega (arith, x)) (omega (arith, y, l))));
    length = plain_count bytes w f a 6 n e;
    element = λ i l. ap (λ t. element_struct t i) (tree_list bytes w a 6 n f e)
        ∙ ap (λ ts. record { bytes = []; pointers = ts }) (only_tree_from (tree bytes) a n i l ∙ ap (λ k. trees_from (tree bytes) k 1) {x = a + i} {y = a + i * 1} (omega arith));
    below = omega (arith, words_pointers bytes w f a n e, lone_below (tree bytes) (grown_part_at bytes (pointer_parts a)) 0 a n lone);
    whole = lone_whole (tree bytes) (grown_part_at bytes (pointer_parts a)) 0 a n lone ∙ sym (ap first_fault (tree_list bytes w a 6 n f e)) ∙ forest_whole bytes w f;
  }
    where
      lone : (i : ℕ) → (grown_part_at bytes (pointer_parts a) (0 + i)).pointers ≡ MoreTrees (tree bytes (a + i)) NoTrees
      lone i = ap (λ k. MoreTrees (tree bytes k) NoTrees) {x = a + (0 + i) * 1} {y = a + i} (omega arith)

  pub plain_list : (a size n : ℕ) → shape_at bytes w ≡ ListIn a size n → size < 7 → (size ≡ 1 → ⊥) → IsPartList bytes w (pointerless_parts a size) n
  plain_list a zero n e s h = void_list a n e
  plain_list a (suc zero) n e s h = absurd (h refl)
  plain_list a (suc (suc zero)) n e s h = number_list a 2 1 n n e (omega arith) (omega arith) (λ i. refl)
  plain_list a (suc (suc (suc zero))) n e s h = number_list a 3 2 n (2 * n) e refl (omega arith) (λ i. refl)
  plain_list a (suc (suc (suc (suc zero)))) n e s h = number_list a 4 4 n (4 * n) e refl (omega arith) (λ i. refl)
  plain_list a (suc (suc (suc (suc (suc zero))))) n e s h = number_list a 5 8 n (8 * n) e refl (omega arith) (λ i. refl)
  plain_list a (suc (suc (suc (suc (suc (suc zero)))))) n e s h = pointer_list a n e
  plain_list a (suc (suc (suc (suc (suc (suc (suc z))))))) n e s h = absurd (omega (arith, s))

  -- structs
  pub struct_parts_list : (tag n d p : ℕ) → shape_at bytes w ≡ CompositeIn tag n d p → IsPartList bytes w (struct_parts tag d p) n
  struct_parts_list tag n d p e = record {
    parts = λ i l.
        let k : i * (d + p) + (d + p) ≤ n * (d + p) = element_end i n (d + p) l in
        let ends : tag + 1 + n * (d + p) ≤ word_count bytes = ends_at bytes w f (CompositeIn tag n d p) e in
        let m : i * (8 * (d + p)) ≡ 8 * (i * (d + p)) = eight i (d + p) in
        (omega (arith, k, ends, m), omega (arith, k, ends), (λ j x y. element_rows bytes w f tag n d p e i l j (omega (arith, x)) (omega (arith, y))));
    length = structs_count bytes w f tag n d p e;
    element = λ i l. sym (struct_is_element bytes w f tag n d p e i l) ∙ same i;
    below = omega (arith, words_composite bytes w f tag n d p e, ap words_below_all (structs_same (grown_part_at bytes (struct_parts tag d p)) (λ i. struct_from bytes (tag + 1 + i * (d + p)) d p) 0 n (λ i x y. sym (same i))));
    whole = ap first_fault_of_elements (structs_same (grown_part_at bytes (struct_parts tag d p)) (λ i. struct_from bytes (tag + 1 + i * (d + p)) d p) 0 n (λ i x y. sym (same i))) ∙ sym (ap first_fault (tree_composite bytes w tag n d p f e)) ∙ forest_whole bytes w f;
  }
    where
      eight : (i m : ℕ) → i * (8 * m) ≡ 8 * (i * m)
      eight i m = grind arith

      same : (i : ℕ) → struct_from bytes (tag + 1 + i * (d + p)) d p ≡ grown_part_at bytes (struct_parts tag d p) i
      same i = two_parts (struct_from bytes (tag + 1 + i * (d + p)) d p) (grown_part_at bytes (struct_parts tag d p) i)
          (ap (λ k. take (8 * d) (drop k bytes)) {x = 8 * (tag + 1 + i * (d + p))} {y = 8 * (tag + 1) + i * (8 * (d + p))} (omega (arith, eight i (d + p))))
          (ap (λ k. trees_from (tree bytes) k p) {x = tag + 1 + i * (d + p) + d} {y = tag + 1 + d + i * (d + p)} (omega arith))

-- ---- as structs ----

structs_each : (f g : ℕ → StructTree) (a n : ℕ) → ((i : ℕ) → a ≤ i → i < a + n → f i ≡ g i) → structs_from f a n ≡ structs_from g a n
structs_each f g a n h = structs_same f g a n h

module _ (bytes : List ℕ) (w : ℕ) (row : PartRow) (n : ℕ) (size : StructSize) (l : IsPartList bytes w row n) where
  pub parts_as_structs : Composite size.data_words size.pointers (structs_from (λ i. extended_struct size (grown_part_at bytes row i)) 0 n) ≡ as_structs size (tree bytes w)
  parts_as_structs =
      ap (Composite size.data_words size.pointers) (structs_each (λ i. extended_struct size (grown_part_at bytes row i)) (λ i. extended_struct size (element_struct (tree bytes w) i)) 0 n (λ i x y. ap (extended_struct size) (sym (l.element i (omega (arith, y))))))
      ∙ ap (λ k. Composite size.data_words size.pointers (structs_from (λ i. extended_struct size (element_struct (tree bytes w) i)) 0 k)) (sym l.length)

  module _ (h : AreBytes bytes) (hd : size.data_words < 2 ^ 16) (hp : size.pointers < 2 ^ 16) (fd : row.data_count ≤ 8 * size.data_words) (fp : row.pointers ≤ size.pointers) (few : n < 2 ^ 29) (within : n * (size.data_words + size.pointers) < 2 ^ 29) where
    parts_well : IsWellFormed (Composite size.data_words size.pointers (structs_from (λ i. extended_struct size (grown_part_at bytes row i)) 0 n))
    parts_well =
        let k = struct_count_structs_from (λ i. extended_struct size (grown_part_at bytes row i)) 0 n in
        (hd, hp, omega (arith, k, few), omega (arith, ap (λ m. m * (size.data_words + size.pointers)) k, within), parts_extended bytes row n size h hd hp fd fp)

    pub parts_held : IsWellFormed (as_structs size (tree bytes w))
    parts_held = subst IsWellFormed parts_as_structs parts_well

    -- the words of it
    pub parts_words : words_of (as_structs size (tree bytes w)) ≡ 1 + n * (size.data_words + size.pointers) + words_below_all (structs_from (grown_part_at bytes row) 0 n)
    parts_words =
        let k = struct_count_structs_from (λ i. extended_struct size (grown_part_at bytes row i)) 0 n in
        ap words_of (sym parts_as_structs) ∙ omega (arith, ap (λ m. m * (size.data_words + size.pointers)) k, grown_below size (grown_part_at bytes row) 0 n)

    pub parts_length : (content : List ℕ) → content ≡ bytes_of (as_structs size (tree bytes w)) → length content ≡ 8 * (1 + n * (size.data_words + size.pointers) + words_below_all (structs_from (grown_part_at bytes row) 0 n))
    parts_length content e = ap length e ∙ length_bytes_of (as_structs size (tree bytes w)) parts_held ∙ ap (λ k. 8 * k) parts_words

  pub parts_whole : first_fault (as_structs size (tree bytes w)) ≡ None
  parts_whole = ap first_fault (sym parts_as_structs) ∙ grown_whole size (grown_part_at bytes row) 0 n ∙ l.whole
