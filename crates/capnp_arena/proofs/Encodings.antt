-- The encoding of a tree by what its pointer leads to.
use Rattle.std.proofs.Common.{◌≡◌, ℕ, zero, suc, ◌+◌, ◌-◌, ◌*◌, ◌/◌, ◌^◌, ◌<◌, ◌≤◌, inl, inr, refl, sym, ap, subst, ◌∙◌, arith, List, [], ◌++◌, length, take, drop, ◌==◌, cond}
use Rattle.std.proofs.lemmas.List.{append-nil, append_assoc, take-append-drop}
use Rattle.capnp_wire.specs.Encoding.{bytes_below, bytes_below_all, bytes_of, bytes_of_all, element_row, list_word, own_bytes, packed_bits, pointer_row, pointer_word, struct_word}
use Rattle.capnp_wire.specs.Facts.Bytes.{AreBytes_part, AreSegments_one}
use Rattle.capnp_wire.specs.Facts.EmptyStructs.{no_sections}
use Rattle.capnp_wire.specs.Facts.Places.{IsWellFormed_tree_at}
use Rattle.capnp_wire.specs.Facts.Rows.{struct_count_structs_from, tree_count_trees_from}
use Rattle.capnp_wire.specs.Steps.Filling.{HasRoom, HaveRoom, elements_end, bytes_with, with_encoded_elements, with_pointers, words_from}
use Rattle.capnp_wire.specs.Locate.{list_words}
use Rattle.capnp_wire.specs.Place.{bits_from, bytes_at, list_tree, tree_with_level}
use Rattle.capnp_wire.specs.Tree.{Composite, MoreStructs, MoreTrees, NoStructs, NoTrees, Null, StructTree, Structs, Tree, Trees, empty_struct, struct_count, structs_from, tree_count, trees_from}
use Rattle.capnp_wire.specs.WellFormed.{AreBytes, AreElements, AreWellFormed, IsWellFormed}
use Rattle.capnp_wire.specs.Words.{words_of_all}
use Rattle.capnp_wire.specs.Facts.Indexed.{length_bits_from}
use Rattle.capnp_arena.specs.Steps.Encoded.{HasSize, pointer_to}
use Rattle.capnp_arena.specs.Forest.{Forest, struct_from, tree}
use Rattle.capnp_arena.specs.Shape.{CompositeIn, ListIn, NoShape, Points, Shape, StructIn, shape_at, word_count}
use Rattle.capnp_arena.specs.Steps.Shape.{shape_target}
use Rattle.capnp_arena.proofs.Counted.{ends_at}
use Rattle.capnp_arena.specs.Facts.Forests.{points, tree_step}
use Rattle.capnp_arena.specs.Facts.Shapes.{element_end}
use Rattle.capnp_arena.specs.Facts.Structs.{tree_composite, tree_list, tree_struct}
use Rattle.capnp_arena.proofs.Written.{length_part}

-- ---- sizes ----

pub has_size : (bytes : List ℕ) (w : ℕ) (s : Shape) → Points bytes w s → HasSize s
has_size bytes w NoShape h = tt
has_size bytes w (StructIn a d p) h = elim h [ inl z ↦ (omega (arith, z.1), omega (arith, z.2)) | inr z ↦ (z.2, z.3) ]
has_size bytes w (ListIn a size n) h = (h.2, h.3)
has_size bytes w (CompositeIn tag n d p) h = (h.2, h.3, h.4, h.5)

-- ---- pointers ----

struct_pointer_is : (gap d p : ℕ) (x : Tree) (m n : ℕ) → m ≡ d → n ≡ p → pointer_to gap (StructIn 0 d p) ≡ cond (m + n == 0) (struct_word (2 ^ 30 - 1) 0 0) (struct_word gap m n)
struct_pointer_is gap d p x m n e q = rw (e, q) refl

list_pointer_is : (bytes : List ℕ) (gap a size n : ℕ) → size < 7 → a + list_words size n ≤ word_count bytes → list_word gap size n ≡ pointer_word gap (list_tree (tree bytes) bytes a size n)
list_pointer_is bytes gap a zero n l h = refl
list_pointer_is bytes gap a (suc zero) n l h = ap (list_word gap 1) (sym (length_bits_from (bytes_at bytes a (8 * list_words 1 n)) 0 n))
list_pointer_is bytes gap a (suc (suc zero)) n l h = let e : length (bytes_at bytes a n) ≡ n = length_part bytes a n (omega (arith, h)) in ap (list_word gap 2) {x = n} {y = length (bytes_at bytes a n) / 1} (omega (arith, e))
list_pointer_is bytes gap a (suc (suc (suc zero))) n l h = let e : length (bytes_at bytes a (2 * n)) ≡ 2 * n = length_part bytes a (2 * n) (omega (arith, h)) in ap (list_word gap 3) {x = n} {y = length (bytes_at bytes a (2 * n)) / 2} (omega (arith, e))
list_pointer_is bytes gap a (suc (suc (suc (suc zero)))) n l h = let e : length (bytes_at bytes a (4 * n)) ≡ 4 * n = length_part bytes a (4 * n) (omega (arith, h)) in ap (list_word gap 4) {x = n} {y = length (bytes_at bytes a (4 * n)) / 4} (omega (arith, e))
list_pointer_is bytes gap a (suc (suc (suc (suc (suc zero))))) n l h = let e : length (bytes_at bytes a (8 * n)) ≡ 8 * n = length_part bytes a (8 * n) (omega (arith, h)) in ap (list_word gap 5) {x = n} {y = length (bytes_at bytes a (8 * n)) / 8} (omega (arith, e))
list_pointer_is bytes gap a (suc (suc (suc (suc (suc (suc z)))))) n l h =
    let e : suc (suc (suc (suc (suc (suc z))))) ≡ 6 = omega (arith, l) in
    ap (λ k. list_word gap k n) e ∙ ap (list_word gap 6) (sym (tree_count_trees_from (tree bytes) a n))

module _ (bytes : List ℕ) (w : ℕ) (f : Forest bytes w) (gap : ℕ) where
  by_shape : (s : Shape) → shape_at bytes w ≡ s → pointer_to gap s ≡ pointer_word gap (tree bytes w)
  by_shape NoShape e = sym (ap (pointer_word gap) (tree_step bytes w f ∙ ap (λ s. tree_with_level tree tree (shape_target bytes s)) e))
  by_shape (StructIn a d p) e =
      let l : a + (d + p) ≤ word_count bytes = ends_at bytes w f (StructIn a d p) e in
      let n : length (bytes_at bytes a (8 * d)) ≡ 8 * d = length_part bytes a (8 * d) (omega (arith, l)) in
      struct_pointer_is gap d p Null (length (bytes_at bytes a (8 * d)) / 8) _ (omega (arith, n)) (tree_count_trees_from (tree bytes) (a + d) p)
      ∙ sym (ap (pointer_word gap) (tree_struct bytes w a d p f e))
  by_shape (ListIn a size n) e =
      let h : HasSize (ListIn a size n) = subst HasSize e (has_size bytes w (shape_at bytes w) (points bytes w f)) in
      list_pointer_is bytes gap a size n h.0 (ends_at bytes w f (ListIn a size n) e) ∙ sym (ap (pointer_word gap) (tree_list bytes w a size n f e))
  by_shape (CompositeIn tag n d p) e =
      ap (λ k. list_word gap 7 (k * (d + p))) (sym (struct_count_structs_from (λ i. struct_from bytes (tag + 1 + i * (d + p)) d p) 0 n)) ∙ sym (ap (pointer_word gap) (tree_composite bytes w tag n d p f e))

-- the pointer to a tree is that to its shape
pub pointer_is : (bytes : List ℕ) (w gap : ℕ) → Forest bytes w → pointer_to gap (shape_at bytes w) ≡ pointer_word gap (tree bytes w)
pointer_is bytes w gap f = by_shape bytes w f gap (shape_at bytes w) refl

-- ---- the format holds what stands in a segment ----

pub tree_held : (bytes : List ℕ) (w : ℕ) → AreBytes bytes → IsWellFormed (tree bytes w)
unfolding tree
tree_held bytes w h = IsWellFormed_tree_at (word_count bytes) _ bytes w (AreSegments_one bytes h) h

pub row_held : (bytes : List ℕ) (first n : ℕ) → AreBytes bytes → AreWellFormed (trees_from (tree bytes) first n)
row_held bytes first zero h = tt
row_held bytes first (suc n) h = (tree_held bytes first h, row_held bytes (suc first) n h)

pub elements_held : (bytes : List ℕ) (start d p i n : ℕ) → AreBytes bytes → ((j : ℕ) → i ≤ j → j < i + n → start + j * (d + p) + d ≤ word_count bytes) → AreElements d p (structs_from (λ j. struct_from bytes (start + j * (d + p)) d p) i n)
elements_held bytes start d p i zero h l = tt
elements_held bytes start d p i (suc n) h l =
    let a : ℕ = start + i * (d + p) in
    let m : start + i * (d + p) + d ≤ word_count bytes = l i (omega arith) (omega arith) in
    (AreBytes_part (8 * d) (8 * a) bytes h, length_part bytes a (8 * d) (omega (arith, m)), tree_count_trees_from (tree bytes) (a + d) p, row_held bytes (a + d) p h, elements_held bytes start d p (suc i) n h (λ j x y. l j (omega (arith, x)) (omega (arith, y))))

-- where they lie
pub elements_lie : (bytes : List ℕ) (start d p n : ℕ) → start + n * (d + p) ≤ word_count bytes → (j : ℕ) → 0 ≤ j → j < 0 + n → start + j * (d + p) + d ≤ word_count bytes
elements_lie bytes start d p n h j x y = let l : j * (d + p) + (d + p) ≤ n * (d + p) = element_end j n (d + p) (omega (arith, y)) in omega (arith, l, h)

-- ---- rows ----

pub row_next : (f : ℕ → Tree) (first i n : ℕ) → i < n → trees_from f (first + i) (n - i) ≡ MoreTrees (f (first + i)) (trees_from f (first + (i + 1)) (n - (i + 1)))
row_next f first i n l =
    ap (trees_from f (first + i)) {x = n - i} {y = suc (n - (i + 1))} (omega (arith, l))
    ∙ ap (λ a. MoreTrees (f (first + i)) (trees_from f a (n - (i + 1)))) {x = suc (first + i)} {y = first + (i + 1)} (omega arith)

pub structs_next : (f : ℕ → StructTree) (i n : ℕ) → i < n → structs_from f i (n - i) ≡ MoreStructs (f i).bytes (f i).pointers (structs_from f (i + 1) (n - (i + 1)))
structs_next f i n l =
    ap (structs_from f i) {x = n - i} {y = suc (n - (i + 1))} (omega (arith, l))
    ∙ ap (λ a. MoreStructs (f i).bytes (f i).pointers (structs_from f a (n - (i + 1)))) {x = suc i} {y = i + 1} (omega arith)

-- ---- objects ----

plain_below : (bytes : List ℕ) (a size n : ℕ) → size < 6 → bytes_below (list_tree (tree bytes) bytes a size n) ≡ []
plain_below bytes a zero n l = refl
plain_below bytes a (suc zero) n l = refl
plain_below bytes a (suc (suc zero)) n l = refl
plain_below bytes a (suc (suc (suc zero))) n l = refl
plain_below bytes a (suc (suc (suc (suc zero)))) n l = refl
plain_below bytes a (suc (suc (suc (suc (suc zero))))) n l = refl
plain_below bytes a (suc (suc (suc (suc (suc (suc z)))))) n l = absurd (omega (arith, l))

module _ (bytes : List ℕ) (w : ℕ) (f : Forest bytes w) where
  pub bytes_null : shape_at bytes w ≡ NoShape → bytes_of (tree bytes w) ≡ []
  bytes_null e = ap bytes_of (tree_step bytes w f ∙ ap (λ s. tree_with_level tree tree (shape_target bytes s)) e)

  pub bytes_struct : (a d p : ℕ) → shape_at bytes w ≡ StructIn a d p → bytes_of (tree bytes w) ≡ bytes_at bytes a (8 * d) ++ (pointer_row 0 (trees_from (tree bytes) (a + d) p) ++ bytes_of_all (trees_from (tree bytes) (a + d) p))
  bytes_struct a d p e = ap bytes_of (tree_struct bytes w a d p f e) ∙ append_assoc (bytes_at bytes a (8 * d)) (pointer_row 0 (trees_from (tree bytes) (a + d) p)) (bytes_of_all (trees_from (tree bytes) (a + d) p))

  pub bytes_pointers : (a n : ℕ) → shape_at bytes w ≡ ListIn a 6 n → bytes_of (tree bytes w) ≡ pointer_row 0 (trees_from (tree bytes) a n) ++ bytes_of_all (trees_from (tree bytes) a n)
  bytes_pointers a n e = ap bytes_of (tree_list bytes w a 6 n f e)

  pub bytes_plain : (a size n : ℕ) → size < 6 → shape_at bytes w ≡ ListIn a size n → bytes_of (tree bytes w) ≡ own_bytes (list_tree (tree bytes) bytes a size n)
  bytes_plain a size n l e =
      ap bytes_of (tree_list bytes w a size n f e) ∙ ap (λ z. own_bytes (list_tree (tree bytes) bytes a size n) ++ z) (plain_below bytes a size n l) ∙ append-nil (own_bytes (list_tree (tree bytes) bytes a size n))

  pub bytes_composite : (tag n d p : ℕ) → shape_at bytes w ≡ CompositeIn tag n d p → bytes_of (tree bytes w) ≡ bytes_of (Composite d p (structs_from (λ i. struct_from bytes (tag + 1 + i * (d + p)) d p) 0 n))
  bytes_composite tag n d p e = ap bytes_of (tree_composite bytes w tag n d p f e)

  -- a struct of size zero has none
  pub bytes_zero : (a d p : ℕ) → shape_at bytes w ≡ StructIn a d p → d + p ≡ 0 → bytes_of (tree bytes w) ≡ []
  bytes_zero a d p e z =
      bytes_struct a d p e
      ∙ ap (λ k. bytes_at bytes a (8 * k) ++ (pointer_row 0 (trees_from (tree bytes) (a + k) p) ++ bytes_of_all (trees_from (tree bytes) (a + k) p))) {x = d} {y = 0} (omega (arith, z))
      ∙ ap (λ k. bytes_at bytes a (8 * 0) ++ (pointer_row 0 (trees_from (tree bytes) (a + 0) k) ++ bytes_of_all (trees_from (tree bytes) (a + 0) k))) {x = p} {y = 0} (omega (arith, z))

-- a list of bits
pub bits_own : (bytes part : List ℕ) (a n : ℕ) → part ≡ bytes_at bytes a (8 * ((n + 63) / 64)) → packed_bits (8 * list_words 1 n) (bits_from part 0 n) ≡ own_bytes (list_tree (tree bytes) bytes a 1 n)
bits_own bytes part a n e =
    ap (λ z. packed_bits (8 * list_words 1 n) (bits_from z 0 n)) (e ∙ ap (bytes_at bytes a) {x = 8 * ((n + 63) / 64)} {y = 8 * list_words 1 n} (omega arith))
    ∙ ap (λ k. packed_bits (8 * list_words 1 k) (bits_from (bytes_at bytes a (8 * list_words 1 n)) 0 n)) (sym (length_bits_from (bytes_at bytes a (8 * list_words 1 n)) 0 n))

-- ---- room ----

-- nothing is left to be filled
pub no_pointers : (at : ℕ) (out : List ℕ) → with_pointers at NoTrees out ≡ out
no_pointers at out = append-nil (take at out ++ drop (at + 0) out) ∙ ap (λ k. take at out ++ drop k out) {x = at + 0} {y = at} (omega arith) ∙ take-append-drop at out

pub no_elements : (size at : ℕ) (out : List ℕ) → with_encoded_elements size at NoStructs out ≡ out
no_elements size at out = append-nil (take at out ++ drop (at + 0) out) ∙ ap (λ k. take at out ++ drop k out) {x = at + 0} {y = at} (omega arith) ∙ take-append-drop at out

-- structs of size zero have nothing to be put, and lead to nothing
nothing_in_row : (d p gap : ℕ) (es : Structs) → d + p ≡ 0 → AreElements d p es → element_row (d + p) gap es ≡ []
nothing_in_row d p gap NoStructs none h = refl
nothing_in_row d p gap (MoreStructs bytes ps es) none h =
    let s : record { bytes = bytes; pointers = ps } ≡ empty_struct = no_sections (record { bytes = bytes; pointers = ps }) (omega (arith, none, h.1)) (omega (arith, none, h.2)) in
    ap (λ (s : StructTree). (s.bytes ++ pointer_row (struct_count es * (d + p) + gap) s.pointers) ++ element_row (d + p) (gap + words_of_all s.pointers) es) s
    ∙ nothing_in_row d p (gap + 0) es none h.4

nothing_below : (d p : ℕ) (es : Structs) → d + p ≡ 0 → AreElements d p es → bytes_below_all es ≡ []
nothing_below d p NoStructs none h = refl
nothing_below d p (MoreStructs bytes ps es) none h =
    let s : record { bytes = bytes; pointers = ps } ≡ empty_struct = no_sections (record { bytes = bytes; pointers = ps }) (omega (arith, none, h.1)) (omega (arith, none, h.2)) in
    ap (λ (s : StructTree). bytes_of_all s.pointers ++ bytes_below_all es) s ∙ nothing_below d p es none h.4

pub nothing_filled : (d p at : ℕ) (es : Structs) (out : List ℕ) → d + p ≡ 0 → AreElements d p es → with_encoded_elements (d + p) at es out ≡ out
nothing_filled d p at es out none h =
    ap (λ row. bytes_with at row out ++ bytes_below_all es) (nothing_in_row d p (words_from (elements_end (d + p) at es) out) es none h)
    ∙ ap (λ below. bytes_with at [] out ++ below) (nothing_below d p es none h)
    ∙ no_elements 0 at out

pub row_done : (f : ℕ → Tree) (a n i at : ℕ) (out : List ℕ) → n ≤ i → with_pointers at (trees_from f a (n - i)) out ≡ out
row_done f a n i at out l = ap (λ k. with_pointers at (trees_from f a k) out) {x = n - i} {y = 0} (omega (arith, l)) ∙ no_pointers at out

pub elements_done : (f : ℕ → StructTree) (n i size at : ℕ) (out : List ℕ) → n ≤ i → with_encoded_elements size at (structs_from f i (n - i)) out ≡ out
elements_done f n i size at out l = ap (λ k. with_encoded_elements size at (structs_from f i k) out) {x = n - i} {y = 0} (omega (arith, l)) ∙ no_elements size at out

-- room for the pointers of the first struct of a row
pub element_room : (d p at : ℕ) (bytes : List ℕ) (ps : Trees) (es : Structs) (out : List ℕ) → HaveRoom d p at (MoreStructs bytes ps es) out → HasRoom (at + 8 * d) ps out
element_room d p at bytes ps es out room =
    let end : at + 8 * d + 8 * tree_count ps ≡ at + 8 * (d + p) = omega (arith, room.0.2) in
    (room.0.3, omega (arith, room.1, end), omega (arith, room.1, room.2, end))
