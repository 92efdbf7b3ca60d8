-- What code reads out of a pointer word is what was written there.
use Rattle.std.proofs.Common.{◌≡◌, ℕ, suc, ◌+◌, ◌-◌, ◌*◌, ◌^◌, ◌<◌, inl, inr, false, refl, sym, ap, ◌∙◌, arith, List, take, drop, ◌==◌, cond}
use Rattle.capnp_wire.specs.Encoding.{list_word, struct_word}
use Rattle.capnp_wire.specs.Facts.Bytes.{little_endian_spelled}
use Rattle.capnp_wire.specs.Locate.{count, data_words, element_size_number, pointer_kind, offset, pointer_count}
use Rattle.capnp_wire.specs.Slot.{little_endian, number_at}
use Rattle.capnp_wire.specs.Facts.PointerWords.{list_count, list_element_size, list_fits, list_kind, list_offset, not_equal, struct_data_words, struct_fits, struct_kind, struct_offset, struct_pointer_count}
use Rattle.capnp_arena.specs.Steps.Looked.{looked_shape}
use Rattle.capnp_arena.specs.Shape.{CompositeIn, IsWordAt, ListIn, NoShape, Points, Shape, StructIn}

-- a word that stands there
word_read : (bytes : List ℕ) (w word : ℕ) → word < 2 ^ 64 → IsWordAt bytes w word → number_at 8 w bytes ≡ word
word_read bytes w word h i = ap (λ n. little_endian (take 8 (drop n bytes))) {x = w * 8} {y = 8 * w} (omega arith) ∙ ap little_endian i.1 ∙ little_endian_spelled 8 word h

of_struct : (bytes : List ℕ) (w word a d p : ℕ) → (word ≡ 0 → ⊥) → pointer_kind word ≡ 0 → data_words word ≡ d → pointer_count word ≡ p → cond (d + p == 0) w (w + 1 + offset word) ≡ a → looked_shape bytes w word ≡ StructIn a d p
of_struct bytes w word a d p some k ed ep e = rw (not_equal word 0 some, k, ed, ep, e) refl

pub of_list : (bytes : List ℕ) (w word a size n : ℕ) → (word ≡ 0 → ⊥) → pointer_kind word ≡ 1 → element_size_number word ≡ size → count word ≡ n → (size ≡ 7 → ⊥) → w + 1 + offset word ≡ a → looked_shape bytes w word ≡ ListIn a size n
of_list bytes w word a size n some k es en no_tag e = rw (not_equal word 0 some, k, es, not_equal size 7 no_tag, en, e) refl

of_composite : (bytes : List ℕ) (w word tag t n d p : ℕ) → (word ≡ 0 → ⊥) → pointer_kind word ≡ 1 → element_size_number word ≡ 7 → w + 1 + offset word ≡ tag → number_at 8 tag bytes ≡ t → offset t ≡ n → data_words t ≡ d → pointer_count t ≡ p → looked_shape bytes w word ≡ CompositeIn tag n d p
of_composite bytes w word tag t n d p some k es e et en ed ep = rw (not_equal word 0 some, k, es, e, et, en, ed, ep) refl

pub looked_is : (bytes : List ℕ) (w : ℕ) (s : Shape) → Points bytes w s → looked_shape bytes w (number_at 8 w bytes) ≡ s
looked_is bytes w NoShape h = ap (looked_shape bytes w) (word_read bytes w 0 (omega arith) h)
looked_is bytes w (StructIn a d p) h = elim h [
  | inl z ↦
      ap (looked_shape bytes w) (word_read bytes w (struct_word (2 ^ 30 - 1) 0 0) (omega arith) z.3)
      ∙ of_struct bytes w (struct_word (2 ^ 30 - 1) 0 0) a d p (λ e. omega (arith, e)) refl (sym z.1) (sym z.2) (rw (z.1, z.2) (sym z.0))
  | inr z ↦
      let g : a - suc w < 2 ^ 30 = omega (arith, z.1) in
      let f : (d + p == 0) ≡ false = not_equal (d + p) 0 (λ e. omega (arith, e, z.4)) in
      let word : ℕ = struct_word (a - suc w) d p in
      ap (looked_shape bytes w) (word_read bytes w (struct_word (a - suc w) d p) (struct_fits (a - suc w) d p g z.2 z.3) z.6)
      ∙ of_struct bytes w (struct_word (a - suc w) d p) a d p (λ e. omega (arith, e, z.4)) (struct_kind (a - suc w) d p g z.2 z.3) (struct_data_words (a - suc w) d p g z.2 z.3) (struct_pointer_count (a - suc w) d p g z.2 z.3)
      (rw (f, struct_offset (a - suc w) d p g z.2 z.3) (omega (arith, z.0)))
]
looked_is bytes w (ListIn a size n) h =
    let g : a - suc w < 2 ^ 30 = omega (arith, h.1) in
    let e8 : size < 8 = omega (arith, h.2) in
    ap (looked_shape bytes w) (word_read bytes w (list_word (a - suc w) size n) (list_fits (a - suc w) size n g e8 h.3) h.5)
    ∙ of_list bytes w (list_word (a - suc w) size n) a size n (λ e. omega (arith, e)) (list_kind (a - suc w) size n g e8 h.3) (list_element_size (a - suc w) size n g e8 h.3) (list_count (a - suc w) size n g e8 h.3) (λ e. omega (arith, e, h.2))
    (rw (list_offset (a - suc w) size n g e8 h.3) (omega (arith, h.0)))
looked_is bytes w (CompositeIn tag n d p) h =
    let g : tag - suc w < 2 ^ 30 = omega (arith, h.1) in
    let n30 : n < 2 ^ 30 = omega (arith, h.4) in
    ap (looked_shape bytes w) (word_read bytes w (list_word (tag - suc w) 7 (n * (d + p))) (list_fits (tag - suc w) 7 (n * (d + p)) g (omega arith) h.5) h.7)
    ∙ of_composite bytes w (list_word (tag - suc w) 7 (n * (d + p))) tag (struct_word n d p) n d p (λ e. omega (arith, e)) (list_kind (tag - suc w) 7 (n * (d + p)) g (omega arith) h.5) (list_element_size (tag - suc w) 7 (n * (d + p)) g (omega arith) h.5)
    (rw (list_offset (tag - suc w) 7 (n * (d + p)) g (omega arith) h.5) (omega (arith, h.0)))
    (word_read bytes tag (struct_word n d p) (struct_fits n d p n30 h.2 h.3) h.8) (struct_offset n d p n30 h.2 h.3) (struct_data_words n d p n30 h.2 h.3) (struct_pointer_count n d p n30 h.2 h.3)
