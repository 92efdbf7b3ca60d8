-- Elements of lists as they are read.
use Rattle.std.proofs.Common.{◌≡◌, ℕ, zero, suc, ◌+◌, ◌*◌, ◌/◌, ◌≤◌, refl, sym, ap, ◌∙◌, arith, false, List, [], take}
use Rattle.std.proofs.lemmas.List.{drop_all, take_all}
use Rattle.capnp_wire.specs.Facts.Indexed.{nth_struct_past}
use Rattle.capnp_wire.specs.Locate.{list_words}
use Rattle.capnp_wire.specs.Place.{bits_from, bytes_at, list_tree}
use Rattle.capnp_wire.specs.Reading.{element_bit, element_number, element_struct}
use Rattle.capnp_wire.specs.Slot.{little_endian, number_at}
use Rattle.capnp_wire.specs.Tree.{Bits, Tree}
use Rattle.capnp_wire.specs.declared.size.ElementSize.{ElementSize}
use Rattle.capnp_wire.specs.declared.size.ElementSize.TheVariants.{Void, Bit, Byte, TwoBytes, FourBytes, EightBytes, Pointer, InlineComposite}
use Rattle.capnp_arena.specs.Facts.Structs.{tree_composite, tree_list}
use Rattle.capnp_arena.specs.Forest.{Forest, struct_from, tree}
use Rattle.capnp_arena.specs.Made.{size_number, width_of}
use Rattle.capnp_arena.specs.Shape.{CompositeIn, ListIn, shape_at}

-- past the end stands zero
pub number_none : (width i : ℕ) → number_at width i [] ≡ 0
number_none width i = ap little_endian (ap (take width) (drop_all (i * width) [] (omega arith)) ∙ take_all width [] (omega arith))

no_bytes : (bytes : List ℕ) (a n width i : ℕ) → number_at width i (bytes_at bytes a (0 * n)) ≡ 0
no_bytes bytes a n width i = ap (λ k. number_at width i (bytes_at bytes a k)) {x = 0 * n} {y = 0} (omega arith) ∙ number_none width i

plain_number : (f : ℕ → Tree) (bytes : List ℕ) (a n width i : ℕ) (size : ElementSize) → (size ≡ InlineComposite → ⊥) → number_at width i (bytes_at bytes a (width_of size * n)) ≡ element_number width (list_tree f bytes a (size_number size) n) i
plain_number f bytes a n width i Void h = no_bytes bytes a n width i
plain_number f bytes a n width i Bit h = no_bytes bytes a n width i
plain_number f bytes a n width i Byte h = ap (λ m. number_at width i (bytes_at bytes a m)) {x = 1 * n} {y = n} (omega arith)
plain_number f bytes a n width i TwoBytes h = refl
plain_number f bytes a n width i FourBytes h = refl
plain_number f bytes a n width i EightBytes h = refl
plain_number f bytes a n width i Pointer h = no_bytes bytes a n width i
plain_number f bytes a n width i InlineComposite h = absurd (h refl)

other_bit : (f : ℕ → Tree) (bytes : List ℕ) (a size n i : ℕ) → (size ≡ 1 → ⊥) → element_bit (list_tree f bytes a size n) i ≡ false
other_bit f bytes a zero n i h = refl
other_bit f bytes a (suc zero) n i h = absurd (h refl)
other_bit f bytes a (suc (suc zero)) n i h = refl
other_bit f bytes a (suc (suc (suc zero))) n i h = refl
other_bit f bytes a (suc (suc (suc (suc zero)))) n i h = refl
other_bit f bytes a (suc (suc (suc (suc (suc zero))))) n i h = refl
other_bit f bytes a (suc (suc (suc (suc (suc (suc size)))))) n i h = refl

module _ (bytes : List ℕ) (w : ℕ) (f : Forest bytes w) where
  pub plain_number_is : (a n : ℕ) (size : ElementSize) → (size ≡ InlineComposite → ⊥) → shape_at bytes w ≡ ListIn a (size_number size) n → (width i : ℕ) → number_at width i (bytes_at bytes a (width_of size * n)) ≡ element_number width (tree bytes w) i
  plain_number_is a n size h e width i = plain_number (tree bytes) bytes a n width i size h ∙ ap (λ t. element_number width t i) (sym (tree_list bytes w a (size_number size) n f e))

  pub no_bit : (a size n i : ℕ) → shape_at bytes w ≡ ListIn a size n → (size ≡ 1 → ⊥) → element_bit (tree bytes w) i ≡ false
  no_bit a size n i e h = ap (λ t. element_bit t i) (tree_list bytes w a size n f e) ∙ other_bit (tree bytes) bytes a size n i h

  pub bit_is : (a size n i : ℕ) → shape_at bytes w ≡ ListIn a size n → size ≡ 1 → element_bit (Bits (bits_from (bytes_at bytes a (8 * ((n + 63) / 64))) 0 n)) i ≡ element_bit (tree bytes w) i
  bit_is a size n i e h =
      ap (λ m. element_bit (Bits (bits_from (bytes_at bytes a m) 0 n)) i) {x = 8 * ((n + 63) / 64)} {y = 8 * list_words 1 n} (omega arith)
      ∙ ap (λ k. element_bit (list_tree (tree bytes) bytes a k n) i) (sym h) ∙ ap (λ t. element_bit t i) (sym (tree_list bytes w a size n f e))

  module _ (tag n d p : ℕ) (e : shape_at bytes w ≡ CompositeIn tag n d p) where
    pub struct_number : (width i : ℕ) → number_at width 0 (element_struct (tree bytes w) i).bytes ≡ element_number width (tree bytes w) i
    struct_number width i =
        ap (λ t. number_at width 0 (element_struct t i).bytes) (tree_composite bytes w tag n d p f e) ∙ ap (λ t. element_number width t i) (sym (tree_composite bytes w tag n d p f e))

    pub struct_bit : (i : ℕ) → element_bit (tree bytes w) i ≡ false
    struct_bit i = ap (λ t. element_bit t i) (tree_composite bytes w tag n d p f e)

    pub past_bytes : (i : ℕ) → n ≤ i → [] ≡ (element_struct (tree bytes w) i).bytes
    past_bytes i l = sym (ap (λ t. (element_struct t i).bytes) (tree_composite bytes w tag n d p f e) ∙ ap (λ s. s.bytes) (nth_struct_past (λ i. struct_from bytes (tag + 1 + i * (d + p)) d p) 0 n i l))
