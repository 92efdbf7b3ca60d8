-- Lists as they are read.
use Rattle.std.proofs.Common.{◌≡◌, ℕ, zero, suc, ◌+◌, ◌*◌, ◌<◌, ◌≤◌, refl, sym, ap, subst, ◌∙◌, arith, Bool, cond, false, true, Err, List, Ok, length}
use Rattle.capnp_device.specs.declared.error.ErrorKind.TheVariants.{WrongElementSize}
use Rattle.capnp_wire.specs.ElementSizes.{element_size_of}
use Rattle.capnp_wire.specs.Facts.Indexed.{length_bits_from}
use Rattle.capnp_wire.specs.Facts.Rows.{nth_struct_start, struct_count_structs_from, tree_count_trees_from}
use Rattle.capnp_wire.specs.Locate.{list_words}
use Rattle.capnp_wire.specs.Place.{bytes_at, list_tree}
use Rattle.capnp_wire.specs.Reading.{as_list, element_struct, list_length, reads_structs}
use Rattle.capnp_wire.specs.Tree.{Tree}
use Rattle.capnp_wire.specs.declared.size.ElementSize.{ElementSize}
use Rattle.capnp_wire.specs.declared.size.ElementSize.TheVariants.{Void, Bit, Byte, TwoBytes, FourBytes, EightBytes, Pointer, InlineComposite}
use Rattle.capnp_arena.specs.Forest.{Forest, struct_from, tree}
use Rattle.capnp_arena.specs.Made.{size_number}
use Rattle.capnp_arena.specs.Steps.Reads.{reads_kind}
use Rattle.capnp_arena.specs.Shape.{CompositeIn, ListIn, Points, shape_at, word_count}
use Rattle.capnp_arena.proofs.Counted.{ends_at}
use Rattle.capnp_arena.specs.Facts.Forests.{points}
use Rattle.capnp_arena.specs.Facts.Structs.{tree_composite, tree_list}
use Rattle.capnp_arena.proofs.Written.{length_part}

plain_read : (f : ℕ → Tree) (bytes : List ℕ) (asked : ElementSize) (a size n : ℕ) → as_list asked (list_tree f bytes a size n) 1 ≡ cond (reads_kind asked size) (Ok (list_tree f bytes a size n)) (Err WrongElementSize)
plain_read f bytes asked a zero n = refl
plain_read f bytes asked a (suc zero) n = refl
plain_read f bytes asked a (suc (suc zero)) n = refl
plain_read f bytes asked a (suc (suc (suc zero))) n = refl
plain_read f bytes asked a (suc (suc (suc (suc zero)))) n = refl
plain_read f bytes asked a (suc (suc (suc (suc (suc zero))))) n = refl
plain_read f bytes asked a (suc (suc (suc (suc (suc (suc size)))))) n = refl

plain_length : (f : ℕ → Tree) (bytes : List ℕ) (a size n : ℕ) → a + list_words size n ≤ word_count bytes → list_length (list_tree f bytes a size n) ≡ n
plain_length f bytes a zero n h = refl
plain_length f bytes a (suc zero) n h = length_bits_from (bytes_at bytes a (8 * list_words 1 n)) 0 n
plain_length f bytes a (suc (suc zero)) n h = let e : length (bytes_at bytes a n) ≡ n = length_part bytes a n (omega (arith, h)) in omega (arith, e)
plain_length f bytes a (suc (suc (suc zero))) n h = let e : length (bytes_at bytes a (2 * n)) ≡ 2 * n = length_part bytes a (2 * n) (omega (arith, h)) in omega (arith, e)
plain_length f bytes a (suc (suc (suc (suc zero)))) n h = let e : length (bytes_at bytes a (4 * n)) ≡ 4 * n = length_part bytes a (4 * n) (omega (arith, h)) in omega (arith, e)
plain_length f bytes a (suc (suc (suc (suc (suc zero))))) n h = let e : length (bytes_at bytes a (8 * n)) ≡ 8 * n = length_part bytes a (8 * n) (omega (arith, h)) in omega (arith, e)
plain_length f bytes a (suc (suc (suc (suc (suc (suc size)))))) n h = tree_count_trees_from f a n

plain_size : (f : ℕ → Tree) (bytes : List ℕ) (a n : ℕ) (size : ElementSize) → (size ≡ InlineComposite → ⊥) → element_size_of (list_tree f bytes a (size_number size) n) ≡ size
plain_size f bytes a n Void h = refl
plain_size f bytes a n Bit h = refl
plain_size f bytes a n Byte h = refl
plain_size f bytes a n TwoBytes h = refl
plain_size f bytes a n FourBytes h = refl
plain_size f bytes a n EightBytes h = refl
plain_size f bytes a n Pointer h = refl
plain_size f bytes a n InlineComposite h = absurd (h refl)

module _ (bytes : List ℕ) (w : ℕ) (f : Forest bytes w) where
  module _ (a size n : ℕ) (e : shape_at bytes w ≡ ListIn a size n) where
    pub plain_is : (asked : ElementSize) → as_list asked (tree bytes w) 1 ≡ cond (reads_kind asked size) (Ok (tree bytes w)) (Err WrongElementSize)
    plain_is asked =
        ap (λ t. as_list asked t 1) (tree_list bytes w a size n f e) ∙ plain_read (tree bytes) bytes asked a size n
        ∙ ap (λ t. cond (reads_kind asked size) (Ok t) (Err WrongElementSize)) (sym (tree_list bytes w a size n f e))

    pub plain_count : list_length (tree bytes w) ≡ n
    plain_count = ap list_length (tree_list bytes w a size n f e) ∙ plain_length (tree bytes) bytes a size n (ends_at bytes w f (ListIn a size n) e)

  pub plain_size_is : (a n : ℕ) (size : ElementSize) → (size ≡ InlineComposite → ⊥) → shape_at bytes w ≡ ListIn a (size_number size) n → element_size_of (tree bytes w) ≡ size
  plain_size_is a n size h e = ap element_size_of (tree_list bytes w a (size_number size) n f e) ∙ plain_size (tree bytes) bytes a n size h

  module _ (tag n d p : ℕ) (e : shape_at bytes w ≡ CompositeIn tag n d p) where
    pub structs_read : (asked : ElementSize) → as_list asked (tree bytes w) 1 ≡ cond (reads_structs asked d p) (Ok (tree bytes w)) (Err WrongElementSize)
    structs_read asked =
        ap (λ t. as_list asked t 1) (tree_composite bytes w tag n d p f e)
        ∙ ap (λ t. cond (reads_structs asked d p) (Ok t) (Err WrongElementSize)) (sym (tree_composite bytes w tag n d p f e))

    pub structs_count : list_length (tree bytes w) ≡ n
    structs_count = ap list_length (tree_composite bytes w tag n d p f e) ∙ struct_count_structs_from (λ i. struct_from bytes (tag + 1 + i * (d + p)) d p) 0 n

    pub struct_is_element : (i : ℕ) → i < n → struct_from bytes (tag + 1 + i * (d + p)) d p ≡ element_struct (tree bytes w) i
    struct_is_element i l = sym (ap (λ t. element_struct t i) (tree_composite bytes w tag n d p f e) ∙ nth_struct_start (λ i. struct_from bytes (tag + 1 + i * (d + p)) d p) n i l)

cond_false : {A : Type 0} (b : Bool) (x y : A) → b ≡ false → cond b x y ≡ y
cond_false b x y h = ap (λ z. cond z x y) h

cond_true : {A : Type 0} (b : Bool) (x y : A) → b ≡ true → cond b x y ≡ x
cond_true b x y h = ap (λ z. cond z x y) h

module _ (bytes : List ℕ) (w : ℕ) (f : Forest bytes w) (asked : ElementSize) where
  pub plain_refused : (a size n : ℕ) → shape_at bytes w ≡ ListIn a size n → reads_kind asked size ≡ false → as_list asked (tree bytes w) 1 ≡ Err WrongElementSize
  plain_refused a size n e h = plain_is bytes w f a size n e asked ∙ cond_false (reads_kind asked size) (Ok (tree bytes w)) (Err WrongElementSize) h

  pub plain_got : (a size n : ℕ) → shape_at bytes w ≡ ListIn a size n → reads_kind asked size ≡ true → as_list asked (tree bytes w) 1 ≡ Ok (tree bytes w)
  plain_got a size n e h = plain_is bytes w f a size n e asked ∙ cond_true (reads_kind asked size) (Ok (tree bytes w)) (Err WrongElementSize) h

  pub structs_refused : (tag n d p : ℕ) → shape_at bytes w ≡ CompositeIn tag n d p → reads_structs asked d p ≡ false → as_list asked (tree bytes w) 1 ≡ Err WrongElementSize
  structs_refused tag n d p e h = structs_read bytes w f tag n d p e asked ∙ cond_false (reads_structs asked d p) (Ok (tree bytes w)) (Err WrongElementSize) h

  pub structs_got : (tag n d p : ℕ) → shape_at bytes w ≡ CompositeIn tag n d p → reads_structs asked d p ≡ true → as_list asked (tree bytes w) 1 ≡ Ok (tree bytes w)
  structs_got tag n d p e h = structs_read bytes w f tag n d p e asked ∙ cond_true (reads_structs asked d p) (Ok (tree bytes w)) (Err WrongElementSize) h

-- no simple list is composite
pub size_is_simple : (bytes : List ℕ) (w : ℕ) (f : Forest bytes w) (a n : ℕ) (size : ElementSize) → shape_at bytes w ≡ ListIn a (size_number size) n → size ≡ InlineComposite → ⊥
size_is_simple bytes w f a n size e h =
    let p : Points bytes w (ListIn a (size_number size) n) = subst (Points bytes w) e (points bytes w f) in
    let k : size_number size ≡ 7 = ap size_number h in
    omega (arith, p.2, k)
