-- What the pointer words of an encoding lead to: never a far pointer, so that a message's other segments don't matter.
use Rattle.std.proofs.Common.{◌≡◌, ℕ, ◌+◌, ◌-◌, ◌*◌, ◌/◌, ◌<◌, ◌≤◌, ◌^◌, List, length, refl, ◌∙◌, arith, true, false, ◌==◌, nat_lt, nat_le, Some}
use Rattle.std.proofs.lemmas.Bool.Decides.{nat_tests}
use Rattle.capnp_wire.specs.Slot.{word_at}
use Rattle.capnp_wire.specs.Locate.{Segments, NoTarget, StructAt, ListAt, CompositeAt, pointer_kind, offset, element_size_number, count, data_words, pointer_count, lies, start_of, list_words, word_target, target_at}
use Rattle.capnp_wire.specs.Encoding.{spelled_number, struct_word, list_word}
use Rattle.capnp_wire.specs.Facts.Stands.{Stands, stands_word, stands_lies}

-- ---- tests ----

-- numbers that differ
pub not_equal : (a b : ℕ) → (a ≡ b → ⊥) → (a == b) ≡ false
not_equal a b h = grind (arith, nat_tests)

-- a number below another
pub is_below : (a b : ℕ) → a < b → nat_lt a b ≡ true
is_below a b h = grind (arith, nat_tests)

-- a number that isn't
pub not_below : (a b : ℕ) → b ≤ a → nat_lt a b ≡ false
not_below a b h = grind (arith, nat_tests)

-- a number at most another
pub is_at_most : (a b : ℕ) → a ≤ b → nat_le a b ≡ true
is_at_most a b h = grind (arith, nat_tests)

-- ---- the parts of a pointer word ----

module _ (o d p : ℕ) (ho : o < 2 ^ 30) (hd : d < 2 ^ 16) (hp : p < 2 ^ 16) where
  -- a struct pointer is a word
  pub struct_fits : struct_word o d p < 2 ^ 64
  struct_fits = omega arith

  -- of the kind of structs
  pub struct_kind : pointer_kind (struct_word o d p) ≡ 0
  struct_kind = omega arith

  -- with that offset
  pub struct_offset : offset (struct_word o d p) ≡ o
  struct_offset = omega arith

  -- so many data words
  pub struct_data_words : data_words (struct_word o d p) ≡ d
  struct_data_words = omega arith

  -- and so many pointers
  pub struct_pointer_count : pointer_count (struct_word o d p) ≡ p
  struct_pointer_count = omega arith

module _ (o e n : ℕ) (ho : o < 2 ^ 30) (he : e < 8) (hn : n < 2 ^ 29) where
  -- a list pointer is a word
  pub list_fits : list_word o e n < 2 ^ 64
  list_fits = omega arith

  -- of the kind of lists
  pub list_kind : pointer_kind (list_word o e n) ≡ 1
  list_kind = omega arith

  -- with that offset
  pub list_offset : offset (list_word o e n) ≡ o
  list_offset = omega arith

  -- that element size
  pub list_element_size : element_size_number (list_word o e n) ≡ e
  list_element_size = omega arith

  -- and that count
  pub list_count : count (list_word o e n) ≡ n
  list_count = omega arith

-- ---- where a target starts ----

-- so many words after the pointer
start_after : (w n g : ℕ) → offset n ≡ g → g < 2 ^ 29 → start_of w n ≡ Some (w + 1 + g)
start_after w n g e h = rw (e, is_below g (2 ^ 29) h) refl

-- offset -1: at the pointer itself
start_back : (w n : ℕ) → offset n ≡ 2 ^ 30 - 1 → start_of w n ≡ Some w
start_back w n e =
    let f : nat_lt (w + 1 + (2 ^ 30 - 1)) (2 ^ 30) ≡ false = not_below (w + 1 + (2 ^ 30 - 1)) (2 ^ 30) (omega arith) in
    let q : w + 1 + (2 ^ 30 - 1) - 2 ^ 30 ≡ w = omega arith in
    rw (e, f, q) refl

-- ---- targets ----

-- a pointer word that leads to a composite list of so many words
record IsCompositeWord (n m : ℕ) : Type 0 where
  -- its kind is that of lists
  pub kind : pointer_kind n ≡ 1
  -- its element size is that of structs
  pub size : element_size_number n ≡ 7
  -- the words behind the tag
  pub words : count n ≡ m

-- the tag of a composite list: a struct pointer whose offset is the count
record IsTagOf (t c d p : ℕ) : Type 0 where
  -- its kind is that of structs
  pub kind : pointer_kind t ≡ 0
  -- the elements
  pub elements : offset t ≡ c
  -- the data words of each
  pub words : data_words t ≡ d
  -- the pointers of each
  pub pointers : pointer_count t ≡ p

module _ (segments : Segments) (segment : List ℕ) where
  -- a word that is spelled there
  word_there : (w n : ℕ) → Stands segment w (spelled_number 8 n) → n < 2 ^ 64 → target_at segments segment w ≡ word_target segments segment w n
  word_there w n s fits = rw (stands_lies segment w 1 (spelled_number 8 n) refl s, stands_word segment w n fits s) refl

  module _ (w n a : ℕ) (some : (n ≡ 0) → ⊥) (start : start_of w n ≡ Some a) where
    -- a word with the parts of a struct pointer
    of_struct : (d p : ℕ) → pointer_kind n ≡ 0 → data_words n ≡ d → pointer_count n ≡ p → lies segment (a + d + p) ≡ true → word_target segments segment w n ≡ StructAt segment a d p
    of_struct d p k ed ep l = rw (not_equal n 0 some, k, start, k, ed, ep, l) refl

    -- one with those of a list pointer
    of_list : (e m : ℕ) → pointer_kind n ≡ 1 → element_size_number n ≡ e → count n ≡ m → e < 7 → lies segment (a + list_words e m) ≡ true → word_target segments segment w n ≡ ListAt segment a e m
    of_list e m k es em h l = rw (not_equal n 0 some, k, start, k, es, not_equal e 7 (λ x. omega arith), em, l) refl

    -- and one with those of a composite list's, whose tag is known
    of_composite : (m t c d p : ℕ) → IsCompositeWord n m → lies segment (a + 1 + m) ≡ true → word_at segment a ≡ t → IsTagOf t c d p → c < 2 ^ 29 → c * (d + p) ≤ m → word_target segments segment w n ≡ CompositeAt segment (a + 1) c d p
    of_composite m t c d p list l et tag h f = rw (not_equal n 0 some, list.kind, start, list.kind, list.size, list.words, l, et, tag.kind, tag.elements, is_below c (2 ^ 29) h, tag.words, tag.pointers, is_at_most (c * (d + p)) m f) refl

  -- a struct of size zero
  pub target_zero : (w : ℕ) → Stands segment w (spelled_number 8 (struct_word (2 ^ 30 - 1) 0 0)) → target_at segments segment w ≡ StructAt segment w 0 0
  target_zero w s =
      let q : w + 0 + 0 ≤ length segment / 8 = omega (arith, s.within) in
      let l : lies segment (w + 0 + 0) ≡ true = is_at_most (w + 0 + 0) (length segment / 8) q in
      word_there w (struct_word (2 ^ 30 - 1) 0 0) s (omega arith)
      ∙ of_struct w (struct_word (2 ^ 30 - 1) 0 0) w (λ e. omega arith) (start_back w (struct_word (2 ^ 30 - 1) 0 0) refl) 0 0 refl refl refl l

  -- a null
  pub target_null : (w : ℕ) → Stands segment w (spelled_number 8 0) → target_at segments segment w ≡ NoTarget
  target_null w s = word_there w 0 s (omega arith)

  module _ (w g : ℕ) (near : g < 2 ^ 29) where
    -- any other struct
    pub target_struct : (d p : ℕ) → d < 2 ^ 16 → p < 2 ^ 16 → 0 < d + p → Stands segment w (spelled_number 8 (struct_word g d p)) → lies segment (w + 1 + g + d + p) ≡ true → target_at segments segment w ≡ StructAt segment (w + 1 + g) d p
    target_struct d p hd hp some s l =
        let o : g < 2 ^ 30 = omega arith in
        word_there w (struct_word g d p) s (struct_fits g d p o hd hp)
        ∙ of_struct w (struct_word g d p) (w + 1 + g) (λ e. omega arith) (start_after w (struct_word g d p) g (struct_offset g d p o hd hp) near) d p
        (struct_kind g d p o hd hp) (struct_data_words g d p o hd hp) (struct_pointer_count g d p o hd hp) l

    -- a list that is not of structs
    pub target_list : (e n : ℕ) → e < 7 → n < 2 ^ 29 → Stands segment w (spelled_number 8 (list_word g e n)) → lies segment (w + 1 + g + list_words e n) ≡ true → target_at segments segment w ≡ ListAt segment (w + 1 + g) e n
    target_list e n he hn s l =
        let o : g < 2 ^ 30 = omega arith in
        let e8 : e < 8 = omega arith in
        word_there w (list_word g e n) s (list_fits g e n o e8 hn)
        ∙ of_list w (list_word g e n) (w + 1 + g) (λ z. omega arith) (start_after w (list_word g e n) g (list_offset g e n o e8 hn) near) e n
        (list_kind g e n o e8 hn) (list_element_size g e n o e8 hn) (list_count g e n o e8 hn) he l

    -- a composite list, whose tag stands at its start
    pub target_composite : (c d p : ℕ) → c < 2 ^ 29 → d < 2 ^ 16 → p < 2 ^ 16 → c * (d + p) < 2 ^ 29 → Stands segment w (spelled_number 8 (list_word g 7 (c * (d + p)))) → Stands segment (w + 1 + g) (spelled_number 8 (struct_word c d p)) → lies segment (w + 1 + g + 1 + c * (d + p)) ≡ true → target_at segments segment w ≡ CompositeAt segment (w + 1 + g + 1) c d p
    target_composite c d p hc hd hp hm s t l =
        let o : g < 2 ^ 30 = omega arith in
        let oc : c < 2 ^ 30 = omega arith in
        let m = c * (d + p) in
        word_there w (list_word g 7 m) s (list_fits g 7 m o (omega arith) hm)
        ∙ of_composite w (list_word g 7 m) (w + 1 + g) (λ z. omega arith) (start_after w (list_word g 7 m) g (list_offset g 7 m o (omega arith) hm) near) m (struct_word c d p) c d p
        (record { kind = list_kind g 7 m o (omega arith) hm; size = list_element_size g 7 m o (omega arith) hm; words = list_count g 7 m o (omega arith) hm }) l
        (stands_word segment (w + 1 + g) (struct_word c d p) (struct_fits c d p oc hd hp) t)
        (record { kind = struct_kind c d p oc hd hp; elements = struct_offset c d p oc hd hp; words = struct_data_words c d p oc hd hp; pointers = struct_pointer_count c d p oc hd hp }) hc (omega arith)
