-- New lists, texts and data.
use Rattle.std.proofs.Common.{◌≢◌, ◌≡◌, ℕ, suc, ◌+◌, ◌-◌, ◌*◌, ◌/◌, ◌^◌, ◌<◌, ◌≤◌, refl, sym, ap, subst, ◌∙◌, arith, List, [], ◌∷◌, ◌++◌, length, take, replicate, false, zero}
use Rattle.std.proofs.lemmas.List.{append-nil, length-append, length-replicate, take_at}
use Rattle.capnp_wire.specs.Edits.{nulls, zero_list, zero_structs}
use Rattle.capnp_wire.specs.Encoding.{list_word, spelled_number, struct_word}
use Rattle.capnp_wire.specs.Facts.Bytes.{length_spelled}
use Rattle.capnp_wire.specs.Steps.Filling.{bytes_with}
use Rattle.capnp_wire.specs.Locate.{list_words}
use Rattle.capnp_wire.specs.Place.{bits_from, bytes_at, list_tree}
use Rattle.capnp_wire.specs.Tree.{Bits, Null, Numbers, Pointers, Tree, Voids}
use Rattle.capnp_wire.specs.declared.size.ElementSize.{ElementSize}
use Rattle.capnp_wire.specs.declared.size.ElementSize.TheVariants.{Void, Bit, Byte, TwoBytes, FourBytes, EightBytes, Pointer, InlineComposite}
use Rattle.capnp_wire.specs.declared.size.StructSize.{StructSize}
use Rattle.capnp_wire.specs.Facts.NewTrees.{no_bits}
use Rattle.capnp_arena.specs.Made.{size_number}
use Rattle.capnp_arena.specs.Steps.Made.{IsObjectMade, filled_up}
use Rattle.capnp_arena.specs.Shape.{CompositeIn, ListIn, Shape, shape_at, word_count}
use Rattle.capnp_arena.specs.Forest.{Changes, Forest, tree}
use Rattle.capnp_arena.proofs.Made.{composite_changes, composite_forest, composite_is, composite_shape, list_changes, list_forest, list_is, list_null, list_shape, made_added}
use Rattle.capnp_arena.proofs.Puts.{put_zeros, zeros_part}
use Rattle.capnp_arena.specs.Facts.Structs.{null_row}

-- what a pointer was made to lead to
pub record IsNew (old new : List ℕ) (at : ℕ) (s : Shape) (t : Tree) : Type 0 where
  pub forest : Forest new at
  pub place : shape_at new at ≡ s
  pub tree : tree new at ≡ t
  pub changes : Changes at old new

-- ---- what the call made ----

pub cleared : (old new : List ℕ) (at : ℕ) → length old ≡ 8 * word_count old → word_count old < 2 ^ 29 → at < word_count old → new ≡ bytes_with (8 * at) (spelled_number 8 0) old → IsObjectMade old new [] at 0
cleared old new at whole few l is = record {
  whole = whole;
  inside = l;
  words = refl;
  few = omega (arith, few);
  is = is ∙ ap (bytes_with (8 * at) (spelled_number 8 0)) (sym (append-nil old));
}

pub made_with : (old o1 o2 new x : List ℕ) (at word words end : ℕ) → length old ≡ 8 * word_count old → at < word_count old → word_count old + words < 2 ^ 29 → length x ≤ 8 * words → end ≡ length old
    → o1 ≡ old ++ replicate (8 * words) 0 → o2 ≡ bytes_with end x o1 → new ≡ bytes_with (8 * at) (spelled_number 8 word) o2 → IsObjectMade old new (filled_up words x) at word
made_with old o1 o2 new x at word words end whole l few room e a b c =
    let n : length (filled_up words x) ≡ 8 * words = omega (arith, length-append x (replicate (8 * words - length x) 0), length-replicate {A = ℕ} (8 * words - length x) 0, room) in
    record {
      whole = whole;
      inside = l;
      words = omega (arith, n);
      few = omega (arith, n, few);
      is = c ∙ ap (bytes_with (8 * at) (spelled_number 8 word)) (b ∙ ap (λ z. bytes_with z x o1) e ∙ ap (bytes_with (length old) x) a ∙ put_zeros old x (8 * words));
    }

-- ---- lists ----

module _ (old new : List ℕ) (at word start count n : ℕ) (e : start ≡ word_count old) (l : n < 7) (hn : count < 2 ^ 29) (w : word ≡ list_word (start - at - 1) n count) (h : IsObjectMade old new (replicate (8 * list_words n count) 0) at word) where
  words : word_count (replicate (8 * list_words n count) 0) ≡ list_words n count
  words = omega (arith, length-replicate {A = ℕ} (8 * list_words n count) 0)

  word_is : word ≡ list_word (word_count old - suc at) n count
  word_is = w ∙ ap (λ z. list_word z n count) {x = start - at - 1} {y = word_count old - suc at} (omega (arith, e))

  zeros : (c : ℕ) → c ≤ 8 * list_words n count → bytes_at new (word_count old) c ≡ replicate c 0
  zeros c q = made_added old new (replicate (8 * list_words n count) 0) at word h (word_count old) c (omega arith) ∙ zeros_part (8 * list_words n count) (word_count old - word_count old) c (omega (arith, q))

  pub new_list : (t : Tree) → list_tree (tree new) new (word_count old) n count ≡ t → IsNew old new at (ListIn start n count) t
  new_list t q = subst (λ z. IsNew old new at (ListIn z n count) t) (sym e) (record {
    forest = list_forest old new (replicate (8 * list_words n count) 0) at word h n count l hn words (λ _. refl) word_is;
    place = list_shape old new (replicate (8 * list_words n count) 0) at word h n count l hn words (λ _. refl) word_is;
    tree = list_is old new (replicate (8 * list_words n count) 0) at word h n count l hn words (λ _. refl) word_is ∙ q;
    changes = list_changes old new (replicate (8 * list_words n count) 0) at word h n count l hn words (λ _. refl) word_is;
  })

  pub null_list : n ≡ 6 → (j : ℕ) → word_count old ≤ j → j < word_count old + count → tree new j ≡ Null
  null_list q j x y = list_null old new (replicate (8 * list_words n count) 0) at word h n count l hn words (λ _. refl) word_is j (q, x, y)

pub list_made : (old new : List ℕ) (at word start count : ℕ) (size : ElementSize) → start ≡ word_count old → size ≢ InlineComposite → count < 2 ^ 29 → word ≡ list_word (start - at - 1) (size_number size) count
    → IsObjectMade old new (replicate (8 * list_words (size_number size) count) 0) at word → IsNew old new at (ListIn start (size_number size) count) (zero_list size count)
list_made old new at word start count Void e s hn w h = new_list old new at word start count 0 e (omega arith) hn w h (Voids count) refl
list_made old new at word start count Bit e s hn w h = new_list old new at word start count 1 e (omega arith) hn w h (Bits (replicate count false))
    (ap (λ z. Bits (bits_from z 0 count)) (zeros old new at word start count 1 e (omega arith) hn w h (8 * list_words 1 count) (omega arith)) ∙ ap Bits (no_bits (8 * list_words 1 count) 0 count))
list_made old new at word start count Byte e s hn w h = new_list old new at word start count 2 e (omega arith) hn w h (Numbers 1 (replicate count 0)) (ap (Numbers 1) (zeros old new at word start count 2 e (omega arith) hn w h count (omega arith)))
list_made old new at word start count TwoBytes e s hn w h = new_list old new at word start count 3 e (omega arith) hn w h (Numbers 2 (replicate (2 * count) 0)) (ap (Numbers 2) (zeros old new at word start count 3 e (omega arith) hn w h (2 * count) (omega arith)))
list_made old new at word start count FourBytes e s hn w h = new_list old new at word start count 4 e (omega arith) hn w h (Numbers 4 (replicate (4 * count) 0)) (ap (Numbers 4) (zeros old new at word start count 4 e (omega arith) hn w h (4 * count) (omega arith)))
list_made old new at word start count EightBytes e s hn w h = new_list old new at word start count 5 e (omega arith) hn w h (Numbers 8 (replicate (8 * count) 0)) (ap (Numbers 8) (zeros old new at word start count 5 e (omega arith) hn w h (8 * count) (omega arith)))
list_made old new at word start count Pointer e s hn w h = new_list old new at word start count 6 e (omega arith) hn w h (Pointers (nulls count)) (ap Pointers (null_row (tree new) (word_count old) 0 count (null_list old new at word start count 6 e (omega arith) hn w h refl)))
list_made old new at word start count InlineComposite e s hn w h = absurd (s refl)

-- the same of numbers that were computed
pub list_made_by : (old new : List ℕ) (at word start count words number : ℕ) (size : ElementSize) → start ≡ word_count old → size ≢ InlineComposite → count < 2 ^ 29 → word ≡ list_word (start - at - 1) number count → number ≡ size_number size → words ≡ list_words (size_number size) count
    → IsObjectMade old new (replicate (8 * words) 0) at word → IsNew old new at (ListIn start (size_number size) count) (zero_list size count)
list_made_by old new at word start count room number size e s hn w a b h =
    list_made old new at word start count size e s hn (w ∙ ap (λ n. list_word (start - at - 1) n count) a) (subst (λ n. IsObjectMade old new (replicate (8 * n) 0) at word) b h)

-- ---- lists of structs ----

-- a list of structs that the format can spell: so many of a size, in so many words
pub record CanSpellStructs (count words : ℕ) (size : StructSize) : Type 0 where
  -- the structs
  pub elements : count < 2 ^ 29
  -- the data words of each
  pub data_fit : size.data_words < 2 ^ 16
  -- the pointers of each
  pub pointers_fit : size.pointers < 2 ^ 16
  -- the words of all
  pub words_are : words ≡ count * (size.data_words + size.pointers)
  -- which are few
  pub few : words < 2 ^ 29

pub structs_made : (old new : List ℕ) (at word words tag start count : ℕ) (size : StructSize) → start ≡ word_count old → CanSpellStructs count words size
    → tag ≡ struct_word count size.data_words size.pointers → word ≡ list_word (start - at - 1) 7 words → IsObjectMade old new (filled_up (words + 1) (spelled_number 8 tag)) at word
    → IsNew old new at (CompositeIn start count size.data_words size.pointers) (zero_structs size count)
structs_made old new at word words tag start count size e spelled t w h =
    let hn : count < 2 ^ 29 = spelled.elements in
    let hd : size.data_words < 2 ^ 16 = spelled.data_fit in
    let hp : size.pointers < 2 ^ 16 = spelled.pointers_fit in
    let m : words ≡ count * (size.data_words + size.pointers) = spelled.words_are in
    let hm : words < 2 ^ 29 = spelled.few in
    let d : ℕ = size.data_words in
    let p : ℕ = size.pointers in
    let few : count * (d + p) < 2 ^ 29 = omega (arith, m, hm) in
    let room : 8 * (words + 1) - length (spelled_number 8 tag) ≡ 8 * (count * (d + p)) = omega (arith, m, length_spelled 8 tag) in
    let added : filled_up (words + 1) (spelled_number 8 tag) ≡ spelled_number 8 (struct_word count d p) ++ replicate (8 * (count * (d + p))) 0 = ap (λ n. spelled_number 8 tag ++ replicate n 0) room ∙ ap (λ n. spelled_number 8 n ++ replicate (8 * (count * (d + p))) 0) t in
    let word_is : word ≡ list_word (word_count old - suc at) 7 (count * (d + p)) = w ∙ ap (λ n. list_word (start - at - 1) 7 n) m ∙ ap (λ n. list_word n 7 (count * (d + p))) {x = start - at - 1} {y = word_count old - suc at} (omega (arith, e)) in
    subst (λ z. IsNew old new at (CompositeIn z count d p) (zero_structs size count)) (sym e) (record {
      forest = composite_forest old new (filled_up (words + 1) (spelled_number 8 tag)) at word h count d p hn hd hp few added word_is;
      place = composite_shape old new (filled_up (words + 1) (spelled_number 8 tag)) at word h count d p hn hd hp few added word_is;
      tree = composite_is old new (filled_up (words + 1) (spelled_number 8 tag)) at word h count d p hn hd hp few added word_is;
      changes = composite_changes old new (filled_up (words + 1) (spelled_number 8 tag)) at word h count d p hn hd hp few added word_is;
    })

-- ---- bytes ----

pub bytes_made : (old new added : List ℕ) (at word start count : ℕ) → start ≡ word_count old → count < 2 ^ 29 → word ≡ list_word (start - at - 1) 2 count → word_count added ≡ list_words 2 count → IsObjectMade old new added at word
    → IsNew old new at (ListIn start 2 count) (Numbers 1 (take count added))
bytes_made old new added at word start count e hn w words h =
    let word_is : word ≡ list_word (word_count old - suc at) 2 count = w ∙ ap (λ n. list_word n 2 count) {x = start - at - 1} {y = word_count old - suc at} (omega (arith, e)) in
    let no : 2 ≡ 6 → added ≡ replicate (8 * list_words 2 count) 0 = λ q. absurd (omega (arith, q)) in
    subst (λ z. IsNew old new at (ListIn z 2 count) (Numbers 1 (take count added))) (sym e) (record {
      forest = list_forest old new added at word h 2 count (omega arith) hn words no word_is;
      place = list_shape old new added at word h 2 count (omega arith) hn words no word_is;
      tree = list_is old new added at word h 2 count (omega arith) hn words no word_is ∙ ap (Numbers 1) (made_added old new added at word h (word_count old) count (omega arith) ∙ ap (λ k. bytes_at added k count) {x = word_count old - word_count old} {y = 0} (omega arith));
      changes = list_changes old new added at word h 2 count (omega arith) hn words no word_is;
    })

filled_words : (words : ℕ) (x : List ℕ) → length x ≤ 8 * words → word_count (filled_up words x) ≡ words
filled_words words x h = omega (arith, length-append x (replicate (8 * words - length x) 0), length-replicate {A = ℕ} (8 * words - length x) 0, h)

pub data_made : (old new x : List ℕ) (at word start words : ℕ) → start ≡ word_count old → length x < 2 ^ 29 → word ≡ list_word (start - at - 1) 2 (length x) → words ≡ (length x + 7) / 8 → IsObjectMade old new (filled_up words x) at word
    → IsNew old new at (ListIn start 2 (length x)) (Numbers 1 x)
data_made old new x at word start words e hn w n h =
    let m : word_count (filled_up words x) ≡ list_words 2 (length x) = filled_words words x (omega (arith, n)) ∙ omega (arith, n) in
    subst (λ z. IsNew old new at (ListIn start 2 (length x)) (Numbers 1 z)) (take_at x (replicate (8 * words - length x) 0) (length x) refl) (bytes_made old new (filled_up words x) at word start (length x) e hn w m h)

one_more : (x : List ℕ) (k : ℕ) → 0 < k → take (length x + 1) (x ++ replicate k 0) ≡ x ++ (0 ∷ [])
one_more [] zero h = absurd (omega (arith, h))
one_more [] (suc k) h = refl
one_more (b ∷ x) k h = ap (λ n. take n (b ∷ (x ++ replicate k 0))) {x = suc (length x) + 1} {y = suc (length x + 1)} (omega arith) ∙ ap (λ z. b ∷ z) (one_more x k h)

pub text_made : (old new x : List ℕ) (at word start words : ℕ) → start ≡ word_count old → length x + 1 < 2 ^ 29 → word ≡ list_word (start - at - 1) 2 (length x + 1) → words ≡ length x / 8 + 1 → IsObjectMade old new (filled_up words x) at word
    → IsNew old new at (ListIn start 2 (length x + 1)) (Numbers 1 (x ++ (0 ∷ [])))
text_made old new x at word start words e hn w n h =
    let m : word_count (filled_up words x) ≡ list_words 2 (length x + 1) = filled_words words x (omega (arith, n)) ∙ omega (arith, n) in
    subst (λ z. IsNew old new at (ListIn start 2 (length x + 1)) (Numbers 1 z)) (one_more x (8 * words - length x) (omega (arith, n))) (bytes_made old new (filled_up words x) at word start (length x + 1) e hn w m h)
