-- A struct that is made larger: it stands at the end, with copies of all below it.
use Rattle.std.proofs.Common.{◌≡◌, ℕ, zero, suc, ◌+◌, ◌-◌, ◌*◌, ◌/◌, ◌^◌, ◌<◌, ◌≤◌, ◌⊎◌, inl, inr, refl, sym, ap, subst, ◌∙◌, arith, List, ◌++◌, length, replicate, None, ◌==◌, cond, max}
use Rattle.std.proofs.Math.Nat.{max-eq_left, max-eq_right}
use Rattle.std.proofs.lemmas.List.{append-nil}
use Rattle.capnp_wire.specs.Edits.{append_trees, extended_struct, nulls}
use Rattle.capnp_wire.specs.Encoding.{bytes_of, pointer_word, struct_word}
use Rattle.capnp_wire.specs.Facts.EncodedSizes.{length_bytes_of}
use Rattle.capnp_wire.specs.Facts.PointerWords.{not_equal}
use Rattle.capnp_wire.specs.Facts.Rows.{tree_count_trees_from}
use Rattle.capnp_wire.specs.Facts.Structs.{IsElement_extended, IsWellFormed_element}
use Rattle.capnp_wire.specs.Facts.Bytes.{AreBytes_part, length_part_le}
use Rattle.capnp_wire.specs.Place.{struct_tree}
use Rattle.capnp_wire.specs.Tree.{MoreTrees, NoTrees, Null, StructTree, Trees, tree_count, trees_from}
use Rattle.capnp_wire.specs.WellFormed.{AreBytes, IsWellFormed, IsWellFormedStruct}
use Rattle.capnp_wire.specs.Steps.WellFormed.{IsElement}
use Rattle.capnp_wire.specs.Words.{first_fault, first_fault_of_all, first_of, words_of, words_of_all}
use Rattle.capnp_wire.specs.declared.size.StructSize.{StructSize}
use Rattle.capnp_arena.specs.Forest.{Changes, Forest, struct_from, tree}
use Rattle.capnp_arena.specs.Steps.Made.{IsObjectMade, filled_up}
use Rattle.capnp_arena.specs.Shape.{IsWordAt, Points, StructIn, shape_at, word_count}
use Rattle.capnp_arena.proofs.Encodings.{row_held}
use Rattle.capnp_arena.proofs.Enlarged.{words_more}
use Rattle.capnp_arena.proofs.Made.{made_length, made_word}
use Rattle.capnp_arena.proofs.NewTrees.{IsNewTree, tree_made}
use Rattle.capnp_arena.specs.Facts.Structs.{tree_struct}
use Rattle.capnp_arena.proofs.Whole.{forest_whole}
use Rattle.capnp_arena.specs.Facts.Words.{shape}

-- ---- nulls have no faults ----

nulls_whole : (a k : ℕ) → first_fault_of_all (trees_from (λ _. Null) a k) ≡ None
nulls_whole a zero = refl
nulls_whole a (suc k) = nulls_whole (suc a) k

pub whole_more : (k : ℕ) (ts : Trees) → first_fault_of_all (append_trees ts (nulls k)) ≡ first_fault_of_all ts
whole_more k NoTrees = nulls_whole 0 k
whole_more k (MoreTrees t ts) = ap (first_of (first_fault t)) (whole_more k ts)

-- ---- at least a size, and what there is ----

longer_part : (m n : ℕ) → 8 * max m n - 8 * n ≡ 8 * m - 8 * n
longer_part m n = elim (order m n) [
  | inl l ↦ ap (λ k. 8 * k - 8 * n) (max-eq_right l) ∙ omega (arith, l)
  | inr l ↦ ap (λ k. 8 * k - 8 * n) (max-eq_left l)
]
  where
    order : (m n : ℕ) → (m ≤ n) ⊎ (n ≤ m)
    order m n = grind arith

more_pointers : (m n : ℕ) → max m n - n ≡ m - n
more_pointers m n = elim (order m n) [
  | inl l ↦ ap (λ k. k - n) (max-eq_right l) ∙ omega (arith, l)
  | inr l ↦ ap (λ k. k - n) (max-eq_left l)
]
  where
    order : (m n : ℕ) → (m ≤ n) ⊎ (n ≤ m)
    order m n = grind arith

pub larger_extended : (size larger : StructSize) (s : StructTree) (d p : ℕ) → length s.bytes ≡ 8 * d → tree_count s.pointers ≡ p → larger.data_words ≡ max size.data_words d → larger.pointers ≡ max size.pointers p → extended_struct larger s ≡ extended_struct size s
larger_extended size larger s d p e q f g =
    ap (λ n. record { bytes = s.bytes ++ replicate n 0; pointers = append_trees s.pointers (nulls (larger.pointers - tree_count s.pointers)) })
    (ap (λ n. 8 * n - length s.bytes) f ∙ ap (λ n. 8 * max size.data_words d - n) e ∙ longer_part size.data_words d ∙ ap (λ n. 8 * size.data_words - n) (sym e))
    ∙ ap (λ n. record { bytes = s.bytes ++ replicate (8 * size.data_words - length s.bytes) 0; pointers = append_trees s.pointers (nulls n) })
    (ap (λ n. n - tree_count s.pointers) g ∙ ap (λ n. max size.pointers p - n) q ∙ more_pointers size.pointers p ∙ ap (λ n. size.pointers - n) (sym q))

-- ---- the struct at the end ----

-- whole words are filled up with nothing
pub filled_whole : (words : ℕ) (bytes : List ℕ) → 8 * words ≡ length bytes → filled_up words bytes ≡ bytes
filled_whole words bytes e = ap (λ n. bytes ++ replicate n 0) {x = 8 * words - length bytes} {y = 0} (omega (arith, e)) ∙ append-nil bytes

pub record IsEncodedStruct (old new : List ℕ) (at start d p : ℕ) (s : StructTree) : Type 0 where
  pub forest : Forest new at
  pub place : shape_at new at ≡ StructIn start d p
  pub tree : tree new at ≡ struct_tree s
  pub changes : Changes at old new

struct_pointer : (gap d p m n : ℕ) → m ≡ d → n ≡ p → 0 < d + p → struct_word gap d p ≡ cond (m + n == 0) (struct_word (2 ^ 30 - 1) 0 0) (struct_word gap m n)
struct_pointer gap d p m n e q some = rw (e, q, not_equal (d + p) 0 (λ z. omega (arith, z, some))) refl

pub struct_encoded : (old new added : List ℕ) (at word d p : ℕ) (s : StructTree) → IsElement d p s → d < 2 ^ 16 → p < 2 ^ 16 → 0 < d + p → first_fault_of_all s.pointers ≡ None → added ≡ bytes_of (struct_tree s)
    → word ≡ struct_word (word_count old - suc at) d p → IsObjectMade old new added at word → IsEncodedStruct old new at (word_count old) d p s
struct_encoded old new added at word d p s held hd hp some none content w made =
    let well : IsWellFormed (struct_tree s) = IsWellFormed_element d p s hd hp held in
    let e : word ≡ pointer_word (word_count old - suc at) (struct_tree s) = w ∙ struct_pointer (word_count old - suc at) d p (length s.bytes / 8) (tree_count s.pointers) (omega (arith, held.1)) held.2 some in
    let m : IsObjectMade old new (bytes_of (struct_tree s)) at (pointer_word (word_count old - suc at) (struct_tree s)) = subst (λ x. IsObjectMade old new x at (pointer_word (word_count old - suc at) (struct_tree s))) content (subst (IsObjectMade old new added at) e made) in
    let t : IsNewTree old new at (struct_tree s) = tree_made old new at (struct_tree s) well none m in
    let n : length (bytes_of (struct_tree s)) ≡ 8 * words_of (struct_tree s) = length_bytes_of (struct_tree s) well in
    let size : length new ≡ 8 * (word_count old + word_count added) = made_length old new added at word made in
    let points : Points new at (StructIn (word_count old) d p) =
    inr (made.inside, omega (arith, made.few), hd, hp, some, omega (arith, size, ap length content, n, held.1, held.2), subst (λ x. IsWordAt new at x) w (made_word old new added at word made)) in
    record { forest = t.forest; place = shape new at (StructIn (word_count old) d p) points; tree = t.tree; changes = t.changes }

-- ---- the bytes of it ----

pub larger_words : (size : StructSize) (s : StructTree) → IsElement size.data_words size.pointers (extended_struct size s) → words_of (struct_tree (extended_struct size s)) ≡ size.data_words + size.pointers + words_of_all s.pointers
larger_words size s h = omega (arith, h.1, h.2, words_more (size.pointers - tree_count s.pointers) s.pointers)

pub larger_length : (size : StructSize) (s : StructTree) (content : List ℕ) → size.data_words < 2 ^ 16 → size.pointers < 2 ^ 16 → IsElement size.data_words size.pointers (extended_struct size s) → content ≡ bytes_of (struct_tree (extended_struct size s))
    → length content ≡ 8 * (size.data_words + size.pointers + words_of_all s.pointers)
larger_length size s content hd hp h e =
    ap length e ∙ length_bytes_of (struct_tree (extended_struct size s)) (IsWellFormed_element size.data_words size.pointers (extended_struct size s) hd hp h) ∙ ap (λ n. 8 * n) (larger_words size s h)

pub struct_held : (bytes : List ℕ) (a d p : ℕ) → AreBytes bytes → d < 2 ^ 16 → p < 2 ^ 16 → IsWellFormedStruct (struct_from bytes a d p)
struct_held bytes a d p h hd hp = (AreBytes_part (8 * d) (8 * a) bytes h, omega (arith, length_part_le (8 * d) (8 * a) bytes, hd), omega (arith, tree_count_trees_from (tree bytes) (a + d) p, hp), row_held bytes (a + d) p h)

pub struct_extended : (bytes : List ℕ) (a d p : ℕ) (size : StructSize) → AreBytes bytes → size.data_words < 2 ^ 16 → size.pointers < 2 ^ 16 → d ≤ size.data_words → p ≤ size.pointers → IsElement size.data_words size.pointers (extended_struct size (struct_from bytes a d p))
struct_extended bytes a d p size h sd sp l m =
    IsElement_extended size (struct_from bytes a d p) (struct_held bytes a d p h (omega (arith, sd, l)) (omega (arith, sp, m))) (omega (arith, length_part_le (8 * d) (8 * a) bytes, l)) (omega (arith, tree_count_trees_from (tree bytes) (a + d) p, m))

-- ---- an extension ----

-- a size that the format can spell, of more than nothing
pub record CanSpellStruct (size : StructSize) : Type 0 where
  -- the data words
  pub data_fit : size.data_words < 2 ^ 16
  -- the pointers
  pub pointers_fit : size.pointers < 2 ^ 16
  -- one of these at least
  pub some : 0 < size.data_words + size.pointers

-- the bytes of an extended struct, as they go behind all that was, and the word that leads there
pub record IsExtension (old content : List ℕ) (at end words word : ℕ) (size : StructSize) (s : StructTree) : Type 0 where
  -- the encoding of the struct
  pub content_is : content ≡ bytes_of (struct_tree (extended_struct size s))
  -- the end of what was, in words
  pub end_is : end ≡ word_count old
  -- the words of the content
  pub whole : 8 * words ≡ length content
  -- the pointer to the end
  pub word_is : word ≡ struct_word (end - at - 1) size.data_words size.pointers

pub extension_made : (old new content : List ℕ) (at a d p end words word : ℕ) (size : StructSize) → IsElement size.data_words size.pointers (extended_struct size (struct_from old a d p)) → Forest old at → shape_at old at ≡ StructIn a d p → CanSpellStruct size
    → IsExtension old content at end words word size (struct_from old a d p) → IsObjectMade old new (filled_up words content) at word
    → IsEncodedStruct old new at end size.data_words size.pointers (extended_struct size (struct_from old a d p))
extension_made old new content at a d p end words word size h f e spelled extension made =
    let q : end ≡ word_count old = extension.end_is in
    let s : StructTree = struct_from old a d p in
    let none : first_fault_of_all (extended_struct size s).pointers ≡ None =
    whole_more (size.pointers - tree_count s.pointers) s.pointers ∙ ap first_fault (sym (tree_struct old at a d p f e)) ∙ forest_whole old at f in
    let gap : word ≡ struct_word (word_count old - suc at) size.data_words size.pointers = extension.word_is ∙ ap (λ n. struct_word n size.data_words size.pointers) {x = end - at - 1} {y = word_count old - suc at} (omega (arith, q)) in
    subst (λ n. IsEncodedStruct old new at n size.data_words size.pointers (extended_struct size s)) (sym q)
    (struct_encoded old new (filled_up words content) at word size.data_words size.pointers (extended_struct size s) h spelled.data_fit spelled.pointers_fit spelled.some none (filled_whole words content extension.whole ∙ extension.content_is) gap made)
