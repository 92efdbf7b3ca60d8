-- What a pointer leads to which lies behind it, as code that looks for bytes finds it.
use Rattle.std.proofs.Common.{Option, Some, None, ◌≡◌, ℕ, ◌+◌, ◌-◌, ◌*◌, ◌/◌, ◌^◌, ◌<◌, ◌≤◌, List, length, refl, sym, ap, ◌∙◌, arith, ◌++◌, replicate}
use Rattle.std.proofs.lemmas.List.{append-nil, length-append, length-replicate}
use Rattle.capnp_wire.specs.Encoding.{bytes_of, list_word, padded_bytes, pointer_word, spelled_number}
use Rattle.capnp_wire.specs.Facts.Levels.{below_step}
use Rattle.capnp_wire.specs.Facts.PointerWords.{is_at_most, is_below, not_equal}
use Rattle.capnp_wire.specs.Locate.{ListAt, NoTarget, Segments, count, element_size_number, list_words, offset, pointer_kind, target_at}
use Rattle.capnp_wire.specs.Place.{bytes_at, tree_below}
use Rattle.capnp_wire.specs.Slot.{word_at}
use Rattle.capnp_wire.specs.Steps.Filling.{bytes_with}
use Rattle.capnp_wire.specs.Steps.Level.{tree_at_depth}
use Rattle.capnp_wire.specs.Tree.{Null, Numbers, Tree}
use Rattle.capnp_wire.specs.Words.{byte_words}
use Rattle.capnp_arena.specs.Shape.{word_count}
use Rattle.capnp_arena.specs.Steps.Blob.{IsBlobAt, IsBlobOf, IsBytesOf}
use Rattle.capnp_arena.proofs.Padding.{padded_whole}
use Rattle.capnp_arena.specs.declared.blob.Blob.{Blob}

module _ (depth : ℕ) (segments : Segments) (segment : List ℕ) (w word : ℕ) (d : depth ≡ 0 → ⊥) (i : w + 1 ≤ word_count segment) (e : word ≡ word_at segment w) (k : pointer_kind word ≡ 1) (s : element_size_number word ≡ 2) (o : offset word < 2 ^ 29) where
  target_is : w + 1 + offset word + (count word + 7) / 8 ≤ word_count segment → target_at segments segment w ≡ ListAt segment (w + 1 + offset word) 2 (count word)
  target_is l =
      rw (
        is_at_most (w + 1) (length segment / 8) i,
        sym e,
        not_equal word 0 (λ z. omega (arith, z, k)),
        k,
        is_below (offset word) (2 ^ 29) o,
        k,
        s,
        is_at_most (w + 1 + offset word + list_words 2 (count word)) (length segment / 8) (omega (arith, l)),
      ) refl

  tree_is : w + 1 + offset word + (count word + 7) / 8 ≤ word_count segment → tree_below depth segments segment w ≡ Numbers 1 (bytes_at segment (w + 1 + offset word) (count word))
  tree_is l =
      below_step depth segments segment w
      ∙ ap (tree_at_depth depth (tree_below (depth - 1) segments) (tree_below (depth - 2) segments)) (target_is l)
      ∙ rw (not_equal depth 0 d) refl

  pub blob_found : (b : Option Blob) → IsBlobAt segment (w + 1 + offset word) (count word) b → IsBlobOf b (tree_below depth segments segment w)
  blob_found (Some b) h = record { bytes = bytes_at segment (w + 1 + offset word) (count word); tree = tree_is h.1; held = h.2 }
  blob_found None h = h

pub null_found : (depth : ℕ) (segments : Segments) (segment : List ℕ) (w word : ℕ) → w + 1 ≤ word_count segment → word ≡ word_at segment w → word ≡ 0 → tree_below depth segments segment w ≡ Null
null_found depth segments segment w word i e z =
    let none : target_at segments segment w ≡ NoTarget = rw (is_at_most (w + 1) (length segment / 8) i, sym e, z) refl in
    below_step depth segments segment w ∙ ap (tree_at_depth depth (tree_below (depth - 1) segments) (tree_below (depth - 2) segments)) none

-- what is put for the pointer to it, and for what that leads to
module _ (b : Blob) (t : Tree) (h : IsBytesOf b t) where
  pub blob_word : (gap : ℕ) → pointer_word gap t ≡ list_word gap 2 b.count
  blob_word gap = ap (pointer_word gap) h.tree ∙ ap (list_word gap 2) {x = length h.bytes / 1} {y = b.count} (omega (arith, h.held.long))

  pub blob_words : bytes_of t ≡ b.words.now
  blob_words = ap bytes_of h.tree ∙ append-nil (padded_bytes h.bytes) ∙ sym h.held.whole

  pub blob_padded : padded_bytes b.words.now ≡ bytes_of t
  blob_padded =
      let n : ℕ = 8 * byte_words (length h.bytes) - length h.bytes in
      padded_whole b.words.now (byte_words (length h.bytes)) (omega (arith, ap length h.held.whole, length-append h.bytes (replicate n 0), length-replicate {A = ℕ} n 0)) ∙ sym blob_words

  pub blob_filled : (at gap : ℕ) (old : List ℕ) → bytes_with at (spelled_number 8 (list_word gap 2 b.count)) old ++ padded_bytes b.words.now ≡ bytes_with at (spelled_number 8 (pointer_word gap t)) old ++ bytes_of t
  blob_filled at gap old =
      ap (λ k. bytes_with at (spelled_number 8 k) old ++ padded_bytes b.words.now) (sym (blob_word gap)) ∙ ap (λ z. bytes_with at (spelled_number 8 (pointer_word gap t)) old ++ z) blob_padded
