-- Targets that lie one after another are the encoding.
use Rattle.std.proofs.Common.{◌≡◌, ℕ, suc, Bool, get_or, replicate, ◌+◌, ◌-◌, ◌*◌, ◌/◌, ◌^◌, ◌<◌, ◌≤◌, eq-eqb, ne_eqb, inl, inr, sym, ap, subst, ◌∙◌, arith, List, [], ◌++◌, length, take, drop, cond}
use Rattle.std.proofs.Math.Seq.{take-add}
use Rattle.std.proofs.lemmas.List.{ext_get_or, append_assoc, drop-drop}
use Rattle.capnp_wire.specs.Encoding.{bits_number, packed_bits, padded_bytes, bytes_below_all, bytes_of, bytes_of_all, element_row, own_bytes, pointer_row, pointer_word, spelled_number, struct_word}
use Rattle.capnp_wire.specs.Facts.EncodedSizes.{length_packed, length_bytes_of, length_bytes_of_all}
use Rattle.capnp_wire.specs.Facts.PackedBits.{packed_at}
use Rattle.capnp_wire.specs.Facts.Rows.{struct_count_structs_from, tree_count_trees_from}
use Rattle.capnp_wire.specs.Place.{bytes_at, list_tree}
use Rattle.capnp_wire.specs.Tree.{Structs, Tree, Trees, struct_count, structs_from, tree_count, trees_from}
use Rattle.capnp_wire.specs.WellFormed.{AreBytes}
use Rattle.capnp_wire.specs.Words.{byte_words, words_of, words_of_all}
use Rattle.capnp_arena.specs.Steps.Copies.{ArePointerless}
use Rattle.capnp_arena.specs.Steps.Encoded.{pointer_to}
use Rattle.capnp_arena.specs.Forest.{Forest, struct_from, tree}
use Rattle.capnp_arena.specs.Steps.InOrder.{AreLaid, IsLaid, IsRowLaid}
use Rattle.capnp_arena.specs.Shape.{CompositeIn, IsWordAt, ListIn, NoShape, Points, Shape, StructIn, shape_at, word_count}
use Rattle.capnp_arena.proofs.Encodings.{bytes_composite, bytes_null, bytes_plain, bytes_pointers, bytes_struct, bytes_zero, pointer_is, row_held, tree_held}
use Rattle.capnp_arena.proofs.PlainRows.{joined, plain_row}
use Rattle.capnp_arena.proofs.Written.{length_part}

module _ (bytes : List ℕ) where
  -- a part of no bytes
  nothing : (a n : ℕ) → n ≡ 0 → bytes_at bytes a (8 * n) ≡ []
  nothing a n e = ap (λ k. bytes_at bytes a (8 * k)) e

  -- two parts, by where they end
  spans : (a b c : ℕ) → a ≤ b → b ≤ c → bytes_at bytes a (8 * (c - a)) ≡ bytes_at bytes a (8 * (b - a)) ++ bytes_at bytes b (8 * (c - b))
  spans a b c l m =
      sym (ap (λ k. bytes_at bytes a (8 * (b - a)) ++ bytes_at bytes k (8 * (c - b))) {x = b} {y = a + (b - a)} (omega (arith, l))
      ∙ joined bytes a (b - a) (8 * (c - b)) ∙ ap (bytes_at bytes a) {x = 8 * (b - a) + 8 * (c - b)} {y = 8 * (c - a)} (omega (arith, l, m)))

  -- how many words there are
  laid_words : (w end next : ℕ) → AreBytes bytes → IsLaid bytes w end next → next ≡ end + words_of (tree bytes w)
  laid_words w end next b h =
      let m : length (bytes_at bytes end (8 * (next - end))) ≡ 8 * (next - end) = length_part bytes end (8 * (next - end)) (omega (arith, h.inside, h.after)) in
      omega (arith, h.after, m, ap length h.target, length_bytes_of (tree bytes w) (tree_held bytes w b))

  row_words : (first n end next : ℕ) → AreBytes bytes → IsRowLaid bytes first n end next → next ≡ end + words_of_all (trees_from (tree bytes) first n)
  row_words first n end next b h =
      let m : length (bytes_at bytes end (8 * (next - end))) ≡ 8 * (next - end) = length_part bytes end (8 * (next - end)) (omega (arith, h.inside, h.after)) in
      omega (arith, h.after, m, ap length h.targets, length_bytes_of_all (trees_from (tree bytes) first n) (row_held bytes first n b))

  -- ---- pointers in a row ----

  pub row_more_laid : (first n end next last : ℕ) → AreBytes bytes → first + suc n ≤ end → IsLaid bytes first end next → IsRowLaid bytes (suc first) n next last → IsRowLaid bytes first (suc n) end last
  row_more_laid first n end next last b l h r =
      let t : Tree = tree bytes first in
      let ts : Trees = trees_from (tree bytes) (suc first) n in
      let c : tree_count ts ≡ n = tree_count_trees_from (tree bytes) (suc first) n in
      let w : next ≡ end + words_of t = laid_words first end next b h in
      record {
        after = omega (arith, h.after, r.after);
        inside = r.inside;
        row = ap (bytes_at bytes first) {x = 8 * suc n} {y = 8 * 1 + 8 * n} (omega arith)
            ∙ sym (joined bytes first 1 (8 * n))
            ∙ ap (λ z. z ++ bytes_at bytes (first + 1) (8 * n)) h.pointer
            ∙ ap (λ k. spelled_number 8 (pointer_word (end - suc first) t) ++ bytes_at bytes k (8 * n)) {x = first + 1} {y = suc first} (omega arith)
            ∙ ap (λ z. spelled_number 8 (pointer_word (end - suc first) t) ++ z) r.row
            ∙ ap (λ k. spelled_number 8 (pointer_word k t) ++ pointer_row (next - (suc first + n)) ts) {x = end - suc first} {y = tree_count ts + (end - (first + suc n))} (omega (arith, c, l))
            ∙ ap (λ k. spelled_number 8 (pointer_word (tree_count ts + (end - (first + suc n))) t) ++ pointer_row k ts) {x = next - (suc first + n)} {y = end - (first + suc n) + words_of t} (omega (arith, w, l));
        targets = spans end next last h.after r.after ∙ ap (λ z. z ++ bytes_at bytes next (8 * (last - next))) h.target ∙ ap (λ z. bytes_of t ++ z) r.targets;
      }

  -- ---- structs in a row ----

  pub structs_end_laid : (start d p i end : ℕ) → end ≤ word_count bytes → AreLaid bytes start d p i 0 end end
  structs_end_laid start d p i end l = record { after = omega arith; inside = l; row = nothing (start + i * (d + p)) (0 * (d + p)) (omega arith); targets = nothing end (end - end) (omega arith) }

  pub structs_more_laid : (start d p i n end next last : ℕ) → AreBytes bytes → start + (i + suc n) * (d + p) ≤ end → IsRowLaid bytes (start + i * (d + p) + d) p end next → AreLaid bytes start d p (suc i) n next last → AreLaid bytes start d p i (suc n) end last
  structs_more_laid start d p i n end next last b l h r =
      let a : ℕ = start + i * (d + p) in
      let ps : Trees = trees_from (tree bytes) (a + d) p in
      let es : Structs = structs_from (λ j. struct_from bytes (start + j * (d + p)) d p) (suc i) n in
      let c : struct_count es ≡ n = struct_count_structs_from (λ j. struct_from bytes (start + j * (d + p)) d p) (suc i) n in
      let w : next ≡ end + words_of_all ps = row_words (a + d) p end next b h in
      let m : struct_count es * (d + p) ≡ n * (d + p) = ap (λ k. k * (d + p)) c in
      let f : (i + suc n) * (d + p) ≡ i * (d + p) + (d + p) + n * (d + p) = omega arith in
      let f2 : (suc i + n) * (d + p) ≡ i * (d + p) + (d + p) + n * (d + p) = omega arith in
      record {
        after = omega (arith, h.after, r.after);
        inside = r.inside;
        row = ap (bytes_at bytes a) {x = 8 * (suc n * (d + p))} {y = 8 * d + (8 * p + 8 * (n * (d + p)))} (omega arith)
            ∙ sym (joined bytes a d (8 * p + 8 * (n * (d + p))))
            ∙ ap (λ z. bytes_at bytes a (8 * d) ++ z) (sym (joined bytes (a + d) p (8 * (n * (d + p)))))
            ∙ sym (append_assoc (bytes_at bytes a (8 * d)) (bytes_at bytes (a + d) (8 * p)) (bytes_at bytes (a + d + p) (8 * (n * (d + p)))))
            ∙ ap (λ z. (bytes_at bytes a (8 * d) ++ z) ++ bytes_at bytes (a + d + p) (8 * (n * (d + p)))) h.row
            ∙ ap (λ k. (bytes_at bytes a (8 * d) ++ pointer_row (end - (a + d + p)) ps) ++ bytes_at bytes k (8 * (n * (d + p)))) {x = a + d + p} {y = start + suc i * (d + p)} (omega arith)
            ∙ ap (λ z. (bytes_at bytes a (8 * d) ++ pointer_row (end - (a + d + p)) ps) ++ z) r.row
            ∙ ap (λ k. (bytes_at bytes a (8 * d) ++ pointer_row k ps) ++ element_row (d + p) (next - (start + (suc i + n) * (d + p))) es) {x = end - (a + d + p)} {y = struct_count es * (d + p) + (end - (start + (i + suc n) * (d + p)))} (omega (arith, m, f, l))
            ∙ ap (λ k. (bytes_at bytes a (8 * d) ++ pointer_row (struct_count es * (d + p) + (end - (start + (i + suc n) * (d + p)))) ps) ++ element_row (d + p) k es) {x = next - (start + (suc i + n) * (d + p))} {y = end - (start + (i + suc n) * (d + p)) + words_of_all ps} (omega (arith, w, f, f2, l));
        targets = spans end next last h.after r.after ∙ ap (λ z. z ++ bytes_at bytes next (8 * (last - next))) h.targets ∙ ap (λ z. bytes_of_all ps ++ z) r.targets;
      }

  -- ---- targets ----

  module _ (w : ℕ) (f : Forest bytes w) where
    -- the pointer to a target at that word
    pointer_laid : (s : Shape) (end : ℕ) → shape_at bytes w ≡ s → IsWordAt bytes w (pointer_to (end - suc w) s) → bytes_at bytes w 8 ≡ spelled_number 8 (pointer_word (end - suc w) (tree bytes w))
    pointer_laid s end e h = h.1 ∙ ap (spelled_number 8) (ap (pointer_to (end - suc w)) (sym e) ∙ pointer_is bytes w (end - suc w) f)

    pub null_laid : (end : ℕ) → end ≤ word_count bytes → shape_at bytes w ≡ NoShape → Points bytes w NoShape → IsLaid bytes w end end
    null_laid end l e h = record { after = omega arith; inside = l; pointer = pointer_laid NoShape end e h; target = nothing end (end - end) (omega arith) ∙ sym (bytes_null bytes w f e) }

    pub struct_laid : (a d p next : ℕ) → 0 < d + p → shape_at bytes w ≡ StructIn a d p → Points bytes w (StructIn a d p) → IsRowLaid bytes (a + d) p (a + d + p) next → IsLaid bytes w a next
    struct_laid a d p next some e h r = record {
      after = omega (arith, r.after);
      inside = r.inside;
      pointer = pointer_laid (StructIn a d p) a e (word h);
      target = ap (bytes_at bytes a) {x = 8 * (next - a)} {y = 8 * d + (8 * p + 8 * (next - (a + d + p)))} (omega (arith, r.after))
          ∙ sym (joined bytes a d (8 * p + 8 * (next - (a + d + p))))
          ∙ ap (λ z. bytes_at bytes a (8 * d) ++ z) (sym (joined bytes (a + d) p (8 * (next - (a + d + p)))) ∙ ap (λ z. z ++ bytes_at bytes (a + d + p) (8 * (next - (a + d + p)))) r.row
          ∙ ap (λ k. pointer_row k (trees_from (tree bytes) (a + d) p) ++ bytes_at bytes (a + d + p) (8 * (next - (a + d + p)))) {x = a + d + p - (a + d + p)} {y = 0} (omega arith)
          ∙ ap (λ z. pointer_row 0 (trees_from (tree bytes) (a + d) p) ++ z) r.targets)
          ∙ sym (bytes_struct bytes w f a d p e);
    }
      where
        word : Points bytes w (StructIn a d p) → IsWordAt bytes w (pointer_to (a - suc w) (StructIn a d p))
        word h = elim h [
          | inl z ↦ absurd (omega (arith, z.1, z.2, some))
          | inr z ↦ subst (λ c. IsWordAt bytes w (cond c (struct_word (2 ^ 30 - 1) 0 0) (struct_word (a - suc w) d p))) (sym (ne_eqb (d + p) 0 (λ q. omega (arith, q, some)))) z.6
        ]

    pub zero_laid : (a d p end : ℕ) → d + p ≡ 0 → end ≤ word_count bytes → shape_at bytes w ≡ StructIn a d p → Points bytes w (StructIn a d p) → IsLaid bytes w end end
    zero_laid a d p end none l e h = record {
      after = omega arith;
      inside = l;
      pointer = pointer_laid (StructIn a d p) end e (word h);
      target = nothing end (end - end) (omega arith) ∙ sym (bytes_zero bytes w f a d p e none);
    }
      where
        word : Points bytes w (StructIn a d p) → IsWordAt bytes w (pointer_to (end - suc w) (StructIn a d p))
        word h = elim h [
          | inl z ↦ subst (λ c. IsWordAt bytes w (cond c (struct_word (2 ^ 30 - 1) 0 0) (struct_word (end - suc w) d p))) (sym (eq-eqb (d + p) 0 none)) z.3
          | inr z ↦ absurd (omega (arith, z.4, none))
        ]

    pub pointers_laid : (a n next : ℕ) → shape_at bytes w ≡ ListIn a 6 n → Points bytes w (ListIn a 6 n) → IsRowLaid bytes a n (a + n) next → IsLaid bytes w a next
    pointers_laid a n next e h r = record {
      after = omega (arith, r.after);
      inside = r.inside;
      pointer = pointer_laid (ListIn a 6 n) a e h.5;
      target = ap (bytes_at bytes a) {x = 8 * (next - a)} {y = 8 * n + 8 * (next - (a + n))} (omega (arith, r.after))
          ∙ sym (joined bytes a n (8 * (next - (a + n))))
          ∙ ap (λ z. z ++ bytes_at bytes (a + n) (8 * (next - (a + n)))) r.row
          ∙ ap (λ k. pointer_row k (trees_from (tree bytes) a n) ++ bytes_at bytes (a + n) (8 * (next - (a + n)))) {x = a + n - (a + n)} {y = 0} (omega arith)
          ∙ ap (λ z. pointer_row 0 (trees_from (tree bytes) a n) ++ z) r.targets
          ∙ sym (bytes_pointers bytes w f a n e);
    }

    pub plain_laid : (a size n next : ℕ) → size < 6 → shape_at bytes w ≡ ListIn a size n → Points bytes w (ListIn a size n) → a ≤ next → next ≤ word_count bytes → bytes_at bytes a (8 * (next - a)) ≡ own_bytes (list_tree (tree bytes) bytes a size n) → IsLaid bytes w a next
    plain_laid a size n next l e h x y k = record {
      after = x;
      inside = y;
      pointer = pointer_laid (ListIn a size n) a e h.5;
      target = k ∙ sym (bytes_plain bytes w f a size n l e);
    }

    pub composite_laid : (tag n d p next : ℕ) → shape_at bytes w ≡ CompositeIn tag n d p → Points bytes w (CompositeIn tag n d p) → AreLaid bytes (tag + 1) d p 0 n (tag + 1 + n * (d + p)) next → IsLaid bytes w tag next
    composite_laid tag n d p next e h r =
        let es : Structs = structs_from (λ i. struct_from bytes (tag + 1 + i * (d + p)) d p) 0 n in
        let c : struct_count es ≡ n = struct_count_structs_from (λ i. struct_from bytes (tag + 1 + i * (d + p)) d p) 0 n in
        let end : ℕ = tag + 1 + n * (d + p) in
        record {
          after = omega (arith, r.after);
          inside = r.inside;
          pointer = pointer_laid (CompositeIn tag n d p) tag e h.7;
          target = ap (bytes_at bytes tag) {x = 8 * (next - tag)} {y = 8 * 1 + (8 * (n * (d + p)) + 8 * (next - end))} (omega (arith, r.after))
              ∙ sym (joined bytes tag 1 (8 * (n * (d + p)) + 8 * (next - end)))
              ∙ ap (λ z. z ++ bytes_at bytes (tag + 1) (8 * (n * (d + p)) + 8 * (next - end))) (h.8.1 ∙ ap (λ k. spelled_number 8 (struct_word k d p)) (sym c))
              ∙ ap (λ z. spelled_number 8 (struct_word (struct_count es) d p) ++ z)
              (sym (joined bytes (tag + 1) (n * (d + p)) (8 * (next - end)))
              ∙ ap (λ k. bytes_at bytes k (8 * (n * (d + p))) ++ bytes_at bytes end (8 * (next - end))) {x = tag + 1} {y = tag + 1 + 0 * (d + p)} (omega arith)
              ∙ ap (λ z. z ++ bytes_at bytes end (8 * (next - end))) r.row
              ∙ ap (λ k. element_row (d + p) k es ++ bytes_at bytes end (8 * (next - end))) {x = end - (tag + 1 + (0 + n) * (d + p))} {y = 0} (omega arith)
              ∙ ap (λ z. element_row (d + p) 0 es ++ z) r.targets)
              ∙ sym (append_assoc (spelled_number 8 (struct_word (struct_count es) d p)) (element_row (d + p) 0 es) (bytes_below_all es))
              ∙ sym (bytes_composite bytes w f tag n d p e);
        }

  -- structs without pointers
  pub plain_structs_laid : (start d p n : ℕ) → p ≡ 0 → start + n * (d + p) ≤ word_count bytes → AreLaid bytes start d p 0 n (start + n * (d + p)) (start + n * (d + p))
  plain_structs_laid start d p n e l =
      let plain : ArePointerless (bytes_at bytes start (8 * (n * (d + p)))) (d + p) (structs_from (λ j. struct_from bytes (start + j * (d + p)) d p) 0 n) = plain_row (tree bytes) bytes start d p n e in
      record {
        after = omega arith;
        inside = l;
        row = ap (λ k. bytes_at bytes k (8 * (n * (d + p)))) {x = start + 0 * (d + p)} {y = start} (omega arith) ∙ sym (plain.own (start + n * (d + p) - (start + (0 + n) * (d + p))));
        targets = nothing (start + n * (d + p)) (start + n * (d + p) - (start + n * (d + p))) (omega arith) ∙ sym plain.below;
      }

-- ---- bytes that are compared one by one ----

pub all_packed : (b : List ℕ) (bs : List Bool) (n : ℕ) → length b ≤ n → ((j : ℕ) → j < n → get_or b j 0 ≡ bits_number (take 8 (drop (8 * j) bs))) → packed_bits (length b) bs ≡ b
all_packed b bs n l h =
    sym (ext_get_or 0 b (packed_bits (length b) bs) (sym (length_packed (length b) bs)) (λ i q. h i (omega (arith, q, l)) ∙ sym (packed_at (length b) bs i q)))

-- bytes with zeros behind them are whole words
pub padded_there : (bytes : List ℕ) (a n words : ℕ) → words ≡ (n + 7) / 8 → a + words ≤ word_count bytes → take (8 * words - n) (drop (8 * a + n) bytes) ≡ replicate (8 * words - n) 0 → bytes_at bytes a (8 * words) ≡ padded_bytes (bytes_at bytes a n)
padded_there bytes a n words e l h =
    let x : List ℕ = bytes_at bytes a n in
    let m : length x ≡ n = length_part bytes a n (omega (arith, e, l)) in
    ap (bytes_at bytes a) {x = 8 * words} {y = n + (8 * words - n)} (omega (arith, e))
    ∙ take-add n (8 * words - n) (drop (8 * a) bytes)
    ∙ ap (λ z. x ++ take (8 * words - n) z) (drop-drop n (8 * a) bytes)
    ∙ ap (λ z. x ++ z) h
    ∙ ap (λ k. x ++ replicate k 0) {x = 8 * words - n} {y = 8 * byte_words (length x) - length x} (omega (arith, m, e))
