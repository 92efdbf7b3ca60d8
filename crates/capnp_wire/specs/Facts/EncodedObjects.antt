-- Objects that stand in a segment as the encoding has them, read with their levels.
use Rattle.std.proofs.Common.{IsTrue, ◌≡◌, ℕ, zero, suc, ◌+◌, ◌-◌, ◌*◌, ◌/◌, ◌<◌, ◌≤◌, ◌^◌, List, [], length, refl, sym, ap, ◌∙◌, arith, true, Bool, cond, ◌==◌, replicate}
use Rattle.std.proofs.lemmas.List.{nil_from_length}
use Rattle.std.proofs.lemmas.Bool.Decides.{nat_tests}
use Rattle.capnp_wire.specs.Tree.{Null, Struct, Voids, Bits, Numbers, Trees, NoTrees, MoreTrees, tree_count}
use Rattle.capnp_wire.specs.Locate.{Segments, NoTarget, StructAt, ListAt, CompositeAt, target_at, lies, list_words}
use Rattle.capnp_wire.specs.Place.{tree_below, bytes_at, bits_from, struct_at, struct_tree, composite_tree}
use Rattle.capnp_wire.specs.Steps.Level.{list_at_depth, tree_at_depth}
use Rattle.capnp_wire.specs.Words.{byte_words}
use Rattle.capnp_wire.specs.WellFormed.{is_width}
use Rattle.capnp_wire.specs.Encoding.{spelled_number, packed_bits, padded_bytes, number_size, struct_word, list_word}
use Rattle.capnp_wire.specs.Facts.Levels.{below_step}
use Rattle.capnp_wire.specs.Facts.Stands.{Stands, stands_first, stands_all, stands_lies}
use Rattle.capnp_wire.specs.Facts.EncodedSizes.{length_packed, length_padded}
use Rattle.capnp_wire.specs.Facts.PointerWords.{not_equal, not_below, target_zero, target_null, target_list}
use Rattle.capnp_wire.specs.Facts.PackedBits.{bits_packed}

-- no trees are counted
no_trees_of_count : (ts : Trees) → tree_count ts ≡ 0 → ts ≡ NoTrees
no_trees_of_count NoTrees e = refl
no_trees_of_count (MoreTrees t ts) e = absurd (omega arith)

-- no number takes more than eight bytes
past_eight : (v : ℕ) → IsTrue (is_width (suc (suc (suc (suc (suc (suc (suc (suc (suc v)))))))))) → ⊥
past_eight v h = grind (arith, nat_tests)

-- what holds of the four widths holds of each width
pub width_cases : (P : ℕ → Type 0) → P 1 → P 2 → P 4 → P 8 → (v : ℕ) → IsTrue (is_width v) → P v
width_cases P a b c d zero h = absurd (grind (arith, nat_tests))
width_cases P a b c d (suc zero) h = a
width_cases P a b c d (suc (suc zero)) h = b
width_cases P a b c d (suc (suc (suc zero))) h = absurd (grind (arith, nat_tests))
width_cases P a b c d (suc (suc (suc (suc zero)))) h = c
width_cases P a b c d (suc (suc (suc (suc (suc zero))))) h = absurd (grind (arith, nat_tests))
width_cases P a b c d (suc (suc (suc (suc (suc (suc zero)))))) h = absurd (grind (arith, nat_tests))
width_cases P a b c d (suc (suc (suc (suc (suc (suc (suc zero))))))) h = absurd (grind (arith, nat_tests))
width_cases P a b c d (suc (suc (suc (suc (suc (suc (suc (suc zero)))))))) h = d
width_cases P a b c d (suc (suc (suc (suc (suc (suc (suc (suc (suc v))))))))) h = absurd (past_eight v h)

module _ (segments : Segments) (segment : List ℕ) (l w : ℕ) where
  -- ---- one level, by what the pointer leads to ----

  -- to nothing
  at_null : target_at segments segment w ≡ NoTarget → tree_below l segments segment w ≡ Null
  at_null e = below_step l segments segment w ∙ ap (tree_at_depth l (tree_below (l - 1) segments) (tree_below (l - 2) segments)) e

  -- to a struct
  pub at_struct : (a d p : ℕ) → 2 ≤ l → target_at segments segment w ≡ StructAt segment a d p → tree_below l segments segment w ≡ struct_tree (struct_at (tree_below (l - 1) segments segment) segment d p a)
  at_struct a d p h e = below_step l segments segment w ∙ ap (tree_at_depth l (tree_below (l - 1) segments) (tree_below (l - 2) segments)) e ∙ rw (not_below l 2 h) refl

  -- to a list that is neither of bytes nor of structs
  pub at_list : (a e n : ℕ) → 2 ≤ l → (e ≡ 2 → ⊥) → target_at segments segment w ≡ ListAt segment a e n → tree_below l segments segment w ≡ list_at_depth (tree_below (l - 1) segments segment) segment a e n
  at_list a e n h k t = below_step l segments segment w ∙ ap (tree_at_depth l (tree_below (l - 1) segments) (tree_below (l - 2) segments)) t ∙ rw (not_equal l 0 (λ x. omega arith), not_equal e 2 k, not_equal l 1 (λ x. omega arith)) refl

  -- to a list of bytes
  at_bytes : (a n : ℕ) → 1 ≤ l → target_at segments segment w ≡ ListAt segment a 2 n → tree_below l segments segment w ≡ Numbers 1 (bytes_at segment a n)
  at_bytes a n h t = below_step l segments segment w ∙ ap (tree_at_depth l (tree_below (l - 1) segments) (tree_below (l - 2) segments)) t ∙ rw (not_equal l 0 (λ x. omega arith)) refl

  -- to a composite list
  pub at_composite : (a c d p : ℕ) → 2 ≤ l → target_at segments segment w ≡ CompositeAt segment a c d p → tree_below l segments segment w ≡ composite_tree (tree_below (l - 2) segments segment) segment a c d p
  at_composite a c d p h e = below_step l segments segment w ∙ ap (tree_at_depth l (tree_below (l - 1) segments) (tree_below (l - 2) segments)) e ∙ rw (not_below l 2 h) refl

  -- ---- objects without pointers ----

  -- a null
  pub reads_null : Stands segment w (spelled_number 8 0) → tree_below l segments segment w ≡ Null
  reads_null s = at_null (target_null segments segment w s)

  -- a struct of size zero
  pub reads_zero : (bytes : List ℕ) (ps : Trees) → length bytes ≡ 8 * (length bytes / 8) → length bytes / 8 + tree_count ps ≡ 0 → 2 ≤ l → Stands segment w (spelled_number 8 (struct_word (2 ^ 30 - 1) 0 0)) → tree_below l segments segment w ≡ Struct bytes ps
  reads_zero bytes ps h z k s =
      let eb : [] ≡ bytes = sym (nil_from_length bytes (omega arith)) in
      let ep : NoTrees ≡ ps = sym (no_trees_of_count ps (omega arith)) in
      at_struct w 0 0 k (target_zero segments segment w s) ∙ ap (λ x. Struct x NoTrees) eb ∙ ap (Struct bytes) ep

  module _ (g : ℕ) (near : g < 2 ^ 29) where
    -- a list of nothing
    pub reads_voids : (n : ℕ) → n < 2 ^ 29 → 2 ≤ l → Stands segment w (spelled_number 8 (list_word g 0 n)) → Stands segment (w + 1 + g) [] → tree_below l segments segment w ≡ Voids n
    reads_voids n h k s there =
        let q : 0 ≡ list_words 0 n = omega arith in
        let lie : lies segment (w + 1 + g + list_words 0 n) ≡ true = ap (λ m. lies segment (w + 1 + g + m)) (sym q) ∙ stands_lies segment (w + 1 + g) 0 [] refl there in
        at_list (w + 1 + g) 0 n k (λ x. omega arith) (target_list segments segment w g near 0 n (omega arith) h s lie)

    -- a list of bits
    pub reads_bits : (bs : List Bool) → length bs < 2 ^ 29 → 2 ≤ l → Stands segment w (spelled_number 8 (list_word g 1 (length bs))) → Stands segment (w + 1 + g) (packed_bits (8 * list_words 1 (length bs)) bs) → tree_below l segments segment w ≡ Bits bs
    reads_bits bs h k s there =
        let n : ℕ = list_words 1 (length bs) in
        let lie : lies segment (w + 1 + g + n) ≡ true = stands_lies segment (w + 1 + g) n (packed_bits (8 * n) bs) (length_packed (8 * n) bs) there in
        at_list (w + 1 + g) 1 (length bs) k (λ x. omega arith) (target_list segments segment w g near 1 (length bs) (omega arith) h s lie)
        ∙ ap (λ x. Bits (bits_from x 0 (length bs))) (stands_all segment (w + 1 + g) (8 * n) (packed_bits (8 * n) bs) (length_packed (8 * n) bs) there)
        ∙ ap Bits (bits_packed (8 * n) bs (omega arith))

    -- ---- a list of numbers ----

    module _ (bytes : List ℕ) (there : Stands segment (w + 1 + g) (padded_bytes bytes)) where
      -- it is read as numbers of that width
      IsReadAs : ℕ → Type 0
      IsReadAs v = length bytes ≡ v * (length bytes / v) → length bytes / v < 2 ^ 29 → cond (v == 1) 1 2 ≤ l → Stands segment w (spelled_number 8 (list_word g (number_size v) (length bytes / v))) → tree_below l segments segment w ≡ Numbers v bytes

      -- its words lie in the segment
      numbers_lie : (e n : ℕ) → list_words e n ≡ byte_words (length bytes) → lies segment (w + 1 + g + list_words e n) ≡ true
      numbers_lie e n q = ap (λ k. lies segment (w + 1 + g + k)) q ∙ stands_lies segment (w + 1 + g) (byte_words (length bytes)) (padded_bytes bytes) (length_padded bytes) there

      -- its bytes stand at its start
      numbers_are : (n : ℕ) → length bytes ≡ n → bytes_at segment (w + 1 + g) n ≡ bytes
      numbers_are n q = stands_first segment (w + 1 + g) n bytes (replicate (8 * byte_words (length bytes) - length bytes) 0) q there

      -- of one byte each
      reads_one : IsReadAs 1
      unfolding IsReadAs
      reads_one e h k s =
          let q : list_words 2 (length bytes / 1) ≡ byte_words (length bytes) = omega arith in
          at_bytes (w + 1 + g) (length bytes / 1) k (target_list segments segment w g near 2 (length bytes / 1) (omega arith) h s (numbers_lie 2 (length bytes / 1) q))
          ∙ ap (Numbers 1) (numbers_are (length bytes / 1) (omega arith))

      -- of two
      reads_two : IsReadAs 2
      unfolding IsReadAs
      reads_two e h k s =
          let q : list_words 3 (length bytes / 2) ≡ byte_words (length bytes) = omega arith in
          at_list (w + 1 + g) 3 (length bytes / 2) k (λ x. omega arith) (target_list segments segment w g near 3 (length bytes / 2) (omega arith) h s (numbers_lie 3 (length bytes / 2) q))
          ∙ ap (Numbers 2) (numbers_are (2 * (length bytes / 2)) e)

      -- of four
      reads_four : IsReadAs 4
      unfolding IsReadAs
      reads_four e h k s =
          let q : list_words 4 (length bytes / 4) ≡ byte_words (length bytes) = omega arith in
          at_list (w + 1 + g) 4 (length bytes / 4) k (λ x. omega arith) (target_list segments segment w g near 4 (length bytes / 4) (omega arith) h s (numbers_lie 4 (length bytes / 4) q))
          ∙ ap (Numbers 4) (numbers_are (4 * (length bytes / 4)) e)

      -- of eight
      reads_eight : IsReadAs 8
      unfolding IsReadAs
      reads_eight e h k s =
          let q : list_words 5 (length bytes / 8) ≡ byte_words (length bytes) = omega arith in
          at_list (w + 1 + g) 5 (length bytes / 8) k (λ x. omega arith) (target_list segments segment w g near 5 (length bytes / 8) (omega arith) h s (numbers_lie 5 (length bytes / 8) q))
          ∙ ap (Numbers 8) (numbers_are (8 * (length bytes / 8)) e)

      -- of any of these widths
      pub reads_numbers : (v : ℕ) → IsTrue (is_width v) → length bytes ≡ v * (length bytes / v) → length bytes / v < 2 ^ 29 → cond (v == 1) 1 2 ≤ l → Stands segment w (spelled_number 8 (list_word g (number_size v) (length bytes / v))) → tree_below l segments segment w ≡ Numbers v bytes
      unfolding IsReadAs
      reads_numbers v h = width_cases IsReadAs reads_one reads_two reads_four reads_eight v h
