-- The words of a tree by what its pointer leads to, and the trees below it.
use Rattle.std.proofs.Common.{◌≡◌, ℕ, zero, suc, ◌+◌, ◌-◌, ◌*◌, ◌<◌, ◌≤◌, refl, sym, ap, subst, ◌∙◌, arith, List, length}
use Rattle.capnp_wire.specs.Facts.Rows.{struct_count_structs_from, tree_count_trees_from}
use Rattle.capnp_wire.specs.Locate.{list_words}
use Rattle.capnp_wire.specs.Place.{bytes_at, list_tree, tree_with_level}
use Rattle.capnp_wire.specs.Tree.{StructTree, Tree, structs_from, trees_from}
use Rattle.capnp_wire.specs.Words.{words_below_all, words_of, words_of_all}
use Rattle.capnp_wire.specs.Facts.Indexed.{length_bits_from}
use Rattle.capnp_arena.specs.Steps.Counts.{AreElementForests, AreForests}
use Rattle.capnp_arena.specs.Forest.{Forest, struct_from, tree}
use Rattle.capnp_arena.specs.Shape.{CompositeIn, IsPointerOf, ListIn, NoShape, Shape, StructIn, end_of, shape_at, word_count}
use Rattle.capnp_arena.specs.Steps.Shape.{shape_target}
use Rattle.capnp_arena.specs.Facts.Forests.{child, points, tree_step}
use Rattle.capnp_arena.specs.Facts.Shapes.{end_inside}
use Rattle.capnp_arena.specs.Facts.Structs.{tree_composite, tree_list, tree_struct}
use Rattle.capnp_arena.proofs.Written.{length_part}

module _ (bytes : List ℕ) (w : ℕ) (f : Forest bytes w) where
  -- it ends inside
  pub ends_at : (s : Shape) → shape_at bytes w ≡ s → end_of s ≤ word_count bytes
  ends_at s e = subst (λ z. end_of z ≤ word_count bytes) e (end_inside bytes w (shape_at bytes w) (points bytes w f))

  -- ---- its pointers ----

  pub struct_row : (a d p : ℕ) → shape_at bytes w ≡ StructIn a d p → AreForests bytes (a + d) p
  struct_row a d p e = λ j x y. child bytes w f j (subst (λ z. IsPointerOf z j) (sym e) (x, y))

  pub list_row : (a n : ℕ) → shape_at bytes w ≡ ListIn a 6 n → AreForests bytes a n
  list_row a n e = λ j x y. child bytes w f j (subst (λ z. IsPointerOf z j) (sym e) (refl, x, y))

  pub element_rows : (tag n d p : ℕ) → shape_at bytes w ≡ CompositeIn tag n d p → AreElementForests bytes (tag + 1) n d p
  element_rows tag n d p e = λ i l j x y. child bytes w f j (subst (λ z. IsPointerOf z j) (sym e) (i, l, x, y))

  -- ---- its words ----

  pub words_null : shape_at bytes w ≡ NoShape → words_of (tree bytes w) ≡ 0
  words_null e = ap words_of (tree_step bytes w f) ∙ ap (λ s. words_of (step s)) e
    where
      step : Shape → Tree
      step s = tree_with_level tree tree (shape_target bytes s)

  pub words_struct : (a d p : ℕ) → shape_at bytes w ≡ StructIn a d p → words_of (tree bytes w) ≡ d + p + words_of_all (trees_from (tree bytes) (a + d) p)
  words_struct a d p e =
      let l : a + (d + p) ≤ word_count bytes = ends_at (StructIn a d p) e in
      let n : length (bytes_at bytes a (8 * d)) ≡ 8 * d = length_part bytes a (8 * d) (omega (arith, l)) in
      ap words_of (tree_struct bytes w a d p f e) ∙ omega (arith, n, tree_count_trees_from (tree bytes) (a + d) p)

  pub words_pointers : (a n : ℕ) → shape_at bytes w ≡ ListIn a 6 n → words_of (tree bytes w) ≡ n + words_of_all (trees_from (tree bytes) a n)
  words_pointers a n e = ap words_of (tree_list bytes w a 6 n f e) ∙ ap (λ k. k + words_of_all (trees_from (tree bytes) a n)) (tree_count_trees_from (tree bytes) a n)

  list_own : (a size n : ℕ) → size < 6 → a + list_words size n ≤ word_count bytes → words_of (list_tree (tree bytes) bytes a size n) ≡ list_words size n
  list_own a zero n l h = omega arith
  list_own a (suc zero) n l h = ap (λ k. list_words 1 k + 0) (length_bits_from (bytes_at bytes a (8 * list_words 1 n)) 0 n) ∙ omega arith
  list_own a (suc (suc zero)) n l h = let e : length (bytes_at bytes a n) ≡ n = length_part bytes a n (omega (arith, h)) in omega (arith, e)
  list_own a (suc (suc (suc zero))) n l h = let e : length (bytes_at bytes a (2 * n)) ≡ 2 * n = length_part bytes a (2 * n) (omega (arith, h)) in omega (arith, e)
  list_own a (suc (suc (suc (suc zero)))) n l h = let e : length (bytes_at bytes a (4 * n)) ≡ 4 * n = length_part bytes a (4 * n) (omega (arith, h)) in omega (arith, e)
  list_own a (suc (suc (suc (suc (suc zero))))) n l h = let e : length (bytes_at bytes a (8 * n)) ≡ 8 * n = length_part bytes a (8 * n) (omega (arith, h)) in omega (arith, e)
  list_own a (suc (suc (suc (suc (suc (suc z)))))) n l h = absurd (omega (arith, l))

  pub words_list : (a size n : ℕ) → size < 6 → shape_at bytes w ≡ ListIn a size n → words_of (tree bytes w) ≡ list_words size n
  words_list a size n l e = ap words_of (tree_list bytes w a size n f e) ∙ list_own a size n l (ends_at (ListIn a size n) e)

  pub words_composite : (tag n d p : ℕ) → shape_at bytes w ≡ CompositeIn tag n d p → words_of (tree bytes w) ≡ 1 + n * (d + p) + words_below_all (structs_from (λ i. struct_from bytes (tag + 1 + i * (d + p)) d p) 0 n)
  words_composite tag n d p e =
      ap words_of (tree_composite bytes w tag n d p f e)
      ∙ ap (λ k. suc (k * (d + p)) + words_below_all (structs_from (λ i. struct_from bytes (tag + 1 + i * (d + p)) d p) 0 n)) (struct_count_structs_from (λ i. struct_from bytes (tag + 1 + i * (d + p)) d p) 0 n)
      ∙ omega arith

-- ---- one more of a row ----

pub row_step : (f : ℕ → Tree) (first i n : ℕ) → i < n → words_of_all (trees_from f (first + i) (n - i)) ≡ words_of (f (first + i)) + words_of_all (trees_from f (first + (i + 1)) (n - (i + 1)))
row_step f first i n l =
    ap (λ k. words_of_all (trees_from f (first + i) k)) {x = n - i} {y = suc (n - (i + 1))} (omega (arith, l))
    ∙ ap (λ a. words_of (f (first + i)) + words_of_all (trees_from f a (n - (i + 1)))) {x = suc (first + i)} {y = first + (i + 1)} (omega arith)

pub structs_step : (f : ℕ → StructTree) (i n : ℕ) → i < n → words_below_all (structs_from f i (n - i)) ≡ words_of_all (f i).pointers + words_below_all (structs_from f (i + 1) (n - (i + 1)))
structs_step f i n l =
    ap (λ k. words_below_all (structs_from f i k)) {x = n - i} {y = suc (n - (i + 1))} (omega (arith, l))
    ∙ ap (λ a. words_of_all (f i).pointers + words_below_all (structs_from f a (n - (i + 1)))) {x = suc i} {y = i + 1} (omega arith)
