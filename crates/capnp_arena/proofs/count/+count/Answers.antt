-- Each shape counts its own words and those of its rows, one level deeper; the loops keep the sum and what is left.
-- None means words past the format or a tree too deep.
use Rattle.std.proofs.Common.{arith, cond, ◌==◌, ◌≡◌, ◌+◌, ◌-◌, ◌*◌, ◌<◌, ◌≤◌, ◌∙◌, inl, inr, sym, ap, subst, ℕ}
use Rattle.capnp_wire.specs.Depth.{AreBelow, ElementsAreBelow, IsBelow}
use Rattle.capnp_wire.specs.Tree.{Tree, structs_from, trees_from}
use Rattle.capnp_wire.specs.Words.{words_below_all, words_of, words_of_all}
use Rattle.capnp_arena.specs.Steps.Counts.{IsCount, IsCounted}
use Rattle.capnp_arena.specs.Facts.Shapes.{itself_inside}
use Rattle.capnp_arena.specs.Steps.Looked.{shape_found}
use Rattle.capnp_arena.specs.Forest.{struct_from, tree}
use Rattle.capnp_arena.specs.Shape.{Points, CompositeIn, ListIn, NoShape, StructIn, end_of, shape_at, word_count}
use Rattle.capnp_arena.proofs.Counted.{element_rows, ends_at, list_row, row_step, structs_step, words_composite, words_list, words_null, words_pointers, words_struct}
use Rattle.capnp_arena.proofs.CountedLevels.{all_counted, no_row_below, none_counted, null_below, of_composite, of_list, of_pointers, of_struct, plain_structs_below, row_more, structs_more, to_composite, to_list, to_pointers, to_struct}
use Rattle.capnp_arena.proofs.PlainRows.{plain_row}
use Rattle.capnp_arena.proofs.Shallow.{elements_below, row_below}
use Rattle.capnp_arena.proofs.count.+count.Goals as goal

no_row : (f : ℕ → Tree) (a p : ℕ) → p ≡ 0 → words_of_all (trees_from f a p) ≡ 0
no_row f a p e = ap (λ k. words_of_all (trees_from f a k)) e

pub count_below-returns-in-Null : goal.count_below-returns-in-Null
count_below-returns-in-Null t c =
    let e : shape_at c.args.bytes.now c.args.w ≡ NoShape = sym c.look.ensures.shape ∙ ap shape_found c.in-Null.is in
    (sym (words_null _ _ c.requires.forest e), omega arith, null_below c.args.bytes.now c.args.w c.requires.forest c.args.depth e)

-- ---- a struct ----

pub count_below-returns-then-depth-lt2 : goal.count_below-returns-then-depth-lt2
count_below-returns-then-depth-lt2 t c =
    let e : shape_at c.args.bytes.now c.args.w ≡ StructIn c.in-Struct.start c.in-Struct.data_words c.in-Struct.pointers = sym c.look.ensures.shape ∙ ap shape_found c.in-Struct.is in
    inr (λ b. omega (arith, (of_struct c.args.bytes.now c.args.w c.requires.forest c.args.depth _ _ _ e b).0, c.if-depth-lt2.true))

pub count_below-returns-then-pointers-eq0 : goal.count_below-returns-then-pointers-eq0
count_below-returns-then-pointers-eq0 t c =
    let e : shape_at c.args.bytes.now c.args.w ≡ StructIn c.in-Struct.start c.in-Struct.data_words c.in-Struct.pointers = sym c.look.ensures.shape ∙ ap shape_found c.in-Struct.is in
    let n : words_of (tree c.args.bytes.now c.args.w) ≡ c.in-Struct.data_words + 0 =
    words_struct _ _ c.requires.forest _ _ _ e ∙ omega (arith, c.if-pointers-eq0.true, no_row (tree c.args.bytes.now) (c.in-Struct.start + c.in-Struct.data_words) c.in-Struct.pointers c.if-pointers-eq0.true) in
    all_counted c.add.result (words_of (tree c.args.bytes.now c.args.w)) (IsBelow c.args.depth (tree c.args.bytes.now c.args.w)) (subst (IsCount c.add.result) (sym n) c.add.ensures)
    (to_struct c.args.bytes.now c.args.w c.requires.forest c.args.depth _ _ _ e (omega (arith, c.if-depth-lt2.false)) (no_row_below _ _ _ _ c.if-pointers-eq0.true))

pub count_below-returns-in_err-below-in-Struct : goal.count_below-returns-in_err-below-in-Struct
count_below-returns-in_err-below-in-Struct t c =
    let e : shape_at c.args.bytes.now c.args.w ≡ StructIn c.in-Struct.start c.in-Struct.data_words c.in-Struct.pointers = sym c.look.ensures.shape ∙ ap shape_found c.in-Struct.is in
    subst (λ r. IsCounted r (words_of (tree c.args.bytes.now c.args.w)) (IsBelow c.args.depth (tree c.args.bytes.now c.args.w))) (sym c.from_residual.ensures)
    (none_counted (words_of_all (trees_from (tree c.args.bytes.now) (c.in-Struct.start + c.in-Struct.data_words) c.in-Struct.pointers)) (words_of (tree c.args.bytes.now c.args.w)) (AreBelow (c.args.depth - 1) (trees_from (tree c.args.bytes.now) (c.in-Struct.start + c.in-Struct.data_words) c.in-Struct.pointers)) (IsBelow c.args.depth (tree c.args.bytes.now c.args.w)) c.in_err-below-in-Struct.ensures
    (omega (arith, words_struct _ _ c.requires.forest _ _ _ e)) (λ b. (of_struct c.args.bytes.now c.args.w c.requires.forest c.args.depth _ _ _ e b).1))

pub count_below-returns-in_ok-below-in-Struct : goal.count_below-returns-in_ok-below-in-Struct
count_below-returns-in_ok-below-in-Struct t c =
    let e : shape_at c.args.bytes.now c.args.w ≡ StructIn c.in-Struct.start c.in-Struct.data_words c.in-Struct.pointers = sym c.look.ensures.shape ∙ ap shape_found c.in-Struct.is in
    all_counted c.add-in-Struct.result (words_of (tree c.args.bytes.now c.args.w)) (IsBelow c.args.depth (tree c.args.bytes.now c.args.w))
    (subst (IsCount c.add-in-Struct.result) (omega (arith, c.in_ok-below-in-Struct.ensures.0, words_struct _ _ c.requires.forest _ _ _ e)) c.add-in-Struct.ensures)
    (to_struct c.args.bytes.now c.args.w c.requires.forest c.args.depth _ _ _ e (omega (arith, c.if-depth-lt2.false)) c.in_ok-below-in-Struct.ensures.2)

-- ---- a list that is not composite ----

pub count_below-returns-then-depth-least : goal.count_below-returns-then-depth-least
count_below-returns-then-depth-least t c =
    let e : shape_at c.args.bytes.now c.args.w ≡ ListIn c.in-List.start c.in-List.element_size c.in-List.count = sym c.look.ensures.shape ∙ ap shape_found c.in-List.is in
    let q : Points c.args.bytes.now c.args.w (ListIn c.in-List.start c.in-List.element_size c.in-List.count) = subst (Points c.args.bytes.now c.args.w) (ap shape_found c.in-List.is) c.look.ensures.points in
    inr (λ b. omega (arith, of_list c.args.bytes.now c.args.w c.requires.forest c.args.depth _ _ _ q.2 e b, c.get_list_depth-least.ensures, c.if-depth-least.true))

pub count_below-count_row-requires-then-element_size-eq6 : goal.count_below-count_row-requires-then-element_size-eq6
count_below-count_row-requires-then-element_size-eq6 t c =
    let e : shape_at c.args.bytes.now c.args.w ≡ ListIn c.in-List.start 6 c.in-List.count = sym c.look.ensures.shape ∙ ap shape_found c.in-List.is ∙ ap (λ k. ListIn c.in-List.start k c.in-List.count) c.if-element_size-eq6.true in
    let q : Points c.args.bytes.now c.args.w (ListIn c.in-List.start c.in-List.element_size c.in-List.count) = subst (Points c.args.bytes.now c.args.w) (ap shape_found c.in-List.is) c.look.ensures.points in
    let n : end_of (ListIn c.in-List.start 6 c.in-List.count) ≤ word_count c.args.bytes.now = ends_at _ _ c.requires.forest _ e in
    let i : c.args.w < word_count c.args.bytes.now = itself_inside _ _ (ListIn c.in-List.start c.in-List.element_size c.in-List.count) q in
    (omega (arith, q.0, i), (list_row _ _ c.requires.forest _ _ e, (omega (arith, n), c.requires.few)))

pub count_below-returns-in_err-below-in-List : goal.count_below-returns-in_err-below-in-List
count_below-returns-in_err-below-in-List t c =
    let e : shape_at c.args.bytes.now c.args.w ≡ ListIn c.in-List.start 6 c.in-List.count = sym c.look.ensures.shape ∙ ap shape_found c.in-List.is ∙ ap (λ k. ListIn c.in-List.start k c.in-List.count) c.if-element_size-eq6.true in
    subst (λ r. IsCounted r (words_of (tree c.args.bytes.now c.args.w)) (IsBelow c.args.depth (tree c.args.bytes.now c.args.w))) (sym c.from_residual-in_err-below-in-List.ensures)
    (none_counted (words_of_all (trees_from (tree c.args.bytes.now) c.in-List.start c.in-List.count)) (words_of (tree c.args.bytes.now c.args.w)) (AreBelow (c.args.depth - 1) (trees_from (tree c.args.bytes.now) c.in-List.start c.in-List.count)) (IsBelow c.args.depth (tree c.args.bytes.now c.args.w)) c.in_err-below-in-List.ensures
    (omega (arith, words_pointers _ _ c.requires.forest _ _ e)) (λ b. (of_pointers c.args.bytes.now c.args.w c.requires.forest c.args.depth _ _ e b).1))

pub count_below-returns-then-element_size-eq6 : goal.count_below-returns-then-element_size-eq6
count_below-returns-then-element_size-eq6 t c =
    let e : shape_at c.args.bytes.now c.args.w ≡ ListIn c.in-List.start 6 c.in-List.count = sym c.look.ensures.shape ∙ ap shape_found c.in-List.is ∙ ap (λ k. ListIn c.in-List.start k c.in-List.count) c.if-element_size-eq6.true in
    let l : 2 ≤ c.args.depth = omega (arith, c.if-depth-least.false, c.get_list_depth-least.ensures, ap {B = ℕ} (λ k. cond (k == 2) 1 2) c.if-element_size-eq6.true) in
    all_counted c.add-then-element_size-eq6.result (words_of (tree c.args.bytes.now c.args.w)) (IsBelow c.args.depth (tree c.args.bytes.now c.args.w))
    (subst (IsCount c.add-then-element_size-eq6.result) (omega (arith, c.in_ok-below-in-List.ensures.0, words_pointers _ _ c.requires.forest _ _ e)) c.add-then-element_size-eq6.ensures)
    (to_pointers c.args.bytes.now c.args.w c.requires.forest c.args.depth _ _ e l c.in_ok-below-in-List.ensures.2)

pub count_below-returns-else-element_size-eq6 : goal.count_below-returns-else-element_size-eq6
count_below-returns-else-element_size-eq6 t c =
    let e : shape_at c.args.bytes.now c.args.w ≡ ListIn c.in-List.start c.in-List.element_size c.in-List.count = sym c.look.ensures.shape ∙ ap shape_found c.in-List.is in
    let q : Points c.args.bytes.now c.args.w (ListIn c.in-List.start c.in-List.element_size c.in-List.count) = subst (Points c.args.bytes.now c.args.w) (ap shape_found c.in-List.is) c.look.ensures.points in
    let s : c.in-List.element_size < 6 = omega (arith, q.2, c.if-element_size-eq6.false) in
    let n : words_of (tree c.args.bytes.now c.args.w) ≡ c.get_list_words.result + 0 = words_list _ _ c.requires.forest _ _ _ s e ∙ omega (arith, c.get_list_words.ensures.value) in
    all_counted c.add-in-List.result (words_of (tree c.args.bytes.now c.args.w)) (IsBelow c.args.depth (tree c.args.bytes.now c.args.w)) (subst (IsCount c.add-in-List.result) (sym n) c.add-in-List.ensures)
    (to_list c.args.bytes.now c.args.w c.requires.forest c.args.depth _ _ _ s e (omega (arith, c.if-depth-least.false, c.get_list_depth-least.ensures)))

-- ---- a composite list ----

pub count_below-returns-then-depth-lt2-2 : goal.count_below-returns-then-depth-lt2-2
count_below-returns-then-depth-lt2-2 t c =
    let e : shape_at c.args.bytes.now c.args.w ≡ CompositeIn c.in-Composite.tag c.in-Composite.count c.in-Composite.data_words c.in-Composite.pointers = sym c.look.ensures.shape ∙ ap shape_found c.in-Composite.is in
    inr (λ b. omega (arith, (of_composite c.args.bytes.now c.args.w c.requires.forest c.args.depth _ _ _ _ e b).0, c.if-depth-lt2-2.true))

pub count_below-returns-then-pointers-eq0-2 : goal.count_below-returns-then-pointers-eq0-2
count_below-returns-then-pointers-eq0-2 t c =
    let e : shape_at c.args.bytes.now c.args.w ≡ CompositeIn c.in-Composite.tag c.in-Composite.count c.in-Composite.data_words c.in-Composite.pointers = sym c.look.ensures.shape ∙ ap shape_found c.in-Composite.is in
    let none = (plain_row (tree c.args.bytes.now) c.args.bytes.now (c.in-Composite.tag + 1) c.in-Composite.data_words c.in-Composite.pointers c.in-Composite.count c.if-pointers-eq0-2.true).words in
    all_counted c.add-then-pointers-eq0-2.result (words_of (tree c.args.bytes.now c.args.w)) (IsBelow c.args.depth (tree c.args.bytes.now c.args.w))
    (subst (IsCount c.add-then-pointers-eq0-2.result) (sym (words_composite _ _ c.requires.forest _ _ _ _ e ∙ ap (λ k. 1 + c.in-Composite.count * (c.in-Composite.data_words + c.in-Composite.pointers) + k) none)) c.add-then-pointers-eq0-2.ensures)
    (to_composite c.args.bytes.now c.args.w c.requires.forest c.args.depth _ _ _ _ e (omega (arith, c.if-depth-lt2-2.false)) (plain_structs_below _ _ _ _ _ _ _ c.if-pointers-eq0-2.true))

pub count_below-count_elements-requires : goal.count_below-count_elements-requires
count_below-count_elements-requires t c =
    let e : shape_at c.args.bytes.now c.args.w ≡ CompositeIn c.in-Composite.tag c.in-Composite.count c.in-Composite.data_words c.in-Composite.pointers = sym c.look.ensures.shape ∙ ap shape_found c.in-Composite.is in
    let q : Points c.args.bytes.now c.args.w (CompositeIn c.in-Composite.tag c.in-Composite.count c.in-Composite.data_words c.in-Composite.pointers) = subst (Points c.args.bytes.now c.args.w) (ap shape_found c.in-Composite.is) c.look.ensures.points in
    (omega (arith, q.0, q.6), (element_rows _ _ c.requires.forest _ _ _ _ e, (q.6, (c.requires.few, (q.4, q.2, q.3)))))

pub count_below-returns-in_err-below-in-Composite : goal.count_below-returns-in_err-below-in-Composite
count_below-returns-in_err-below-in-Composite t c =
    let e : shape_at c.args.bytes.now c.args.w ≡ CompositeIn c.in-Composite.tag c.in-Composite.count c.in-Composite.data_words c.in-Composite.pointers = sym c.look.ensures.shape ∙ ap shape_found c.in-Composite.is in
    subst (λ r. IsCounted r (words_of (tree c.args.bytes.now c.args.w)) (IsBelow c.args.depth (tree c.args.bytes.now c.args.w))) (sym c.from_residual-in_err-below-in-Composite.ensures)
    (none_counted (words_below_all (structs_from (λ i. struct_from c.args.bytes.now (c.in-Composite.tag + 1 + i * (c.in-Composite.data_words + c.in-Composite.pointers)) c.in-Composite.data_words c.in-Composite.pointers) 0 c.in-Composite.count)) (words_of (tree c.args.bytes.now c.args.w)) (ElementsAreBelow (c.args.depth - 2) (structs_from (λ i. struct_from c.args.bytes.now (c.in-Composite.tag + 1 + i * (c.in-Composite.data_words + c.in-Composite.pointers)) c.in-Composite.data_words c.in-Composite.pointers) 0 c.in-Composite.count)) (IsBelow c.args.depth (tree c.args.bytes.now c.args.w)) c.in_err-below-in-Composite.ensures
    (omega (arith, words_composite _ _ c.requires.forest _ _ _ _ e)) (λ b. (of_composite c.args.bytes.now c.args.w c.requires.forest c.args.depth _ _ _ _ e b).1))

pub count_below-returns-in_ok-below-in-Composite : goal.count_below-returns-in_ok-below-in-Composite
count_below-returns-in_ok-below-in-Composite t c =
    let e : shape_at c.args.bytes.now c.args.w ≡ CompositeIn c.in-Composite.tag c.in-Composite.count c.in-Composite.data_words c.in-Composite.pointers = sym c.look.ensures.shape ∙ ap shape_found c.in-Composite.is in
    all_counted c.add-in-Composite.result (words_of (tree c.args.bytes.now c.args.w)) (IsBelow c.args.depth (tree c.args.bytes.now c.args.w))
    (subst (IsCount c.add-in-Composite.result) (omega (arith, c.in_ok-below-in-Composite.ensures.0, words_composite _ _ c.requires.forest _ _ _ _ e)) c.add-in-Composite.ensures)
    (to_composite c.args.bytes.now c.args.w c.requires.forest c.args.depth _ _ _ _ e (omega (arith, c.if-depth-lt2-2.false)) c.in_ok-below-in-Composite.ensures.2)

-- ---- rows ----

pub count_row-returns-in_err-words : goal.count_row-returns-in_err-words
count_row-returns-in_err-words t c =
    subst (λ r. IsCounted r (words_of_all (trees_from (tree c.args.bytes.now) c.args.first c.args.count)) (AreBelow c.args.depth (trees_from (tree c.args.bytes.now) c.args.first c.args.count))) (sym c.from_residual.ensures)
    (none_counted (words_of (tree c.args.bytes.now (c.args.first + c.loop-i.i))) (words_of_all (trees_from (tree c.args.bytes.now) c.args.first c.args.count)) (IsBelow c.args.depth (tree c.args.bytes.now (c.args.first + c.loop-i.i))) (AreBelow c.args.depth (trees_from (tree c.args.bytes.now) c.args.first c.args.count)) c.in_err-words.ensures
    (omega (arith, c.loop-i.invariant.left, row_step (tree c.args.bytes.now) c.args.first c.loop-i.i c.args.count c.loop-i-test.true))
    (λ b. row_below (tree c.args.bytes.now) c.args.first c.args.count c.args.depth b (c.args.first + c.loop-i.i) (omega arith) (omega (arith, c.loop-i-test.true))))

pub count_row-returns-in_err-sum : goal.count_row-returns-in_err-sum
count_row-returns-in_err-sum t c =
    subst (λ r. IsCounted r (words_of_all (trees_from (tree c.args.bytes.now) c.args.first c.args.count)) (AreBelow c.args.depth (trees_from (tree c.args.bytes.now) c.args.first c.args.count))) (sym c.from_residual-in_err-sum.ensures)
    (inl (omega (arith, c.in_err-sum.ensures, c.loop-i.invariant.left, c.in_ok-words.ensures.0, row_step (tree c.args.bytes.now) c.args.first c.loop-i.i c.args.count c.loop-i-test.true)))

pub count_row-loop-i-preserved : goal.count_row-loop-i-preserved
count_row-loop-i-preserved t c =
    record {
      above = λ r. c.loop-i.invariant.above (row_more (tree c.args.bytes.now) c.args.first c.loop-i.i c.args.count c.args.depth c.loop-i-test.true c.in_ok-words.ensures.2 r);
      left = omega (arith, c.loop-i.invariant.left, row_step (tree c.args.bytes.now) c.args.first c.loop-i.i c.args.count c.loop-i-test.true, c.in_ok-words.ensures.0, c.in_ok-sum.ensures);
      small = omega (arith, c.in_ok-sum.ensures);
    }

pub count_row-returns : goal.count_row-returns
count_row-returns t c =
    let z : c.args.count - c.loop-i.i ≡ 0 = omega (arith, c.loop-i-test.false) in (
      omega (arith, c.loop-i.invariant.left, no_row (tree c.args.bytes.now) (c.args.first + c.loop-i.i) (c.args.count - c.loop-i.i) z),
      c.loop-i.invariant.small,
      c.loop-i.invariant.above (no_row_below (tree c.args.bytes.now) (c.args.first + c.loop-i.i) (c.args.count - c.loop-i.i) c.args.depth z),
    )

pub count_elements-returns-in_err-words : goal.count_elements-returns-in_err-words
count_elements-returns-in_err-words t c =
    subst (λ r. IsCounted r (words_below_all (structs_from (λ i. struct_from c.args.bytes.now (c.args.start + i * (c.args.data_words + c.args.pointers)) c.args.data_words c.args.pointers) 0 c.args.count)) (ElementsAreBelow c.args.depth (structs_from (λ i. struct_from c.args.bytes.now (c.args.start + i * (c.args.data_words + c.args.pointers)) c.args.data_words c.args.pointers) 0 c.args.count))) (sym c.from_residual.ensures)
    (none_counted (words_of_all (trees_from (tree c.args.bytes.now) (c.args.start + c.loop-i.i * (c.args.data_words + c.args.pointers) + c.args.data_words) c.args.pointers)) (words_below_all (structs_from (λ i. struct_from c.args.bytes.now (c.args.start + i * (c.args.data_words + c.args.pointers)) c.args.data_words c.args.pointers) 0 c.args.count)) (AreBelow c.args.depth (trees_from (tree c.args.bytes.now) (c.args.start + c.loop-i.i * (c.args.data_words + c.args.pointers) + c.args.data_words) c.args.pointers)) (ElementsAreBelow c.args.depth (structs_from (λ i. struct_from c.args.bytes.now (c.args.start + i * (c.args.data_words + c.args.pointers)) c.args.data_words c.args.pointers) 0 c.args.count)) c.in_err-words.ensures
    (omega (arith, c.loop-i.invariant.left, structs_step (λ i. struct_from c.args.bytes.now (c.args.start + i * (c.args.data_words + c.args.pointers)) c.args.data_words c.args.pointers) c.loop-i.i c.args.count c.loop-i-test.true))
    (λ b. elements_below (λ i. struct_from c.args.bytes.now (c.args.start + i * (c.args.data_words + c.args.pointers)) c.args.data_words c.args.pointers) 0 c.args.count c.args.depth b c.loop-i.i (omega arith) (omega (arith, c.loop-i-test.true))))

pub count_elements-returns-in_err-sum : goal.count_elements-returns-in_err-sum
count_elements-returns-in_err-sum t c =
    subst (λ r. IsCounted r (words_below_all (structs_from (λ i. struct_from c.args.bytes.now (c.args.start + i * (c.args.data_words + c.args.pointers)) c.args.data_words c.args.pointers) 0 c.args.count)) (ElementsAreBelow c.args.depth (structs_from (λ i. struct_from c.args.bytes.now (c.args.start + i * (c.args.data_words + c.args.pointers)) c.args.data_words c.args.pointers) 0 c.args.count))) (sym c.from_residual-in_err-sum.ensures)
    (inl (omega (arith, c.in_err-sum.ensures, c.loop-i.invariant.left, c.in_ok-words.ensures.0, structs_step (λ i. struct_from c.args.bytes.now (c.args.start + i * (c.args.data_words + c.args.pointers)) c.args.data_words c.args.pointers) c.loop-i.i c.args.count c.loop-i-test.true)))

pub count_elements-loop-i-preserved : goal.count_elements-loop-i-preserved
count_elements-loop-i-preserved t c =
    record {
      above = λ r. c.loop-i.invariant.above (structs_more (λ i. struct_from c.args.bytes.now (c.args.start + i * (c.args.data_words + c.args.pointers)) c.args.data_words c.args.pointers) c.loop-i.i c.args.count c.args.depth c.loop-i-test.true c.in_ok-words.ensures.2 r);
      left = omega (arith, c.loop-i.invariant.left, structs_step (λ i. struct_from c.args.bytes.now (c.args.start + i * (c.args.data_words + c.args.pointers)) c.args.data_words c.args.pointers) c.loop-i.i c.args.count c.loop-i-test.true, c.in_ok-words.ensures.0, c.in_ok-sum.ensures);
      small = omega (arith, c.in_ok-sum.ensures);
    }
