-- Each shape appends its own bytes and then its rows, filled in order.
-- The loops keep the room for what is left, and that filling the rest gives the whole.
use Rattle.std.proofs.Common.{IfOk, rules, arith, ◌≡◌, ◌++◌, ◌+◌, ◌-◌, ◌*◌, ◌/◌, ◌<◌, ◌≤◌, inl, inr, ◌∙◌, sym, ap, subst, length, List, ℕ}
use Rattle.std.proofs.lemmas.List.{append-nil}
use Rattle.capnp_wire.specs.Encoding.{pointer_word, spelled_number}
use Rattle.capnp_wire.specs.Facts.Bytes.{AreBytes_fits}
use Rattle.capnp_wire.specs.Facts.Rows.{struct_count_structs_from, tree_count_trees_from}
use Rattle.capnp_wire.specs.Steps.Filling.{bytes_with, with_pointers, words_from}
use Rattle.capnp_wire.specs.Tree.{trees_from}
use Rattle.capnp_wire.specs.WellFormed.{AreBytes}
use Rattle.capnp_wire.specs.Facts.Filling.{composite_last, element_filled, element_put, elements_room, pointer_filled, row_last, row_room}
use Rattle.capnp_arena.specs.Steps.Encoded.{pointer_to}
use Rattle.capnp_arena.specs.Forest.{Forest, struct_from, tree}
use Rattle.capnp_arena.specs.Steps.Looked.{shape_found}
use Rattle.capnp_arena.specs.Shape.{CompositeIn, ListIn, NoShape, Points, StructIn, end_of, shape_at, word_count}
use Rattle.capnp_arena.proofs.Counted.{element_rows, ends_at, list_row, struct_row, words_composite, words_pointers, words_struct}
use Rattle.capnp_arena.proofs.Encodings.{bytes_composite, bytes_null, bytes_plain, bytes_pointers, bytes_struct, bytes_zero, element_room, elements_done, elements_held, elements_lie, pointer_is, row_done, row_held, row_next, structs_next}
use Rattle.capnp_arena.specs.Facts.Shapes.{element_end, itself_inside}
use Rattle.capnp_arena.proofs.Written.{length_part}
use Rattle.capnp_wire.specs.Place.{bytes_at}
use Rattle.capnp_arena.proofs.PlainRows.{plain_list, plain_row}
use Rattle.capnp_arena.proofs.encode.+append.Goals as goal

-- ---- one tree ----

pub append_tree-returns-in-Null : goal.append_tree-returns-in-Null
append_tree-returns-in-Null t c =
    let e : shape_at c.args.bytes.now c.args.w ≡ NoShape = sym c.requires.shape ∙ ap shape_found c.in-Null.is in
    sym (ap (λ z. c.args.out.now.items ++ z) (bytes_null _ _ c.requires.forest e) ∙ append-nil c.args.out.now.items)

pub append_tree-returns-then-data_words-pointers-eq0 : goal.append_tree-returns-then-data_words-pointers-eq0
append_tree-returns-then-data_words-pointers-eq0 t c =
    let e : shape_at c.args.bytes.now c.args.w ≡ StructIn c.in-Struct.start c.in-Struct.data_words c.in-Struct.pointers = sym c.requires.shape ∙ ap shape_found c.in-Struct.is in
    sym (ap (λ z. c.args.out.now.items ++ z) (bytes_zero _ _ c.requires.forest _ _ _ e c.if-data_words-pointers-eq0.true) ∙ append-nil c.args.out.now.items)

-- a struct that has a word starts after its pointer
struct_after : (bytes : List ℕ) (w a d p : ℕ) → Points bytes w (StructIn a d p) → (d + p ≡ 0 → ⊥) → (w < a) × (w < length bytes)
struct_after bytes w a d p h some = elim h [
  | inl z ↦ absurd (some (omega (arith, z.1, z.2)))
  | inr z ↦ (z.0, omega (arith, z.0, z.5))
]

pub append_tree-append_struct-requires : goal.append_tree-append_struct-requires
append_tree-append_struct-requires t c =
    let e : shape_at c.args.bytes.now c.args.w ≡ StructIn c.in-Struct.start c.in-Struct.data_words c.in-Struct.pointers = sym c.requires.shape ∙ ap shape_found c.in-Struct.is in
    let q : Points c.args.bytes.now c.args.w (StructIn c.in-Struct.start c.in-Struct.data_words c.in-Struct.pointers) = subst (Points c.args.bytes.now c.args.w) (ap shape_found c.in-Struct.is) c.requires.points in
    let l : (c.args.w < c.in-Struct.start) × (c.args.w < length c.args.bytes.now) = struct_after _ _ _ _ _ q c.if-data_words-pointers-eq0.false in
    (omega (arith, l.0, l.1), (struct_row _ _ c.requires.forest _ _ _ e, (ends_at _ _ c.requires.forest _ e, (c.requires.few, omega (arith, c.requires.small, words_struct _ _ c.requires.forest _ _ _ e)))))

pub append_tree-returns-else-data_words-pointers-eq0 : goal.append_tree-returns-else-data_words-pointers-eq0
append_tree-returns-else-data_words-pointers-eq0 t c =
    let e : shape_at c.args.bytes.now c.args.w ≡ StructIn c.in-Struct.start c.in-Struct.data_words c.in-Struct.pointers = sym c.requires.shape ∙ ap shape_found c.in-Struct.is in
    subst (λ z. IfOk c.append_struct.result (λ _. c.append_struct.new.out.items ≡ c.args.out.now.items ++ z)) (sym (bytes_struct _ _ c.requires.forest _ _ _ e)) c.append_struct.ensures

pub append_tree-append_row-requires : goal.append_tree-append_row-requires
append_tree-append_row-requires t c =
    let e : shape_at c.args.bytes.now c.args.w ≡ ListIn c.in-List.start 6 c.in-List.count = sym c.requires.shape ∙ ap shape_found c.in-List.is ∙ ap (λ k. ListIn c.in-List.start k c.in-List.count) c.if-element_size-eq6.true in
    let q : Points c.args.bytes.now c.args.w (ListIn c.in-List.start c.in-List.element_size c.in-List.count) = subst (Points c.args.bytes.now c.args.w) (ap shape_found c.in-List.is) c.requires.points in
    let i : c.args.w < word_count c.args.bytes.now = itself_inside _ _ (ListIn c.in-List.start c.in-List.element_size c.in-List.count) q in
    let n : end_of (ListIn c.in-List.start 6 c.in-List.count) ≤ word_count c.args.bytes.now = ends_at _ _ c.requires.forest _ e in
    (omega (arith, q.0, i), (list_row _ _ c.requires.forest _ _ e, (omega (arith, n), (c.requires.few, omega (arith, c.requires.small, words_pointers _ _ c.requires.forest _ _ e)))))

pub append_tree-returns-then-element_size-eq6 : goal.append_tree-returns-then-element_size-eq6
append_tree-returns-then-element_size-eq6 t c =
    let e : shape_at c.args.bytes.now c.args.w ≡ ListIn c.in-List.start 6 c.in-List.count = sym c.requires.shape ∙ ap shape_found c.in-List.is ∙ ap (λ k. ListIn c.in-List.start k c.in-List.count) c.if-element_size-eq6.true in
    subst (λ z. IfOk c.append_row.result (λ _. c.append_row.new.out.items ≡ c.args.out.now.items ++ z)) (sym (bytes_pointers _ _ c.requires.forest _ _ e)) c.append_row.ensures

pub append_tree-returns-else-element_size-eq6 : goal.append_tree-returns-else-element_size-eq6
append_tree-returns-else-element_size-eq6 t c =
    let e : shape_at c.args.bytes.now c.args.w ≡ ListIn c.in-List.start c.in-List.element_size c.in-List.count = sym c.requires.shape ∙ ap shape_found c.in-List.is in
    let q : Points c.args.bytes.now c.args.w (ListIn c.in-List.start c.in-List.element_size c.in-List.count) = subst (Points c.args.bytes.now c.args.w) (ap shape_found c.in-List.is) c.requires.points in
    subst (λ z. IfOk c.append_pointerless.result (λ _. c.append_pointerless.new.out.items ≡ c.args.out.now.items ++ z)) (sym (bytes_plain _ _ c.requires.forest _ _ _ (omega (arith, q.2, c.if-element_size-eq6.false)) e)) c.append_pointerless.ensures

pub append_tree-append_composite-requires : goal.append_tree-append_composite-requires
append_tree-append_composite-requires t c =
    let e : shape_at c.args.bytes.now c.args.w ≡ CompositeIn c.in-Composite.tag c.in-Composite.count c.in-Composite.data_words c.in-Composite.pointers = sym c.requires.shape ∙ ap shape_found c.in-Composite.is in
    let q : Points c.args.bytes.now c.args.w (CompositeIn c.in-Composite.tag c.in-Composite.count c.in-Composite.data_words c.in-Composite.pointers) = subst (Points c.args.bytes.now c.args.w) (ap shape_found c.in-Composite.is) c.requires.points in
    (omega (arith, q.0, q.6), (element_rows _ _ c.requires.forest _ _ _ _ e, (q.6, (c.requires.few, ((q.4, q.2, q.3), omega (arith, c.requires.small, words_composite _ _ c.requires.forest _ _ _ _ e))))))

pub append_tree-returns-else-depth-lt2-2 : goal.append_tree-returns-else-depth-lt2-2
append_tree-returns-else-depth-lt2-2 t c =
    let e : shape_at c.args.bytes.now c.args.w ≡ CompositeIn c.in-Composite.tag c.in-Composite.count c.in-Composite.data_words c.in-Composite.pointers = sym c.requires.shape ∙ ap shape_found c.in-Composite.is in
    subst (λ z. IfOk c.append_composite.result (λ _. c.append_composite.new.out.items ≡ c.args.out.now.items ++ z)) (sym (bytes_composite _ _ c.requires.forest _ _ _ _ e)) c.append_composite.ensures

-- ---- pointers in a row ----

pub append_row-fill_row-requires : goal.append_row-fill_row-requires
append_row-fill_row-requires t c =
    let h : AreBytes c.args.bytes.now = AreBytes_fits c.args.bytes.now c.type_inv.bytes in
    let n = tree_count_trees_from (tree c.args.bytes.now) c.args.first c.args.count in
    (search rules, (c.requires.forests, (c.requires.inside, (c.requires.few, row_room _ c.args.count _ c.args.out.now.items _ (omega (arith, c.len-at.ensures)) (sym n) c.in_ok-append_room.ensures (row_held _ _ _ h) (omega (arith, c.requires.small, n))))))

pub append_row-returns : goal.append_row-returns
append_row-returns t c =
    row_last _ c.args.count _ c.args.out.now.items _ _ (omega (arith, c.len-at.ensures)) (sym (tree_count_trees_from (tree c.args.bytes.now) c.args.first c.args.count)) c.in_ok-append_room.ensures c.in_ok-fill_row.ensures

-- ---- composite lists ----

pub append_composite-fill_elements-requires : goal.append_composite-fill_elements-requires
append_composite-fill_elements-requires t c =
    let h : AreBytes c.args.bytes.now = AreBytes_fits c.args.bytes.now c.type_inv.bytes in
    let n = struct_count_structs_from (λ i. struct_from c.args.bytes.now (c.args.tag + 1 + i * (c.args.data_words + c.args.pointers)) c.args.data_words c.args.pointers) 0 c.args.count in
    let b = elements_held c.args.bytes.now (c.args.tag + 1) c.args.data_words c.args.pointers 0 c.args.count h (elements_lie c.args.bytes.now (c.args.tag + 1) c.args.data_words c.args.pointers c.args.count c.requires.inside) in (
      search rules,
      (
        c.requires.forests,
        (
          c.requires.inside,
          (
            c.requires.few,
            (
              c.requires.sizes,
              elements_room _ _ _ c.args.count _ c.append_word.new.out.items _ (omega (arith, c.len-at.ensures)) (sym n) c.in_ok-append_room.ensures b (omega (arith, c.requires.small, ap (λ k. k * (c.args.data_words + c.args.pointers)) n)),
            ),
          ),
        ),
      ),
    )

pub append_composite-returns : goal.append_composite-returns
append_composite-returns t c =
    let h : AreBytes c.args.bytes.now = AreBytes_fits c.args.bytes.now c.type_inv.bytes in
    let n = struct_count_structs_from (λ i. struct_from c.args.bytes.now (c.args.tag + 1 + i * (c.args.data_words + c.args.pointers)) c.args.data_words c.args.pointers) 0 c.args.count in
    let b = elements_held c.args.bytes.now (c.args.tag + 1) c.args.data_words c.args.pointers 0 c.args.count h (elements_lie c.args.bytes.now (c.args.tag + 1) c.args.data_words c.args.pointers c.args.count c.requires.inside) in
    composite_last _ _ _ c.args.count _ _ c.append_word.new.out.items _ _ _ c.make_struct_word.ensures c.in_ok-append_word.ensures (omega (arith, c.len-at.ensures)) (sym n) c.in_ok-append_room.ensures b c.in_ok-fill_elements.ensures

pub append_composite-get_part-requires : goal.append_composite-get_part-requires
append_composite-get_part-requires t c = omega (arith, c.requires.inside, c.if-pointers-eq0.true, ap (λ k. c.args.count * (c.args.data_words + k)) c.if-pointers-eq0.true)

-- elements without pointers are one run of bytes
pub append_composite-returns-then-pointers-eq0 : goal.append_composite-returns-then-pointers-eq0
append_composite-returns-then-pointers-eq0 t c =
    let d = c.args.data_words in
    let p = c.args.pointers in
    let plain = plain_row (tree c.args.bytes.now) c.args.bytes.now (c.args.tag + 1) c.args.data_words c.args.pointers c.args.count c.if-pointers-eq0.true in
    let size : 8 * (c.args.count * c.args.data_words) ≡ 8 * (c.args.count * (c.args.data_words + c.args.pointers)) = sym (ap (λ k. 8 * (c.args.count * (c.args.data_words + k))) c.if-pointers-eq0.true ∙ omega arith) in
    plain_list c.args.data_words c.args.pointers c.args.count _ _ c.args.out.now.items c.append_word.new.out.items _ (struct_count_structs_from _ 0 c.args.count) plain
    (c.in_ok-append_word.ensures ∙ ap (λ w. c.args.out.now.items ++ spelled_number 8 w) c.make_struct_word.ensures)
    (c.in_ok-extend_from_slice.ensures.items ∙ ap (λ z. c.append_word.new.out.items ++ z) (c.get_part.ensures.part ∙ ap (bytes_at c.args.bytes.now (c.args.tag + 1)) size))

pub fill_row-overflow_sub-gap-in-loop-i : goal.fill_row-overflow_sub-gap-in-loop-i
fill_row-overflow_sub-gap-in-loop-i t c =
    let room = rw (row_next (tree c.args.bytes.now) c.args.first c.loop-i.i c.args.count c.loop-i-test.true) at c.loop-i.invariant.room in
    omega (arith, room.1, c.len.ensures)

pub fill_row-put_word-requires : goal.fill_row-put_word-requires
fill_row-put_word-requires t c =
    let room = rw (row_next (tree c.args.bytes.now) c.args.first c.loop-i.i c.args.count c.loop-i-test.true) at c.loop-i.invariant.room in
    omega (arith, room.1)

pub fill_row-append_tree-requires : goal.fill_row-append_tree-requires
fill_row-append_tree-requires t c =
    let room = rw (row_next (tree c.args.bytes.now) c.args.first c.loop-i.i c.args.count c.loop-i-test.true) at c.loop-i.invariant.room in
    (omega arith, (c.requires.forests (c.args.first + c.loop-i.i) (omega arith) (omega (arith, c.loop-i-test.true)), (c.requires.few, (omega (arith, room.2), (c.look-target.ensures.shape, c.look-target.ensures.points)))))

pub fill_row-loop-i-preserved : goal.fill_row-loop-i-preserved
fill_row-loop-i-preserved t c =
    let r = row_next (tree c.args.bytes.now) c.args.first c.loop-i.i c.args.count c.loop-i-test.true in
    let room = rw r at c.loop-i.invariant.room in
    let done = rw r at c.loop-i.invariant.done in
    let gap : ℕ = (c.len.result - c.loop-i.at) / 8 - 1 in
    let f : Forest c.args.bytes.now (c.args.first + c.loop-i.i) = c.requires.forests (c.args.first + c.loop-i.i) (omega arith) (omega (arith, c.loop-i-test.true)) in
    let w : c.make_pointer.result ≡ pointer_word (words_from c.loop-i.at c.loop-i.out.items - 1) (tree c.args.bytes.now (c.args.first + c.loop-i.i)) =
    c.make_pointer.ensures ∙ ap (pointer_to ((c.len.result - c.loop-i.at) / 8 - 1)) c.look-target.ensures.shape ∙ pointer_is c.args.bytes.now (c.args.first + c.loop-i.i) ((c.len.result - c.loop-i.at) / 8 - 1) f
    ∙ ap (λ k. pointer_word k (tree c.args.bytes.now (c.args.first + c.loop-i.i))) (omega (arith, c.len.ensures)) in
    let g = pointer_filled _ _ _ _ _ _ _ room w c.put_word.ensures.put c.in_ok-append_tree.ensures in
    record { room = g.0; done = g.1 ∙ done }

pub fill_row-returns : goal.fill_row-returns
fill_row-returns t c = sym (row_done (tree c.args.bytes.now) (c.args.first + c.loop-i.i) c.args.count c.loop-i.i c.loop-i.at c.loop-i.out.items c.loop-i-test.false) ∙ c.loop-i.invariant.done

-- ---- structs in a row ----

pub fill_element-returns : goal.fill_element-returns
fill_element-returns t c =
    let n : length (bytes_at c.args.bytes.now c.args.start (8 * c.args.data_words)) ≡ 8 * c.args.data_words = length_part c.args.bytes.now c.args.start (8 * c.args.data_words) (omega (arith, c.requires.inside)) in
    element_put c.args.at (struct_from c.args.bytes.now c.args.start c.args.data_words c.args.pointers) c.args.out.now.items c.put_bytes.new.out.items _ (omega (arith, n, c.requires.room.1))
    (c.put_bytes.ensures.put ∙ ap (λ z. bytes_with c.args.at z c.args.out.now.items) c.get_part.ensures.part)
    (c.in_ok-fill_row.ensures ∙ ap (λ k. with_pointers (c.args.at + k) (trees_from (tree c.args.bytes.now) (c.args.start + c.args.data_words) c.args.pointers) c.put_bytes.new.out.items) (sym n))

pub fill_elements-fill_element-requires : goal.fill_elements-fill_element-requires
fill_elements-fill_element-requires t c =
    let r = structs_next (λ i. struct_from c.args.bytes.now (c.args.start + i * (c.args.data_words + c.args.pointers)) c.args.data_words c.args.pointers) c.loop-i.i c.args.count c.loop-i-test.true in
    let room = rw r at c.loop-i.invariant.room in
    let l : c.loop-i.i * (c.args.data_words + c.args.pointers) + (c.args.data_words + c.args.pointers) ≤ c.args.count * (c.args.data_words + c.args.pointers) = element_end c.loop-i.i c.args.count (c.args.data_words + c.args.pointers) c.loop-i-test.true in
    (omega arith, (c.requires.forests c.loop-i.i c.loop-i-test.true, (omega (arith, l, c.requires.inside), (c.requires.few, element_room _ _ _ _ _ _ _ room))))

pub fill_elements-loop-i-preserved : goal.fill_elements-loop-i-preserved
fill_elements-loop-i-preserved t c =
    let r = structs_next (λ i. struct_from c.args.bytes.now (c.args.start + i * (c.args.data_words + c.args.pointers)) c.args.data_words c.args.pointers) c.loop-i.i c.args.count c.loop-i-test.true in
    let room = rw r at c.loop-i.invariant.room in
    let done = rw r at c.loop-i.invariant.done in
    let g = element_filled _ _ _ _ _ _ _ _ room c.in_ok-fill_element.ensures in
    record { room = g.0; done = g.1 ∙ done }

pub fill_elements-returns : goal.fill_elements-returns
fill_elements-returns t c =
    sym (elements_done (λ i. struct_from c.args.bytes.now (c.args.start + i * (c.args.data_words + c.args.pointers)) c.args.data_words c.args.pointers) c.args.count c.loop-i.i (c.args.data_words + c.args.pointers) c.loop-i.at c.loop-i.out.items c.loop-i-test.false) ∙ c.loop-i.invariant.done
