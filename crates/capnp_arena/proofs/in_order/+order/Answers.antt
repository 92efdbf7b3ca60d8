use Rattle.std.proofs.Common.{None, Option, Some, arith, refl, ◌≡◌, ◌+◌, ◌-◌, ◌*◌, ◌<◌, ◌≤◌, ◌∙◌, suc, sym, ap, subst, List, ℕ}
use Rattle.capnp_wire.specs.Facts.Bytes.{AreBytes_fits}
use Rattle.capnp_wire.specs.Locate.{count, element_size_number, pointer_kind, list_words, offset}
use Rattle.capnp_wire.specs.Slot.{number_at}
use Rattle.capnp_wire.specs.WellFormed.{AreBytes}
use Rattle.capnp_arena.specs.Forest.{Forest}
use Rattle.capnp_arena.specs.Steps.InOrder.{AreLaid, IfKnown, IsLaid, IsRowLaid}
use Rattle.capnp_arena.specs.Steps.Looked.{looked_shape, shape_found}
use Rattle.capnp_arena.specs.Shape.{CompositeIn, ListIn, NoShape, Points, StructIn, end_of, shape_at, word_count}
use Rattle.capnp_arena.proofs.Counted.{element_rows, ends_at, list_row}
use Rattle.capnp_arena.proofs.LaidOut.{composite_laid, null_laid, plain_laid, plain_structs_laid, pointers_laid, row_more_laid, struct_laid, structs_end_laid, structs_more_laid, zero_laid}
use Rattle.capnp_arena.specs.Facts.Forests.{points}
use Rattle.capnp_arena.specs.Facts.Shapes.{itself_inside}
use Rattle.capnp_arena.proofs.Lookings.{looked_is, of_list}
use Rattle.capnp_arena.proofs.in_order.+order.Goals as goal

-- what is left of a row, and what is left of it after one more
row_left : (bytes : List ℕ) (first i count end next last : ℕ) → AreBytes bytes → i < count → first + count ≤ end → IsLaid bytes (first + i) end next → IsRowLaid bytes (first + (i + 1)) (count - (i + 1)) next last → IsRowLaid bytes (first + i) (count - i) end last
row_left bytes first i count end next last b l e h r =
    subst (λ n. IsRowLaid bytes (first + i) n end last) {x = suc (count - (i + 1))} {y = count - i} (omega (arith, l))
    (row_more_laid bytes (first + i) (count - (i + 1)) end next last b (omega (arith, l, e)) h (subst (λ a. IsRowLaid bytes a (count - (i + 1)) next last) {x = first + (i + 1)} {y = suc (first + i)} (omega arith) r))

structs_left : (bytes : List ℕ) (start d p i count end next last : ℕ) → AreBytes bytes → i < count → start + count * (d + p) ≤ end → IsRowLaid bytes (start + i * (d + p) + d) p end next → AreLaid bytes start d p (i + 1) (count - (i + 1)) next last → AreLaid bytes start d p i (count - i) end last
structs_left bytes start d p i count end next last b l e h r =
    let q : i + suc (count - (i + 1)) ≡ count = omega (arith, l) in
    let m : (i + suc (count - (i + 1))) * (d + p) ≡ count * (d + p) = ap (λ k. k * (d + p)) q in
    subst (λ n. AreLaid bytes start d p i n end last) {x = suc (count - (i + 1))} {y = count - i} (omega (arith, l))
    (structs_more_laid bytes start d p i (count - (i + 1)) end next last b (omega (arith, m, e)) h (subst (λ k. AreLaid bytes start d p k (count - (i + 1)) next last) {x = i + 1} {y = suc i} (omega arith) r))

if_known : (r : Option ℕ) (P Q : ℕ → Type 0) → ((n : ℕ) → P n → Q n) → IfKnown r P → IfKnown r Q
if_known (Some n) P Q f h = f n h
if_known None P Q f h = h

-- ---- a pointer ----

pub follow-returns-in-Null : goal.follow-returns-in-Null
follow-returns-in-Null t c =
    let e : shape_at c.args.bytes.now c.args.w ≡ NoShape = sym c.look.ensures.shape ∙ ap shape_found c.in-Null.is in
    let q : Points c.args.bytes.now c.args.w (NoShape) = subst (Points c.args.bytes.now c.args.w) (ap shape_found c.in-Null.is) c.look.ensures.points in
    null_laid c.args.bytes.now c.args.w c.requires.forest c.args.end c.requires.inside e q

pub follow-returns-then-words-eq0 : goal.follow-returns-then-words-eq0
follow-returns-then-words-eq0 t c =
    let e : shape_at c.args.bytes.now c.args.w ≡ StructIn c.in-Struct.start c.in-Struct.data_words c.in-Struct.pointers = sym c.look.ensures.shape ∙ ap shape_found c.in-Struct.is in
    let q : Points c.args.bytes.now c.args.w (StructIn c.in-Struct.start c.in-Struct.data_words c.in-Struct.pointers) = subst (Points c.args.bytes.now c.args.w) (ap shape_found c.in-Struct.is) c.look.ensures.points in
    zero_laid c.args.bytes.now c.args.w c.requires.forest _ _ _ c.args.end (omega (arith, c.if-words-eq0.true)) c.requires.inside e q

pub follow-returns-else-start-end : goal.follow-returns-else-start-end
follow-returns-else-start-end t c =
    let e : shape_at c.args.bytes.now c.args.w ≡ StructIn c.in-Struct.start c.in-Struct.data_words c.in-Struct.pointers = sym c.look.ensures.shape ∙ ap shape_found c.in-Struct.is in
    let q : Points c.args.bytes.now c.args.w (StructIn c.in-Struct.start c.in-Struct.data_words c.in-Struct.pointers) = subst (Points c.args.bytes.now c.args.w) (ap shape_found c.in-Struct.is) c.look.ensures.points in
    let some : 0 < c.in-Struct.data_words + c.in-Struct.pointers = omega (arith, c.if-words-eq0.false) in
    let same : c.in-Struct.start ≡ c.args.end = omega (arith, c.if-start-end.false) in
    if_known c.follow_row.result _ _ (λ n x. subst (λ a. IsLaid c.args.bytes.now c.args.w a n) same (struct_laid c.args.bytes.now c.args.w c.requires.forest c.in-Struct.start c.in-Struct.data_words c.in-Struct.pointers n some e q x)) c.follow_row.ensures

pub follow-follow_row-requires-then-element_size-eq6 : goal.follow-follow_row-requires-then-element_size-eq6
follow-follow_row-requires-then-element_size-eq6 t c =
    let e : shape_at c.args.bytes.now c.args.w ≡ ListIn c.in-List.start c.in-List.element_size c.in-List.count = sym c.look.ensures.shape ∙ ap shape_found c.in-List.is in
    let q : Points c.args.bytes.now c.args.w (ListIn c.in-List.start c.in-List.element_size c.in-List.count) = subst (Points c.args.bytes.now c.args.w) (ap shape_found c.in-List.is) c.look.ensures.points in
    let f : shape_at c.args.bytes.now c.args.w ≡ ListIn c.in-List.start 6 c.in-List.count = e ∙ ap (λ k. ListIn c.in-List.start k c.in-List.count) c.if-element_size-eq6.true in
    let i : c.args.w < word_count c.args.bytes.now = itself_inside _ _ (ListIn c.in-List.start c.in-List.element_size c.in-List.count) q in
    let n : end_of (ListIn c.in-List.start 6 c.in-List.count) ≤ word_count c.args.bytes.now = ends_at _ _ c.requires.forest _ f in
    (omega (arith, q.0, i), (list_row _ _ c.requires.forest _ _ f, (c.requires.few, (omega arith, omega (arith, n)))))

pub follow-returns-then-element_size-eq6 : goal.follow-returns-then-element_size-eq6
follow-returns-then-element_size-eq6 t c =
    let e : shape_at c.args.bytes.now c.args.w ≡ ListIn c.in-List.start c.in-List.element_size c.in-List.count = sym c.look.ensures.shape ∙ ap shape_found c.in-List.is in
    let q : Points c.args.bytes.now c.args.w (ListIn c.in-List.start c.in-List.element_size c.in-List.count) = subst (Points c.args.bytes.now c.args.w) (ap shape_found c.in-List.is) c.look.ensures.points in
    let f : shape_at c.args.bytes.now c.args.w ≡ ListIn c.in-List.start 6 c.in-List.count = e ∙ ap (λ k. ListIn c.in-List.start k c.in-List.count) c.if-element_size-eq6.true in
    let g : Points c.args.bytes.now c.args.w (ListIn c.in-List.start 6 c.in-List.count) = subst (λ k. Points c.args.bytes.now c.args.w (ListIn c.in-List.start k c.in-List.count)) c.if-element_size-eq6.true q in
    let same : c.in-List.start ≡ c.args.end = omega (arith, c.if-start-end-2.false) in
    if_known c.follow_row-then-element_size-eq6.result _ _ (λ n x. subst (λ a. IsLaid c.args.bytes.now c.args.w a n) same (pointers_laid c.args.bytes.now c.args.w c.requires.forest c.in-List.start c.in-List.count n f g x)) c.follow_row-then-element_size-eq6.ensures

pub follow-returns-else-element_size-eq6 : goal.follow-returns-else-element_size-eq6
follow-returns-else-element_size-eq6 t c =
    let e : shape_at c.args.bytes.now c.args.w ≡ ListIn c.in-List.start c.in-List.element_size c.in-List.count = sym c.look.ensures.shape ∙ ap shape_found c.in-List.is in
    let q : Points c.args.bytes.now c.args.w (ListIn c.in-List.start c.in-List.element_size c.in-List.count) = subst (Points c.args.bytes.now c.args.w) (ap shape_found c.in-List.is) c.look.ensures.points in
    let same : c.in-List.start ≡ c.args.end = omega (arith, c.if-start-end-2.false) in
    if_known c.end_of_pointerless.result _ _ (λ n x. subst (λ a. IsLaid c.args.bytes.now c.args.w a n) same (plain_laid c.args.bytes.now c.args.w c.requires.forest c.in-List.start c.in-List.element_size c.in-List.count n (omega (arith, q.2, c.if-element_size-eq6.false)) e q x.0 x.1 x.2)) c.end_of_pointerless.ensures

pub follow-returns-then-pointers-eq0 : goal.follow-returns-then-pointers-eq0
follow-returns-then-pointers-eq0 t c =
    let e : shape_at c.args.bytes.now c.args.w ≡ CompositeIn c.in-Composite.tag c.in-Composite.count c.in-Composite.data_words c.in-Composite.pointers = sym c.look.ensures.shape ∙ ap shape_found c.in-Composite.is in
    let q : Points c.args.bytes.now c.args.w (CompositeIn c.in-Composite.tag c.in-Composite.count c.in-Composite.data_words c.in-Composite.pointers) = subst (Points c.args.bytes.now c.args.w) (ap shape_found c.in-Composite.is) c.look.ensures.points in
    let same : c.in-Composite.tag ≡ c.args.end = omega (arith, c.if-tag-end.false) in
    subst (λ a. IsLaid c.args.bytes.now c.args.w a (c.in-Composite.tag + 1 + c.in-Composite.count * (c.in-Composite.data_words + c.in-Composite.pointers))) same
    (composite_laid c.args.bytes.now c.args.w c.requires.forest c.in-Composite.tag c.in-Composite.count c.in-Composite.data_words c.in-Composite.pointers _ e q (plain_structs_laid c.args.bytes.now (c.in-Composite.tag + 1) c.in-Composite.data_words c.in-Composite.pointers c.in-Composite.count c.if-pointers-eq0.true q.6))

pub follow-follow_elements-requires : goal.follow-follow_elements-requires
follow-follow_elements-requires t c =
    let e : shape_at c.args.bytes.now c.args.w ≡ CompositeIn c.in-Composite.tag c.in-Composite.count c.in-Composite.data_words c.in-Composite.pointers = sym c.look.ensures.shape ∙ ap shape_found c.in-Composite.is in
    let q : Points c.args.bytes.now c.args.w (CompositeIn c.in-Composite.tag c.in-Composite.count c.in-Composite.data_words c.in-Composite.pointers) = subst (Points c.args.bytes.now c.args.w) (ap shape_found c.in-Composite.is) c.look.ensures.points in
    (omega (arith, q.0, q.6), (element_rows _ _ c.requires.forest _ _ _ _ e, (c.requires.few, (omega arith, (q.6, (q.4, q.2, q.3))))))

pub follow-returns-else-pointers-eq0 : goal.follow-returns-else-pointers-eq0
follow-returns-else-pointers-eq0 t c =
    let e : shape_at c.args.bytes.now c.args.w ≡ CompositeIn c.in-Composite.tag c.in-Composite.count c.in-Composite.data_words c.in-Composite.pointers = sym c.look.ensures.shape ∙ ap shape_found c.in-Composite.is in
    let q : Points c.args.bytes.now c.args.w (CompositeIn c.in-Composite.tag c.in-Composite.count c.in-Composite.data_words c.in-Composite.pointers) = subst (Points c.args.bytes.now c.args.w) (ap shape_found c.in-Composite.is) c.look.ensures.points in
    let same : c.in-Composite.tag ≡ c.args.end = omega (arith, c.if-tag-end.false) in
    if_known c.follow_elements.result _ _ (λ n x. subst (λ a. IsLaid c.args.bytes.now c.args.w a n) same (composite_laid c.args.bytes.now c.args.w c.requires.forest c.in-Composite.tag c.in-Composite.count c.in-Composite.data_words c.in-Composite.pointers n e q x)) c.follow_elements.ensures

-- ---- a pointer, in line ----

-- its word is inside
pub follow_at-get_inner_word-word-requires : goal.follow_at-get_inner_word-word-requires
follow_at-get_inner_word-word-requires t c =
    let i : c.args.w < word_count c.args.bytes.now = itself_inside _ _ _ (points _ _ c.requires.forest) in
    omega (arith, i)

pub follow_at-returns-then-word-eq0 : goal.follow_at-returns-then-word-eq0
follow_at-returns-then-word-eq0 t c =
    let bytes = c.args.bytes.now in let w = c.args.w in
    let e : shape_at bytes w ≡ NoShape = sym (looked_is bytes w _ (points bytes w c.requires.forest)) ∙ ap (looked_shape bytes w) (sym c.get_inner_word-word.ensures ∙ c.if-word-eq0.true) in
    null_laid bytes w c.requires.forest c.args.end c.requires.inside e (subst (Points bytes w) e (points bytes w c.requires.forest))

-- bytes that start where the targets before them end
bytes_there : (bytes : List ℕ) (w end word : ℕ) → Forest bytes w → word ≡ number_at 8 w bytes → w < end → pointer_kind word ≡ 1 → element_size_number word ≡ 2 → offset word ≡ end - w - 1 → shape_at bytes w ≡ ListIn end 2 (count word)
bytes_there bytes w end word f n l k s o =
    sym (looked_is bytes w _ (points bytes w f)) ∙ ap (looked_shape bytes w) (sym n)
    ∙ of_list bytes w word end 2 (count word) (λ z. omega (arith, z, k)) k s refl (λ z. omega (arith, z)) (omega (arith, o, l))

pub follow_at-end_of_pointerless-requires-clause-inside : goal.follow_at-end_of_pointerless-requires-clause-inside
follow_at-end_of_pointerless-requires-clause-inside t c =
    let bytes = c.args.bytes.now in let w = c.args.w in let word = c.get_inner_word-word.result in
    let h = c.if-leads_to_bytes.ensures refl in
    let e : shape_at bytes w ≡ ListIn c.args.end 2 (count word) = bytes_there bytes w c.args.end word c.requires.forest c.get_inner_word-word.ensures c.requires.before h.0 h.1 h.2 in
    let q : Points bytes w (ListIn c.args.end 2 (count word)) = subst (Points bytes w) e (points bytes w c.requires.forest) in
    subst (λ n. c.args.end + list_words 2 n ≤ word_count bytes) {x = count word} {y = c.get_count.result} (sym c.get_count.ensures) q.4

pub follow_at-returns-then-leads_to_bytes : goal.follow_at-returns-then-leads_to_bytes
follow_at-returns-then-leads_to_bytes t c =
    let bytes = c.args.bytes.now in let w = c.args.w in let word = c.get_inner_word-word.result in
    let h = c.if-leads_to_bytes.ensures refl in
    let e : shape_at bytes w ≡ ListIn c.args.end 2 (count word) = bytes_there bytes w c.args.end word c.requires.forest c.get_inner_word-word.ensures c.requires.before h.0 h.1 h.2 in
    let f : shape_at bytes w ≡ ListIn c.args.end 2 c.get_count.result = e ∙ ap (ListIn c.args.end 2) (sym c.get_count.ensures) in
    let q : Points bytes w (ListIn c.args.end 2 c.get_count.result) = subst (Points bytes w) f (points bytes w c.requires.forest) in
    if_known c.end_of_pointerless.result _ _ (λ n x. plain_laid bytes w c.requires.forest c.args.end 2 c.get_count.result n (omega arith) f q x.0 x.1 x.2) c.end_of_pointerless.ensures

pub follow_at-returns-in-Null : goal.follow_at-returns-in-Null
follow_at-returns-in-Null t c =
    let e : shape_at c.args.bytes.now c.args.w ≡ NoShape = sym c.look.ensures.shape ∙ ap shape_found c.in-Null.is in
    let q : Points c.args.bytes.now c.args.w (NoShape) = subst (Points c.args.bytes.now c.args.w) (ap shape_found c.in-Null.is) c.look.ensures.points in
    null_laid c.args.bytes.now c.args.w c.requires.forest c.args.end c.requires.inside e q

pub follow_at-returns-else-depth-least : goal.follow_at-returns-else-depth-least
follow_at-returns-else-depth-least t c =
    let e : shape_at c.args.bytes.now c.args.w ≡ ListIn c.in-List.start c.in-List.element_size c.in-List.count = sym c.look.ensures.shape ∙ ap shape_found c.in-List.is in
    let q : Points c.args.bytes.now c.args.w (ListIn c.in-List.start c.in-List.element_size c.in-List.count) = subst (Points c.args.bytes.now c.args.w) (ap shape_found c.in-List.is) c.look.ensures.points in
    let same : c.in-List.start ≡ c.args.end = omega (arith, c.if-start-end.false) in
    if_known c.end_of_pointerless-in-List.result _ _ (λ n x. subst (λ a. IsLaid c.args.bytes.now c.args.w a n) same (plain_laid c.args.bytes.now c.args.w c.requires.forest c.in-List.start c.in-List.element_size c.in-List.count n (omega (arith, q.2, c.if-element_size-eq6.false)) e q x.0 x.1 x.2)) c.end_of_pointerless-in-List.ensures

-- ---- rows ----

pub follow_row-loop-i-preserved : goal.follow_row-loop-i-preserved
follow_row-loop-i-preserved t c = record {
  laid = λ last r. c.loop-i.invariant.laid last (row_left c.args.bytes.now c.args.first c.loop-i.i c.args.count c.loop-i.next c.in_ok-next.next last (AreBytes_fits c.args.bytes.now c.type_inv.bytes) c.loop-i-test.true (omega (arith, c.requires.before, c.loop-i.invariant.after)) c.in_ok-next.ensures r);
  after = omega (arith, c.loop-i.invariant.after, c.in_ok-next.ensures.after);
  inside = c.in_ok-next.ensures.inside;
}

pub follow_elements-loop-i-preserved : goal.follow_elements-loop-i-preserved
follow_elements-loop-i-preserved t c = record {
  laid = λ last r. c.loop-i.invariant.laid last (structs_left c.args.bytes.now c.args.start c.args.data_words c.args.pointers c.loop-i.i c.args.count c.loop-i.next c.in_ok-next.next last (AreBytes_fits c.args.bytes.now c.type_inv.bytes) c.loop-i-test.true (omega (arith, c.requires.before, c.loop-i.invariant.after)) c.in_ok-next.ensures r);
  after = omega (arith, c.loop-i.invariant.after, c.in_ok-next.ensures.after);
  inside = c.in_ok-next.ensures.inside;
}

pub follow_elements-returns : goal.follow_elements-returns
follow_elements-returns t c =
    c.loop-i.invariant.laid c.loop-i.next (subst (λ n. AreLaid c.args.bytes.now c.args.start c.args.data_words c.args.pointers c.loop-i.i n c.loop-i.next c.loop-i.next) {x = 0} {y = c.args.count - c.loop-i.i} (omega (arith, c.loop-i-test.false))
    (structs_end_laid c.args.bytes.now c.args.start c.args.data_words c.args.pointers c.loop-i.i c.loop-i.next c.loop-i.invariant.inside))
