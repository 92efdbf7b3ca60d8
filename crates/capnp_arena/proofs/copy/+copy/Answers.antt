-- A copy goes down the tree: each object is its own bytes and then its pointers, and a row keeps that what precedes is filled.
-- Only the place given and the end change.
use Rattle.std.proofs.Common.{arith, OnOk, ◌++◌, ◌≡◌, ◌+◌, ◌*◌, ◌-◌, ◌/◌, ◌<◌, ◌≤◌, suc, length, refl, sym, ap, subst, ◌∙◌}
use Rattle.std.proofs.lemmas.Result.{err_from_is_err_and}
use Rattle.capnp_wire.specs.Encoding.{bytes_of, spelled_number}
use Rattle.capnp_wire.specs.Facts.EncodedSizes.{length_element_row}
use Rattle.capnp_wire.specs.Facts.Filling.{composite_last, element_put, row_last}
use Rattle.capnp_wire.specs.Facts.Parts.{IsWellFormed_nth_tree}
use Rattle.capnp_wire.specs.Facts.Rows.{IsElement_nth_struct}
use Rattle.capnp_wire.specs.Facts.Structs.{IsWellFormed_element}
use Rattle.capnp_wire.specs.Steps.Filling.{with_pointers}
use Rattle.capnp_wire.specs.Found.{element_structs, found_tree, parts_tree, pointer_tree, pointer_trees}
use Rattle.capnp_wire.specs.Tree.{StructTree, nth_struct, nth_tree, struct_count, tree_count}
use Rattle.capnp_wire.specs.WellFormed.{IsWellFormed}
use Rattle.capnp_wire.specs.Steps.WellFormed.{IsElement}
use Rattle.capnp_arena.specs.Steps.Copies.{Spares}
use Rattle.capnp_arena.proofs.Copying.{added_kept, bits_appended, element_kept, kept_then, pointer_kept, pointer_next, pointer_refused, pointer_spared, room_kept, row_filled, row_sound, struct_after, struct_kept, struct_refused, structs_filled, structs_sound}
use Rattle.capnp_arena.proofs.BlobsFound.{blob_filled}
use Rattle.capnp_arena.proofs.Padding.{padded_whole}
use Rattle.capnp_arena.proofs.PlainRows.{plain_list}
use Rattle.capnp_arena.specs.Facts.Shapes.{element_end}
use Rattle.capnp_wire.specs.Facts.TreeSizes.{nth_struct_smaller, nth_tree_smaller, tree_size, trees_size}
use Rattle.capnp_arena.proofs.copy.+copy.Goals as goal

-- ---- objects ----

pub append_found-returns-in-Bits-clause-copy : goal.append_found-returns-in-Bits-clause-copy
append_found-returns-in-Bits-clause-copy t c =
    let e = bits_appended c.in-Bits.bytes.now c.in-Bits.count ∙ sym (ap (λ f. bytes_of (found_tree f)) c.in-Bits.is) in
    subst (λ z. OnOk c.append_bits.result (c.append_bits.new.self.bytes.items ≡ c.args.arena.now.bytes.items ++ z)) e c.append_bits.ensures.longer

pub append_found-returns-in-Bits-clause-kept : goal.append_found-returns-in-Bits-clause-kept
append_found-returns-in-Bits-clause-kept t c = added_kept c.append_bits.result _ _ _ c.append_bits.ensures.longer c.append_bits.ensures.refused

pub append_found-returns-in-Numbers-clause-kept : goal.append_found-returns-in-Numbers-clause-kept
append_found-returns-in-Numbers-clause-kept t c = added_kept c.append_bytes.result _ _ _ c.append_bytes.ensures.longer c.append_bytes.ensures.refused

pub append_struct-returns-in_err-append_row-clause-kept : goal.append_struct-returns-in_err-append_row-clause-kept
append_struct-returns-in_err-append_row-clause-kept t c = kept_then _ _ _ (added_kept c.append_bytes.result _ _ _ c.append_bytes.ensures.longer c.append_bytes.ensures.refused) c.append_row.ensures.kept

pub append_struct-returns-clause-kept : goal.append_struct-returns-clause-kept
append_struct-returns-clause-kept t c = kept_then _ _ _ (added_kept c.append_bytes.result _ _ _ c.append_bytes.ensures.longer c.append_bytes.ensures.refused) c.append_row.ensures.kept

pub append_row-returns-in_err-fill_row-clause-kept : goal.append_row-returns-in_err-fill_row-clause-kept
append_row-returns-in_err-fill_row-clause-kept t c = room_kept _ _ _ _ _ _ c.count_words-at.ensures.whole c.in_ok-grow.ensures.longer c.fill_row.ensures.kept

pub append_row-returns-clause-kept : goal.append_row-returns-clause-kept
append_row-returns-clause-kept t c = room_kept _ _ _ _ _ _ c.count_words-at.ensures.whole c.in_ok-grow.ensures.longer c.fill_row.ensures.kept

pub append_row-returns-clause-copy : goal.append_row-returns-clause-copy
append_row-returns-clause-copy t c =
    row_last (8 * c.count_words-at.result) c.count_pointers.result (pointer_trees c.args.pointers) c.args.arena.now.bytes.items c.grow.new.self.bytes.items _ (sym c.count_words-at.ensures.whole) c.count_pointers.ensures c.in_ok-grow.ensures.longer c.in_ok-fill_row.ensures.copy

-- ---- composite lists ----

pub append_composite-returns-in-Some-clause-copy : goal.append_composite-returns-in-Some-clause-copy
append_composite-returns-in-Some-clause-copy t c =
    let row : length c.in-Some.bytes.now ≡ 8 * (struct_count (element_structs c.args.size.data_words c.args.size.pointers c.args.elements) * (c.args.size.data_words + c.args.size.pointers)) =
    ap length (sym (c.in-Some.ensures.pointerless.own 0)) ∙ length_element_row c.args.size.data_words c.args.size.pointers 0 (element_structs c.args.size.data_words c.args.size.pointers c.args.elements) c.requires.held.4 in
    plain_list c.args.size.data_words c.args.size.pointers c.count_elements-count.result (element_structs c.args.size.data_words c.args.size.pointers c.args.elements) c.in-Some.bytes.now c.args.arena.now.bytes.items c.append_word.new.self.bytes.items _ (sym c.count_elements-count.ensures) c.in-Some.ensures.pointerless
    (c.in_ok-append_word.ensures.longer ∙ ap (λ w. c.args.arena.now.bytes.items ++ spelled_number 8 w) c.make_struct_word.ensures)
    (c.in_ok-append_bytes.ensures.longer ∙ ap (λ z. c.append_word.new.self.bytes.items ++ z) (padded_whole c.in-Some.bytes.now _ row))

pub append_composite-returns-in-Some-clause-sound : goal.append_composite-returns-in-Some-clause-sound
append_composite-returns-in-Some-clause-sound t c = c.in-Some.ensures.pointerless.faults

pub append_composite-returns-in-Some-clause-kept : goal.append_composite-returns-in-Some-clause-kept
append_composite-returns-in-Some-clause-kept t c = kept_then _ _ _ (added_kept c.append_word.result _ _ _ c.append_word.ensures.longer c.append_word.ensures.refused) (added_kept c.append_bytes.result _ _ _ c.append_bytes.ensures.longer c.append_bytes.ensures.refused)

pub append_composite-returns-in_err-append_bytes-clause-kept : goal.append_composite-returns-in_err-append_bytes-clause-kept
append_composite-returns-in_err-append_bytes-clause-kept t c = kept_then _ _ _ (added_kept c.append_word.result _ _ _ c.append_word.ensures.longer c.append_word.ensures.refused) (added_kept c.append_bytes.result _ _ _ c.append_bytes.ensures.longer c.append_bytes.ensures.refused)

pub append_composite-returns-in_err-grow-clause-kept : goal.append_composite-returns-in_err-grow-clause-kept
append_composite-returns-in_err-grow-clause-kept t c = kept_then _ _ _ (added_kept c.append_word.result _ _ _ c.append_word.ensures.longer c.append_word.ensures.refused) (subst (Spares 0 0 c.append_word.new.self.bytes.items) (sym c.in_err-grow.ensures.refused) (record { longer = omega arith; stays = λ k l o. refl }))

pub append_composite-returns-in_err-fill_elements-clause-kept : goal.append_composite-returns-in_err-fill_elements-clause-kept
append_composite-returns-in_err-fill_elements-clause-kept t c = kept_then _ _ _ (added_kept c.append_word.result _ _ _ c.append_word.ensures.longer c.append_word.ensures.refused) (room_kept _ _ _ _ _ _ c.count_words-at.ensures.whole c.in_ok-grow.ensures.longer c.fill_elements.ensures.kept)

pub append_composite-returns-clause-kept : goal.append_composite-returns-clause-kept
append_composite-returns-clause-kept t c = kept_then _ _ _ (added_kept c.append_word.result _ _ _ c.append_word.ensures.longer c.append_word.ensures.refused) (room_kept _ _ _ _ _ _ c.count_words-at.ensures.whole c.in_ok-grow.ensures.longer c.fill_elements.ensures.kept)

pub append_composite-returns-clause-copy : goal.append_composite-returns-clause-copy
append_composite-returns-clause-copy t c =
    composite_last c.args.size.data_words c.args.size.pointers (8 * c.count_words-at.result) c.count_elements-count.result (element_structs c.args.size.data_words c.args.size.pointers c.args.elements) c.args.arena.now.bytes.items c.append_word.new.self.bytes.items c.grow.new.self.bytes.items _ _
    c.make_struct_word.ensures c.in_ok-append_word.ensures.longer (sym c.count_words-at.ensures.whole) c.count_elements-count.ensures c.in_ok-grow.ensures.longer c.requires.held.4 c.in_ok-fill_elements.ensures.copy

-- ---- pointers ----

pub fill_pointer-returns-in-Some-clause-copy : goal.fill_pointer-returns-in-Some-clause-copy
fill_pointer-returns-in-Some-clause-copy t c =
    let old = c.args.arena.now.bytes.items in
    subst (λ z. OnOk c.fill_blob.result (c.fill_blob.new.arena.bytes.items ≡ z)) (blob_filled c.in-Some.blob (pointer_tree c.args.pointer) c.in-Some.ensures (8 * c.args.at) (length c.args.arena.now.bytes.items / 8 - suc c.args.at) c.args.arena.now.bytes.items) c.fill_blob.ensures.copy

pub fill_pointer-returns-in_err-append_found-clause-kept : goal.fill_pointer-returns-in_err-append_found-clause-kept
fill_pointer-returns-in_err-append_found-clause-kept t c = pointer_spared c.args.at _ _ _ _ (omega (arith, c.requires.inside)) c.put_word.ensures.put c.append_found.ensures.kept

pub fill_pointer-returns-clause-kept : goal.fill_pointer-returns-clause-kept
fill_pointer-returns-clause-kept t c = pointer_spared c.args.at _ _ _ _ (omega (arith, c.requires.inside)) c.put_word.ensures.put c.append_found.ensures.kept

pub fill_row-fill_pointer-requires : goal.fill_row-fill_pointer-requires
fill_row-fill_pointer-requires t c =
    let here : c.loop-i.i < tree_count (pointer_trees c.args.pointers) = omega (arith, c.loop-i-test.true, c.count_pointers-count.ensures) in
    let below = nth_tree_smaller c.loop-i.i (pointer_trees c.args.pointers) here in
    let size : tree_size (pointer_tree c.get_pointer.result) ≡ tree_size (nth_tree (pointer_trees c.args.pointers) c.loop-i.i) = ap tree_size c.get_pointer.ensures in
    (omega (arith, below, size), (subst IsWellFormed (sym c.get_pointer.ensures) (IsWellFormed_nth_tree (pointer_trees c.args.pointers) c.loop-i.i c.requires.held), omega (arith, here, c.requires.inside, c.loop-i.invariant.kept.longer)))

pub fill_row-returns-in_err-fill_pointer-clause-cause : goal.fill_row-returns-in_err-fill_pointer-clause-cause
fill_row-returns-in_err-fill_pointer-clause-cause t c =
    let here : c.loop-i.i < tree_count (pointer_trees c.args.pointers) = omega (arith, c.loop-i-test.true, c.count_pointers-count.ensures) in
    let p = err_from_is_err_and c.from_residual.result c.from_residual.ensures.1 in
    rw (p.1, p.2) (pointer_refused _ _ _ _ _ c.loop-i.invariant _ here c.get_pointer.ensures _ c.in_err-fill_pointer.ensures.cause)

pub fill_row-returns-in_err-fill_pointer-clause-kept : goal.fill_row-returns-in_err-fill_pointer-clause-kept
fill_row-returns-in_err-fill_pointer-clause-kept t c =
    let here : c.loop-i.i < tree_count (pointer_trees c.args.pointers) = omega (arith, c.loop-i-test.true, c.count_pointers-count.ensures) in
    pointer_kept _ _ _ _ _ c.loop-i.invariant _ here c.get_pointer.ensures _ c.fill_pointer.ensures.kept

pub fill_row-loop-i-preserved : goal.fill_row-loop-i-preserved
fill_row-loop-i-preserved t c =
    let here : c.loop-i.i < tree_count (pointer_trees c.args.pointers) = omega (arith, c.loop-i-test.true, c.count_pointers-count.ensures) in
    pointer_next _ _ _ _ _ c.loop-i.invariant _ here c.get_pointer.ensures _ c.loop-i.arena.whole (omega (arith, c.requires.inside, c.loop-i.invariant.kept.longer)) c.requires.held c.in_ok-fill_pointer.ensures.sound c.in_ok-fill_pointer.ensures.copy c.in_ok-fill_pointer.ensures.kept

pub fill_row-returns-clause-copy : goal.fill_row-returns-clause-copy
fill_row-returns-clause-copy t c = row_filled _ _ _ _ _ c.loop-i.invariant (omega (arith, c.loop-i-test.false, c.count_pointers-count.ensures))

pub fill_row-returns-clause-sound : goal.fill_row-returns-clause-sound
fill_row-returns-clause-sound t c = row_sound _ _ _ _ _ c.loop-i.invariant (omega (arith, c.loop-i-test.false, c.count_pointers-count.ensures))

-- ---- structs of a list ----

pub fill_element-returns-in_err-fill_row-clause-kept : goal.fill_element-returns-in_err-fill_row-clause-kept
fill_element-returns-in_err-fill_row-clause-kept t c =
    element_kept c.args.at (length c.args.parts.«data».now / 8) _ c.args.parts.«data».now _ _ _ c.requires.held.1 (omega (arith, c.requires.inside, c.requires.held.1)) c.put_bytes.ensures.put c.fill_row.ensures.kept

pub fill_element-returns-clause-kept : goal.fill_element-returns-clause-kept
fill_element-returns-clause-kept t c =
    element_kept c.args.at (length c.args.parts.«data».now / 8) _ c.args.parts.«data».now _ _ _ c.requires.held.1 (omega (arith, c.requires.inside, c.requires.held.1)) c.put_bytes.ensures.put c.fill_row.ensures.kept

pub fill_element-returns-clause-copy : goal.fill_element-returns-clause-copy
fill_element-returns-clause-copy t c =
    let e : 8 * (c.args.at + length c.args.parts.«data».now / 8) ≡ 8 * c.args.at + length c.args.parts.«data».now = omega (arith, c.requires.held.1) in
    element_put (8 * c.args.at) (parts_tree c.args.parts) c.args.arena.now.bytes.items c.put_bytes.new.out.items _ (omega (arith, c.requires.inside, c.requires.held.1)) c.put_bytes.ensures.put
    (c.in_ok-fill_row.ensures.copy ∙ ap (λ k. with_pointers k (pointer_trees c.args.parts.pointers) c.put_bytes.new.out.items) e)

pub fill_elements-fill_element-requires : goal.fill_elements-fill_element-requires
fill_elements-fill_element-requires t c =
    let es = element_structs c.args.size.data_words c.args.size.pointers c.args.elements in
    let d = c.args.size.data_words in
    let p = c.args.size.pointers in
    let here : c.loop-i.i < struct_count (element_structs c.args.size.data_words c.args.size.pointers c.args.elements) = omega (arith, c.loop-i-test.true, c.count_elements-count.ensures) in
    let below = nth_struct_smaller c.loop-i.i (element_structs c.args.size.data_words c.args.size.pointers c.args.elements) here in
    let size : trees_size (parts_tree c.get_element.result).pointers ≡ trees_size (nth_struct (element_structs c.args.size.data_words c.args.size.pointers c.args.elements) c.loop-i.i).pointers = ap (λ (x : StructTree). trees_size x.pointers) c.get_element.ensures in
    let s : IsElement c.args.size.data_words c.args.size.pointers (parts_tree c.get_element.result) = subst (IsElement c.args.size.data_words c.args.size.pointers) (sym c.get_element.ensures) (IsElement_nth_struct c.args.size.data_words c.args.size.pointers (element_structs c.args.size.data_words c.args.size.pointers c.args.elements) c.loop-i.i c.requires.held here) in
    let l : c.loop-i.i * (c.args.size.data_words + c.args.size.pointers) + (c.args.size.data_words + c.args.size.pointers) ≤ struct_count (element_structs c.args.size.data_words c.args.size.pointers c.args.elements) * (c.args.size.data_words + c.args.size.pointers) = element_end c.loop-i.i _ (c.args.size.data_words + c.args.size.pointers) here in
    (omega (arith, below, size), (IsWellFormed_element c.args.size.data_words c.args.size.pointers (parts_tree c.get_element.result) (omega arith) (omega arith) s, omega (arith, l, s.1, s.2, c.requires.inside, c.loop-i.invariant.kept.longer)))

pub fill_elements-returns-in_err-fill_element-clause-cause : goal.fill_elements-returns-in_err-fill_element-clause-cause
fill_elements-returns-in_err-fill_element-clause-cause t c =
    let here : c.loop-i.i < struct_count (element_structs c.args.size.data_words c.args.size.pointers c.args.elements) = omega (arith, c.loop-i-test.true, c.count_elements-count.ensures) in
    let p = err_from_is_err_and c.from_residual.result c.from_residual.ensures.1 in
    rw (p.1, p.2) (struct_refused _ _ _ _ _ _ _ c.loop-i.invariant _ here c.get_element.ensures _ c.in_err-fill_element.ensures.cause)

pub fill_elements-returns-in_err-fill_element-clause-kept : goal.fill_elements-returns-in_err-fill_element-clause-kept
fill_elements-returns-in_err-fill_element-clause-kept t c =
    let here : c.loop-i.i < struct_count (element_structs c.args.size.data_words c.args.size.pointers c.args.elements) = omega (arith, c.loop-i-test.true, c.count_elements-count.ensures) in
    let s : IsElement c.args.size.data_words c.args.size.pointers (parts_tree c.get_element.result) = subst (IsElement c.args.size.data_words c.args.size.pointers) (sym c.get_element.ensures) (IsElement_nth_struct c.args.size.data_words c.args.size.pointers (element_structs c.args.size.data_words c.args.size.pointers c.args.elements) c.loop-i.i c.requires.held here) in
    struct_kept _ _ _ _ _ _ _ c.loop-i.invariant _ here c.get_element.ensures _ _ (omega (arith, s.1, s.2)) c.fill_element.ensures.kept

pub fill_elements-loop-i-preserved : goal.fill_elements-loop-i-preserved
fill_elements-loop-i-preserved t c =
    let here : c.loop-i.i < struct_count (element_structs c.args.size.data_words c.args.size.pointers c.args.elements) = omega (arith, c.loop-i-test.true, c.count_elements-count.ensures) in
    let s : IsElement c.args.size.data_words c.args.size.pointers (parts_tree c.get_element.result) = subst (IsElement c.args.size.data_words c.args.size.pointers) (sym c.get_element.ensures) (IsElement_nth_struct c.args.size.data_words c.args.size.pointers (element_structs c.args.size.data_words c.args.size.pointers c.args.elements) c.loop-i.i c.requires.held here) in
    struct_after _ _ _ _ _ _ _ c.loop-i.invariant _ here c.get_element.ensures _ _ (omega (arith, s.1, s.2)) c.loop-i.arena.whole (omega (arith, c.requires.inside, c.loop-i.invariant.kept.longer)) c.requires.held c.in_ok-fill_element.ensures.sound c.in_ok-fill_element.ensures.copy c.in_ok-fill_element.ensures.kept

pub fill_elements-returns-clause-copy : goal.fill_elements-returns-clause-copy
fill_elements-returns-clause-copy t c = structs_filled _ _ _ _ _ _ _ c.loop-i.invariant (omega (arith, c.loop-i-test.false, c.count_elements-count.ensures))

pub fill_elements-returns-clause-sound : goal.fill_elements-returns-clause-sound
fill_elements-returns-clause-sound t c = structs_sound _ _ _ _ _ _ _ c.loop-i.invariant (omega (arith, c.loop-i-test.false, c.count_elements-count.ensures))
