-- Pointer after pointer leads to a copy of what the element's does that comes there.
use Rattle.std.proofs.Common.{arith, ◌∙◌, ◌<◌}
use Rattle.std.proofs.lemmas.Result.{err_from_is_err_and}
use Rattle.capnp_wire.specs.Standing.{list_levels, tree_of}
use Rattle.capnp_splices.specs.Picks.{picked_element, splice_seen}
use Rattle.capnp_splices.specs.Splices.{spliced_count, spliced_pointers}
use Rattle.capnp_splices.proofs.Plain.{picked_pointer}
use Rattle.capnp_splices.proofs.Room.{made_within, row_refused, row_within}
use Rattle.capnp_splices.proofs.SoFar.{pointer_fault, pointer_there, pointers_end, pointers_next, pointers_past, pointers_sound, pointers_start}
use Rattle.capnp_splices.proofs.rows.splice_pointers.Goals as goal

pub returns-in_err-init_list-clause-cause : goal.returns-in_err-init_list-clause-cause
returns-in_err-init_list-clause-cause c =
    let p = err_from_is_err_and c.from_residual.result c.from_residual.ensures.1 in
    rw (p.1, p.2) (row_refused (spliced_pointers (splice_seen c.args.splice)) _ c.in_err-init_list.field-0.0 (rw c.count_spliced-count.ensures (pointers_past (splice_seen c.args.splice))) c.in_err-init_list.ensures.cause)

pub loop-index-init : goal.loop-index-init
loop-index-init c = pointers_start c.init_list.new.self (splice_seen c.args.splice) c.count_spliced-count.result c.count_spliced-count.ensures c.in_ok-init_list.ensures.forest c.in_ok-init_list.ensures.tree

pub put_pointer-requires-clause-pointer : goal.put_pointer-requires-clause-pointer
put_pointer-requires-clause-pointer c = pointer_there c.loop-index.arena (splice_seen c.args.splice) c.loop-index.index c.loop-index.invariant (omega (arith, c.loop-index-test.true, c.count_spliced-count.ensures))

pub returns-in_err-put_pointer-clause-cause : goal.returns-in_err-put_pointer-clause-cause
returns-in_err-put_pointer-clause-cause c =
    let p = err_from_is_err_and c.from_residual-in_err-put_pointer.result c.from_residual-in_err-put_pointer.ensures.1 in
    let s = splice_seen c.args.splice in
    let inside : c.loop-index.index < spliced_count s = omega (arith, c.loop-index-test.true, c.count_spliced-count.ensures) in
    rw (p.1, p.2) (λ other.
    made_within (spliced_pointers s) (row_within (spliced_pointers s) _ (pointers_past s) (omega (arith, c.in_ok-init_list.ensures.within, c.count_spliced-count.ensures)))
    ∙ pointer_fault c.loop-index.arena s c.loop-index.index _ _ c.loop-index.invariant inside
    (c.get_pointer_element.ensures.tree ∙ picked_pointer s c.loop-index.index (list_levels c.pick-picked.result.list) (picked_element c.pick-picked.result) c.requires.within inside c.requires.old c.requires.added c.pick-picked.ensures)
    (c.in_err-put_pointer.ensures.cause other))

pub loop-index-preserved : goal.loop-index-preserved
loop-index-preserved c =
    let s = splice_seen c.args.splice in
    let inside : c.loop-index.index < spliced_count s = omega (arith, c.loop-index-test.true, c.count_spliced-count.ensures) in
    pointers_next c.loop-index.arena c.put_pointer.new.arena s c.loop-index.index (tree_of c.get_pointer_element.result) c.loop-index.invariant
    (c.get_pointer_element.ensures.tree ∙ picked_pointer s c.loop-index.index (list_levels c.pick-picked.result.list) (picked_element c.pick-picked.result) c.requires.within inside c.requires.old c.requires.added c.pick-picked.ensures)
    c.in_ok-put_pointer.ensures.message c.in_ok-put_pointer.ensures.tree c.in_ok-put_pointer.ensures.sound

pub returns-clause-tree : goal.returns-clause-tree
returns-clause-tree c = pointers_end c.loop-index.arena (splice_seen c.args.splice) c.loop-index.index c.loop-index.invariant (omega (arith, c.loop-index-test.false, c.loop-index.auto.index-end, c.count_spliced-count.ensures))

pub returns-clause-sound : goal.returns-clause-sound
returns-clause-sound c =
    made_within (spliced_pointers (splice_seen c.args.splice)) (row_within (spliced_pointers (splice_seen c.args.splice)) _ (pointers_past (splice_seen c.args.splice)) (omega (arith, c.in_ok-init_list.ensures.within, c.count_spliced-count.ensures)))
    ∙ pointers_sound c.loop-index.arena (splice_seen c.args.splice) c.loop-index.index c.loop-index.invariant (omega (arith, c.loop-index-test.false, c.loop-index.auto.index-end, c.count_spliced-count.ensures))
