-- Number after number is that of the element that comes there.
use Rattle.std.proofs.Common.{arith, ◌∙◌, ap, ◌<◌, ◌^◌}
use Rattle.std.proofs.lemmas.Result.{err_from_is_err_and}
use Rattle.capnp_wire.specs.Reading.{element_number}
use Rattle.capnp_wire.specs.Standing.{list_of}
use Rattle.capnp_splices.specs.Facts.Carried.{number_small}
use Rattle.capnp_splices.specs.Picks.{picked_element, splice_seen}
use Rattle.capnp_splices.specs.Splices.{spliced_numbers}
use Rattle.capnp_splices.proofs.Plain.{new_numbers, no_structs, numbers_past}
use Rattle.capnp_splices.proofs.Room.{made_within, row_refused, row_within}
use Rattle.capnp_splices.proofs.SoFar.{number_there, numbers_end, numbers_next, numbers_start}
use Rattle.capnp_splices.proofs.rows.splice_numbers.Goals as goal

pub init_list-requires-clause-simple : goal.init_list-requires-clause-simple
init_list-requires-clause-simple g c = no_structs c.args.size g.T.PrimitiveElement.width c.requires.width c.requires.some

pub returns-in_err-init_list-clause-cause : goal.returns-in_err-init_list-clause-cause
returns-in_err-init_list-clause-cause g c =
    let p = err_from_is_err_and c.from_residual.result c.from_residual.ensures.1 in
    let w = g.T.PrimitiveElement.width in
    rw (p.1, p.2) (row_refused (spliced_numbers w (splice_seen c.args.splice)) _ c.in_err-init_list.field-0.0 (rw c.count_spliced-count.ensures (numbers_past w (splice_seen c.args.splice) c.requires.some)) c.in_err-init_list.ensures.cause)

pub loop-index-init : goal.loop-index-init
loop-index-init g c =
    numbers_start c.init_list.new.self g.T.PrimitiveElement.width (splice_seen c.args.splice) c.count_spliced-count.result c.count_spliced-count.ensures c.in_ok-init_list.ensures.forest
    (c.in_ok-init_list.ensures.tree ∙ new_numbers c.args.size g.T.PrimitiveElement.width c.count_spliced-count.result c.requires.width c.requires.some)

pub put_number-requires-clause-number : goal.put_number-requires-clause-number
put_number-requires-clause-number g c = number_there c.loop-index.arena g.T.PrimitiveElement.width (splice_seen c.args.splice) c.loop-index.index c.loop-index.invariant (omega (arith, c.loop-index-test.true, c.count_spliced-count.ensures))

pub loop-index-preserved : goal.loop-index-preserved
loop-index-preserved g c =
    let w = g.T.PrimitiveElement.width in
    let n = element_number w (list_of c.pick-picked.result.list) c.pick-picked.result.index in
    let small : n < 256 ^ w = number_small w (list_of c.pick-picked.result.list) c.pick-picked.result.index c.list_is_well_formed.ensures in
    numbers_next c.loop-index.arena c.put_number.new.arena w (splice_seen c.args.splice) c.loop-index.index _ (picked_element c.pick-picked.result) c.loop-index.invariant (omega (arith, c.loop-index-test.true, c.count_spliced-count.ensures))
    (ap g.T.PrimitiveElement.to_number c.get_data_element.ensures ∙ g.met.T.PrimitiveElement.number_kept n small)
    c.pick-picked.ensures c.put_number.ensures.message c.put_number.ensures.tree

pub returns-clause-tree : goal.returns-clause-tree
returns-clause-tree g c = numbers_end c.loop-index.arena g.T.PrimitiveElement.width (splice_seen c.args.splice) c.loop-index.index c.loop-index.invariant (omega (arith, c.loop-index-test.false, c.loop-index.auto.index-end, c.count_spliced-count.ensures))

pub returns-clause-sound : goal.returns-clause-sound
returns-clause-sound g c =
    let w = g.T.PrimitiveElement.width in
    made_within (spliced_numbers w (splice_seen c.args.splice)) (row_within (spliced_numbers w (splice_seen c.args.splice)) _ (numbers_past w (splice_seen c.args.splice) c.requires.some) (omega (arith, c.in_ok-init_list.ensures.within, c.count_spliced-count.ensures)))
