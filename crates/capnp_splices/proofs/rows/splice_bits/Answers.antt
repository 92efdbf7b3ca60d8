-- Bit after bit is that of the element that comes there.
use Rattle.std.proofs.Common.{arith}
use Rattle.std.proofs.lemmas.Result.{err_from_is_err_and}
use Rattle.capnp_splices.specs.Picks.{picked_element, splice_seen}
use Rattle.capnp_splices.specs.Splices.{spliced_bits}
use Rattle.capnp_splices.proofs.Room.{made_within, row_refused, row_within}
use Rattle.capnp_splices.proofs.SoFar.{bit_there, bits_end, bits_next, bits_past, bits_start}
use Rattle.capnp_splices.proofs.rows.splice_bits.Goals as goal

pub returns-in_err-init_list-clause-cause : goal.returns-in_err-init_list-clause-cause
returns-in_err-init_list-clause-cause c =
    let p = err_from_is_err_and c.from_residual.result c.from_residual.ensures.1 in
    rw (p.1, p.2) (row_refused (spliced_bits (splice_seen c.args.splice)) _ c.in_err-init_list.field-0.0 (rw c.count_spliced-count.ensures (bits_past (splice_seen c.args.splice))) c.in_err-init_list.ensures.cause)

pub loop-index-init : goal.loop-index-init
loop-index-init c = bits_start c.init_list.new.self (splice_seen c.args.splice) c.count_spliced-count.result c.count_spliced-count.ensures c.in_ok-init_list.ensures.forest c.in_ok-init_list.ensures.tree

pub put_bit-requires-clause-bit : goal.put_bit-requires-clause-bit
put_bit-requires-clause-bit c = bit_there c.loop-index.arena (splice_seen c.args.splice) c.loop-index.index c.loop-index.invariant (omega (arith, c.loop-index-test.true, c.count_spliced-count.ensures))

pub loop-index-preserved : goal.loop-index-preserved
loop-index-preserved c =
    bits_next c.loop-index.arena c.put_bit.new.arena (splice_seen c.args.splice) c.loop-index.index c.get_bool_element.result (picked_element c.pick-picked.result) c.loop-index.invariant c.get_bool_element.ensures c.pick-picked.ensures c.put_bit.ensures.message c.put_bit.ensures.tree

pub returns-clause-tree : goal.returns-clause-tree
returns-clause-tree c = bits_end c.loop-index.arena (splice_seen c.args.splice) c.loop-index.index c.loop-index.invariant (omega (arith, c.loop-index-test.false, c.loop-index.auto.index-end, c.count_spliced-count.ensures))

pub returns-clause-sound : goal.returns-clause-sound
returns-clause-sound c = made_within (spliced_bits (splice_seen c.args.splice)) (row_within (spliced_bits (splice_seen c.args.splice)) _ (bits_past (splice_seen c.args.splice)) (omega (arith, c.in_ok-init_list.ensures.within, c.count_spliced-count.ensures)))
