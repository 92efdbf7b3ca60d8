-- The loop keeps that the parts before `i` are filled and the rest have room; of structs of size zero there is nothing to fill.
use Rattle.std.proofs.Common.{arith, ◌+◌, ◌∙◌, sym}
use Rattle.capnp_wire.specs.Edits.{extended_struct}
use Rattle.capnp_wire.specs.Facts.Bytes.{AreBytes_fits}
use Rattle.capnp_wire.specs.Facts.Filling.{element_filled}
use Rattle.capnp_wire.specs.Tree.{structs_from}
use Rattle.capnp_wire.specs.WellFormed.{AreBytes}
use Rattle.capnp_arena.specs.Steps.Grown.{grown_part_at}
use Rattle.capnp_arena.proofs.Encodings.{elements_done, nothing_filled, row_held, structs_next}
use Rattle.capnp_arena.proofs.Enlarged.{grown_room, part_tree_count}
use Rattle.capnp_arena.proofs.grown.fill_all_grown.Goals as goal

pub fill_grown-requires-clause-long : goal.fill_grown-requires-clause-long
fill_grown-requires-clause-long c =
    let h : AreBytes c.args.bytes.now = AreBytes_fits c.args.bytes.now c.type_inv.bytes in
    let room = rw (structs_next (λ i. extended_struct c.args.size (grown_part_at c.args.bytes.now c.args.row i)) c.loop-i.i c.args.count c.loop-i-test.true) at c.loop-i.invariant.room in
    (grown_room c.args.size _ (grown_part_at c.args.bytes.now c.args.row c.loop-i.i) _ _ (omega (arith, part_tree_count c.args.bytes.now c.args.row c.loop-i.i, c.requires.fits.1)) (row_held _ _ _ h) room).0

pub fill_grown-requires-clause-room : goal.fill_grown-requires-clause-room
fill_grown-requires-clause-room c =
    let h : AreBytes c.args.bytes.now = AreBytes_fits c.args.bytes.now c.type_inv.bytes in
    let room = rw (structs_next (λ i. extended_struct c.args.size (grown_part_at c.args.bytes.now c.args.row i)) c.loop-i.i c.args.count c.loop-i-test.true) at c.loop-i.invariant.room in
    (grown_room c.args.size _ (grown_part_at c.args.bytes.now c.args.row c.loop-i.i) _ _ (omega (arith, part_tree_count c.args.bytes.now c.args.row c.loop-i.i, c.requires.fits.1)) (row_held _ _ _ h) room).1

pub loop-i-preserved : goal.loop-i-preserved
loop-i-preserved c =
    let r = structs_next (λ i. extended_struct c.args.size (grown_part_at c.args.bytes.now c.args.row i)) c.loop-i.i c.args.count c.loop-i-test.true in
    let room = rw r at c.loop-i.invariant.room in
    let done = rw r at c.loop-i.invariant.done in
    let g = element_filled _ _ _ _ _ _ _ _ room c.in_ok-fill_grown.ensures in
    record { room = g.0; done = g.1 ∙ done }

pub returns : goal.returns
returns c =
    sym (elements_done (λ i. extended_struct c.args.size (grown_part_at c.args.bytes.now c.args.row i)) c.args.count c.loop-i.i (c.args.size.data_words + c.args.size.pointers) c.loop-i.at c.loop-i.out.items c.loop-i-test.false) ∙ c.loop-i.invariant.done

pub returns-then-size-eq0 : goal.returns-then-size-eq0
returns-then-size-eq0 c =
    sym (nothing_filled c.args.size.data_words c.args.size.pointers c.args.at (structs_from (λ i. extended_struct c.args.size (grown_part_at c.args.bytes.now c.args.row i)) 0 c.args.count) c.args.out.now.items c.if-size-eq0.true c.requires.room.0)
