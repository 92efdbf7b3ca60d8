-- The tag and the grown elements, filled into the room behind it, are the composite list: each part, extended, is an element.
use Rattle.std.proofs.Common.{arith, rules, ◌+◌, ◌*◌, [], ap, sym}
use Rattle.capnp_wire.specs.Edits.{extended_struct}
use Rattle.capnp_wire.specs.Facts.Bytes.{AreBytes_fits}
use Rattle.capnp_wire.specs.Facts.Filling.{composite_last, elements_room}
use Rattle.capnp_wire.specs.Facts.Rows.{struct_count_structs_from}
use Rattle.capnp_wire.specs.WellFormed.{AreBytes}
use Rattle.capnp_arena.specs.Steps.Grown.{grown_part_at}
use Rattle.capnp_arena.proofs.Enlarged.{parts_extended}
use Rattle.capnp_arena.proofs.grown.encode_all_grown.Goals as goal

pub fill_all_grown-requires-clause-room : goal.fill_all_grown-requires-clause-room
fill_all_grown-requires-clause-room c =
    let h : AreBytes c.args.bytes.now = AreBytes_fits c.args.bytes.now c.type_inv.bytes in
    let n = struct_count_structs_from (λ i. extended_struct c.args.size (grown_part_at c.args.bytes.now c.args.row i)) 0 c.args.count in
    elements_room _ _ _ c.args.count _ c.append_word.new.out.items _ (omega (arith, c.len-at.ensures)) (sym n) c.in_ok-append_room.ensures
    (parts_extended c.args.bytes.now c.args.row c.args.count c.args.size h (omega arith) (omega arith) c.requires.fits.0 c.requires.fits.1)
    (omega (arith, c.requires.small, ap (λ k. k * (c.args.size.data_words + c.args.size.pointers)) n))

pub returns : goal.returns
returns c =
    let h : AreBytes c.args.bytes.now = AreBytes_fits c.args.bytes.now c.type_inv.bytes in
    let n = struct_count_structs_from (λ i. extended_struct c.args.size (grown_part_at c.args.bytes.now c.args.row i)) 0 c.args.count in
    composite_last _ _ _ c.args.count _ [] c.append_word.new.out.items _ _ _ c.make_struct_word.ensures (search rules) (omega (arith, c.len-at.ensures)) (sym n) c.in_ok-append_room.ensures
    (parts_extended c.args.bytes.now c.args.row c.args.count c.args.size h (omega arith) (omega arith) c.requires.fits.0 c.requires.fits.1) c.in_ok-fill_all_grown.ensures
