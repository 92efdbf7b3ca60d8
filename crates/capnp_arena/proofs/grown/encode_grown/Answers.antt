-- The room for one struct holds its part and what its pointers lead to, so filling it gives the extended struct's bytes.
use Rattle.std.proofs.Common.{arith, rules}
use Rattle.capnp_wire.specs.Edits.{extended_struct}
use Rattle.capnp_wire.specs.Facts.Bytes.{AreBytes_fits}
use Rattle.capnp_wire.specs.WellFormed.{AreBytes}
use Rattle.capnp_arena.specs.Steps.Grown.{grown_part_at}
use Rattle.capnp_arena.proofs.Encodings.{row_held}
use Rattle.capnp_arena.proofs.Enlarged.{one_grown, one_room, part_extended, part_tree_count}
use Rattle.capnp_arena.proofs.grown.encode_grown.Goals as goal

pub fill_grown-requires-clause-room : goal.fill_grown-requires-clause-room
fill_grown-requires-clause-room c =
    let h : AreBytes c.args.bytes.now = AreBytes_fits c.args.bytes.now c.type_inv.bytes in
    one_room c.args.size (grown_part_at c.args.bytes.now c.args.row 0) _ (search rules) (omega (arith, part_tree_count c.args.bytes.now c.args.row 0, c.requires.fits.1)) (row_held _ _ _ h) c.requires.small

pub returns : goal.returns
returns c =
    let h : AreBytes c.args.bytes.now = AreBytes_fits c.args.bytes.now c.type_inv.bytes in
    one_grown c.args.size (extended_struct c.args.size (grown_part_at c.args.bytes.now c.args.row 0)) c.append_room.new.out.items _ (search rules)
    (part_extended c.args.bytes.now c.args.row 0 c.args.size h (omega arith) (omega arith) c.requires.fits.0 c.requires.fits.1) c.in_ok-fill_grown.ensures
