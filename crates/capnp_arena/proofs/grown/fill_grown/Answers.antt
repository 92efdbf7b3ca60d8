-- Zeros over the whole room, then the part's data and its pointers put at their places, are the part extended to the size.
use Rattle.std.proofs.Common.{arith, rules}
use Rattle.capnp_arena.specs.Steps.Grown.{grown_part_at}
use Rattle.capnp_arena.proofs.Enlarged.{element_grown, part_length, part_tree_count}
use Rattle.capnp_arena.proofs.grown.fill_grown.Goals as goal

pub returns : goal.returns
returns c =
    element_grown c.args.size c.args.at (grown_part_at c.args.bytes.now c.args.row c.args.index) _ _ _ _
    (omega (arith, part_length c.args.bytes.now c.args.row c.args.index, c.requires.fits.0))
    (omega (arith, part_tree_count c.args.bytes.now c.args.row c.args.index, c.requires.fits.1))
    c.requires.long c.put_zeros.ensures.put (search rules) c.in_ok-fill_row.ensures
