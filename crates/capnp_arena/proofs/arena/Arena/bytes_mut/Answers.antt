-- The lent bytes lie inside the list of bytes, as the forest says; whatever is left in them is the front of the list's new bytes.
use Rattle.std.proofs.Common.{refl}
use Rattle.capnp_arena.proofs.LeftBytes.{bytes_left, part_inside}
use Rattle.capnp_arena.proofs.arena.Arena.bytes_mut.Goals as goal

pub part_mut-requires : goal.part_mut-requires
part_mut-requires c = record { inside = part_inside c.args.self.now c.args.at _ _ _ c.requires.forest c.requires.there c.requires.inside }

pub returns : goal.returns
returns c = (
  (refl, λ w. refl),
  record {
    lends = tt {0};
    now = c.part_mut.ensures.now;
    long = c.part_mut.ensures.long;
    leaves = bytes_left c.args.self.now c.args.at _ _ _ c.requires.forest c.requires.there c.requires.inside;
  },
)
