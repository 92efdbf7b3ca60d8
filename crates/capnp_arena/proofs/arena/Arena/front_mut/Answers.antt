-- The lent bytes are a front of what the word leads to, so whatever is left in them is the new front of that tree.
use Rattle.std.proofs.Common.{refl}
use Rattle.capnp_arena.proofs.Fronts.{front_left}
use Rattle.capnp_arena.proofs.arena.Arena.front_mut.Goals as goal

pub returns : goal.returns
returns c = (
  (refl, λ w. refl),
  record {
    lends = tt {0};
    now = c.part_mut.ensures.now;
    long = c.part_mut.ensures.long;
    leaves = front_left c.args.self.now c.args.at c.requires.forest c.args.start c.args.count c.requires.front;
  },
)
