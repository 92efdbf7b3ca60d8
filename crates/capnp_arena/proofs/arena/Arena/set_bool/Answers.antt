-- A bit written inside the data of a planted struct changes its bytes alone, so the struct stays planted.
use Rattle.capnp_arena.proofs.WrittenLists.{bit_written}
use Rattle.capnp_arena.proofs.arena.Arena.set_bool.Goals as goal

pub returns-clause-planted : goal.returns-clause-planted
returns-clause-planted c = (bit_written _ _ _ _ _ _ _ c.args.self.now.whole c.requires.planted c.write_bit.ensures.long c.write_bit.ensures.put).planted

pub returns-clause-changes : goal.returns-clause-changes
returns-clause-changes c = (bit_written _ _ _ _ _ _ _ c.args.self.now.whole c.requires.planted c.write_bit.ensures.long c.write_bit.ensures.put).changes

pub returns-clause-tree : goal.returns-clause-tree
returns-clause-tree c = (bit_written _ _ _ _ _ _ _ c.args.self.now.whole c.requires.planted c.write_bit.ensures.long c.write_bit.ensures.put).struct
