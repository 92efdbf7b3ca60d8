-- The number XORed with its default, written inside the data of a planted struct, changes its bytes alone.
use Rattle.capnp_arena.proofs.Written.{number_written}
use Rattle.capnp_arena.proofs.arena.Arena.set_number_mask.Goals as goal

pub returns-clause-planted : goal.returns-clause-planted
returns-clause-planted g c = (number_written _ _ _ _ _ _ _ _ c.args.self.now.whole c.requires.planted c.requires.inside c.write_number_mask.ensures.long c.write_number_mask.ensures.put).planted

pub returns-clause-changes : goal.returns-clause-changes
returns-clause-changes g c = (number_written _ _ _ _ _ _ _ _ c.args.self.now.whole c.requires.planted c.requires.inside c.write_number_mask.ensures.long c.write_number_mask.ensures.put).changes

pub returns-clause-tree : goal.returns-clause-tree
returns-clause-tree g c = (number_written _ _ _ _ _ _ _ _ c.args.self.now.whole c.requires.planted c.requires.inside c.write_number_mask.ensures.long c.write_number_mask.ensures.put).struct
