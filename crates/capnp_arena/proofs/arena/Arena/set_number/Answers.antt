-- A number written inside the data of a planted struct changes its bytes alone, so the struct stays planted.
use Rattle.capnp_arena.proofs.Written.{number_written}
use Rattle.capnp_arena.proofs.arena.Arena.set_number.Goals as goal

pub returns-clause-planted : goal.returns-clause-planted
returns-clause-planted g c = (number_written _ _ _ _ _ _ _ _ c.args.self.now.whole c.requires.planted c.requires.inside c.write_number.ensures.long c.write_number.ensures.put).planted

pub returns-clause-changes : goal.returns-clause-changes
returns-clause-changes g c = (number_written _ _ _ _ _ _ _ _ c.args.self.now.whole c.requires.planted c.requires.inside c.write_number.ensures.long c.write_number.ensures.put).changes

pub returns-clause-tree : goal.returns-clause-tree
returns-clause-tree g c = (number_written _ _ _ _ _ _ _ _ c.args.self.now.whole c.requires.planted c.requires.inside c.write_number.ensures.long c.write_number.ensures.put).struct
