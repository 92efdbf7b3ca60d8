-- Every tree in the segment's words is well formed, and one that a forest holds has no faults.
use Rattle.std.proofs.Common.{subst, List, ℕ}
use Rattle.capnp_wire.specs.WellFormed.{IsWellFormed}
use Rattle.capnp_arena.specs.Forest.{tree}
use Rattle.capnp_arena.proofs.Whole.{forest_whole}
use Rattle.capnp_arena.proofs.arena.Arena.tree_is_sound.Goals as goal

pub returns-clause-formed : goal.returns-clause-formed
returns-clause-formed c = subst (λ (b : List ℕ). IsWellFormed (tree b c.args.at)) c.as_slice.ensures.value (c.words_are_well_formed.ensures.trees c.args.at)

pub returns-clause-whole : goal.returns-clause-whole
returns-clause-whole c = forest_whole c.args.self.now.bytes.items c.args.at c.requires
