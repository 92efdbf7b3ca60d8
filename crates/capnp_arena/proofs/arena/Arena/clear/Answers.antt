-- The null word written at a place inside the segment leaves a null: forest, tree and changes follow from that one write.
use Rattle.std.proofs.Common.{refl}
use Rattle.capnp_arena.proofs.Made.{cleared_changes, cleared_forest, cleared_tree}
use Rattle.capnp_arena.proofs.NewLists.{cleared}
use Rattle.capnp_arena.proofs.arena.Arena.clear.Goals as goal

pub returns-clause-forest : goal.returns-clause-forest
returns-clause-forest c = cleared_forest _ _ _ _ _ (cleared _ _ _ c.args.self.now.whole c.args.self.now.few c.requires.inside c.put_word.ensures.put) refl

pub returns-clause-tree : goal.returns-clause-tree
returns-clause-tree c = cleared_tree _ _ _ _ _ (cleared _ _ _ c.args.self.now.whole c.args.self.now.few c.requires.inside c.put_word.ensures.put) refl

pub returns-clause-changes : goal.returns-clause-changes
returns-clause-changes c = cleared_changes _ _ _ _ _ (cleared _ _ _ c.args.self.now.whole c.args.self.now.few c.requires.inside c.put_word.ensures.put) refl
