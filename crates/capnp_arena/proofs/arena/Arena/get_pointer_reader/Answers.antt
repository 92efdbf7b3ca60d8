-- The reader is limited in depth, so it has a cut of the tree; a tree within that depth is read whole.
use Rattle.std.proofs.Common.{[], ◌∷◌, ◌∙◌, ap, subst, sym}
use Rattle.capnp_wire.specs.Place.{tree_below}
use Rattle.capnp_arena.specs.Forest.{tree}
use Rattle.capnp_arena.specs.Same.{IsCutOf}
use Rattle.capnp_arena.proofs.Shallow.{cut, deep}
use Rattle.capnp_arena.proofs.arena.Arena.get_pointer_reader.Goals as goal

pub returns-clause-read : goal.returns-clause-read
returns-clause-read c = c.of_word.ensures.tree ∙ ap (λ b. tree_below 130 (b ∷ []) b c.args.at) c.as_slice.ensures.value

pub returns-clause-tree : goal.returns-clause-tree
returns-clause-tree c = λ below. returns-clause-read c ∙ deep c.args.self.now.bytes.items c.args.at c.requires.forest 130 below

pub returns-clause-cut : goal.returns-clause-cut
returns-clause-cut c = subst (λ t. IsCutOf t (tree c.args.self.now.bytes.items c.args.at)) (sym (returns-clause-read c)) (cut c.args.self.now.bytes.items c.args.at c.requires.forest)
