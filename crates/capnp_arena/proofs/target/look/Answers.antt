-- A word of a forest points to what its shape says, and looking at such a word tells that shape.
use Rattle.std.proofs.Common.{◌∙◌, subst, sym}
use Rattle.capnp_arena.specs.Shape.{Points}
use Rattle.capnp_arena.specs.Facts.Forests.{points}
use Rattle.capnp_arena.proofs.Lookings.{looked_is}
use Rattle.capnp_arena.proofs.target.look.Goals as goal

pub returns-clause-shape : goal.returns-clause-shape
returns-clause-shape c = c.look_at_word.ensures ∙ looked_is _ _ _ (points _ _ c.requires.forest)

pub returns-clause-points : goal.returns-clause-points
returns-clause-points c = subst (Points _ _) (sym (c.look_at_word.ensures ∙ looked_is _ _ _ (points _ _ c.requires.forest))) (points _ _ c.requires.forest)
