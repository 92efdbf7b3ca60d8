-- The element's place is a step inside a planted list of structs, so it is planted itself and has the element's tree.
use Rattle.std.proofs.Common.{subst}
use Rattle.capnp_arena.specs.Forest.{Planted}
use Rattle.capnp_arena.specs.Facts.Calls.{planted}
use Rattle.capnp_arena.specs.Facts.Elements.{element_planted}
use Rattle.capnp_arena.proofs.ListsRead.{struct_is_element}
use Rattle.capnp_arena.proofs.arena.Arena.get_struct_element.Goals as goal

pub returns-clause-planted : goal.returns-clause-planted
returns-clause-planted c = element_planted _ c.args.list.count _ _ c.args.index c.requires.inside _ (subst (Planted _) c.requires.there (planted _ _ c.requires.forest))

pub returns-clause-tree : goal.returns-clause-tree
returns-clause-tree c = struct_is_element _ _ c.requires.forest _ _ _ _ c.requires.there c.args.index c.requires.inside
