use Rattle.std.proofs.Common.{sym}
use Rattle.capnp_wire.specs.Facts.Indexed.{nth_tree_from}
use Rattle.capnp_arena.proofs.arena.Arena.get_pointer_field.Goals as goal

pub returns-clause-tree : goal.returns-clause-tree
returns-clause-tree c = sym (nth_tree_from _ _ _ _ c.requires.inside)
