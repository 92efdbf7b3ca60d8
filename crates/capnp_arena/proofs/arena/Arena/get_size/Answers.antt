use Rattle.std.proofs.Common.{sym}
use Rattle.capnp_wire.specs.Facts.Rows.{tree_count_trees_from}
use Rattle.capnp_arena.proofs.arena.Arena.get_size.Goals as goal

pub returns-clause-pointers : goal.returns-clause-pointers
returns-clause-pointers c = sym (tree_count_trees_from _ _ _)
