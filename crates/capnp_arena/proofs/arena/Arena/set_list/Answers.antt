-- The list read is well formed, so its sound copy, made at the end, has the list's tree.
use Rattle.std.proofs.Common.{sym, subst, ◌∙◌}
use Rattle.capnp_wire.specs.Found.{found_tree}
use Rattle.capnp_wire.specs.WellFormed.{IsWellFormed}
use Rattle.capnp_arena.proofs.NewTrees.{tree_made}
use Rattle.capnp_arena.proofs.arena.Arena.set_list.Goals as goal

pub copy_found-requires-clause-held : goal.copy_found-requires-clause-held
copy_found-requires-clause-held c = subst IsWellFormed (sym (c.found.ensures)) c.list_is_well_formed.ensures

pub returns-clause-forest : goal.returns-clause-forest
returns-clause-forest c = (tree_made _ _ _ (found_tree c.found.result) (subst IsWellFormed (sym (c.found.ensures)) c.list_is_well_formed.ensures) c.in_ok-copy_found.ensures.sound c.in_ok-copy_found.ensures.made).forest

pub returns-clause-tree : goal.returns-clause-tree
returns-clause-tree c = (tree_made _ _ _ (found_tree c.found.result) (subst IsWellFormed (sym (c.found.ensures)) c.list_is_well_formed.ensures) c.in_ok-copy_found.ensures.sound c.in_ok-copy_found.ensures.made).tree ∙ c.found.ensures

pub returns-clause-changes : goal.returns-clause-changes
returns-clause-changes c = (tree_made _ _ _ (found_tree c.found.result) (subst IsWellFormed (sym (c.found.ensures)) c.list_is_well_formed.ensures) c.in_ok-copy_found.ensures.sound c.in_ok-copy_found.ensures.made).changes
