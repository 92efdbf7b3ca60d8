-- A new arena has a single word, so with the copy made there it is just the encoding of the source's tree.
use Rattle.std.proofs.Common.{sym, ap, subst, ◌∙◌, length}
use Rattle.capnp_wire.specs.Encoding.{encoding_of}
use Rattle.capnp_wire.specs.Found.{found_tree}
use Rattle.capnp_wire.specs.WellFormed.{IsWellFormed}
use Rattle.capnp_arena.proofs.NewTrees.{only_encoding, tree_made}
use Rattle.capnp_arena.proofs.arena.Arena.set_root.Goals as goal

pub copy_found-requires-clause-held : goal.copy_found-requires-clause-held
copy_found-requires-clause-held c = subst IsWellFormed (sym (c.look.ensures ∙ c.pointer-pointer.ensures)) c.pointer_is_well_formed.ensures

pub returns-clause-bytes : goal.returns-clause-bytes
returns-clause-bytes c = only_encoding _ _ (found_tree c.look.result) (ap length c.reserve.ensures.same ∙ c.in_ok-anew.ensures.alone) c.in_ok-copy_found.ensures.made ∙ ap encoding_of (c.look.ensures ∙ c.pointer-pointer.ensures)

pub returns-clause-forest : goal.returns-clause-forest
returns-clause-forest c = (tree_made _ _ _ (found_tree c.look.result) (subst IsWellFormed (sym (c.look.ensures ∙ c.pointer-pointer.ensures)) c.pointer_is_well_formed.ensures) c.in_ok-copy_found.ensures.sound c.in_ok-copy_found.ensures.made).forest

pub returns-clause-tree : goal.returns-clause-tree
returns-clause-tree c = (tree_made _ _ _ (found_tree c.look.result) (subst IsWellFormed (sym (c.look.ensures ∙ c.pointer-pointer.ensures)) c.pointer_is_well_formed.ensures) c.in_ok-copy_found.ensures.sound c.in_ok-copy_found.ensures.made).tree ∙ (c.look.ensures ∙ c.pointer-pointer.ensures)
