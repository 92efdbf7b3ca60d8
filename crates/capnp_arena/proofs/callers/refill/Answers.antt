-- A change of the content of a struct changes what the pointer to it leads to, and nothing else.
use Rattle.std.proofs.Common.{◌∙◌, ap}
use Rattle.capnp_wire.specs.Place.{struct_tree}
use Rattle.capnp_arena.specs.Facts.Laws.{in_struct, struct_planted}
use Rattle.capnp_arena.proofs.callers.refill.Goals as goal

pub copy_content_from-requires : goal.copy_content_from-requires
copy_content_from-requires c = record { planted = struct_planted _ _ _ _ _ c.requires.forest c.requires.there }

pub returns-clause-forest : goal.returns-clause-forest
returns-clause-forest c = (in_struct _ _ _ _ _ _ c.requires.forest c.requires.there c.in_ok-copy_content_from.ensures.planted c.in_ok-copy_content_from.ensures.changes).forest

pub returns-clause-there : goal.returns-clause-there
returns-clause-there c = (in_struct _ _ _ _ _ _ c.requires.forest c.requires.there c.in_ok-copy_content_from.ensures.planted c.in_ok-copy_content_from.ensures.changes).place

pub returns-clause-changes : goal.returns-clause-changes
returns-clause-changes c = (in_struct _ _ _ _ _ _ c.requires.forest c.requires.there c.in_ok-copy_content_from.ensures.planted c.in_ok-copy_content_from.ensures.changes).changes

pub returns-clause-tree : goal.returns-clause-tree
returns-clause-tree c = (in_struct _ _ _ _ _ _ c.requires.forest c.requires.there c.in_ok-copy_content_from.ensures.planted c.in_ok-copy_content_from.ensures.changes).tree ∙ ap struct_tree c.in_ok-copy_content_from.ensures.tree
