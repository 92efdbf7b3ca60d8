-- The struct read is well formed, and so is the rounded one; its sound copy, made at the end, has the rounded tree.
use Rattle.std.proofs.Common.{sym, ap, subst, ◌∙◌}
use Rattle.capnp_wire.specs.Edits.{rounded_struct}
use Rattle.capnp_wire.specs.Facts.Structs.{copied_struct_is_well_formed}
use Rattle.capnp_wire.specs.Found.{parts_tree}
use Rattle.capnp_wire.specs.Place.{struct_tree}
use Rattle.capnp_wire.specs.Tree.{StructTree}
use Rattle.capnp_wire.specs.WellFormed.{IsWellFormedStruct}
use Rattle.capnp_arena.proofs.NewTrees.{tree_made}
use Rattle.capnp_arena.proofs.arena.Arena.set_struct.Goals as goal

pub copy_parts-requires-clause-held : goal.copy_parts-requires-clause-held
copy_parts-requires-clause-held c = subst IsWellFormedStruct (sym c.parts.ensures) c.struct_is_well_formed.ensures

pub returns-clause-forest : goal.returns-clause-forest
returns-clause-forest c = (tree_made _ _ _ (struct_tree (rounded_struct (parts_tree c.parts.result))) (copied_struct_is_well_formed (parts_tree c.parts.result) (subst IsWellFormedStruct (sym c.parts.ensures) c.struct_is_well_formed.ensures)) c.in_ok-copy_parts.ensures.sound c.in_ok-copy_parts.ensures.made).forest

pub returns-clause-tree : goal.returns-clause-tree
returns-clause-tree c = (tree_made _ _ _ (struct_tree (rounded_struct (parts_tree c.parts.result))) (copied_struct_is_well_formed (parts_tree c.parts.result) (subst IsWellFormedStruct (sym c.parts.ensures) c.struct_is_well_formed.ensures)) c.in_ok-copy_parts.ensures.sound c.in_ok-copy_parts.ensures.made).tree ∙ ap (λ (s : StructTree). struct_tree (rounded_struct s)) c.parts.ensures

pub returns-clause-changes : goal.returns-clause-changes
returns-clause-changes c = (tree_made _ _ _ (struct_tree (rounded_struct (parts_tree c.parts.result))) (copied_struct_is_well_formed (parts_tree c.parts.result) (subst IsWellFormedStruct (sym c.parts.ensures) c.struct_is_well_formed.ensures)) c.in_ok-copy_parts.ensures.sound c.in_ok-copy_parts.ensures.made).changes
