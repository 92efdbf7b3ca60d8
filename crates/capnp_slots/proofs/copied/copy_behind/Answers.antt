-- The pointer of the slot is that of the source.
use Rattle.capnp_wire.specs.Standing.{levels_of, struct_levels, struct_of, tree_of}
use Rattle.capnp_slots.proofs.CopiedSlots.{behind_cause, behind_copied}
use Rattle.capnp_slots.proofs.copied.copy_behind.Goals as goal

pub returns-clause-copied : goal.returns-clause-copied
returns-clause-copied c =
    behind_copied c.args.field (struct_of c.args.source.now) (struct_levels c.args.source.now) c.args.index (levels_of c.get_pointer_field.result) (tree_of c.get_pointer_field.result)
    c.requires.pointer c.requires.is c.get_pointer_field.ensures.tree c.get_pointer_field.ensures.levels c.copy_pointer.result _ _ c.copy_pointer.ensures.copied

pub returns-clause-cause : goal.returns-clause-cause
returns-clause-cause c =
    behind_cause c.args.field (struct_of c.args.source.now) (struct_levels c.args.source.now) c.args.index (levels_of c.get_pointer_field.result) (tree_of c.get_pointer_field.result)
    c.requires.pointer c.requires.is c.get_pointer_field.ensures.tree c.get_pointer_field.ensures.levels c.copy_pointer.result c.copy_pointer.ensures.cause
