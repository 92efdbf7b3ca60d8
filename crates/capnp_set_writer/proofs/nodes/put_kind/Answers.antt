-- The kind's number and its offset or node change the struct's data alone, a slot's default its pointer; so the rest is left.
-- The default alone can be refused.
use Rattle.capnp_arena.specs.Facts.Places.{then}
use Rattle.capnp_arena.specs.Facts.Frames.{struct_after}
use Rattle.capnp_set_writer.proofs.Trees.{on_ok}
use Rattle.capnp_set_writer.proofs.nodes.put_kind.Goals as goal

pub returns-in-Slot-clause-frame : goal.returns-in-Slot-clause-frame
returns-in-Slot-clause-frame c = on_ok c.put_part.result (λ h. struct_after (then c.set_number.ensures.changes c.set_number-in-Slot.ensures.changes) h) c.put_part.ensures.frame

pub returns-in-Group-clause-frame : goal.returns-in-Group-clause-frame
returns-in-Group-clause-frame c = record { planted = c.set_number-in-Group-2.ensures.planted; changes = then c.set_number-in-Group.ensures.changes c.set_number-in-Group-2.ensures.changes }

pub returns-in-Slot-clause-cause : goal.returns-in-Slot-clause-cause
returns-in-Slot-clause-cause c = rw c.in-Slot.is c.put_part.ensures.cause
