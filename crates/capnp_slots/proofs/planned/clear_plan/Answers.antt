use Rattle.capnp_arena.specs.Facts.Frames.{struct_after}
use Rattle.capnp_slots.proofs.planned.clear_plan.Goals as goal

pub returns-in-Bits-clause-frame : goal.returns-in-Bits-clause-frame
returns-in-Bits-clause-frame c = struct_after c.switch_member.ensures.frame.changes c.store_bits.ensures.frame

pub returns-in-Pointer-clause-frame : goal.returns-in-Pointer-clause-frame
returns-in-Pointer-clause-frame c = struct_after c.switch_member.ensures.frame.changes c.clear_pointer.ensures.frame
