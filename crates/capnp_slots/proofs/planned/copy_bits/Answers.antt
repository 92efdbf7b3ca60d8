use Rattle.capnp_arena.specs.Facts.Frames.{struct_after}
use Rattle.capnp_slots.proofs.planned.copy_bits.Goals as goal

pub returns-in-Bits-clause-frame : goal.returns-in-Bits-clause-frame
returns-in-Bits-clause-frame c = struct_after c.switch_member.ensures.frame.changes c.store_bits.ensures.frame
