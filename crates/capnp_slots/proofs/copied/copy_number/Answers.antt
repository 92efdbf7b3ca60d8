-- The bits at the plan's place are those of the slot.
use Rattle.capnp_wire.specs.Standing.{struct_levels, struct_of}
use Rattle.capnp_records.specs.Record.{Left}
use Rattle.capnp_slots.proofs.CopiedSlots.{bits_copied}
use Rattle.capnp_slots.proofs.copied.copy_number.Goals as goal

pub returns-clause-written : goal.returns-clause-written
returns-clause-written c = bits_copied c.args.field c.slot_plan.result c.slot_plan.ensures (Left (struct_levels c.args.source.now)) (struct_of c.args.source.now) _ _ c.requires.number c.requires.room c.copy_bits.ensures.written
