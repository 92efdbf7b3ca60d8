-- The place of a pointer's slot.
use Rattle.capnp_slots.proofs.Pointers.{is_pointer_slot, never}
use Rattle.capnp_slots.proofs.pointer.pointer_slot.Goals as goal

pub unreachable-requires : goal.unreachable-requires
unreachable-requires c = never c.args.field c.slot_plan-plan.result c.slot_plan-plan.ensures c.requires.pointer c.in_default.not-Pointer

pub returns : goal.returns
returns c = is_pointer_slot c.args.field c.slot_plan-plan.result c.slot_plan-plan.ensures c.requires.pointer c.in-Pointer.index c.in-Pointer.is
