-- The place of a field's plan is a group where the field is one.
use Rattle.capnp_slots.proofs.GroupFields.{group_placed, slot_placed}
use Rattle.capnp_slots.proofs.slot.is_slot.Goals as goal

pub returns-in-Group : goal.returns-in-Group
returns-in-Group c = group_placed c.args.field c.plan.result c.in-Group._brand c.plan.ensures.is c.in-Group.is

pub returns-in_default : goal.returns-in_default
returns-in_default c = slot_placed c.args.field c.plan.result c.plan.ensures.is c.in_default.not-Group
