use Rattle.capnp_slots.proofs.slot.switch.Goals as goal

pub switch_member-requires-clause-inside : goal.switch_member-requires-clause-inside
switch_member-requires-clause-inside c = (c.field_plan.ensures.fits _ c.requires.room).member
