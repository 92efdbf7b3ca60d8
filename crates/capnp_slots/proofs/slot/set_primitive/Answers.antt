-- The number that is given is stored in the slot.
use Rattle.std.proofs.Common.{ap, refl, sym, ◌∙◌}
use Rattle.capnp_records.specs.Given.{Fails}
use Rattle.capnp_slots.proofs.Stored.{given_holds, given_is, given_keeps, given_written}
use Rattle.capnp_slots.proofs.slot.set_primitive.Goals as goal

pub store_number-requires-clause-fits : goal.store_number-requires-clause-fits
store_number-requires-clause-fits c = given_holds c.args.field _ c.slot_plan.ensures _ _ c.in-Some.ensures.number

pub returns-in-Some-clause-written : goal.returns-in-Some-clause-written
returns-in-Some-clause-written c = given_written c.args.field _ c.slot_plan.ensures _ _ c.in-Some.ensures.number _ _ c.store_number.ensures.written

pub returns-in-Some-clause-given : goal.returns-in-Some-clause-given
returns-in-Some-clause-given c = given_is c.args.field _ c.slot_plan.ensures _ _ c.in-Some.ensures.number

pub returns-in-Some-clause-kept : goal.returns-in-Some-clause-kept
returns-in-Some-clause-kept c = given_keeps c.args.field _ c.slot_plan.ensures _ _ c.in-Some.ensures.number _ _ c.requires.room c.store_number.ensures.written

pub returns-in-None-clause-cause : goal.returns-in-None-clause-cause
returns-in-None-clause-cause c = c.in-None.ensures.none refl ∙ ap Fails (sym c.refuse_at.ensures)
