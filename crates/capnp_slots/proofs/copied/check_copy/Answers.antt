-- What is read as the slot's type is given as a copy.
use Rattle.capnp_slots.proofs.CopiedSlots.{check_cause, check_given}
use Rattle.capnp_slots.proofs.copied.check_copy.Goals as goal

pub returns-clause-given : goal.returns-clause-given
returns-clause-given c = check_given c.args.field _ _ c.requires.slot c.requires.pointer c.default_fits.ensures _ c.variant_of.ensures c.check_read.result c.check_read.ensures

pub returns-clause-cause : goal.returns-clause-cause
returns-clause-cause c = check_cause c.args.field _ _ c.requires.slot c.requires.pointer c.default_fits.ensures _ c.variant_of.ensures c.check_read.result c.check_read.ensures
