-- What the laws of slots say at a field's handle.
use Rattle.capnp_slots.proofs.ReadBack.{copy_got, data_got, number_got, set_active, text_got, whole_got}
use Rattle.capnp_slots.proofs.laws.sets_are_read.Goals as goal

pub returns-clause-values : goal.returns-clause-values
returns-clause-values c =
    whole_got c.args.field c.field_stands.ensures c.written_slots_are_read.ensures.numbers c.written_slots_are_read.ensures.texts c.written_slots_are_read.ensures.data _ c.source_fits.ensures

pub returns-clause-numbers : goal.returns-clause-numbers
returns-clause-numbers c = number_got c.args.field c.field_stands.ensures c.written_slots_are_read.ensures.numbers _ c.source_fits.ensures

pub returns-clause-copies : goal.returns-clause-copies
returns-clause-copies c = copy_got c.args.field c.field_stands.ensures c.written_slots_are_read.ensures.copies _ c.source_fits.ensures

pub returns-clause-texts : goal.returns-clause-texts
returns-clause-texts c = text_got c.args.field c.field_stands.ensures c.written_slots_are_read.ensures.texts _

pub returns-clause-data : goal.returns-clause-data
returns-clause-data c = data_got c.args.field c.field_stands.ensures c.written_slots_are_read.ensures.data _

pub returns-clause-active : goal.returns-clause-active
returns-clause-active c = set_active c.args.field c.field_stands.ensures c.written_slots_are_read.ensures.active _ c.source_fits.ensures
