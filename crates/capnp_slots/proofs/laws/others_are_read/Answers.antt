-- What the laws of other fields say at two fields' handles.
use Rattle.capnp_slots.proofs.ReadBack.{other_got, other_there, plain_stays}
use Rattle.capnp_slots.proofs.laws.others_are_read.Goals as goal

pub returns-clause-read : goal.returns-clause-read
returns-clause-read c = other_got c.args.field c.args.other c.field_stands.ensures c.field_stands-2.ensures c.other_fields_are_read.ensures.read

pub returns-clause-there : goal.returns-clause-there
returns-clause-there c = other_there c.args.field c.args.other c.field_stands.ensures c.field_stands-2.ensures c.other_fields_are_read.ensures.there

pub returns-clause-active : goal.returns-clause-active
returns-clause-active c = plain_stays c.args.field c.field_stands.ensures c.other_fields_are_read.ensures.active
