-- What the laws of slots and groups say of a struct under its schema.
use Rattle.capnp_dynamic.proofs.ReadBack.{other_got, other_there}
use Rattle.capnp_dynamic.proofs.laws.others_are_got.Goals as goal

pub returns-clause-value : goal.returns-clause-value
returns-clause-value c = other_got c.args.field c.args.other c.others_are_read.ensures.read

pub returns-clause-there : goal.returns-clause-there
returns-clause-there c = other_there c.args.field c.args.other c.others_are_read.ensures.there
