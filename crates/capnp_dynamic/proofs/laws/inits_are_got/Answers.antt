-- What the laws of slots and groups say of a struct under its schema.
use Rattle.capnp_dynamic.proofs.ReadBack.{group_starts}
use Rattle.capnp_dynamic.proofs.laws.inits_are_got.Goals as goal

pub returns : goal.returns
returns c = group_starts c.args.field c.groups_are_started.ensures.first
