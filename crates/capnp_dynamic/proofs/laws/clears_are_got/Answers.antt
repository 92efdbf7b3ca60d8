-- What the laws of slots and groups say of a struct under its schema.
use Rattle.capnp_dynamic.proofs.ReadBack.{clear_active, clear_got}
use Rattle.capnp_dynamic.proofs.laws.clears_are_got.Goals as goal

pub returns-clause-default : goal.returns-clause-default
returns-clause-default c = clear_got c.args.field c.starts_are_read.ensures.cleared

pub returns-clause-active : goal.returns-clause-active
returns-clause-active c = clear_active c.args.field c.starts_are_read.ensures.active c.groups_are_started.ensures.active
