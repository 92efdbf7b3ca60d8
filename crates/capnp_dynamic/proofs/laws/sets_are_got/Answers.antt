-- What the laws of slots and groups say of a struct under its schema.
use Rattle.std.proofs.Common.{subst}
use Rattle.capnp_slots.specs.ReadBack.{SetIsActive, WholeIsGot}
use Rattle.capnp_dynamic.proofs.ReadBack.{set_active, set_got}
use Rattle.capnp_dynamic.proofs.laws.sets_are_got.Goals as goal

pub returns-clause-value : goal.returns-clause-value
returns-clause-value c = set_got c.args.field c.args.value (subst (WholeIsGot c.args.field) c.from.ensures c.sets_are_read.ensures.values)

pub returns-clause-active : goal.returns-clause-active
returns-clause-active c = set_active c.args.field c.args.value (subst (SetIsActive c.args.field) c.from.ensures c.sets_are_read.ensures.active) c.groups_are_started.ensures.set
