-- What the laws of groups say at a field's handle.
use Rattle.capnp_slots.proofs.ReadBack.{copy_active, group_active, group_starts}
use Rattle.capnp_slots.proofs.laws.groups_are_started.Goals as goal

pub returns-clause-first : goal.returns-clause-first
returns-clause-first c = group_starts c.args.field c.field_stands.ensures c.groups_are_active.ensures.first

pub returns-clause-active : goal.returns-clause-active
returns-clause-active c = group_active c.args.field c.field_stands.ensures c.groups_are_active.ensures.cleared

pub returns-clause-set : goal.returns-clause-set
returns-clause-set c = copy_active c.args.field c.field_stands.ensures c.groups_are_active.ensures.copied
