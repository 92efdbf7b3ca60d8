-- What the laws of slots say at a field's handle.
use Rattle.capnp_slots.proofs.ReadBack.{clear_active, clear_got, init_active, initn_active}
use Rattle.capnp_slots.proofs.laws.starts_are_read.Goals as goal

pub returns-clause-cleared : goal.returns-clause-cleared
returns-clause-cleared c = clear_got c.args.field c.field_stands.ensures c.cleared_slots_are_read.ensures

pub returns-clause-active : goal.returns-clause-active
returns-clause-active c = clear_active c.args.field c.field_stands.ensures c.written_slots_are_read.ensures.active

pub returns-clause-init : goal.returns-clause-init
returns-clause-init c = init_active c.args.field c.field_stands.ensures c.written_slots_are_read.ensures.active

pub returns-clause-initn : goal.returns-clause-initn
returns-clause-initn c = initn_active c.args.field c.field_stands.ensures c.written_slots_are_read.ensures.active
