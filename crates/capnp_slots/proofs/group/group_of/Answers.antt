-- The group that the set has, as what the core knows of one.
use Rattle.std.proofs.Common.{subst}
use Rattle.capnp_schema.specs.StructHandles.{IsStruct}
use Rattle.capnp_slots.proofs.GroupFields.{group_or_slot}
use Rattle.capnp_slots.proofs.group.group_of.Goals as goal

pub returns : goal.returns
returns c = group_or_slot c.args.field c.get_group.result (subst IsStruct c.get_containing_struct-schema.ensures.is c.get_containing_struct-schema.ensures.stands) c.get_group.ensures.number c.get_group.ensures.down c.get_group.ensures.back
