-- The member that is active whatever levels are left.
use Rattle.capnp_wire.specs.Standing.{struct_levels, struct_of}
use Rattle.capnp_records.specs.Record.{Left}
use Rattle.capnp_slots.proofs.GroupCopies.{active_is}
use Rattle.capnp_slots.proofs.group_copy.active_member.Goals as goal

pub returns : goal.returns
returns c = active_is c.args.schema (Left (struct_levels c.args.source.now)) (struct_of c.args.source.now) c.active_member.result c.active_member.ensures
