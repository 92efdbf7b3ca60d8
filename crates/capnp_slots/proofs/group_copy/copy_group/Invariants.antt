use Rattle.std.proofs.Common.{◌<◌}
use Rattle.capnp_arena.specs.Built.{built_at}
use Rattle.capnp_arena.specs.Frame.{LeavesStruct}
use Rattle.capnp_wire.specs.Standing.{struct_levels, struct_of}
use Rattle.capnp_schema.specs.StructHandles.{number_of, set_of}
use Rattle.capnp_records.specs.Record.{Left}
use Rattle.capnp_records.specs.Writes.Slots.{Fits}
use Rattle.capnp_slots.specs.Groups.{KeepsSize}
use Rattle.capnp_slots.proofs.CopyWays.{IsLowAt, StandsAt, Through, steps_at}
use Rattle.capnp_slots.proofs.group_copy.copy_group.Given as goal

abbrev pub invariant-loop-next : goal.invariant-loop-next
invariant-loop-next l = record {
  left : StandsAt l.fn.groups (Through l.fn.groups l.fn.schema (Left (struct_levels l.fn.source)) (struct_of l.fn.source) (built_at l.fn.arena l.fn.place)) l.left (Left (struct_levels l.fn.source)) (struct_of l.fn.source) l.at l.next (built_at l.arena l.place);
  low : IsLowAt l.fn.groups l.left l.at l.next;
  few : l.left < l.fn.groups;
  room : Fits (set_of l.at) (number_of l.at) (built_at l.arena l.place);
  size : KeepsSize (built_at l.fn.arena l.fn.place) (built_at l.arena l.place);
  frame : LeavesStruct l.place l.fn.arena l.arena;
}

abbrev pub decreases-loop-next : goal.decreases-loop-next
decreases-loop-next l = steps_at l.fn.groups l.left l.at l.next
