use Rattle.std.proofs.Common.{◌≡◌, ◌+◌, ◌≤◌, length}
use Rattle.capnp_arena.specs.Built.{built_at}
use Rattle.capnp_arena.specs.Frame.{LeavesStruct}
use Rattle.capnp_schema.specs.StructHandles.{number_of, set_of, struct_fields}
use Rattle.capnp_records.specs.Writes.Slots.{Fits}
use Rattle.capnp_slots.specs.Groups.{KeepsSize}
use Rattle.capnp_slots.specs.Steps.Groups.{cleared_through}
use Rattle.capnp_slots.proofs.GroupWays.{left_of, steps_of}
use Rattle.capnp_slots.proofs.group.clear_group.Given as goal

abbrev pub invariant-loop-count : goal.invariant-loop-count
invariant-loop-count l = record {
  left : left_of l.left l.at l.depth l.next (built_at l.arena l.place) ≡ cleared_through l.fn.groups (set_of l.fn.schema) (number_of l.fn.schema) (built_at l.fn.arena l.fn.place);
  room : Fits (set_of l.at) (number_of l.at) (built_at l.arena l.place);
  count : l.count ≡ length (struct_fields l.at);
  few : l.count ≤ 65535;
  groups : l.left + l.depth + 1 ≡ l.fn.groups;
  size : KeepsSize (built_at l.fn.arena l.fn.place) (built_at l.arena l.place);
  frame : LeavesStruct l.place l.fn.arena l.arena;
}

abbrev pub decreases-loop-count : goal.decreases-loop-count
decreases-loop-count l = steps_of l.left l.at l.depth l.next
