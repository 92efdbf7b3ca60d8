use Rattle.std.proofs.Common.{◌+◌, ◌*◌, ◌≤◌, length}
use Rattle.std.specs.Option.{option_map}
use Rattle.capnp_arena.specs.Built.{built_at}
use Rattle.capnp_arena.specs.Forest.{tree}
use Rattle.capnp_arena.specs.Frame.{LeavesPointer, LeavesStruct}
use Rattle.capnp_arena.specs.Segment.{segment}
use Rattle.capnp_json_text.specs.Values.{most_items}
use Rattle.capnp_from_json.specs.Given.{marks_of}
use Rattle.capnp_json_messages.specs.Rows.{row_set, row_type}
use Rattle.capnp_json_messages.proofs.ListsGo.{ListSoFar}
use Rattle.capnp_json_messages.proofs.MembersGo.{MembersSoFar}
use Rattle.capnp_json_messages.proofs.walk.+walk.Given as goal

abbrev pub decreases-read_members : goal.decreases-read_members
decreases-read_members l = 4 * most_items (option_map (λ x. x.now) l.first)

abbrev pub decreases-read_member : goal.decreases-read_member
decreases-read_member l = 4 * length l.bytes.now + 3

abbrev pub decreases-read_field : goal.decreases-read_field
decreases-read_field l = 4 * length l.bytes.now + 2

abbrev pub decreases-read_group : goal.decreases-read_group
decreases-read_group l = 4 * length l.bytes.now + 1

abbrev pub decreases-read_struct : goal.decreases-read_struct
decreases-read_struct l = 4 * length l.bytes.now + 1

abbrev pub decreases-read_list : goal.decreases-read_list
decreases-read_list l = 4 * length l.bytes.now + 1

abbrev pub decreases-read_elements : goal.decreases-read_elements
decreases-read_elements l = 4 * most_items (option_map (λ x. x.now) l.first)

abbrev pub decreases-read_element : goal.decreases-read_element
decreases-read_element l = 4 * length l.bytes.now + 2

abbrev pub decreases-read_inner_struct : goal.decreases-read_inner_struct
decreases-read_inner_struct l = 4 * length l.bytes.now + 1

abbrev pub decreases-read_inner_list : goal.decreases-read_inner_list
decreases-read_inner_list l = 4 * length l.bytes.now + 1

abbrev pub invariant-read_members-members : goal.invariant-read_members-members
invariant-read_members-members l = record {
  frame : LeavesStruct l.place l.fn.arena l.arena;
  fewer : most_items (option_map (λ x. x.now) l.next) ≤ most_items (option_map (λ x. x.now) l.fn.first);
  so_far : MembersSoFar l.schema l.reading l.levels (option_map (λ x. x.now) l.fn.first) (option_map (λ x. x.now) l.next) (marks_of l.given.items) (built_at l.fn.arena l.place) (built_at l.arena l.place);
}

abbrev pub decreases-read_members-members : goal.decreases-read_members-members
decreases-read_members-members l = most_items (option_map (λ x. x.now) l.next)

abbrev pub invariant-read_elements-elements : goal.invariant-read_elements-elements
invariant-read_elements-elements l = record {
  frame : LeavesPointer l.word l.fn.arena l.arena;
  fewer : most_items (option_map (λ x. x.now) l.next) ≤ most_items (option_map (λ x. x.now) l.fn.first);
  so_far : ListSoFar (row_set l.row) (row_type l.row) l.reading l.levels l.row.is_float (option_map (λ x. x.now) l.fn.first) (option_map (λ x. x.now) l.next) l.index (tree (segment l.arena) l.word);
}

abbrev pub decreases-read_elements-elements : goal.decreases-read_elements-elements
decreases-read_elements-elements l = most_items (option_map (λ x. x.now) l.next)
