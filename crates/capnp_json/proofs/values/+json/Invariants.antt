-- What is to come is what was to come, but for what was put; and calls go down the levels.
use Rattle.std.proofs.Common.{◌==◌, ◌<◌, ◌^◌, ◌+◌, ◌*◌, true}
use Rattle.capnp_json.specs.Steps.Puts.{Leads}
use Rattle.capnp_json.specs.Steps.Records.{onward_of, walk_steps}
use Rattle.capnp_json.specs.Steps.Shown.{elements_onward, record_shown}
use Rattle.capnp_json.specs.Steps.Walks.{walk_depth}
use Rattle.capnp_json.proofs.values.+json.Given as goal

abbrev pub decreases-put_value : goal.decreases-put_value
decreases-put_value l = 8 * l.left + 1

abbrev pub decreases-put_list : goal.decreases-put_list
decreases-put_list l = 8 * l.left + 4

abbrev pub decreases-put_elements : goal.decreases-put_elements
decreases-put_elements l = 8 * l.left + 3

abbrev pub decreases-put_element : goal.decreases-put_element
decreases-put_element l = 8 * l.left + 2

abbrev pub decreases-put_record : goal.decreases-put_record
decreases-put_record l = 8 * l.left + 6

abbrev pub decreases-put_next : goal.decreases-put_next
decreases-put_next l = 8 * l.left + 5

abbrev pub decreases-put_field : goal.decreases-put_field
decreases-put_field l = 8 * l.left + 4

abbrev pub decreases-put_member : goal.decreases-put_member
decreases-put_member l = 8 * l.left + 4

abbrev pub decreases-put_item : goal.decreases-put_item
decreases-put_item l = 8 * l.left + 3

abbrev pub decreases-put_slot : goal.decreases-put_slot
decreases-put_slot l = 8 * l.left + 2

abbrev pub decreases-put_record-loop-next : goal.decreases-put_record-loop-next
decreases-put_record-loop-next l = walk_steps l.now.walk

abbrev pub invariant-put_elements-loop-i : goal.invariant-put_elements-loop-i
invariant-put_elements-loop-i l = Leads l.fn.out (elements_onward l.left l.at l.form l.list true 0) l.out (elements_onward l.left l.at l.form l.list (l.i == 0) l.i)

abbrev pub invariant-put_record-loop-next : goal.invariant-put_record-loop-next
invariant-put_record-loop-next l = record {
  json : Leads l.fn.out (record_shown l.left l.fn.at l.fn.reader) l.out (onward_of l.left l.sections l.now);
  small : walk_depth l.now.walk < 2 ^ 64;
}
