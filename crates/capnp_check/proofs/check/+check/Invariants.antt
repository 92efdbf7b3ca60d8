use Rattle.std.proofs.Common.{◌≡◌, ◌<◌, ◌^◌, ◌+◌, ◌*◌, None}
use Rattle.capnp_schema.specs.GroupWalks.{walk_depth}
use Rattle.capnp_dynamic_readers.specs.Steps.Shown.{list_shown, record_shown}
use Rattle.capnp_check.specs.Refusals.{text_refusal}
use Rattle.capnp_check.specs.Steps.Walks.{IsWalkInside, walk_onward_of, walk_steps_onward}
use Rattle.capnp_check.proofs.Refused.{elements_refusal}
use Rattle.capnp_check.proofs.check.+check.Given as goal

abbrev pub decreases-check_value : goal.decreases-check_value
decreases-check_value l = 4 * l.left + 1

abbrev pub decreases-check_list : goal.decreases-check_list
decreases-check_list l = 4 * l.left + 3

abbrev pub decreases-check_record : goal.decreases-check_record
decreases-check_record l = 4 * l.left + 4

abbrev pub decreases-check_field : goal.decreases-check_field
decreases-check_field l = 4 * l.left + 3

abbrev pub decreases-check_slot : goal.decreases-check_slot
decreases-check_slot l = 4 * l.left + 2

abbrev pub decreases-check_record-loop-field : goal.decreases-check_record-loop-field
decreases-check_record-loop-field l = walk_steps_onward l.walk

abbrev pub invariant-check_list-loop-i : goal.invariant-check_list-loop-i
invariant-check_list-loop-i l = text_refusal (list_shown l.left None l.list) ≡ elements_refusal l.left l.list l.i

abbrev pub invariant-check_record-loop-field : goal.invariant-check_record-loop-field
invariant-check_record-loop-field l = record {
  same : text_refusal (record_shown l.left None l.fn.reader) ≡ walk_onward_of l.left l.sections l.walk;
  inside : IsWalkInside l.walk;
  small : walk_depth l.walk < 2 ^ 64;
}
