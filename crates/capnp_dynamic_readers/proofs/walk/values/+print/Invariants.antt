use Rattle.std.proofs.Common.{◌==◌, ◌<◌, ◌^◌, ◌+◌, ◌*◌, ◌-◌, true}
use Rattle.capnp_schema.specs.GroupWalks.{walk_depth}
use Rattle.capnp_records.specs.Text.{more_text}
use Rattle.capnp_dynamic_readers.specs.Steps.WalkSteps.{onward_of, steps_onward}
use Rattle.capnp_dynamic_readers.specs.Steps.Pieces.{Leads}
use Rattle.capnp_dynamic_readers.specs.Steps.Shown.{count_of}
use Rattle.capnp_dynamic_readers.specs.Steps.Styled.{record_in}
use Rattle.capnp_dynamic_readers.proofs.walk.values.+print.Given as goal

abbrev pub decreases-print_value : goal.decreases-print_value
decreases-print_value g l = 4 * l.left + 1

abbrev pub decreases-print_list : goal.decreases-print_list
decreases-print_list g l = 4 * l.left + 3

abbrev pub decreases-print_elements : goal.decreases-print_elements
decreases-print_elements g l = 4 * l.left + 2

abbrev pub decreases-print_record : goal.decreases-print_record
decreases-print_record g l = 4 * l.left + 4

abbrev pub decreases-print_field : goal.decreases-print_field
decreases-print_field g l = 4 * l.left + 3

abbrev pub decreases-print_slot : goal.decreases-print_slot
decreases-print_slot g l = 4 * l.left + 2

abbrev pub decreases-print_record-loop-field : goal.decreases-print_record-loop-field
decreases-print_record-loop-field g l = steps_onward l.now

abbrev pub invariant-print_elements-loop-i : goal.invariant-print_elements-loop-i
invariant-print_elements-loop-i g l =
    Leads (g.O.Out.text l.fn.out) (more_text l.at true ((g.S.Style.texts l.style).elements l.left l.at l.list 0 (count_of l.list)))
    (g.O.Out.text l.out) (more_text l.at (l.i == 0) ((g.S.Style.texts l.style).elements l.left l.at l.list l.i (count_of l.list - l.i)))

abbrev pub invariant-print_record-loop-field : goal.invariant-print_record-loop-field
invariant-print_record-loop-field g l = record {
  text : Leads (g.O.Out.text l.fn.out) (record_in (g.S.Style.texts l.style) l.left l.fn.at l.fn.reader) (g.O.Out.text l.out) (onward_of (g.S.Style.texts l.style) l.left l.sections l.now);
  small : walk_depth l.now.walk < 2 ^ 64;
}
