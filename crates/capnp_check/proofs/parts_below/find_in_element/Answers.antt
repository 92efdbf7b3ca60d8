-- The element, opened, is refused or not as its own check says, for it is of the list's set.
use Rattle.std.proofs.Common.{sym}
use Rattle.capnp_dynamic_readers.specs.Handles.{list_set}
use Rattle.capnp_check.proofs.PlacesFound.{element_said}
use Rattle.capnp_check.proofs.parts_below.find_in_element.Goals as goal

pub returns-in-Ok : goal.returns-in-Ok
returns-in-Ok c =
    element_said c.args.left c.args.list c.args.index c.open_element-value.result c.open_element-value.ensures.parts
    (c.in-Ok.ensures (list_set c.args.list) c.open_element-value.ensures.of_set)

pub returns-in-Err : goal.returns-in-Err
returns-in-Err c = record {
  opened = c.open_element-value.ensures;
  kind = c.in-Err.field-0.kind;
  refused = sym (c.in-Err.ensures (list_set c.args.list) c.open_element-value.ensures.of_set);
}
