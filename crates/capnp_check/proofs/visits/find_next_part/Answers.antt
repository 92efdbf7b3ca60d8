-- The kind of the opened value decides: one whole or refused has no parts, and in others the next is sought past the last step.
use Rattle.capnp_check.specs.Steps.Frames.{next_index}
use Rattle.capnp_check.proofs.PartsVisited.{list_next, list_none, refused_none, struct_next, struct_none, whole_none}
use Rattle.capnp_check.proofs.PlacesFound.{match_map}
use Rattle.capnp_check.proofs.visits.find_next_part.Goals as goal

pub returns-in-Whole : goal.returns-in-Whole
returns-in-Whole c = whole_none c.args.value (next_index c.args.last) c.in-Whole.is

pub returns-in-Refused : goal.returns-in-Refused
returns-in-Refused c = refused_none c.args.value c.in-Refused.field-0 (next_index c.args.last) c.in-Refused.is

pub returns-in-Struct : goal.returns-in-Struct
returns-in-Struct c =
    match_map c.find_shown_field.result (struct_none c.in-Struct.reader c.in-Struct.left c.args.value c.get_next_index.result (next_index c.args.last) c.in-Struct.is c.get_next_index.ensures)
    (λ x found. struct_next c.in-Struct.reader c.in-Struct.left c.args.value c.get_next_index.result (next_index c.args.last) x.0 x.1 c.in-Struct.is c.get_next_index.ensures found) c.find_shown_field.ensures

pub returns-in-List : goal.returns-in-List
returns-in-List c =
    match_map c.find_element_at.result (list_none c.in-List.list c.in-List.left c.args.value c.get_next_index-in-List.result (next_index c.args.last) c.in-List.is c.get_next_index-in-List.ensures)
    (λ x found. list_next c.in-List.list c.in-List.left c.args.value c.get_next_index-in-List.result (next_index c.args.last) x.0 x.1 c.in-List.is c.get_next_index-in-List.ensures found) c.find_element_at.ensures
