-- The kind of the opened value decides: one whole or refused has no parts, and of others the fields or elements are searched.
use Rattle.capnp_check.proofs.PlacesFound.{list_step, list_whole, match_map, own_refused, own_whole, struct_step, struct_whole}
use Rattle.capnp_check.proofs.parts_below.find_step.Goals as goal

pub returns-in-Whole : goal.returns-in-Whole
returns-in-Whole c = own_whole c.args.value c.in-Whole.is

pub returns-in-Refused : goal.returns-in-Refused
returns-in-Refused c = own_refused c.args.value c.in-Refused.field-0 c.in-Refused.is

pub returns-in-Struct : goal.returns-in-Struct
returns-in-Struct c =
    match_map c.find_field.result (λ none. λ set in-set. struct_whole set c.in-Struct.reader c.in-Struct.left c.args.value c.in-Struct.is in-set none)
    (λ x found. λ set in-set. struct_step set c.in-Struct.reader c.in-Struct.left c.args.value x.0 x.1 c.in-Struct.is in-set found) c.find_field.ensures

pub returns-in-List : goal.returns-in-List
returns-in-List c =
    match_map c.find_element.result (λ none. λ set in-set. list_whole set c.in-List.list c.in-List.left c.args.value c.in-List.is in-set none)
    (λ x found. λ set in-set. list_step set c.in-List.list c.in-List.left c.args.value x.0 x.1 c.in-List.is in-set found) c.find_element.ensures
