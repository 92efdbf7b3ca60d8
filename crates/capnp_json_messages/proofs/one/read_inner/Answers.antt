-- The element's pointer is read as a list, with the levels that are left to it.
use Rattle.std.proofs.Common.{ap, ◌∙◌}
use Rattle.capnp_wire.specs.Elements.{or_empty}
use Rattle.capnp_wire.specs.Reading.{element_levels, element_pointer}
use Rattle.capnp_wire.specs.Standing.{levels_of, list_of, tree_of}
use Rattle.capnp_json_messages.proofs.OneRead.{as_inner, inner_left, is_listed, levels_read, listed_ok, read_there}
use Rattle.capnp_json_messages.proofs.one.read_inner.Goals as goal

pub returns-clause-list : goal.returns-clause-list
returns-clause-list c =
    let x = list_of c.args.list in
    let y = or_empty c.args.size (element_pointer x 0 63) in
    listed_ok c.get_list.result y
    (read_there c.get_list.result c.args.size (tree_of c.get_pointer_element.result) (element_pointer x 0 63) y (levels_of c.get_pointer_element.result) (element_levels x 63) c.get_list.ensures.read
    (c.get_pointer_element.ensures.tree ∙ ap (element_pointer x 0) c.requires.levels) (c.get_pointer_element.ensures.levels ∙ ap (element_levels x) c.requires.levels)
    (as_inner c.args.size (element_pointer x 0 63) (element_levels x 63) (inner_left x) c.requires.listed))

pub returns-clause-levels : goal.returns-clause-levels
returns-clause-levels c =
    let x = list_of c.args.list in
    levels_read c.get_list.result (levels_of c.get_pointer_element.result) (element_levels x 63) c.get_list.ensures.levels
    (c.get_pointer_element.ensures.levels ∙ ap (element_levels x) c.requires.levels)

pub returns-clause-read : goal.returns-clause-read
returns-clause-read c =
    let x = list_of c.args.list in
    let y = or_empty c.args.size (element_pointer x 0 63) in
    is_listed c.get_list.result y
    (read_there c.get_list.result c.args.size (tree_of c.get_pointer_element.result) (element_pointer x 0 63) y (levels_of c.get_pointer_element.result) (element_levels x 63) c.get_list.ensures.read
    (c.get_pointer_element.ensures.tree ∙ ap (element_pointer x 0) c.requires.levels) (c.get_pointer_element.ensures.levels ∙ ap (element_levels x) c.requires.levels)
    (as_inner c.args.size (element_pointer x 0 63) (element_levels x 63) (inner_left x) c.requires.listed))
