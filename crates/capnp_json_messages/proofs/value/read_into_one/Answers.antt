-- The list has one new element, into which the text's value is read.
use Rattle.capnp_arena.specs.Message.{message_tree}
use Rattle.capnp_json_messages.specs.Rows.{row_set, row_type}
use Rattle.capnp_json_messages.proofs.OneReads.{element_is, new_has_one, one_read, one_refused}
use Rattle.capnp_json_messages.proofs.value.read_into_one.Goals as goal

pub read_element-requires-clause-there : goal.read_element-requires-clause-there
read_element-requires-clause-there c = new_has_one (row_set c.args.row) (row_type c.args.row) (message_tree c.in-Ok.made) c.in-Ok.ensures.made

pub returns-in-Err-read_element-clause-refused : goal.returns-in-Err-read_element-clause-refused
returns-in-Err-read_element-clause-refused c =
    one_refused c.args.row c.args.reading.strict c.args.text.now c.args.reading c.skip_blanks.result.now
    (λ rules. element_is c.values_stand_in_steps.ensures c.args.row c.args.text.now rules c.args.reading c.skip_blanks.result.now c.requires.is_text c.requires.whole c.skip_blanks.ensures)
    c.in-Err-read_element.error c.in-Err-read_element.ensures.refused

pub returns-clause-one : goal.returns-clause-one
returns-clause-one c =
    one_read c.args.row c.args.reading.strict c.args.text.now c.args.reading c.skip_blanks.result.now
    (λ rules. element_is c.values_stand_in_steps.ensures c.args.row c.args.text.now rules c.args.reading c.skip_blanks.result.now c.requires.is_text c.requires.whole c.skip_blanks.ensures)
    (message_tree c.in-Ok.made) (message_tree c.read_element.new.arena) c.in-Ok.ensures.made c.tree_is_sound.ensures.formed c.in-Ok-read_element.ensures.read
