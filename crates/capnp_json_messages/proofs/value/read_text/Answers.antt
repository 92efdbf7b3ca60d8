-- The root is a new struct, into a field of which the text's value is read.
use Rattle.std.proofs.Common.{ap, ◌∙◌}
use Rattle.capnp_arena.specs.Built.{built_at}
use Rattle.capnp_arena.specs.Message.{message_tree}
use Rattle.capnp_schema.specs.FieldLists.{field_schema}
use Rattle.capnp_json_messages.specs.Started.{new_struct}
use Rattle.capnp_json_messages.proofs.HolderReads.{holder_read, holder_refused, value_is}
use Rattle.capnp_json_messages.proofs.NewLists.{new_room}
use Rattle.capnp_json_messages.proofs.value.read_text.Goals as goal

pub read_field-requires-clause-room : goal.read_field-requires-clause-room
read_field-requires-clause-room c =
    new_room (field_schema c.args.field) (built_at c.start_root.new.message c.in-Ok-start_root.root)
    (c.in-Ok-start_root.ensures.started.here ∙ ap new_struct c.get_containing_struct.ensures.is)

pub returns-in-Err-read_field-clause-refused : goal.returns-in-Err-read_field-clause-refused
returns-in-Err-read_field-clause-refused c =
    holder_refused c.args.field c.args.reading.strict c.args.text.now c.args.reading c.skip_blanks.result.now
    (λ rules. value_is c.values_stand_in_steps.ensures c.args.field c.args.text.now rules c.args.reading c.skip_blanks.result.now c.requires.is_text c.requires.whole c.skip_blanks.ensures)
    c.in-Err-read_field.error c.in-Err-read_field.ensures.refused

pub returns-clause-holds : goal.returns-clause-holds
returns-clause-holds c =
    holder_read c.args.field c.args.reading.strict c.args.text.now c.args.reading c.skip_blanks.result.now
    (λ rules. value_is c.values_stand_in_steps.ensures c.args.field c.args.text.now rules c.args.reading c.skip_blanks.result.now c.requires.is_text c.requires.whole c.skip_blanks.ensures)
    (built_at c.start_root.new.message c.in-Ok-start_root.root) (built_at c.read_field.new.arena c.in-Ok-start_root.root) (message_tree c.read_field.new.arena)
    (c.in-Ok-start_root.ensures.started.here ∙ ap new_struct c.get_containing_struct.ensures.is)
    (c.in-Ok-start_root.ensures.started.tree_is c.read_field.new.arena c.in-Ok-read_field.ensures.frame) c.tree_is_sound.ensures.formed c.in-Ok-read_field.ensures.read
