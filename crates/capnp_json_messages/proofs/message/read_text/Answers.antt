-- The root is a new struct, into which the members of the text's object are read.
use Rattle.std.proofs.Common.{◌∙◌}
use Rattle.std.specs.Option.{option_map}
use Rattle.capnp_arena.specs.Built.{built_at}
use Rattle.capnp_arena.specs.Message.{message_tree}
use Rattle.capnp_schema.specs.StructHandles.{number_of}
use Rattle.capnp_from_json.proofs.Refusals.{error_same}
use Rattle.capnp_from_json.specs.Records.{root_of_json}
use Rattle.capnp_json_text.specs.Values.{json_at}
use Rattle.capnp_json_messages.specs.Messages.{text_record}
use Rattle.capnp_json_messages.proofs.NewLists.{new_room}
use Rattle.capnp_json_messages.proofs.RootReads.{root_read, root_refused, text_is}
use Rattle.capnp_json_messages.proofs.message.read_text.Goals as goal

pub returns-in-Err-clause-refused : goal.returns-in-Err-clause-refused
returns-in-Err-clause-refused c = λ rules are.
    error_same (text_record c.args.schema c.args.text.now rules) (root_of_json rules (number_of c.args.schema) (json_at c.args.reading.whole c.skip_blanks.result.now)) c.in-Err.error
    (text_is c.values_stand_in_steps.ensures c.args.schema c.args.text.now rules c.args.reading.whole c.skip_blanks.result.now c.requires.is_text c.requires.whole c.skip_blanks.ensures)
    (c.in-Err.ensures.refused rules (number_of c.args.schema))

pub read_members-requires-clause-room : goal.read_members-requires-clause-room
read_members-requires-clause-room c = new_room c.args.schema (built_at c.start_root.new.message c.in-Ok-start_root.root) c.in-Ok-start_root.ensures.started.here

pub returns-in-Err-read_members-clause-refused : goal.returns-in-Err-read_members-clause-refused
returns-in-Err-read_members-clause-refused c =
    root_refused c.args.schema c.args.reading.strict c.args.text.now c.args.reading (option_map (λ x. x.now) c.in-Ok.first) (built_at c.start_root.new.message c.in-Ok-start_root.root) c.in-Ok-start_root.ensures.started.here
    (λ rules. text_is c.values_stand_in_steps.ensures c.args.schema c.args.text.now rules c.args.reading.whole c.skip_blanks.result.now c.requires.is_text c.requires.whole c.skip_blanks.ensures ∙ c.in-Ok.ensures.read rules (number_of c.args.schema))
    c.in-Err-read_members.error c.in-Err-read_members.ensures.refused

pub returns-clause-read : goal.returns-clause-read
returns-clause-read c =
    root_read c.args.schema c.args.reading.strict c.args.text.now c.args.reading (option_map (λ x. x.now) c.in-Ok.first) (built_at c.start_root.new.message c.in-Ok-start_root.root) c.in-Ok-start_root.ensures.started.here
    (λ rules. text_is c.values_stand_in_steps.ensures c.args.schema c.args.text.now rules c.args.reading.whole c.skip_blanks.result.now c.requires.is_text c.requires.whole c.skip_blanks.ensures ∙ c.in-Ok.ensures.read rules (number_of c.args.schema))
    (built_at c.read_members.new.arena c.in-Ok-start_root.root) (message_tree c.read_members.new.arena)
    (c.in-Ok-start_root.ensures.started.tree_is c.read_members.new.arena c.in-Ok-read_members.ensures.frame) c.tree_is_sound.ensures.formed c.in-Ok-read_members.ensures.read
